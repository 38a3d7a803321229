-- What holds of every row still holds where one is rewritten by another of which it holds.
use Rattle.std.proofs.Common.{◌≡◌, ℕ, ◌<◌, false, List, length, get_or, set, is_some, sym, ap, ◌∙◌, subst, ⊎_elim}
use Rattle.std.proofs.lemmas.List.{get_or-set_same, get_or-set_other}
use Rattle.std.proofs.lemmas.Bool.{cases_eq}
use Rattle.settlement.specs.declared.figures.Standing.{Standing}
use Rattle.settlement.specs.Limits.{hour_refusal, schedule_refusal, reading_refusal}
use Rattle.settlement.specs.Rulings.{first, optional}
use Rattle.settlement.proofs.Within.{within}
use Rattle.book.specs.declared.figures.Row.{Row}
use Rattle.book.specs.Lines.{no_row, row_refusal}

pub each_row : (P : Row → Type 0) (rows : List Row) (k : ℕ) (r : Row) → k < length rows → P r → ((h : ℕ) → P (get_or rows h no_row)) → (h : ℕ) → P (get_or (set rows k r) h no_row)
each_row P rows k r l new old h =
    ⊎_elim
    (λ same. subst P (sym (ap (λ n. get_or (set rows k r) n no_row) same ∙ get_or-set_same rows k r no_row l)) new)
    (λ other. subst P (sym (get_or-set_other rows k h r no_row other)) (old h))
    (cases_eq h k)

-- The row of an hour within its limits is within them.
pub row_within : (h : Standing) (r : Row) → is_some (hour_refusal h) ≡ false → r.schedule ≡ h.schedule → r.reading ≡ h.reading → is_some (row_refusal r) ≡ false
row_within h r e s m =
    let w = within h e in
    ap (λ o. is_some (first o (optional reading_refusal r.reading))) (ap (optional schedule_refusal) s ∙ w.schedule)
    ∙ ap is_some (ap (optional reading_refusal) m ∙ w.reading)
