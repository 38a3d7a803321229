-- The table of a day for which nothing stands.
use Rattle.std.proofs.Common.{◌≡◌, ℕ, ◌≤◌, true, false, List, length, get_or, replicate, is_some, None, sym, refl, ap, ◌∙◌, subst, ⊎_elim, arith, lit≤}
use Rattle.std.proofs.lemmas.List.{get_or_past}
use Rattle.std.proofs.lemmas.Bool.{cases_lt}
use Rattle.settlement.specs.declared.figures.Region.{Region}
use Rattle.settlement.specs.declared.figures.Region.TheVariants.{East, West}
use Rattle.settlement.specs.Regions.{region_number}
use Rattle.book.specs.declared.figures.DayLine.{DayLine}
use Rattle.book.specs.declared.figures.Row.{Row}
use Rattle.book.specs.declared.figures.Table.{Table}
use Rattle.book.specs.Gate.{region_of, region_refusal}
use Rattle.book.specs.Lines.{day_of, rows_of, table_of, no_row, row_at, row_refusal}
use Rattle.book.proofs.Keeps.{row_is}
use Rattle.statement.specs.Days.{is_day_part}
use Rattle.statement.proofs.Summing.{Tame}

pub blank_rows : (r : Row) → r ≡ no_row → replicate 25 r ≡ rows_of (λ _. no_row)
unfolding rows_of
blank_rows r e = ap (replicate 25) e

long : length (rows_of (λ _. no_row)) ≡ 25
unfolding rows_of
long = refl

blank_at : (h : ℕ) → get_or (rows_of (λ _. no_row)) h no_row ≡ no_row
blank_at h =
    ⊎_elim
    (λ inside. row_is (λ _. no_row) h inside)
    (λ past. get_or_past (rows_of (λ _. no_row)) h no_row (omega (arith, long)))
    (cases_lt h 25)

pub blank_tame : (rows : List Row) → rows ≡ rows_of (λ _. no_row) → (h : ℕ) → Tame (get_or rows h no_row)
blank_tame rows e h = subst Tame (sym (ap (λ rs. get_or rs h no_row) e ∙ blank_at h)) refl

pub blank_made : (hours : ℕ) (region : Region) (rows : List Row) (d : DayLine) → rows ≡ rows_of (λ _. no_row) → d ≡ day_of rows
    → record { hours = hours; region = region; rows = rows; day = d } ≡ table_of hours region (rows_of (λ _. no_row))
blank_made hours region rows d e sum =
    ap (λ (d : DayLine). record { hours = hours; region = region; rows = rows; day = d }) sum ∙ ap (table_of hours region) e

-- What holds of every statement holds of a blank one.
pub record Blank (t : Table) (hours : ℕ) : Type 0 where
  pub fit : t.hours ≡ hours
  pub rows : length t.rows ≡ 25
  pub within : (h : ℕ) → is_some (row_refusal (row_at t h)) ≡ false
  pub short : (h : ℕ) → (row_at t h).line.seconds ≤ 3600
  pub small : (h : ℕ) → is_day_part (row_at t h).line ≡ true
  pub added : t ≡ table_of t.hours t.region t.rows

pub blank_facts : (t : Table) (hours : ℕ) (region : Region) → t ≡ table_of hours region (rows_of (λ _. no_row)) → Blank t hours
blank_facts t hours region e =
    let at : (h : ℕ) → row_at t h ≡ no_row = λ h. ap (λ (t : Table). row_at t h) e ∙ blank_at h in
    record {
      fit = ap (λ (t : Table). t.hours) e;
      rows = ap (λ (t : Table). length t.rows) e ∙ long;
      within = λ h. subst (λ (r : Row). is_some (row_refusal r) ≡ false) (sym (at h)) refl;
      short = λ h. subst (λ (r : Row). r.line.seconds ≤ 3600) (sym (at h)) (lit≤ tt);
      small = λ h. subst Tame (sym (at h)) refl;
      added = e ∙ sym (ap (λ (t : Table). table_of t.hours t.region t.rows) e);
    }

-- The region of a number is the one that goes by it.
pub region_named : (number : ℕ) (region : Region) → region_number region ≡ number → (region_refusal number ≡ None) × (region_of number ≡ region)
region_named number East e = subst (λ n. (region_refusal n ≡ None) × (region_of n ≡ East)) e (refl, refl)
region_named number West e = subst (λ n. (region_refusal n ≡ None) × (region_of n ≡ West)) e (refl, refl)
