-- A day that is opened over an empty store keeps the book of no change.
use Rattle.std.proofs.Common.{◌≡◌, ℕ, ◌<◌, ◌≤◌, cond, ltb, [], length, get_or, is_some, Some, None, count_by, Option, sym, refl, ap, ◌∙◌, ⊎_elim, arith}
use mathlib.Core.Path.{fun_ext}
use Rattle.std.specs.List.{range_with_len}
use Rattle.std.proofs.lemmas.List.FromFn.{length-range_with_len, get_or-range_with_len}
use Rattle.std.proofs.lemmas.List.Sums.{get_or-le-sum_by}
use Rattle.std.proofs.lemmas.Bool.{cases_Bool, and_parts, ltb-true, le-leb}
use Rattle.settlement.specs.declared.editions.Sign.{Sign}
use Rattle.settlement.specs.declared.editions.Sign.TheVariants.{Plus, Minus}
use Rattle.settlement.specs.declared.figures.Interval.{Interval}
use Rattle.settlement.specs.declared.figures.Region.{Region}
use Rattle.settlement.specs.Editions.{Terms, Lawful}
use Rattle.settlement.specs.Formulas.{line_of, no_sums}
use Rattle.settlement.proofs.Rulings.{none}
use Rattle.record_store.specs.Meaning.{Meaning, hour_records, in_range, Lawful as LawfulStore}
use Rattle.book.specs.declared.figures.Table.{Table}
use Rattle.book.specs.Lines.{row_of, rows_of, table_of, no_row}
use Rattle.book.specs.Book.{standing_by}
use Rattle.book.specs.Gate.{count, region_of, region_refusal, opening, Opened}
use Rattle.book.proofs.Keeps.{record_is, hour_long}
use Rattle.book.proofs.Laws.{kept_by}

-- Where nothing is counted nothing stands.
one_none : (o : Option Interval) (n : ℕ) → cond (is_some o) 1 0 ≤ n → n ≡ 0 → o ≡ None
one_none None n l e = refl
one_none (Some i) n l e = absurd (omega arith)

hour_empty : (f : ℕ → Option Interval) (s : ℕ) → s < 24 → count_by is_some (hour_records f) ≡ 0 → f s ≡ None
hour_empty f s l e =
    let inside : s < length (hour_records f) = omega (arith, hour_long f) in
    sym (record_is f s l) ∙ one_none (get_or (hour_records f) s None) _ (get_or-le-sum_by (λ (o : Option Interval). cond (is_some o) 1 0) (hour_records f) s None inside) e

empty_inside : (f : ℕ → ℕ → Option Interval) (h s : ℕ) → h < 25 → s < 24 → count f ≡ 0 → f h s ≡ None
unfolding count
empty_inside f h s l m e =
    let n = λ (k : ℕ). count_by is_some (hour_records (f k)) in
    let inside : h < length (range_with_len 0 25) = omega (arith, length-range_with_len 0 25) in
    let part = get_or-le-sum_by n (range_with_len 0 25) h 0 inside in
    let at : n (get_or (range_with_len 0 25) h 0) ≡ n h = ap n (get_or-range_with_len 0 25 h 0 l ∙ omega arith) in
    hour_empty (f h) s m (omega (arith, part, at, e))

empty : (m : Meaning) → LawfulStore m → count m.standing ≡ 0 → (h s : ℕ) → m.standing h s ≡ None
empty m lawful e h s =
    ⊎_elim
    (λ inside. let p = and_parts (ltb h 25) (ltb s 24) inside in empty_inside m.standing h s (ltb-true h 25 p.0) (ltb-true s 24 p.1) e)
    (λ outside. lawful.beyond h s outside)
    (cases_Bool (in_range h s))

-- The row of an hour for which nothing stands.
blank_is : (e : Terms) (r : Region) (h : ℕ) → no_row ≡ row_of e r (standing_by [] h)
unfolding hour_records
blank_is e r h = by_sign e.sign
  where
    by_sign : (s : Sign) → no_row ≡ record { schedule = None; reading = None; line = line_of s (standing_by [] h) no_sums }
    by_sign Plus = refl
    by_sign Minus = refl

pub opens : (e : Terms) (hours region : ℕ) (m : Meaning) (t : Table) → Lawful e → LawfulStore m → 23 ≤ hours → hours ≤ 25 → region_refusal region ≡ None → count m.standing ≡ 0
    → t ≡ table_of hours (region_of region) (rows_of (λ _. no_row)) → Opened e hours region m [] [] (record { terms = e; table = t; store = m })
opens e hours region m t lawful stored low high named none made =
    let rows = fun_ext (λ h. blank_is e (region_of region) h) in
    let records = fun_ext (λ h. fun_ext (λ s. empty m stored none h s)) in
    let table = made ∙ ap (λ f. table_of hours (region_of region) (rows_of f)) rows in
    record {
      accepted = rw (le-leb 23 hours low, le-leb hours 25 high, named, none) refl;
      gate =
          record {
            answers = refl;
            kept =
                kept_by (opening e hours region m) _ lawful
                (λ i. record { terms = e; table = table i; store = record { standing = records i; spent = m.spent; capacity = m.capacity; charge = m.charge } });
          };
    }
