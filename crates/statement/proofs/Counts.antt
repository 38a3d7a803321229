-- Something stands exactly where what is counted is not 0.
use Rattle.std.proofs.Common.{◌≡◌, ℕ, zero, suc, ◌+◌, ◌<◌, ◌≤◌, Bool, true, false, cond, not, ◌||◌, eqb, List, [], ◌∷◌, length, get_or, is_some, count_by, Option, sym, refl, ap, ◌∙◌, arith}
use Rattle.std.specs.List.{list_any, range_with_len}
use Rattle.std.proofs.lemmas.List.FromFn.{length-range_with_len, get_or-range_with_len}
use Rattle.std.proofs.lemmas.List.Sums.{sum_by-cons, get_or-le-sum_by}
use Rattle.std.proofs.lemmas.Bool.Decides.{nat_tests}
use Rattle.settlement.specs.declared.figures.Interval.{Interval}
use Rattle.record_store.specs.Meaning.{hour_records}
use Rattle.book.specs.Gate.{count}

either : (a b : Bool) (m n : ℕ) → a ≡ not (eqb m 0) → b ≡ not (eqb n 0) → (a || b) ≡ not (eqb (m + n) 0)
either a b zero zero e f = rw (e, f) refl
either a b (suc m) n e f = rw (e, f) (grind (arith, nat_tests))
either a b zero (suc n) e f = rw (e, f) (grind (arith, nat_tests))

one : (b : Bool) → b ≡ not (eqb (cond b 1 0) 0)
one true = refl
one false = refl

-- Of the records of an hour.
pub hour_occupied : (records : List (Option Interval)) → list_any is_some records ≡ not (eqb (count_by is_some records) 0)
hour_occupied [] = refl
hour_occupied (o ∷ os) =
    either (is_some o) (list_any is_some os) (cond (is_some o) 1 0) (count_by is_some os) (one (is_some o)) (hour_occupied os)
    ∙ ap (λ n. not (eqb n 0)) (sym (sum_by-cons (λ (o : Option Interval). cond (is_some o) 1 0) o os))

-- Those of an hour are among those of all hours.
pub hour_counted : (standing : ℕ → ℕ → Option Interval) (h : ℕ) → h < 25 → count_by is_some (hour_records (standing h)) ≤ count standing
unfolding count
hour_counted standing h l =
    let n = λ (k : ℕ). count_by is_some (hour_records (standing k)) in
    let inside : h < length (range_with_len 0 25) = omega (arith, length-range_with_len 0 25) in
    let at : n (get_or (range_with_len 0 25) h 0) ≡ n h = ap n (get_or-range_with_len 0 25 h 0 l ∙ omega arith) in
    omega (arith, get_or-le-sum_by n (range_with_len 0 25) h 0 inside, at)
