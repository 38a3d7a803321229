-- Counting the records of an hour, one place after another.
use Rattle.std.proofs.Common.{◌≡◌, ℕ, ◌+◌, ◌<◌, List, [], ◌∷◌, ◌++◌, length, get_or, take, drop, pos, ◌*ℤ◌, nat_abs, Some, None, Option, sym, refl, ap, ◌∙◌, mul-le-mul, arith}
use Rattle.std.specs.List.{flat_map}
use Rattle.std.specs.Option.{option_to_list}
use Rattle.std.proofs.lemmas.List.{length_push}
use Rattle.std.proofs.lemmas.List.Sums.{sum_by_push}
use Rattle.arithmetic.proofs.Sizes.{abs_sum, abs_product}
use Rattle.arithmetic.proofs.Sums.{sum_ℤ-push, sum_ℤ_none, standing_empty, standing_push, standing_split}
use Rattle.settlement.specs.declared.figures.Interval.{Interval}
use Rattle.settlement.specs.declared.figures.Tally.{Tally}
use Rattle.settlement.specs.declared.limits.Refusal.{Refusal}
use Rattle.settlement.specs.Rulings.{first}
use Rattle.settlement.specs.Limits.{interval_refusal, each_refusal}
use Rattle.settlement.proofs.Ranges.{sound}
use Rattle.settlement.proofs.Rulings.{first_none, first_assoc}
use Rattle.settlement.specs.Standing.{tally_of, with_interval}
use Rattle.settlement.specs.Bounds.{TallyWithin}

-- The tally of one interval more.
tally_push : (is : List Interval) (i : Interval) → with_interval (tally_of is) i ≡ tally_of (is ++ i ∷ [])
tally_push is i =
    let n = sym (length_push is i) in
    let s = sym (sum_by_push (λ (i : Interval). i.seconds) is i) in
    let v = sym (sum_ℤ-push (λ (i : Interval). i.average *ℤ pos i.seconds) is i) in
    λ k. record { intervals = n k; seconds = s k; volume = v k }

pub refusal_append : (is js : List Interval) → each_refusal (is ++ js) ≡ first (each_refusal is) (each_refusal js)
unfolding each_refusal
refusal_append [] js = refl
refusal_append (i ∷ is) js =
    ap (first (interval_refusal i)) (refusal_append is js) ∙ first_assoc (interval_refusal i) (each_refusal is) (each_refusal js)

-- The first k places are counted, and break no limit.
pub record Counted (xs : List (Option Interval)) (k : ℕ) (t : Tally) : Type 0 where
  pub is : t ≡ tally_of (flat_map option_to_list (take k xs))
  pub passed : each_refusal (flat_map option_to_list (take k xs)) ≡ None
  pub room : TallyWithin k t

pub counted_none : (xs : List (Option Interval)) (t : Tally) → (t.intervals ≡ 0) × ((t.seconds ≡ 0) × (t.volume ≡ pos 0)) → Counted xs 0 t
unfolding each_refusal
counted_none xs t zero =
    let volume = zero.1.1 ∙ sym (sum_ℤ_none (λ (i : Interval). i.average *ℤ pos i.seconds)) in
    record {
      is = λ k. record { intervals = zero.0 k; seconds = zero.1.0 k; volume = volume k };
      passed = refl;
      room = record { few = omega (arith, zero.0); short = omega (arith, zero.1.0); small = omega (arith, ap nat_abs zero.1.1) };
    }

pub counted_empty : (xs : List (Option Interval)) (k : ℕ) (t : Tally) → k < length xs → get_or xs k None ≡ None → Counted xs k t → Counted xs (k + 1) t
counted_empty xs k t l e c =
    let more = standing_empty xs k l e in
    record {
      is = c.is ∙ ap tally_of (sym more);
      passed = ap each_refusal more ∙ c.passed;
      room = record { few = omega (arith, c.room.few); short = omega (arith, c.room.short); small = omega (arith, c.room.small) };
    }

pub counted_more : (xs : List (Option Interval)) (k : ℕ) (t t' : Tally) (i : Interval) → k < length xs → get_or xs k None ≡ Some i
    → interval_refusal i ≡ None → Counted xs k t → t' ≡ with_interval t i → Counted xs (k + 1) t'
unfolding each_refusal
counted_more xs k t t' i l e ok c q =
    let s = sound i ok in
    let is = flat_map option_to_list (take k xs) in
    let more = standing_push xs k i l e in
    let one : each_refusal (i ∷ []) ≡ None = first_none (interval_refusal i) None ok in
    record {
      is = q ∙ ap (λ t. with_interval t i) c.is ∙ tally_push is i ∙ ap tally_of (sym more);
      passed = ap each_refusal more ∙ refusal_append is (i ∷ []) ∙ first_none (each_refusal is) (each_refusal (i ∷ [])) c.passed ∙ one;
      room =
          record {
            few = omega (arith, ap (λ (t : Tally). t.intervals) q, c.room.few);
            short = omega (arith, ap (λ (t : Tally). t.seconds) q, c.room.short, s.most);
            small = omega (arith, ap (λ (t : Tally). nat_abs t.volume) q, c.room.small, abs_sum t.volume (i.average *ℤ pos i.seconds), abs_product i.average (pos i.seconds), mul-le-mul s.average.size s.most);
          };
    }

-- A place that breaks a limit after others that break none is the first that does.
pub counted_refused : (xs : List (Option Interval)) (k : ℕ) (t : Tally) (i : Interval) (r : Refusal) → k < length xs → get_or xs k None ≡ Some i
    → interval_refusal i ≡ Some r → Counted xs k t → each_refusal (flat_map option_to_list xs) ≡ Some r
unfolding each_refusal
counted_refused xs k t i r l e bad c =
    let is = flat_map option_to_list (take k xs) in
    let js = flat_map option_to_list (drop (k + 1) xs) in
    let front = refusal_append is (i ∷ []) ∙ first_none (each_refusal is) (each_refusal (i ∷ [])) c.passed ∙ ap (λ o. first o None) bad in
    ap each_refusal (standing_split xs k i l e) ∙ refusal_append (is ++ i ∷ []) js ∙ ap (λ o. first o (each_refusal js)) front
