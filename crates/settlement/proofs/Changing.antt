-- An hour that breaks no limit still breaks none where one of its figures is changed for another within its limits; and
-- what is counted in it changes by that figure alone.
use Rattle.std.proofs.Common.{◌≡◌, ℕ, suc, ◌+◌, ◌<◌, ◌≤◌, false, List, [], ◌∷◌, ◌++◌, length, get_or, take, drop, set, ℤ, pos, ◌+ℤ◌, ◌*ℤ◌, nat_abs, is_some, Some, None, sum_by, Option, sym, refl, ap, ◌∙◌, subst, mul-le-mul, arith}
use borrow.Author.Differences.{ints}
use Rattle.std.specs.List.{flat_map, All, Contains}
use Rattle.std.specs.Option.{option_to_list}
use Rattle.std.proofs.lemmas.List.Elements.{All-nil, All-cons, All-head, All-tail, All-append, All-weaker}
use Rattle.std.proofs.lemmas.List.{length-append, set-get_or}
use Rattle.std.proofs.lemmas.List.Sums.{sum_by-append, sum_by-cons, sum_by-le, get_or-le-sum_by}
use Rattle.std.proofs.lemmas.Bool.{le-leb}
use Rattle.arithmetic.specs.Sums.{sum_ℤ}
use Rattle.arithmetic.proofs.Sizes.{abs_product}
use Rattle.arithmetic.proofs.Sums.{sum_ℤ-append, sum_ℤ-le, standing_set, standing_length}
use Rattle.settlement.specs.declared.figures.Interval.{Interval}
use Rattle.settlement.specs.declared.figures.Schedule.{Schedule}
use Rattle.settlement.specs.declared.figures.Standing.{Standing}
use Rattle.settlement.specs.declared.figures.Tally.{Tally}
use Rattle.settlement.specs.Rulings.{optional}
use Rattle.settlement.specs.Limits.{interval_refusal, schedule_refusal, each_refusal, hour_refusal}
use Rattle.settlement.specs.Changes.{with_record, with_row, others}
use Rattle.settlement.specs.Standing.{intervals, seconds, tally_of, with_interval}
use Rattle.settlement.specs.Bounds.{TallyWithin}
use Rattle.settlement.proofs.Rulings.{first_none}
use Rattle.settlement.proofs.Ranges.{sound}
use Rattle.settlement.proofs.Within.{Fair, Within, within}

-- Figures each within its limits are an hour within its limits.
fair_all : (is : List Interval) → All Fair is → each_refusal is ≡ None
unfolding each_refusal
fair_all [] h = refl
fair_all (i ∷ is) h = first_none (interval_refusal i) (each_refusal is) (All-head Fair i is h) ∙ fair_all is (All-tail Fair i is h)

pub hour_within : (h : Standing) → Within h → is_some (hour_refusal h) ≡ false
hour_within h w = rw (fair_all (intervals h) w.fair, le-leb (seconds h) 3600 w.short, w.schedule, w.reading)

pub row_within : (h : Standing) (row : Schedule) → is_some (hour_refusal h) ≡ false → schedule_refusal row ≡ None → is_some (hour_refusal (with_row h row)) ≡ false
row_within h row e ok =
    let w = within h e in
    hour_within (with_row h row) (record { fair = w.fair; short = w.short; schedule = ok; reading = w.reading })

-- ---- one record
fair_one_of : (o : Option Interval) → optional interval_refusal o ≡ None → All Fair (option_to_list o)
fair_one_of None e = All-nil Fair
fair_one_of (Some i) e = All-cons Fair i [] e (All-nil Fair)

-- The records around a slot are within their limits, and so are they with another in it.
pub fair_around : (xs : List (Option Interval)) (k : ℕ) (o : Option Interval) → k < length xs → All Fair (flat_map option_to_list xs) → optional interval_refusal o ≡ None → All Fair (flat_map option_to_list (set xs k o))
fair_around xs k o l h e =
    let whole = ap (flat_map option_to_list) (sym (set-get_or xs k None)) ∙ standing_set xs k (get_or xs k None) l in
    let parts = all_split (flat_map option_to_list (take k xs)) _ (subst (All Fair) whole h) in
    let rest = all_split (option_to_list (get_or xs k None)) (flat_map option_to_list (drop (suc k) xs)) parts.1 in
    subst (All Fair) (sym (standing_set xs k o l)) (All-append Fair (flat_map option_to_list (take k xs)) _ parts.0 (All-append Fair (option_to_list o) (flat_map option_to_list (drop (suc k) xs)) (fair_one_of o e) rest.1))
  where
    all_split : (is js : List Interval) → All Fair (is ++ js) → All Fair is × All Fair js
    all_split [] js h = (All-nil Fair, h)
    all_split (i ∷ is) js h = let p = all_split is js (All-tail Fair i (is ++ js) h) in (All-cons Fair i is (All-head Fair i (is ++ js) h) p.0, p.1)

pub record_within : (h : Standing) (k : ℕ) (o : Option Interval) → k < length h.records → is_some (hour_refusal h) ≡ false → optional interval_refusal o ≡ None
    → seconds (with_record h k o) ≤ 3600 → is_some (hour_refusal (with_record h k o)) ≡ false
record_within h k o l e ok short =
    let w = within h e in
    hour_within (with_record h k o) (record { fair = fair_around h.records k o l w.fair ok; short = short; schedule = w.schedule; reading = w.reading })

abbrev energy : Interval → ℤ
energy i = i.average *ℤ pos i.seconds

-- Tallies that are the same with one interval more are the same without it.
same_without : (t u : Tally) (i : Interval) → with_interval t i ≡ with_interval u i → t ≡ u
same_without t u i e =
    let n : t.intervals ≡ u.intervals = omega (arith, ap (λ (t : Tally). t.intervals) e) in
    let s : t.seconds ≡ u.seconds = omega (arith, ap (λ (t : Tally). t.seconds) e) in
    let v = without t.volume u.volume (energy i) (ap (λ (t : Tally). t.volume) e) in
    λ k. record { intervals = n k; seconds = s k; volume = v k }
  where
    without : (a b x : ℤ) → a +ℤ x ≡ b +ℤ x → a ≡ b
    without a b x e = omega (arith, ints)

-- The tally of intervals around a place, with one in it, from that without it.
module _ (is js : List Interval) (i : Interval) where
  long : length (is ++ i ∷ js) ≡ length (is ++ js) + 1
  long = omega (arith, length-append is (i ∷ js), length-append is js)

  lasting : sum_by (λ i. i.seconds) (is ++ i ∷ js) ≡ sum_by (λ i. i.seconds) (is ++ js) + i.seconds
  lasting = omega (arith, sum_by-append (λ (i : Interval). i.seconds) is (i ∷ js), sum_by-append (λ (i : Interval). i.seconds) is js, sum_by-cons (λ (i : Interval). i.seconds) i js)

  holding : sum_ℤ energy (is ++ i ∷ js) ≡ sum_ℤ energy (is ++ js) +ℤ energy i
  unfolding sum_ℤ
  holding = sum_ℤ-append energy is (i ∷ js) ∙ around (sum_ℤ energy is) (sum_ℤ energy js) (energy i) ∙ ap (λ z. z +ℤ energy i) (sym (sum_ℤ-append energy is js))
    where
      around : (a b x : ℤ) → a +ℤ (x +ℤ b) ≡ a +ℤ b +ℤ x
      around a b x = omega (arith, ints)

  tally_around : with_interval (tally_of (is ++ js)) i ≡ tally_of (is ++ i ∷ js)
  tally_around = λ k. record { intervals = sym long k; seconds = sym lasting k; volume = sym holding k }

-- The same of the records of an hour.
module _ (xs : List (Option Interval)) (k : ℕ) (l : k < length xs) where
  pub slot_filled : (i : Interval) (t u : Tally) → t ≡ tally_of (flat_map option_to_list (set xs k None)) → u ≡ with_interval t i → u ≡ tally_of (flat_map option_to_list (set xs k (Some i)))
  slot_filled i t u e a =
      a ∙ ap (λ t. with_interval t i) (e ∙ ap tally_of (standing_set xs k None l)) ∙ tally_around (flat_map option_to_list (take k xs)) (flat_map option_to_list (drop (suc k) xs)) i ∙ ap tally_of (sym (standing_set xs k (Some i) l))

  pub slot_cleared : (i : Interval) (t u : Tally) → get_or xs k None ≡ Some i → t ≡ tally_of (flat_map option_to_list xs) → t ≡ with_interval u i → u ≡ tally_of (flat_map option_to_list (set xs k None))
  slot_cleared i t u at e a =
      let whole = ap (flat_map option_to_list) (sym (set-get_or xs k None) ∙ ap (set xs k) at) ∙ standing_set xs k (Some i) l in
      let around = tally_around (flat_map option_to_list (take k xs)) (flat_map option_to_list (drop (suc k) xs)) i in
      same_without u _ i (sym a ∙ e ∙ ap tally_of whole ∙ sym around) ∙ ap tally_of (sym (standing_set xs k None l))

-- The tally of an hour's records is small.
pub tally_small : (xs : List (Option Interval)) (t : Tally) → length xs ≡ 24 → All Fair (flat_map option_to_list xs) → t ≡ tally_of (flat_map option_to_list xs) → TallyWithin 24 t
tally_small xs t n h e =
    let is = flat_map option_to_list xs in
    let few = standing_length xs in
    let short = sum_by-le (λ (i : Interval). i.seconds) 3600 is (All-weaker Fair (λ i. i.seconds ≤ 3600) (λ i f. (sound i f).most) is h) in
    let sizes = All-weaker Fair (λ i. nat_abs (energy i) ≤ 7200000000) (λ i f. let s = sound i f in omega (arith, abs_product i.average (pos i.seconds), mul-le-mul s.average.size s.most)) is h in
    let volume = sum_ℤ-le energy 7200000000 is sizes in
    record {
      few = omega (arith, ap (λ (t : Tally). t.intervals) e, few, n);
      short = omega (arith, ap (λ (t : Tally). t.seconds) e, short, few, n);
      small = omega (arith, ap (λ (t : Tally). nat_abs t.volume) e, volume, few, n);
    }

-- No interval is longer than all those of its hour.
pub seconds_part : (h : Standing) (i : Interval) → Contains (intervals h) i → i.seconds ≤ seconds h
seconds_part h i one =
    let part = get_or-le-sum_by (λ (i : Interval). i.seconds) (intervals h) one.0 i one.1 in
    omega (arith, ap (λ (j : Interval). j.seconds) one.2, part)

-- The other slots of an hour hold no more seconds than all of them.
pub others_short : (h : Standing) (k : ℕ) → k < length h.records → is_some (hour_refusal h) ≡ false → others h k ≤ 3600
others_short h k l e =
    let before = flat_map option_to_list (take k h.records) in
    let after = flat_map option_to_list (drop (suc k) h.records) in
    let now = get_or h.records k None in
    let whole = ap (flat_map option_to_list) (sym (set-get_or h.records k None)) ∙ standing_set h.records k now l in
    let f = λ (i : Interval). i.seconds in
    let all = ap (sum_by f) whole ∙ sum_by-append f before (option_to_list now ++ after) in
    let rest = sum_by-append f (option_to_list now) after in
    let others_is = ap (sum_by f) (standing_set h.records k None l) ∙ sum_by-append f before after in
    omega (arith, all, rest, others_is, (within h e).short)
