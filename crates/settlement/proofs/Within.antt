-- What is known of the figures of an hour that breaks no limit.
use Rattle.std.proofs.Common.{◌≡◌, ℕ, ◌*◌, ◌≤◌, Bool, true, false, cond, eqb, leb, List, [], ◌∷◌, ℤ, pos, negsuc, ◌*ℤ◌, nat_abs, ◌≤ℤ◌, is_some, Some, None, Option, sym, ap, ◌∙◌, subst, mul-le-mul_left, arith}
use borrow.Author.Differences.{ints}
use Rattle.std.specs.List.{All}
use Rattle.std.proofs.lemmas.List.Elements.{All-nil, All-cons, All-weaker, All-contains}
use Rattle.std.proofs.lemmas.Bool.{leb-true}
use Rattle.std.proofs.Math.Bridge.{le_prop}
use Rattle.std.proofs.Math.Logic.{∥∥₁_elim}
use Rattle.std.proofs.lemmas.Grind.{not_there}
use Rattle.arithmetic.proofs.Sums.{sum_ℤ_positive, sum_ℤ_part}
use Rattle.settlement.specs.declared.figures.Interval.{Interval}
use Rattle.settlement.specs.declared.figures.Schedule.{Schedule}
use Rattle.settlement.specs.declared.figures.Standing.{Standing}
use Rattle.settlement.specs.declared.limits.Refusal.TheVariants.{Overfull}
use Rattle.settlement.specs.Rulings.{optional}
use Rattle.settlement.specs.Limits.{interval_refusal, schedule_refusal, reading_refusal, each_refusal, records_refusal, hour_refusal}
use Rattle.settlement.specs.Standing.{intervals, StandsIn, seconds, volume}
use Rattle.settlement.specs.Formulas.{settled_by}
use Rattle.settlement.proofs.Rulings.{passed, neither, none, not_refused}
use Rattle.settlement.proofs.Ranges.{Power, Sound, sound, metered}

abbrev pub Fair : Interval → Type 0
Fair i = interval_refusal i ≡ None

all_fair : (is : List Interval) → each_refusal is ≡ None → All Fair is
unfolding each_refusal
all_fair [] e = All-nil Fair
all_fair (i ∷ is) e = let p = neither (interval_refusal i) (each_refusal is) e in All-cons Fair i is p.0 (all_fair is p.1)

pub record Within (h : Standing) : Type 0 where
  pub fair : All Fair (intervals h)
  pub short : seconds h ≤ 3600
  pub schedule : optional schedule_refusal h.schedule ≡ None
  pub reading : optional reading_refusal h.reading ≡ None

pub within : (h : Standing) → is_some (hour_refusal h) ≡ false → Within h
within h e =
    let o = neither (records_refusal h) _ (none (hour_refusal h) e) in
    let p = neither (each_refusal (intervals h)) _ o.0 in
    let q = passed (leb (seconds h) 3600) Overfull _ p.1 in
    let r = neither (optional schedule_refusal h.schedule) (optional reading_refusal h.reading) o.1 in
    record { fair = all_fair (intervals h) p.0; short = leb-true (seconds h) 3600 q.0; schedule = r.0; reading = r.1 }

-- The row that settles an hour is its schedule row.
pub settling_row : (h : Standing) (g : Schedule) → Some g ≡ settled_by h → h.schedule ≡ Some g
settling_row h g e = of_two (eqb (seconds h) 3600) h.schedule e
  where
    of_two : (full : Bool) (o : Option Schedule) → Some g ≡ cond full o None → o ≡ Some g
    of_two true o e = sym e
    of_two false o e = let z : ◌≡◌ {A = ℕ} 0 1 = cc in absurd (omega arith)

pub fair_one : (h : Standing) (i : Interval) → Within h → StandsIn h i → interval_refusal i ≡ None
fair_one h i w stands = not_refused (interval_refusal i) (λ refused. not_there stands (λ one. refused (All-contains Fair (intervals h) i w.fair one)))

pub sound_one : (h : Standing) (i : Interval) → Within h → StandsIn h i → Sound i
sound_one h i w one = sound i (fair_one h i w one)

pub row_fair : (h : Standing) (g : Schedule) → Within h → h.schedule ≡ Some g → schedule_refusal g ≡ None
row_fair h g w e = sym (ap (optional schedule_refusal) e) ∙ w.schedule

pub reading_metered : (h : Standing) (m : ℤ) → Within h → h.reading ≡ Some m → Power m
reading_metered h m w e = metered m (sym (ap (optional reading_refusal) e) ∙ w.reading)

-- An interval's average is not negative, so S is not, and exceeds each average at least six times.
product_positive : (a : ℤ) (s : ℕ) → pos 0 ≤ℤ a → pos 0 ≤ℤ (a *ℤ pos s)
product_positive (pos a) s h = omega (arith, ints)
product_positive (negsuc a) s h = absurd (omega (arith, ints))

energies : (h : Standing) → Within h → All (λ i. pos 0 ≤ℤ (i.average *ℤ pos i.seconds)) (intervals h)
energies h w =
    All-weaker Fair (λ i. pos 0 ≤ℤ (i.average *ℤ pos i.seconds))
    (λ i e. product_positive i.average i.seconds (sound i e).average.low) (intervals h) w.fair

pub volume_positive : (h : Standing) → Within h → pos 0 ≤ℤ volume h
volume_positive h w = sum_ℤ_positive (λ (i : Interval). i.average *ℤ pos i.seconds) (intervals h) (energies h w)

pub volume_part : (h : Standing) (i : Interval) → Within h → StandsIn h i → 6 * nat_abs i.average ≤ nat_abs (volume h)
volume_part h i w stands =
    let s = sound_one h i w stands in
    ∥∥₁_elim stands le_prop (λ one.
    let part = sum_ℤ_part (λ (i : Interval). i.average *ℤ pos i.seconds) (intervals h) one.0 i one.1 (energies h w) in
    let at : (i.average *ℤ pos i.seconds) ≤ℤ volume h = subst (λ (j : Interval). (j.average *ℤ pos j.seconds) ≤ℤ volume h) one.2 part in
    sixfold i.average i.seconds (volume h) s.average.low s.least at)
  where
    sixfold : (a : ℤ) (s : ℕ) (v : ℤ) → pos 0 ≤ℤ a → 6 ≤ s → (a *ℤ pos s) ≤ℤ v → 6 * nat_abs a ≤ nat_abs v
    sixfold (pos a) s v l h k = let m = mul-le-mul_left a h in omega (arith, ints)
    sixfold (negsuc a) s v l h k = absurd (omega (arith, ints))
