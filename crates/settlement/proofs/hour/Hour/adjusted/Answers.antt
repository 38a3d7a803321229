use Rattle.std.proofs.Common.{◌≡◌, ℕ, ◌*◌, ◌<◌, ◌≤◌, Bool, true, false, cond, ℤ, pos, ◌*ℤ◌, nat_abs, ◌≤ℤ◌, Some, None, sym, ap, ◌∙◌, mul-le-mul, arith, lit<, lit≤, w64, SFits, to_z, of_z, rules}
use lib.Signed.{lt_z}
use borrow.Author.Differences.{ints, true_is_lt, false_is_lt}
use Rattle.std.proofs.lemmas.Int.{to_z-of_z}
use Rattle.arithmetic.specs.Rounding.{nearest}
use Rattle.arithmetic.proofs.Machine.{Holds, holds, whole, fits, back, wide, times, wider, sized}
use Rattle.arithmetic.proofs.Rounding.{nearest_bounded}
use Rattle.arithmetic.proofs.Sizes.{abs_product}
use Rattle.settlement.specs.declared.figures.Interval.{Interval}
use Rattle.settlement.specs.declared.figures.Standing.{Standing}
use Rattle.settlement.specs.declared.figures.Tally.{Tally}
use Rattle.settlement.specs.Standing.{volume}
use Rattle.settlement.specs.Formulas.{share, adjusted}
use Rattle.settlement.proofs.Terms.{power_held}
use Rattle.settlement.proofs.Within.{within, reading_metered, volume_positive, volume_part, sound_one}
use Rattle.settlement.proofs.hour.Hour.adjusted.Goals as goal

-- What the code multiplies.
abbrev term : ℤ → ℤ → ℤ
term a m = to_z w64 (of_z w64 (pos 3600 *ℤ wide a)) *ℤ wide m

product : (a m : ℤ) → nat_abs a ≤ 2000000 → nat_abs m ≤ 2000000 → Holds (term a m) (pos 3600 *ℤ a *ℤ m) 14400000000000000
product a m h k = times (back w64 (times (whole (pos 3600) 3600 (lit≤ tt)) (power_held a h)) (lit< tt)) (power_held m k)

-- An interval of six seconds or more has at most a sixth of the averages' sum, so at most 600 times the reading.
share_bounded : (a m : ℤ) (s : ℕ) → 0 < s → nat_abs m ≤ 2000000 → 6 * nat_abs a ≤ s → nat_abs (nearest (pos 3600 *ℤ a *ℤ m) s) ≤ 1200000000
share_bounded a m s h k l =
    nearest_bounded (pos 3600 *ℤ a *ℤ m) s 1200000000 h
    (sizes (nat_abs a) (nat_abs m) _ _ (abs_product (pos 3600 *ℤ a) m) (abs_product (pos 3600) a) k l)
  where
    sizes : (a m x y : ℕ) → x ≡ y * m → y ≡ 3600 * a → m ≤ 2000000 → 6 * a ≤ s → x ≤ 1200000000 * s
    sizes a m x y e f k l = omega (arith, e, ap (λ (t : ℕ). t * m) f, mul-le-mul l k)

-- What an hour shares, by what was read and by whether its intervals have any output.
by_average : (h : Standing) (i : Interval) → h.reading ≡ None → i.average ≡ adjusted h i
by_average h i e = sym (ap (λ o. share o (volume h) i.average) e)

by_reading : (h : Standing) (i : Interval) (m : ℤ) (t : Bool) (d : ℕ) → h.reading ≡ Some m → lt_z (pos 0) (volume h) ≡ t → d ≡ nat_abs (volume h)
    → cond t (nearest (pos 3600 *ℤ i.average *ℤ m) d) m ≡ adjusted h i
by_reading h i m t d e f g =
    ap (λ d. cond t (nearest (pos 3600 *ℤ i.average *ℤ m) d) m) g
    ∙ ap (λ t. cond t (nearest (pos 3600 *ℤ i.average *ℤ m) (nat_abs (volume h))) m) (sym f)
    ∙ sym (ap (λ o. share o (volume h) i.average) e)

some_output : (v : ℤ) → pos 0 ≤ℤ v → 0 < nat_abs v → lt_z (pos 0) v ≡ true
some_output v p h = sym (true_is_lt (pos 0) v (omega (arith, ints)))

no_output : (v : ℤ) → nat_abs v ≡ 0 → lt_z (pos 0) v ≡ false
no_output v e = sym (false_is_lt (pos 0) v (omega (arith, ints)))

pub overflow_mul-average-in-Some-new : goal.overflow_mul-average-in-Some-new
overflow_mul-average-in-Some-new c =
    let h = c.args.self.now.standing in
    let i = c.args.interval.now in
    let w = within h c.args.self.now.within in
    let m = reading_metered h c.in-Some.kwh w c.in-Some.is in
    fits w64 (product i.average c.in-Some.kwh (sound_one h i w c.requires).average.size m.size) (lit< tt)

pub returns-in-None : goal.returns-in-None
returns-in-None c =
    let h = c.args.self.now.standing in
    let i = c.args.interval.now in
    let s = sound_one h i (within h c.args.self.now.within) c.requires in
    let a = power_held i.average s.average.size in
    record { value = a.is ∙ by_average h i c.in-None.is; bound = sized (wider a (lit≤ tt)) }

pub returns-in-Some-new : goal.returns-in-Some-new
returns-in-Some-new c =
    let h = c.args.self.now.standing in
    let i = c.args.interval.now in
    let m = c.in-Some.kwh in
    let d = c.in-Some-new.volume in
    let w = within h c.args.self.now.within in
    let s = sound_one h i w c.requires in
    let p = reading_metered h m w c.in-Some.is in
    let f : SFits w64 c.args.self.now.counted.volume = search rules in
    let g : d.value ≡ nat_abs (volume h) =
    c.in-Some-new.ensures ∙ c.unsigned_abs.ensures.value ∙ ap nat_abs (to_z-of_z w64 c.args.self.now.counted.volume f)
    ∙ ap (λ (t : Tally). nat_abs t.volume) c.args.self.now.tallied in
    let some = some_output (volume h) (volume_positive h w) (omega (arith, g, d.above_zero)) in
    let n = back w64 (product i.average m s.average.size p.size) (lit< tt) in
    let small = share_bounded i.average m d.value d.above_zero p.size (omega (arith, g, volume_part h i w c.requires)) in
    let r = back w64 (holds (c.nearest.ensures.value ∙ ap (λ z. nearest z d.value) n.is) small) (lit< tt) in
    record { value = r.is ∙ by_reading h i m true d.value c.in-Some.is some g; bound = sized r }

pub returns-in-None-new : goal.returns-in-None-new
returns-in-None-new c =
    let h = c.args.self.now.standing in
    let i = c.args.interval.now in
    let m = c.in-Some.kwh in
    let w = within h c.args.self.now.within in
    let f : SFits w64 c.args.self.now.counted.volume = search rules in
    let g : 0 ≡ nat_abs (volume h) =
    sym c.in-None-new.ensures ∙ c.unsigned_abs.ensures.value ∙ ap nat_abs (to_z-of_z w64 c.args.self.now.counted.volume f)
    ∙ ap (λ (t : Tally). nat_abs t.volume) c.args.self.now.tallied in
    let r = power_held m (reading_metered h m w c.in-Some.is).size in
    record { value = r.is ∙ by_reading h i m false 0 c.in-Some.is (no_output (volume h) (sym g)) g; bound = sized (wider r (lit≤ tt)) }
