use Rattle.std.proofs.Common.{◌≡◌, ℕ, ◌<◌, true, false, ℤ, pos, negsuc, ◌-ℤ◌, ◌*ℤ◌, neg_ℤ, nat_abs, sym, ap, ◌∙◌, subst, arith, w64, to_z, of_z}
use lib.Signed.{le_z}
use borrow.Author.Differences.{ints}
use Rattle.std.proofs.lemmas.Int.{to_z-of_z}
use Rattle.arithmetic.specs.Rounding.{half_up, nearest, WithinHalf}
use Rattle.arithmetic.proofs.Rounding.{nearest_near, nearest-neg, nearest_exact}
use Rattle.arithmetic.proofs.nearest.Goals as goal

-- All that is promised follows from the value.
record Promise (n : ℤ) (d : ℕ) (r : ℤ) : Type 0 where
  value : r ≡ nearest n d
  within : WithinHalf n d r
  odd : nearest (neg_ℤ n) d ≡ neg_ℤ r
  exact : (q : ℤ) → n ≡ pos d *ℤ q → r ≡ q

promise : (n : ℤ) (d : ℕ) (r : ℤ) → 0 < d → r ≡ nearest n d → Promise n d r
promise n d r h e =
    record {
      value = e;
      within = subst (WithinHalf n d) (sym e) (nearest_near n d h);
      odd = nearest-neg n d ∙ ap neg_ℤ (sym e);
      exact = λ q f. e ∙ nearest_exact n d q h f;
    }

-- The rounded number, from the size of the number and its sign.
size_up : (n : ℤ) (d s r : ℕ) → s ≡ nat_abs n → r ≡ half_up s d → le_z (pos 0) n ≡ true → pos r ≡ nearest n d
size_up (pos n) d s r e q h = ap pos (q ∙ ap (λ m. half_up m d) e)
size_up (negsuc n) d s r e q h = omega (arith, ints)

size_down : (n : ℤ) (d s r : ℕ) → s ≡ nat_abs n → r ≡ half_up s d → le_z (pos 0) n ≡ false → neg_ℤ (pos r) ≡ nearest n d
size_down (pos n) d s r e q h = omega (arith, ints)
size_down (negsuc n) d s r e q h = ap (λ m. neg_ℤ (pos m)) (q ∙ ap (λ m. half_up m d) e)

pub returns-then-n-ge0 : goal.returns-then-n-ge0
returns-then-n-ge0 c =
    let n = c.args.n in
    let d = c.args.d in
    let s = c.half_up-size.result in
    let fits : to_z w64 s ≡ pos s = omega (arith, ints) in
    let back = to_z-of_z w64 n c.ranges.n in
    let v = size_up n d.value _ s (c.unsigned_abs.ensures.value ∙ ap nat_abs back) c.half_up-size.ensures.value (ap (le_z (pos 0)) (sym back) ∙ c.if-n-ge0.true) in
    let p = promise n d.value _ d.above_zero (fits ∙ v) in
    record { value = p.value; within = p.within; odd = p.odd; exact = p.exact }

pub returns-then-size : goal.returns-then-size
returns-then-size c =
    let n = c.args.n in
    let d = c.args.d in
    let s = c.half_up-size.result in
    let fits : negsuc 9223372036854775807 ≡ neg_ℤ (pos s) = omega (arith, ints) in
    let back = to_z-of_z w64 n c.ranges.n in
    let v = size_down n d.value _ s (c.unsigned_abs.ensures.value ∙ ap nat_abs back) c.half_up-size.ensures.value (ap (le_z (pos 0)) (sym back) ∙ c.if-n-ge0.false) in
    let p = promise n d.value _ d.above_zero (fits ∙ v) in
    record { value = p.value; within = p.within; odd = p.odd; exact = p.exact }

pub returns-else-size : goal.returns-else-size
returns-else-size c =
    let n = c.args.n in
    let d = c.args.d in
    let s = c.half_up-size.result in
    let fits : to_z w64 (of_z w64 (pos 0 -ℤ to_z w64 s)) ≡ neg_ℤ (pos s) = omega (arith, ints) in
    let back = to_z-of_z w64 n c.ranges.n in
    let v = size_down n d.value _ s (c.unsigned_abs.ensures.value ∙ ap nat_abs back) c.half_up-size.ensures.value (ap (le_z (pos 0)) (sym back) ∙ c.if-n-ge0.false) in
    let p = promise n d.value _ d.above_zero (fits ∙ v) in
    record { value = p.value; within = p.within; odd = p.odd; exact = p.exact }
