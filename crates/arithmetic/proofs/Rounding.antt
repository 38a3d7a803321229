-- Where a rounded quotient lies.
use Rattle.std.proofs.Common.{◌≡◌, ℕ, zero, suc, ◌+◌, ◌*◌, ◌/◌, ◌%◌, ◌<◌, ◌≤◌, ℤ, pos, negsuc, ◌-ℤ◌, ◌*ℤ◌, neg_ℤ, nat_abs, sym, refl, ap, subst, mod-lt, arith}
use native.Mathlib.Nat.{div-add-mod, div-eq_of_lt, div-eq_of_lt-le, lt_of_mul-lt-mul_left}
use lib.IntN.{neg_ℤ-neg_ℤ}
use borrow.Author.Differences.{ints, neg_is}
use Rattle.arithmetic.specs.Rounding.{half_up, nearest, WithinHalf}
use Rattle.arithmetic.proofs.Ring.{int, ◌:-◌, ◌times◌, ring}
use Rattle.arithmetic.proofs.Sizes.{abs_neg, abs_product, same_at_zero}

-- d times the rounded quotient is above n by at most half of d, or below it by less.
pub half_up_near : (n d : ℕ) → 0 < d → (2 * (d * half_up n d) ≤ 2 * n + d) × (2 * n < 2 * (d * half_up n d) + d)
unfolding half_up
half_up_near n d h =
    let e = div-add-mod (2 * n + d) (2 * d) in
    let l : (2 * n + d) % (2 * d) < 2 * d = mod-lt (2 * n + d) (omega arith) in
    (omega (arith, e, l), omega (arith, e, l))

pub half_up_bounded : (n d c : ℕ) → 0 < d → n ≤ c * d → half_up n d ≤ c
half_up_bounded n d c h k =
    let l : half_up n d < c + 1 = lt_of_mul-lt-mul_left d (omega (arith, half_up_near n d h)) in
    omega arith

pub half_up_le : (n d : ℕ) → 0 < d → half_up n d ≤ n
half_up_le n (suc d) h = half_up_bounded n (suc d) n h (omega arith)
half_up_le n zero h = omega arith

half_up_zero : (d : ℕ) → half_up 0 d ≡ 0
unfolding half_up
half_up_zero zero = refl
half_up_zero (suc d) = div-eq_of_lt (omega arith)

-- Half of d may be cut down to a whole number first.
pub half_up_cut : (n d : ℕ) → 0 < d → (n + d / 2) / d ≡ half_up n d
half_up_cut n d h =
    let near = half_up_near n d h in
    let halves = div-add-mod d 2 in
    let odd : d % 2 < 2 = mod-lt d (omega arith) in
    div-eq_of_lt-le d (omega (arith, near, halves, odd)) (omega (arith, near, halves, odd))

-- Twice the distance of n from d times its rounded quotient is at most d.
pub nearest_near : (n : ℤ) (d : ℕ) → 0 < d → WithinHalf n d (nearest n d)
nearest_near (pos n) d h = omega (arith, ints, half_up_near n d h)
nearest_near (negsuc n) d h =
    let e = neg_is (pos (half_up (suc n) d)) in
    omega (arith, ints, half_up_near (suc n) d h, ap (λ (t : ℕ). d * t) e.0, ap (λ (t : ℕ). d * t) e.1)

pub nearest_bounded : (n : ℤ) (d c : ℕ) → 0 < d → nat_abs n ≤ c * d → nat_abs (nearest n d) ≤ c
nearest_bounded (pos n) d c h k = half_up_bounded n d c h k
nearest_bounded (negsuc n) d c h k = omega (arith, abs_neg (pos (half_up (suc n) d)), half_up_bounded (suc n) d c h k)

-- Rounding is odd.
pub nearest-neg : (n : ℤ) (d : ℕ) → nearest (neg_ℤ n) d ≡ neg_ℤ (nearest n d)
nearest-neg (pos zero) d = rw (half_up_zero d)
nearest-neg (pos (suc n)) d = refl
nearest-neg (negsuc n) d = sym (neg_ℤ-neg_ℤ (pos (half_up (suc n) d)))

-- Rounding is exact where the division is.
pub nearest_exact : (n : ℤ) (d : ℕ) (q : ℤ) → 0 < d → n ≡ pos d *ℤ q → nearest n d ≡ q
nearest_exact n d q h e =
    let near = subst (λ (z : ℤ). 2 * nat_abs (z -ℤ pos d *ℤ nearest n d) ≤ d) e (nearest_near n d h) in
    let r = ring (d times int q :- d times int (nearest n d)) (d times (int q :- int (nearest n d))) (omega arith) in
    let p = abs_product (pos d) (q -ℤ nearest n d) in
    sym (same_at_zero q (nearest n d) (none (nat_abs (q -ℤ nearest n d)) (omega (arith, near, ap nat_abs r, p))))
  where
    none : (x : ℕ) → 2 * (d * x) ≤ d → x ≡ 0
    none zero l = refl
    none (suc x) l = omega arith
