-- How far a rounded amount lies from the exact fraction, over plain numbers.
use Rattle.std.proofs.Common.{◌≡◌, ℕ, ◌+◌, ◌*◌, ◌<◌, ◌≤◌, ℤ, pos, ◌-ℤ◌, ◌*ℤ◌, nat_abs, ap, subst, mul-le-mul_right, mul-le-mul_left, arith}
use native.Mathlib.Nat.{le_of_mul-le-mul_left}
use Rattle.arithmetic.specs.Rounding.{WithinHalf}
use Rattle.arithmetic.proofs.Ring.{int, nat, ◌:+◌, ◌:-◌, ◌:*◌, ◌times◌, ring}
use Rattle.arithmetic.proofs.Sizes.{abs_sum, abs_product, abs_flip}

pub assoc : (a b c : ℤ) → a *ℤ b *ℤ c ≡ a *ℤ (b *ℤ c)
assoc a b c = ring (int a :* int b :* int c) (int a :* (int b :* int c)) (omega arith)

-- An amount A is (B - G) x q / d, rounded, and B is E / k, to within a half: then A lies within a half and |q| / 2d of
-- (E / k - G) x q / d, here times 2 x d x k.
pub distance : (d k : ℕ) (A B G E q : ℤ) → WithinHalf ((B -ℤ G) *ℤ q) d A → WithinHalf E k B
    → nat_abs (pos (2 * d * k) *ℤ A -ℤ pos 2 *ℤ ((E -ℤ pos k *ℤ G) *ℤ q)) ≤ k * (d + nat_abs q)
distance d k A B G E q h l =
    let x = (B -ℤ G) *ℤ q -ℤ pos d *ℤ A in
    let y = E -ℤ pos k *ℤ B in
    let parts = ring
    (2 times ((int E :- k times int G) :* int q) :- (2 * d * k) times int A)
    ((2 * k) times ((int B :- int G) :* int q :- d times int A) :+ 2 times ((int E :- k times int B) :* int q))
    (omega arith) in
    let flip = abs_flip (pos (2 * d * k) *ℤ A) (pos 2 *ℤ ((E -ℤ pos k *ℤ G) *ℤ q)) in
    let s = abs_sum (pos (2 * k) *ℤ x) (pos 2 *ℤ (y *ℤ q)) in
    bound (nat_abs q) (nat_abs x) (nat_abs y) _ _ _ _ _ _ h l flip (ap nat_abs parts) s (abs_product (pos (2 * k)) x) (abs_product (pos 2) (y *ℤ q)) (abs_product y q)
  where
    bound : (q x y n m o u v w : ℕ) → 2 * x ≤ d → 2 * y ≤ k → n ≡ m → m ≡ o → o ≤ u + v → u ≡ 2 * k * x → v ≡ 2 * w → w ≡ y * q → n ≤ k * (d + q)
    bound q x y n m o u v w h l e f s a b c = omega (arith, mul-le-mul_left k h, mul-le-mul_right q l)

-- A share x of 3,600 x a x m / k, over q seconds, is near to what is shared.
pub share_near : (k : ℕ) (a m x : ℤ) (q : ℕ) → WithinHalf (pos 3600 *ℤ a *ℤ m) k x
    → nat_abs (pos (2 * k) *ℤ (x *ℤ pos q) -ℤ pos 7200 *ℤ m *ℤ (a *ℤ pos q)) ≤ k * q
share_near k a m x q h =
    let y = pos 3600 *ℤ a *ℤ m -ℤ pos k *ℤ x in
    let parts = ring
    (7200 times int m :* (int a :* nat q) :- (2 * k) times (int x :* nat q))
    (2 times ((3600 times int a :* int m :- k times int x) :* nat q))
    (omega arith) in
    let flip = abs_flip (pos (2 * k) *ℤ (x *ℤ pos q)) (pos 7200 *ℤ m *ℤ (a *ℤ pos q)) in
    bound (nat_abs y) _ _ _ _ h flip (ap nat_abs parts) (abs_product (pos 2) (y *ℤ pos q)) (abs_product y (pos q))
  where
    bound : (y n o u w : ℕ) → 2 * y ≤ k → n ≡ o → o ≡ u → u ≡ 2 * w → w ≡ y * q → n ≤ k * q
    bound y n o u w h e f a b = omega (arith, mul-le-mul_right q h)

-- What is shared of a whole hour, from the same with both sides times 2 x k.
pub whole_near : (k : ℕ) (x m v : ℤ) → 0 < k → v ≡ pos k → nat_abs (pos (2 * k) *ℤ x -ℤ pos 7200 *ℤ m *ℤ v) ≤ k * 3600 → nat_abs (x -ℤ pos 3600 *ℤ m) ≤ 1800
whole_near k x m v h e near =
    let at = subst (λ (z : ℤ). nat_abs (pos (2 * k) *ℤ x -ℤ pos 7200 *ℤ m *ℤ z) ≤ k * 3600) e near in
    let parts = ring ((2 * k) times int x :- (7200 times int m) :* nat k) ((2 * k) times (int x :- 3600 times int m)) (omega arith) in
    le_of_mul-le-mul_left {k = 2 * k} (omega (arith, at, ap nat_abs parts, abs_product (pos (2 * k)) (x -ℤ pos 3600 *ℤ m))) (omega arith)
