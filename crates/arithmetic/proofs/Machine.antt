-- What the machine holds of a signed number: a number that went to its bits and back is the same where it is small
-- enough. The lemmas follow the code's expression: a leaf, an operation, and after each the way to the bits and back.
use Rattle.std.proofs.Common.{◌≡◌, ℕ, ◌+◌, ◌*◌, ◌^◌, ◌<◌, ◌≤◌, ℤ, pos, ◌+ℤ◌, ◌-ℤ◌, ◌*ℤ◌, nat_abs, sym, refl, ap, ◌∙◌, subst, le_trans, mul-le-mul, arith, w32, w64, SFits, to_z, of_z}
use borrow.Author.Differences.{ints}
use mir.Syntax.{Width}
use mir.Val.{hbits}
use Rattle.std.proofs.lemmas.Int.{to_z-of_z, to_z_pos}
use Rattle.arithmetic.proofs.Sizes.{abs_product, abs_sum}

-- The code's term u is the number z, whose size is at most n.
pub record Holds (u z : ℤ) (n : ℕ) : Type 0 where
  pub is : u ≡ z
  pub size : nat_abs z ≤ n

-- A number itself, one that fits a width and is read from its bits, and a natural that is read as a signed number.
pub holds : {u z : ℤ} {n : ℕ} → u ≡ z → nat_abs z ≤ n → Holds u z n
holds e h = record { is = e; size = h }

pub whole : (z : ℤ) (n : ℕ) → nat_abs z ≤ n → Holds z z n
whole z n h = record { is = refl; size = h }

pub read : (w : Width) (z : ℤ) → SFits w z → Holds (to_z w (of_z w z)) z (2 ^ hbits w)
read w z f = record { is = to_z-of_z w z f; size = omega (arith, ints) }

pub natural : (w : Width) (m n : ℕ) → m ≤ n → n < 2 ^ hbits w → Holds (to_z w m) (pos m) n
natural w m n h k = record { is = to_z_pos w m (omega arith); size = h }

-- A number that is small enough fits, and comes back from its bits.
pub fits : (w : Width) {u z : ℤ} {n : ℕ} → Holds u z n → n < 2 ^ hbits w → SFits w u
fits w {u} {z} {n} h k = subst (SFits w) (sym h.is) (small z n h.size k)
  where
    small : (z : ℤ) (n : ℕ) → nat_abs z ≤ n → n < 2 ^ hbits w → SFits w z
    small z n l k = omega (arith, ints)

pub back : (w : Width) {u z : ℤ} {n : ℕ} → Holds u z n → n < 2 ^ hbits w → Holds (to_z w (of_z w u)) z n
back w {u} h k = record { is = to_z-of_z w u (fits w h k) ∙ h.is; size = h.size }

-- A small number itself, read from its bits.
pub figure : (w : Width) (z : ℤ) {n : ℕ} → nat_abs z ≤ n → n < 2 ^ hbits w → Holds (to_z w (of_z w z)) z n
figure w z {n} h k = back w (whole z n h) k

-- What a function answers, by its contract.
pub held : {u z : ℤ} {n : ℕ} → u ≡ z → nat_abs u ≤ n → Holds u z n
held e h = holds e (omega (arith, ap nat_abs e, h))

-- A number of 32 bits in 64.
abbrev pub wide : ℤ → ℤ
wide x = to_z w64 (of_z w64 (to_z w32 (of_z w32 x)))

-- The operations.
pub plus : {u v a b : ℤ} {m n : ℕ} → Holds u a m → Holds v b n → Holds (u +ℤ v) (a +ℤ b) (m + n)
plus {u} {v} {a} {b} h k =
    record { is = ap (λ z. z +ℤ v) h.is ∙ ap (λ z. a +ℤ z) k.is; size = omega (arith, abs_sum a b, h.size, k.size) }

pub minus : {u v a b : ℤ} {m n : ℕ} → Holds u a m → Holds v b n → Holds (u -ℤ v) (a -ℤ b) (m + n)
minus {u} {v} {a} {b} h k =
    record { is = ap (λ z. z -ℤ v) h.is ∙ ap (λ z. a -ℤ z) k.is; size = omega (arith, ints, h.size, k.size) }

pub times : {u v a b : ℤ} {m n : ℕ} → Holds u a m → Holds v b n → Holds (u *ℤ v) (a *ℤ b) (m * n)
times {u} {v} {a} {b} h k =
    record { is = ap (λ z. z *ℤ v) h.is ∙ ap (λ z. a *ℤ z) k.is; size = omega (arith, abs_product a b, mul-le-mul h.size k.size) }

-- A wider bound, and an equal number.
pub wider : {u z : ℤ} {m n : ℕ} → Holds u z m → m ≤ n → Holds u z n
wider h l = record { is = h.is; size = le_trans h.size l }

pub named : {u z y : ℤ} {n : ℕ} → Holds u z n → z ≡ y → Holds u y n
named h e = record { is = h.is ∙ e; size = omega (arith, ap nat_abs e, h.size) }

-- The code's term itself is as small as the number.
pub sized : {u z : ℤ} {n : ℕ} → Holds u z n → nat_abs u ≤ n
sized h = omega (arith, ap nat_abs h.is, h.size)
