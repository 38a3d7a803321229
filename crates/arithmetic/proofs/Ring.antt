-- A solver for equations between polynomials of integers. Each integer is read as a difference of two naturals, so that
-- an equation of integers becomes one of naturals, which `omega` multiplies out and closes.
use Rattle.std.proofs.Common.{◌≡◌, ℕ, ◌+◌, ◌*◌, ℤ, pos, ◌+ℤ◌, ◌-ℤ◌, ◌*ℤ◌, neg_ℤ, ap, arith}
use borrow.Author.Differences.{up, down, same_in, sum_is_lem, neg_is, product_is}

infixl 6 ◌:+◌ ◌:-◌
infixl 7 ◌:*◌
infixr 8 ◌times◌
-- A polynomial: an integer, a natural, a sum, a difference, a product, a negation, or a natural number of times another.
-- Write every natural factor as the last: as an integer it would double the number of terms.
pub data Poly : Type 0 where
  int : ℤ → Poly
  nat : ℕ → Poly
  ◌:+◌ : Poly → Poly → Poly
  ◌:-◌ : Poly → Poly → Poly
  ◌:*◌ : Poly → Poly → Poly
  neg : Poly → Poly
  ◌times◌ : ℕ → Poly → Poly

abbrev pub value : Poly → ℤ
value (int z) = z
value (nat n) = pos n
value (p :+ q) = value p +ℤ value q
value (p :- q) = value p -ℤ value q
value (p :* q) = value p *ℤ value q
value (neg p) = neg_ℤ (value p)
value (k times p) = pos k *ℤ value p

-- The two naturals whose difference is the value.
abbrev mutual
  pub gain : Poly → ℕ
  gain (int z) = up z
  gain (nat n) = n
  gain (p :+ q) = gain p + gain q
  gain (p :- q) = gain p + loss q
  gain (p :* q) = gain p * gain q + loss p * loss q
  gain (neg p) = loss p
  gain (k times p) = k * gain p

  pub loss : Poly → ℕ
  loss (int z) = down z
  loss (nat n) = 0
  loss (p :+ q) = loss p + loss q
  loss (p :- q) = loss p + gain q
  loss (p :* q) = gain p * loss q + loss p * gain q
  loss (neg p) = gain p
  loss (k times p) = k * loss p

-- The value is the difference of the two, also for a product of such differences.
product_reads :
    (a b : ℤ) (p n q m : ℕ) → up a + n ≡ down a + p → up b + m ≡ down b + q
    → up (a *ℤ b) + (p * m + n * q) ≡ down (a *ℤ b) + (p * q + n * m)
product_reads a b p n q m e f = parts (up a) (down a) (up b) (down b) _ _ (product_is a b).0 (product_is a b).1 e f
  where
    parts :
        (u d v w x y : ℕ) → x ≡ u * v + d * w → y ≡ u * w + d * v → u + n ≡ d + p → v + m ≡ w + q
        → x + (p * m + n * q) ≡ y + (p * q + n * m)
    parts u d v w x y k l e f =
        omega (arith, ap (λ (t : ℕ). t * v) e, ap (λ (t : ℕ). t * w) e, ap (λ (t : ℕ). p * t) f, ap (λ (t : ℕ). n * t) f)

reads : (p : Poly) → up (value p) + loss p ≡ down (value p) + gain p
reads (int z) = omega arith
reads (nat n) = omega arith
reads (p :+ q) = omega (arith, sum_is_lem (value p) (value q), reads p, reads q)
reads (p :- q) = omega (arith, sum_is_lem (value p) (neg_ℤ (value q)), neg_is (value q), reads p, reads q)
reads (p :* q) = product_reads (value p) (value q) (gain p) (loss p) (gain q) (loss q) (reads p) (reads q)
reads (neg p) = omega (arith, neg_is (value p), reads p)
reads (k times p) = omega (arith, product_is (pos k) (value p), ap (λ (t : ℕ). k * t) (reads p))

-- Two polynomials are equal where one natural equation says so: answer it by `omega arith`.
pub ring : (p q : Poly) → gain p + loss q ≡ gain q + loss p → value p ≡ value q
ring p q e = same_in (value p) (value q) (omega (arith, reads p, reads q))
