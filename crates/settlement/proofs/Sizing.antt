-- How large amounts can be.
use Rattle.std.proofs.Common.{◌≡◌, ℕ, ◌*◌, ◌^◌, ◌≤◌, true, ℤ, ◌+ℤ◌, ◌-ℤ◌, ◌*ℤ◌, neg_ℤ, nat_abs, Some, None, Option, refl, mul-le-mul, arith, lit<, lit≤}
use borrow.Author.Differences.{ints}
use Rattle.std.proofs.lemmas.Bool.{and_from, le-leb}
use Rattle.arithmetic.proofs.Rounding.{nearest_bounded}
use Rattle.arithmetic.proofs.Sizes.{abs_sum, abs_neg, abs_product}
use Rattle.settlement.specs.declared.figures.Amounts.{Amounts}
use Rattle.settlement.specs.declared.figures.Schedule.{Schedule}
use Rattle.settlement.specs.declared.editions.Sign.{Sign}
use Rattle.settlement.specs.declared.editions.Sign.TheVariants.{Minus}
use Rattle.settlement.specs.Bounds.{is_small, is_small_amounts}
use Rattle.settlement.specs.Formulas.{shown, amounts, sold, ahead}
use Rattle.settlement.proofs.Ranges.{Sold}
use Rattle.settlement.proofs.Signs.{shown_size}

-- Amounts of at most n, and their total.
pub record Sized (a : Amounts) (n : ℕ) : Type 0 where
  pub energy : nat_abs a.energy ≤ n
  pub loss : nat_abs a.loss ≤ n
  pub congestion : nat_abs a.congestion ≤ n
  pub total : nat_abs a.total ≤ 3 * n

pub amounts_sized : (sign : Sign) (e l c : ℤ) (n : ℕ) → nat_abs e ≤ n → nat_abs l ≤ n → nat_abs c ≤ n → Sized (amounts sign e l c) n
amounts_sized sign e l c n h k m =
    record {
      energy = h;
      loss = k;
      congestion = m;
      total = omega (arith, abs_sum (e +ℤ l) (neg_ℤ (shown sign c)), abs_sum e l, abs_neg (shown sign c), shown_size sign c, h, k, m);
    }

sold_size : (g : Schedule) (p : ℤ) → Sold g → nat_abs p ≤ 1000000 → nat_abs (sold g p) ≤ 4000000000
sold_size g p s h =
    let net : nat_abs (g.generation -ℤ g.transactions) ≤ 4000000 = omega (arith, ints, s.generation.size, s.transactions.size) in
    nearest_bounded ((g.generation -ℤ g.transactions) *ℤ p) 1000 4000000000 (lit< tt)
    (omega (arith, abs_product (g.generation -ℤ g.transactions) p, mul-le-mul net h))

pub ahead_sized : (o : Option Schedule) → ((g : Schedule) → o ≡ Some g → Sold g) → Sized (ahead o) 4000000000
ahead_sized None h = record { energy = lit≤ tt; loss = lit≤ tt; congestion = lit≤ tt; total = lit≤ tt }
ahead_sized (Some g) h =
    let s = h g refl in
    amounts_sized Minus (sold g g.prices.energy) (sold g g.prices.loss) (neg_ℤ (sold g g.prices.congestion)) 4000000000
    (sold_size g g.prices.energy s s.prices.energy) (sold_size g g.prices.loss s s.prices.loss)
    (omega (arith, abs_neg (sold g g.prices.congestion), sold_size g g.prices.congestion s s.prices.congestion))

pub small : (z : ℤ) → nat_abs z ≤ 2 ^ 47 → is_small z ≡ true
small z h = le-leb (nat_abs z) (2 ^ 47) h

pub small_amounts : (a : Amounts) (n : ℕ) → Sized a n → 3 * n ≤ 2 ^ 47 → is_small_amounts a ≡ true
small_amounts a n s h =
    let e = small a.energy (omega (arith, s.energy)) in
    let l = small a.loss (omega (arith, s.loss)) in
    let c = small a.congestion (omega (arith, s.congestion)) in
    let t = small a.total (omega (arith, s.total)) in
    and_from _ _ (and_from _ _ (and_from _ _ e l) c) t
