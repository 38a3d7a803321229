-- Summing what the intervals of an hour come to, one place after another.
use Rattle.std.proofs.Common.{◌≡◌, ℕ, ◌+◌, ◌*◌, ◌<◌, ◌≤◌, List, length, get_or, take, ℤ, pos, ◌+ℤ◌, ◌*ℤ◌, nat_abs, Some, None, Option, sym, ap, ◌∙◌, mul-le-mul, arith}
use Rattle.std.specs.List.{flat_map}
use Rattle.std.specs.Option.{option_to_list}
use Rattle.std.proofs.lemmas.List.{take_all}
use Rattle.arithmetic.specs.Sums.{sum_ℤ}
use Rattle.arithmetic.proofs.Sizes.{abs_sum, abs_product}
use Rattle.arithmetic.proofs.Sums.{sum_ℤ-push, sum_ℤ_none, standing_empty, standing_push}
use Rattle.settlement.specs.declared.figures.Interval.{Interval}
use Rattle.settlement.specs.declared.figures.IntervalFigures.{IntervalFigures}
use Rattle.settlement.specs.declared.figures.Region.{Region}
use Rattle.settlement.specs.declared.figures.Schedule.{Schedule}
use Rattle.settlement.specs.declared.figures.Standing.{Standing}
use Rattle.settlement.specs.declared.figures.Sums.{Sums}
use Rattle.settlement.specs.Editions.{Terms}
use Rattle.settlement.specs.Formulas.{figures, sums, with_figures, no_sums}
use Rattle.settlement.specs.Bounds.{FiguresWithin, SumsWithin}

-- One figure, summed over the first k places, and at most B for each.
pub record Sum (f : Interval → ℤ) (B : ℕ) (xs : List (Option Interval)) (k : ℕ) (s : ℤ) : Type 0 where
  pub is : s ≡ sum_ℤ f (flat_map option_to_list (take k xs))
  pub size : nat_abs s ≤ k * B

module _ (f : Interval → ℤ) (B : ℕ) (xs : List (Option Interval)) where
  pub sum_none : (s : ℤ) → s ≡ pos 0 → Sum f B xs 0 s
  sum_none s zero = record { is = zero ∙ sym (sum_ℤ_none f); size = omega (arith, ap nat_abs zero) }

  pub sum_empty : (k : ℕ) (s : ℤ) → k < length xs → get_or xs k None ≡ None → Sum f B xs k s → Sum f B xs (k + 1) s
  sum_empty k s l e c =
      record { is = c.is ∙ ap (sum_ℤ f) (sym (standing_empty xs k l e)); size = omega (arith, c.size) }

  pub sum_more : (k : ℕ) (s t x : ℤ) (i : Interval) → k < length xs → get_or xs k None ≡ Some i → Sum f B xs k s → t ≡ s +ℤ x → x ≡ f i → nat_abs x ≤ B → Sum f B xs (k + 1) t
  sum_more k s t x i l e c q v h =
      record {
        is = q ∙ (λ n. c.is n +ℤ v n) ∙ sym (sum_ℤ-push f (flat_map option_to_list (take k xs)) i) ∙ ap (sum_ℤ f) (sym (standing_push xs k i l e));
        size = omega (arith, ap nat_abs q, abs_sum s x, c.size, h);
      }

-- The five sums of an hour.
pub record Summed (e : Terms) (r : Region) (g : Schedule) (h : Standing) (k : ℕ) (s : Sums) : Type 0 where
  pub balance : Sum (λ i. (figures e r g h i).balance *ℤ pos i.seconds) 4341600000000 h.records k s.balance
  pub energy : Sum (λ i. (figures e r g h i).energy) 1206000000000 h.records k s.energy
  pub loss : Sum (λ i. (figures e r g h i).loss) 1206000000000 h.records k s.loss
  pub congestion : Sum (λ i. (figures e r g h i).congestion) 1206000000000 h.records k s.congestion
  pub spin : Sum (λ i. (figures e r g h i).spin) 1206000000000 h.records k s.spin

pub summed_none : (e : Terms) (r : Region) (g : Schedule) (h : Standing) (s : Sums) → s ≡ no_sums → Summed e r g h 0 s
summed_none e r g h s zero =
    record {
      balance = sum_none _ 4341600000000 h.records s.balance (ap (λ (s : Sums). s.balance) zero);
      energy = sum_none _ 1206000000000 h.records s.energy (ap (λ (s : Sums). s.energy) zero);
      loss = sum_none _ 1206000000000 h.records s.loss (ap (λ (s : Sums). s.loss) zero);
      congestion = sum_none _ 1206000000000 h.records s.congestion (ap (λ (s : Sums). s.congestion) zero);
      spin = sum_none _ 1206000000000 h.records s.spin (ap (λ (s : Sums). s.spin) zero);
    }

module _ (e : Terms) (r : Region) (g : Schedule) (h : Standing) (k : ℕ) (s : Sums) (c : Summed e r g h k s) (l : k < length h.records) where
  pub summed_empty : get_or h.records k None ≡ None → Summed e r g h (k + 1) s
  summed_empty at =
      record {
        balance = sum_empty _ 4341600000000 h.records k _ l at c.balance;
        energy = sum_empty _ 1206000000000 h.records k _ l at c.energy;
        loss = sum_empty _ 1206000000000 h.records k _ l at c.loss;
        congestion = sum_empty _ 1206000000000 h.records k _ l at c.congestion;
        spin = sum_empty _ 1206000000000 h.records k _ l at c.spin;
      }

pub summed_more :
    (e : Terms) (r : Region) (g : Schedule) (h : Standing) (k : ℕ) (s t : Sums) (i : Interval) (f : IntervalFigures) → Summed e r g h k s → k < length h.records
    → get_or h.records k None ≡ Some i → i.seconds ≤ 3600 → f ≡ figures e r g h i → FiguresWithin f → t ≡ with_figures s i.seconds f → Summed e r g h (k + 1) t
summed_more e r g h k s t i f c l at short is small adds =
    let over : nat_abs (f.balance *ℤ pos i.seconds) ≤ 4341600000000 = omega (arith, abs_product f.balance (pos i.seconds), mul-le-mul small.balance short) in
    record {
      balance = sum_more _ 4341600000000 h.records k _ _ _ i l at c.balance (ap (λ (s : Sums). s.balance) adds) (ap (λ (f : IntervalFigures). f.balance *ℤ pos i.seconds) is) over;
      energy = sum_more _ 1206000000000 h.records k _ _ _ i l at c.energy (ap (λ (s : Sums). s.energy) adds) (ap (λ (f : IntervalFigures). f.energy) is) small.energy;
      loss = sum_more _ 1206000000000 h.records k _ _ _ i l at c.loss (ap (λ (s : Sums). s.loss) adds) (ap (λ (f : IntervalFigures). f.loss) is) small.loss;
      congestion = sum_more _ 1206000000000 h.records k _ _ _ i l at c.congestion (ap (λ (s : Sums). s.congestion) adds) (ap (λ (f : IntervalFigures). f.congestion) is) small.congestion;
      spin = sum_more _ 1206000000000 h.records k _ _ _ i l at c.spin (ap (λ (s : Sums). s.spin) adds) (ap (λ (f : IntervalFigures). f.spin) is) small.spin;
    }

-- All places summed are the sums of the hour.
pub summed_all : (e : Terms) (r : Region) (g : Schedule) (h : Standing) (k : ℕ) (s : Sums) → length h.records ≤ k → Summed e r g h k s → s ≡ sums e r g h (flat_map option_to_list h.records)
summed_all e r g h k s l c =
    let whole : (f : Interval → ℤ) → sum_ℤ f (flat_map option_to_list (take k h.records)) ≡ sum_ℤ f (flat_map option_to_list h.records) = λ f. ap (λ xs. sum_ℤ f (flat_map option_to_list xs)) (take_all k h.records l) in
    let b = c.balance.is ∙ whole _ in
    let n = c.energy.is ∙ whole _ in
    let o = c.loss.is ∙ whole _ in
    let p = c.congestion.is ∙ whole _ in
    let q = c.spin.is ∙ whole _ in
    λ j. record { balance = b j; energy = n j; loss = o j; congestion = p j; spin = q j }

-- The sums over some places are as small as so many intervals allow.
pub summed_within : (e : Terms) (r : Region) (g : Schedule) (h : Standing) (k n : ℕ) (s : Sums) → k ≤ n → Summed e r g h k s → SumsWithin n s
summed_within e r g h k n s l c =
    record {
      balance = omega (arith, c.balance.size);
      energy = omega (arith, c.energy.size);
      loss = omega (arith, c.loss.size);
      congestion = omega (arith, c.congestion.size);
      spin = omega (arith, c.spin.size);
    }
