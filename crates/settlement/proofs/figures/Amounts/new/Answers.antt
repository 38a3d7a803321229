use Rattle.std.proofs.Common.{◌≡◌, ◌*◌, ◌^◌, ◌≤◌, ℤ, ◌+ℤ◌, ◌-ℤ◌, nat_abs, ap, ◌∙◌, arith, lit<, w64, to_z, of_z}
use Rattle.arithmetic.proofs.Machine.{Holds, holds, back, figure, plus, minus}
use Rattle.settlement.specs.declared.editions.Sign.{Sign}
use Rattle.settlement.specs.Formulas.{shown}
use Rattle.settlement.proofs.Signs.{shown_size}
use Rattle.settlement.proofs.figures.Amounts.new.Goals as goal

module _ (sign : Sign) (energy loss congestion r : ℤ) (e : nat_abs energy ≤ 2 ^ 56) (l : nat_abs loss ≤ 2 ^ 56) (c : nat_abs congestion ≤ 2 ^ 56)
    (is : r ≡ shown sign (to_z w64 (of_z w64 congestion))) where
  against : Holds r (shown sign congestion) (2 ^ 56)
  against = holds (is ∙ ap (shown sign) (figure w64 congestion c (lit< tt)).is) (omega (arith, shown_size sign congestion))

  total : Holds (to_z w64 (of_z w64 (to_z w64 (of_z w64 energy) +ℤ to_z w64 (of_z w64 loss))) -ℤ to_z w64 (of_z w64 r)) (energy +ℤ loss -ℤ shown sign congestion) (3 * 2 ^ 56)
  total = minus (back w64 (plus (figure w64 energy e (lit< tt)) (figure w64 loss l (lit< tt))) (lit< tt)) (back w64 against (lit< tt))

pub returns : goal.returns
returns c =
    let due = back w64 (total c.args.sign c.args.energy c.args.loss c.args.congestion _ c.requires.energy c.requires.loss c.requires.congestion c.shown.ensures) (lit< tt) in
    let e = figure w64 c.args.energy c.requires.energy (lit< tt) in
    let l = figure w64 c.args.loss c.requires.loss (lit< tt) in
    let g = figure w64 c.args.congestion c.requires.congestion (lit< tt) in
    λ k. record { energy = e.is k; loss = l.is k; congestion = g.is k; total = due.is k }
