use Rattle.std.proofs.Common.{◌≤◌, ℤ, ◌-ℤ◌, nat_abs, lit<, w64, to_z, of_z}
use Rattle.arithmetic.proofs.Machine.{Holds, fits, back, figure, wide, minus, sized}
use Rattle.settlement.specs.declared.figures.Interval.{Interval}
use Rattle.settlement.specs.declared.figures.Schedule.{Schedule}
use Rattle.settlement.proofs.Ranges.{Sound, Sold}
use Rattle.settlement.proofs.Settling.{settling}
use Rattle.settlement.proofs.Terms.{power_held}
use Rattle.settlement.proofs.hour.settling.Settling.balance.Goals as goal

-- The balance, step by step.
module _ (basis : ℤ) (row : Schedule) (i : Interval) (b : nat_abs basis ≤ 1200000000) (g : Sold row) (s : Sound i) where
  beyond : Holds (to_z w64 (of_z w64 basis) -ℤ wide row.generation) (basis -ℤ row.generation) 1202000000
  beyond = minus (figure w64 basis b (lit< tt)) (power_held row.generation g.generation.size)

  change : Holds (wide i.transactions -ℤ wide row.transactions) (i.transactions -ℤ row.transactions) 4000000
  change = minus (power_held i.transactions s.transactions.size) (power_held row.transactions g.transactions.size)

  due : Holds (to_z w64 (of_z w64 (to_z w64 (of_z w64 basis) -ℤ wide row.generation)) -ℤ to_z w64 (of_z w64 (wide i.transactions -ℤ wide row.transactions)))
      (basis -ℤ row.generation -ℤ (i.transactions -ℤ row.transactions)) 1206000000
  due = minus (back w64 beyond (lit< tt)) (back w64 change (lit< tt))

pub overflow_sub-result-3 : goal.overflow_sub-result-3
overflow_sub-result-3 _ c =
    let s = c.args.self.now in
    let t = settling s in
    fits w64 (due c.args.basis s.row.now s.interval.now c.requires t.row t.interval) (lit< tt)

pub returns : goal.returns
returns _ c =
    let s = c.args.self.now in
    let t = settling s in
    let r = back w64 (due c.args.basis s.row.now s.interval.now c.requires t.row t.interval) (lit< tt) in
    record { value = r.is; bound = sized r }
