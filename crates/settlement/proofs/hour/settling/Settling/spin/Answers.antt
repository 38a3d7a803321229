use Rattle.std.proofs.Common.{◌≡◌, ◌≤◌, ℤ, ◌-ℤ◌, nat_abs, ◌∙◌, lit<, lit≤, w32, w64, to_z, of_z}
use Rattle.arithmetic.proofs.Machine.{Holds, holds, back, figure, wide, minus, wider, sized}
use Rattle.settlement.specs.declared.figures.Interval.{Interval}
use Rattle.settlement.specs.declared.figures.Region.{Region}
use Rattle.settlement.specs.declared.figures.Region.TheVariants.{East, West}
use Rattle.settlement.specs.declared.figures.Schedule.{Schedule}
use Rattle.settlement.specs.Formulas.{amount, spin_price}
use Rattle.settlement.proofs.Ranges.{Sound, Sold}
use Rattle.settlement.proofs.Settling.{settling}
use Rattle.settlement.proofs.Terms.{power_held}
use Rattle.settlement.proofs.hour.settling.Settling.spin.Goals as goal

beyond : (row : Schedule) (i : Interval) → Sold row → Sound i → Holds (to_z w64 (of_z w64 (wide i.spin -ℤ wide row.spin))) (i.spin -ℤ row.spin) 1206000000
beyond row i g s = wider (back w64 (minus (power_held i.spin s.spin.size) (power_held row.spin g.spin.size)) (lit< tt)) (lit≤ tt)

reserve_price : (r : Region) (i : Interval) → Sound i → nat_abs (spin_price r i.reserve) ≤ 1000000
reserve_price East i s = s.east
reserve_price West i s = s.west

reserve_held : (r : Region) (i : Interval) (p : ℤ) → Sound i → p ≡ spin_price r i.reserve → Holds (to_z w32 (of_z w32 p)) (spin_price r i.reserve) 1000000
reserve_held r i p s e = back w32 (holds e (reserve_price r i s)) (lit< tt)

pub amount-requires : goal.amount-requires
amount-requires _ c =
    let s = c.args.self.now in
    let i = s.interval.now in
    let t = settling s in
    record { kw = sized (beyond s.row.now i t.row t.interval); price = sized (reserve_held s.region i _ t.interval c.of.ensures); seconds = t.interval.most }

pub returns : goal.returns
returns _ c =
    let s = c.args.self.now in
    let i = s.interval.now in
    let t = settling s in
    let kw = beyond s.row.now i t.row t.interval in
    let p = reserve_held s.region i _ t.interval c.of.ensures in
    let r = figure w64 c.amount.result c.amount.ensures.bound (lit< tt) in
    record { value = r.is ∙ c.amount.ensures.value ∙ (λ k. amount (kw.is k) (p.is k) i.seconds); bound = sized r }
