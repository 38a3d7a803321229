use Rattle.std.proofs.Common.{sym}
use Rattle.arithmetic.proofs.Sums.{standing_has, standing_place}
use Rattle.settlement.proofs.Within.{settling_row}
use Rattle.settlement.proofs.hour.Hour.figures.Goals as goal

pub invariant_of-settling : goal.invariant_of-settling
invariant_of-settling g c =
    let h = c.args.self.now.standing in
    let at = sym c.in-Some.ensures in
    record {
      stands = ∣ standing_has h.records c.args.slot c.in-Some.interval (standing_place h.records c.args.slot c.in-Some.interval at) at ∣₁;
      sold = settling_row h c.in-Some-settled_by.row c.in-Some-settled_by.ensures;
    }
