use Rattle.std.proofs.Common.{refl, w32, SFits}
use Rattle.std.proofs.lemmas.Int.{to_z-of_z}
use Rattle.statement.proofs.Making.{stops_unfit, stops_hour, goes_through}
use Rattle.statement.proofs.statement.Statement.read.Goals as goal

pub returns-in_err-standing-clause-gated : goal.returns-in_err-standing-clause-gated
returns-in_err-standing-clause-gated g c =
    stops_unfit g.E.Edition g.met.E.Edition.lawful c.args.self.now _ _ _ c.from_residual.ensures.1 c.in_err-standing.ensures

pub returns-in_err-placed-clause-gated : goal.returns-in_err-placed-clause-gated
returns-in_err-placed-clause-gated g c =
    let f : SFits w32 c.args.kwh = c.ranges.kwh in
    stops_hour g.E.Edition g.met.E.Edition.lawful c.args.self.now _ _ c.in_ok-standing.ensures (simp to_z-of_z at c.read.ensures.answer)
    _ c.from_residual-in_err-placed.ensures.1 c.in_err-placed.ensures

pub returns-clause-gated : goal.returns-clause-gated
returns-clause-gated g c =
    let f : SFits w32 c.args.kwh = c.ranges.kwh in
    goes_through g.E.Edition g.met.E.Edition.lawful c.args.self.now _ _ c.in_ok-standing.ensures (simp to_z-of_z at c.read.ensures.answer) c.in_ok-placed.ensures
    (simp to_z-of_z at c.read.ensures.after) refl refl c.settle.ensures.edition c.settle.ensures.table
