use Rattle.std.proofs.Common.{refl}
use Rattle.statement.proofs.Making.{stops_unfit, stops_hour, goes_through}
use Rattle.statement.proofs.statement.Statement.unread.Goals as goal

pub returns-in_err-standing-clause-gated : goal.returns-in_err-standing-clause-gated
returns-in_err-standing-clause-gated g c =
    stops_unfit g.E.Edition g.met.E.Edition.lawful c.args.self.now _ _ _ c.from_residual.ensures.1 c.in_err-standing.ensures

pub returns-in_err-placed-clause-gated : goal.returns-in_err-placed-clause-gated
returns-in_err-placed-clause-gated g c =
    stops_hour g.E.Edition g.met.E.Edition.lawful c.args.self.now _ _ c.in_ok-standing.ensures c.unread.ensures.answer _ c.from_residual-in_err-placed.ensures.1 c.in_err-placed.ensures

pub returns-clause-gated : goal.returns-clause-gated
returns-clause-gated g c =
    goes_through g.E.Edition g.met.E.Edition.lawful c.args.self.now _ _ c.in_ok-standing.ensures c.unread.ensures.answer c.in_ok-placed.ensures
    c.unread.ensures.after refl refl c.settle.ensures.edition c.settle.ensures.table
