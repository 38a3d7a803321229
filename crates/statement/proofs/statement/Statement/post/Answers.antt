use Rattle.statement.proofs.Making.{stops_unfit, stops_hour, stops_store, goes_through}
use Rattle.statement.proofs.statement.Statement.post.Goals as goal

pub returns-in_err-standing-clause-gated : goal.returns-in_err-standing-clause-gated
returns-in_err-standing-clause-gated g c =
    stops_unfit g.E.Edition g.met.E.Edition.lawful c.args.self.now _ _ _ c.from_residual.ensures.1 c.in_err-standing.ensures

pub returns-in_err-placed-clause-gated : goal.returns-in_err-placed-clause-gated
returns-in_err-placed-clause-gated g c =
    stops_hour g.E.Edition g.met.E.Edition.lawful c.args.self.now _ _ c.in_ok-standing.ensures c.post.ensures.answer _ c.from_residual-in_err-placed.ensures.1 c.in_err-placed.ensures

pub returns-in_err-write-clause-gated : goal.returns-in_err-write-clause-gated
returns-in_err-write-clause-gated g c =
    stops_store g.E.Edition g.met.E.Edition.lawful c.args.self.now _ _ c.in_ok-standing.ensures c.post.ensures.answer c.in_ok-placed.ensures
    _ c.from_residual-in_err-write.ensures.1 c.in_err-write.ensures.answer c.write.ensures.after

pub returns-clause-gated : goal.returns-clause-gated
returns-clause-gated g c =
    goes_through g.E.Edition g.met.E.Edition.lawful c.args.self.now _ _ c.in_ok-standing.ensures c.post.ensures.answer c.in_ok-placed.ensures
    c.post.ensures.after c.in_ok-write.ensures.answer c.write.ensures.after c.settle.ensures.edition c.settle.ensures.table
