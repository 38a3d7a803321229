use Rattle.std.proofs.Common.{arith}
use Rattle.book.proofs.Laws.{gated_all}
use Rattle.statement.specs.Accounts.{account}
use Rattle.statement.proofs.Forming.{formed}
use Rattle.statement.proofs.Running.{run_none, run_more, run_all}
use Rattle.statement.proofs.statement.Statement.run.Goals as goal

pub loop-entry-init : goal.loop-entry-init
loop-entry-init g c = run_none (account g.E.Edition g.S.Store c.args.self.now c.args.store.now) c.args.log.now

pub loop-entry-preserved : goal.loop-entry-preserved
loop-entry-preserved g c = run_more _ _ _ _ _ _ _ _ (omega arith) c.call-entry.ensures.gated.goes c.loop-entry.invariant

pub returns : goal.returns
returns g c =
    let inv = c.loop-entry.invariant in
    let long = c.loop-entry.auto.entry-items in
    let all = run_all _ _ _ c.loop-entry.entry-items c.loop-entry.entry-index (omega arith) inv in
    record { calls = inv.same; gated = gated_all _ _ _ _ (formed g.E.Edition c.args.self.now _ (g.met.E.Edition.lawful _)) all.0 all.1 }
