use Rattle.statement.specs.Accounts.{account}
use Rattle.statement.proofs.Running.{Running}
use Rattle.statement.proofs.statement.Statement.run.Given as goal

abbrev pub invariant-loop-entry : goal.invariant-loop-entry
invariant-loop-entry g l =
    Running (account g.E.Edition g.S.Store l.initial.self l.initial.store) l.initial.entry-items (account g.E.Edition g.S.Store l.self l.store) l.entry-items l.entry-index
