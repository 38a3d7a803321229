use Rattle.std.proofs.Common.{vec_items}
use Rattle.statement.specs.Accounts.{account}
use Rattle.day_run.proofs.Noting.{Noting}
use Rattle.day_run.proofs.entries.run_entries.Given as goal

abbrev pub invariant-loop-number : goal.invariant-loop-number
invariant-loop-number g l =
    Noting (account g.E.Edition g.S.Store l.initial.statement l.initial.store) (vec_items l.initial.page) l.changes (account g.E.Edition g.S.Store l.statement l.store) (vec_items l.page) l.number
