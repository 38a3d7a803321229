use Rattle.statement.specs.Accounts.{account}
use Rattle.statement.proofs.Forming.{formed}
use Rattle.day_run.proofs.Showing.{shown}
use Rattle.day_run.proofs.pages.page_under.Goals as goal

pub returns : goal.returns
returns g c =
    let opened = c.in_ok-statement.statement in
    let closed = c.run_entries.new.statement in
    let a = account g.E.Edition g.S.Store opened c.args.store.now in
    let b = account g.E.Edition g.S.Store closed c.run_entries.new.store in
    shown (g.E.Edition.terms c.args.edition) c.args.header.now _ c.args.changes.now a b _ _ _ _ c.in_ok-statement.ensures (formed g.E.Edition opened _ (g.met.E.Edition.lawful _)) closed.sheet.rows c.new-page.ensures.items
    c.in_ok-run_entries.ensures c.lock.ensures c.in_ok-list_onto.ensures
