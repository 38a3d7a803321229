use Rattle.statement.proofs.Asking.{figures_stop, figures_told}
use Rattle.statement.proofs.statement.Statement.figures.Goals as goal

pub returns-in_err-standing : goal.returns-in_err-standing
returns-in_err-standing g c =
    figures_stop g.E.Edition g.met.E.Edition.lawful c.args.self.now _ _ _ _ c.from_residual.ensures.1 c.in_err-standing.ensures

pub returns : goal.returns
returns g c =
    figures_told g.E.Edition g.met.E.Edition.lawful c.args.self.now _ _ _ c.in_ok-standing.ensures c.figures.ensures c.placed.ensures
