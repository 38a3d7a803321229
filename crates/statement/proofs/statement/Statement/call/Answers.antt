use Rattle.std.proofs.lemmas.Result.{err_from_is_err_and}
use Rattle.statement.proofs.statement.Statement.call.Goals as goal

pub returns-in_err-hour_line-in-AskHour-clause-gated : goal.returns-in_err-hour_line-in-AskHour-clause-gated
returns-in_err-hour_line-in-AskHour-clause-gated g c =
    let q = err_from_is_err_and c.from_residual-in_err-hour_line-in-AskHour.result c.from_residual-in_err-hour_line-in-AskHour.ensures.1 in
    rw (c.in-AskHour.is, q.1, q.2) (c.in_err-hour_line-in-AskHour.ensures _)

pub returns-in_ok-hour_line-in-AskHour-clause-gated : goal.returns-in_ok-hour_line-in-AskHour-clause-gated
returns-in_ok-hour_line-in-AskHour-clause-gated g c = rw c.in-AskHour.is (c.in_ok-hour_line-in-AskHour.ensures _)

pub returns-in-AskDay-clause-gated : goal.returns-in-AskDay-clause-gated
returns-in-AskDay-clause-gated g c = rw c.in-AskDay.is (c.day_line.ensures _)
