use Rattle.book.specs.declared.figures.Row.{Row}
use Rattle.statement.proofs.Settling.{row_within}
use Rattle.statement.proofs.statement.Statement.settle.Goals as goal

pub rewrite-requires-clause-within : goal.rewrite-requires-clause-within
rewrite-requires-clause-within g c =
    let row : Row = record { schedule = c.scheduled.result; reading = c.reading.result; line = c.line.result } in
    row_within c.args.standing.now.standing row c.args.standing.now.within c.scheduled.ensures c.reading.ensures
