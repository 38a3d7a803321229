use Rattle.std.proofs.Common.{◌≡◌, take}
use Rattle.book.specs.Lines.{day_of}
use Rattle.statement.proofs.day.added_up.Given as goal

-- The line of the rows so far.
abbrev pub invariant-loop-row : goal.invariant-loop-row
invariant-loop-row l = l.day ≡ day_of (take l.row-index l.rows)
