use Rattle.settlement.proofs.Counting.{Counted}
use Rattle.settlement.proofs.figures.Tally.of.Given as goal

abbrev pub invariant-loop-record : goal.invariant-loop-record
invariant-loop-record l = Counted l.records l.record-index l.tally
