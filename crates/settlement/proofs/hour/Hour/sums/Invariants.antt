use Rattle.settlement.proofs.Summing.{Summed}
use Rattle.settlement.proofs.hour.Hour.sums.Given as goal

abbrev pub invariant-loop-record : goal.invariant-loop-record
invariant-loop-record g l = Summed (g.E.Edition.terms l.edition) l.region l.row l.self.standing l.record-index l.sums
