use Rattle.std.proofs.Common.{vec_items}
use Rattle.day_file.proofs.Files.{SoFar}
use Rattle.day_file.proofs.reading.read_calls.Given as goal

abbrev pub invariant-loop-i : goal.invariant-loop-i
invariant-loop-i l = SoFar l.bytes l.entries l.i (vec_items l.calls)
