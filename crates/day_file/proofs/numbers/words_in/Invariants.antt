use Rattle.std.proofs.Common.{◌≡◌, ◌*◌, length, take, w32, SFits}
use Rattle.std.specs.List.{All}
use Rattle.day_file.specs.Numbers.{words}
use Rattle.day_file.proofs.numbers.words_in.Given as goal

-- The first k numbers are read.
abbrev pub invariant-loop-k : goal.invariant-loop-k
invariant-loop-k g l = record { size : length l.number-items ≡ g.row.N; read : words (take l.k l.number-items) ≡ take (4 * l.k) l.bytes; fit : All (SFits w32) l.number-items }
