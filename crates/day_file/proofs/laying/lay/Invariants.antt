use Rattle.std.proofs.Common.{◌≡◌, ◌*◌, take}
use Rattle.std.specs.List.{flat_map, All}
use Rattle.day_file.proofs.laying.lay.Given as goal

-- The first i items are laid.
abbrev pub invariant-loop-i : goal.invariant-loop-i
invariant-loop-i g l = record { laid : take (g.row.N * l.i) l.out ≡ flat_map g.T.Laid.laid (take l.i l.items); fit : All g.T.Laid.Fits (take l.i l.items) }
