use Rattle.std.proofs.Common.{◌≡◌, length}
use Rattle.listing.specs.Listing.{laid}
use Rattle.listing.proofs.Whole.{as_far}
use Rattle.listing.proofs.listing.list.Given as goal

abbrev pub invariant-loop-hour : goal.invariant-loop-hour
invariant-loop-hour l = (l.at ≡ length (as_far l.table l.hour)) × (l.out ≡ laid (as_far l.table l.hour) l.initial.out)
