use Rattle.std.proofs.Common.{◌≡◌, ◌+◌, ◌*◌, ◌≤◌, length}
use Rattle.listing.proofs.Whole.{as_far}
use Rattle.listing.proofs.listing.listing_length.Given as goal

abbrev pub invariant-loop-hour : goal.invariant-loop-hour
invariant-loop-hour l = (l.needed ≡ length (as_far l.table l.hour)) × (l.needed ≤ 55 + 160 * l.hour)
