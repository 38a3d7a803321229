use Rattle.std.proofs.Common.{refl}
use Rattle.listing.specs.Listing.{heading}
use Rattle.listing.proofs.listing.heading.Goals as goal

pub returns : goal.returns
unfolding heading
returns c = refl
