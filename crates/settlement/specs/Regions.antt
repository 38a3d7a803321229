-- The numbers by which the regions go.
use Rattle.std.specs.Prelude.{◌≡◌, ℕ, ◌<◌, Result, MatchResult}
use Rattle.settlement.specs.declared.figures.Region.{Region}
use Rattle.settlement.specs.declared.figures.Region.TheVariants.{East, West}
use Rattle.settlement.specs.declared.figures.UnknownRegion.{UnknownRegion}

-- The number of each region.
abbrev pub region_number : Region → ℕ
region_number East = 0
region_number West = 1

-- The region of a number, or an error with a number above those of the regions.
abbrev pub NamesRegion : ℕ → Result Region UnknownRegion → Type 0
NamesRegion number r = MatchResult r (λ region. region_number region ≡ number) (λ e. (e.0 ≡ number) × (1 < number))
