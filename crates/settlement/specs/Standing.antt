-- What stands in an hour: its intervals, their seconds, and what their averages come to.
use Rattle.std.specs.Prelude.{ℕ, ◌+◌, List, length, ℤ, pos, ◌+ℤ◌, ◌*ℤ◌, sum_by, Contains}
use Rattle.std.specs.List.{flat_map}
use Rattle.std.specs.Option.{option_to_list}
use Rattle.arithmetic.specs.Sums.{sum_ℤ}
use Rattle.settlement.specs.declared.figures.Interval.{Interval}
use Rattle.settlement.specs.declared.figures.Standing.{Standing}
use Rattle.settlement.specs.declared.figures.Tally.{Tally}

-- The intervals that stand in an hour, in the order of their slots.
abbrev pub intervals : Standing → List Interval
intervals h = flat_map option_to_list h.records

-- An interval stands in an hour.
abbrev pub StandsIn : Standing → Interval → Type 0
StandsIn h i = ∥ Contains (intervals h) i ∥₁

-- The seconds of some intervals.
abbrev pub seconds_of : List Interval → ℕ
seconds_of is = sum_by (λ i. i.seconds) is

-- What the averages of some intervals come to, in kW seconds.
abbrev pub volume_of : List Interval → ℤ
volume_of is = sum_ℤ (λ i. i.average *ℤ pos i.seconds) is

-- The standing seconds of an hour.
abbrev pub seconds : Standing → ℕ
seconds h = seconds_of (intervals h)

-- S: what the averages come to over an hour.
abbrev pub volume : Standing → ℤ
volume h = volume_of (intervals h)

-- How many intervals, their seconds and their volume.
abbrev pub tally_of : List Interval → Tally
tally_of is = record { intervals = length is; seconds = seconds_of is; volume = volume_of is }

-- A tally with one interval more.
abbrev pub with_interval : Tally → Interval → Tally
with_interval t i = record { intervals = t.intervals + 1; seconds = t.seconds + i.seconds; volume = t.volume +ℤ i.average *ℤ pos i.seconds }
