-- The lines of a listing below its heading.
use Rattle.std.specs.Prelude.{ℕ, List, [], ◌∷◌, Some, None, codes, decimal, Option}
use Rattle.settlement.specs.declared.figures.Schedule.{Schedule}
use Rattle.settlement.specs.declared.figures.State.{State}
use Rattle.settlement.specs.declared.figures.State.TheVariants.{Unsettled, Settled}
use Rattle.book.specs.declared.figures.DayLine.{DayLine}
use Rattle.book.specs.declared.figures.Row.{Row}
use Rattle.listing.specs.Columns.{columns, figures}
use Rattle.listing.specs.Fields.{line_of}

-- U for an unsettled hour, and S for a settled one.
abbrev pub state_letter : State → ℕ
state_letter Unsettled = 85
state_letter Settled = 83

-- A text where there is a schedule, and none where there is not.
abbrev pub where_sold : Option Schedule → List ℕ → List ℕ
where_sold None text = []
where_sold (Some schedule) text = text

-- The row of an hour: its number, its state and its figures.
abbrev pub hour_row : ℕ → Row → List ℕ
hour_row hour row = where_sold row.schedule (line_of (decimal hour ∷ (state_letter row.line.state ∷ []) ∷ figures (columns row.line.ahead row.line.balancing row.line.spin row.line.total)))

-- The row of the day: its name, how many hours are settled, and its figures.
abbrev pub day_row : DayLine → List ℕ
day_row day = line_of (codes "DAY" ∷ decimal day.settled ∷ figures (columns day.ahead day.balancing day.spin day.total))
