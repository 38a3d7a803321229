-- Which days have a file.
use Rattle.std.specs.Prelude.{◌^◌, ◌<◌, ◌≤◌, List, length, FitsSigned}
use Rattle.std.specs.Int.{w32}
use Rattle.std.specs.List.{All}
use Rattle.settlement.specs.declared.figures.Interval.{Interval}
use Rattle.book.specs.declared.calls.Change.{Change}
use Rattle.book.specs.declared.calls.Change.TheVariants.{Scheduled, Posted, Withdrawn, Read, Unread}
use Rattle.day_file.specs.declared.day.Header.{Header}
use Rattle.day_file.specs.Encode.{key, row_figures, record_figures}

-- The numbers of a record are such as their types have.
abbrev pub FitRecord : Interval → Type 0
FitRecord v = (v.seconds < 2 ^ 16) × (v.flags < 2 ^ 8) × All (FitsSigned w32) (record_figures v)

-- Hour and slot are bytes.
abbrev pub FitKey : Change → Type 0
FitKey c = All (λ b. b < 2 ^ 8) (key c)

-- The figures of a call are such as their types have. They may lie outside the limits of a statement.
abbrev pub FitFigures : Change → Type 0
FitFigures (Scheduled hour row) = All (FitsSigned w32) (row_figures row)
FitFigures (Posted hour slot interval) = FitRecord interval
FitFigures (Withdrawn hour slot) = Unit {0}
FitFigures (Read hour kwh) = FitsSigned w32 kwh
FitFigures (Unread hour) = Unit {0}

-- A call all of whose numbers are such as their types have.
abbrev pub Fit : Change → Type 0
Fit c = FitKey c × FitFigures c

-- 23 to 25 hours, one of two editions, one of two regions, and at most 1,000 calls.
pub record Valid (h : Header) (calls : List Change) : Type 0 where
  pub shortest : 23 ≤ h.hours
  pub longest : h.hours ≤ 25
  pub editions : h.edition ≤ 1
  pub regions : h.region ≤ 1
  pub few : length calls ≤ 1000
  pub fit : All Fit calls
