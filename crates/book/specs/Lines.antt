-- The rows of a day, and the day's line.
use Rattle.std.specs.Prelude.{ℕ, List, map, pos, None, sum_by, Option, slice_index_or, slice_set}
use Rattle.std.specs.List.{range_with_len}
use Rattle.arithmetic.specs.Sums.{sum_ℤ}
use Rattle.settlement.specs.declared.figures.Amounts.{Amounts}
use Rattle.settlement.specs.declared.figures.Region.{Region}
use Rattle.settlement.specs.declared.figures.Standing.{Standing}
use Rattle.settlement.specs.declared.figures.State.{State}
use Rattle.settlement.specs.declared.figures.State.TheVariants.{Unsettled, Settled}
use Rattle.settlement.specs.declared.limits.Refusal.{Refusal}
use Rattle.settlement.specs.Editions.{Terms}
use Rattle.settlement.specs.Formulas.{hour_line}
use Rattle.settlement.specs.Limits.{schedule_refusal, reading_refusal}
use Rattle.settlement.specs.Rulings.{first, optional}
use Rattle.book.specs.declared.figures.DayLine.{DayLine}
use Rattle.book.specs.declared.figures.Row.{Row}
use Rattle.book.specs.declared.figures.Table.{Table}

-- The row of an hour, from what stands for it.
abbrev pub row_of : Terms → Region → Standing → Row
row_of e r h = record { schedule = h.schedule; reading = h.reading; line = hour_line e r h }

-- The rows of the hours 0 to 24.
unfoldable pub rows_of : (ℕ → Row) → List Row
rows_of row = map row (range_with_len 0 25)

-- One for a settled hour.
abbrev pub settled_one : State → ℕ
settled_one Unsettled = 0
settled_one Settled = 1

-- Amounts of rows, added up.
abbrev pub amounts_of : (Row → Amounts) → List Row → Amounts
amounts_of of rows =
    record {
      energy = sum_ℤ (λ r. (of r).energy) rows;
      loss = sum_ℤ (λ r. (of r).loss) rows;
      congestion = sum_ℤ (λ r. (of r).congestion) rows;
      total = sum_ℤ (λ r. (of r).total) rows;
    }

-- The day's line: every figure of the rows' lines added up, and the settled hours counted.
abbrev pub day_of : List Row → DayLine
day_of rows =
    record {
      settled = sum_by (λ r. settled_one r.line.state) rows;
      intervals = sum_by (λ r. r.line.intervals) rows;
      seconds = sum_by (λ r. r.line.seconds) rows;
      ahead = amounts_of (λ r. r.line.ahead) rows;
      balance = sum_ℤ (λ r. r.line.balance) rows;
      balancing = amounts_of (λ r. r.line.balancing) rows;
      spin = sum_ℤ (λ r. r.line.spin) rows;
      total = sum_ℤ (λ r. r.line.total) rows;
    }

-- A table from its rows.
abbrev pub table_of : ℕ → Region → List Row → Table
table_of hours region rows = record { hours = hours; region = region; rows = rows; day = day_of rows }

-- A row of which nothing is known.
abbrev pub no_row : Row
no_row =
    record {
      schedule = None;
      reading = None;
      line =
          record {
            state = Unsettled;
            intervals = 0;
            seconds = 0;
            ahead = record { energy = pos 0; loss = pos 0; congestion = pos 0; total = pos 0 };
            balance = pos 0;
            balancing = record { energy = pos 0; loss = pos 0; congestion = pos 0; total = pos 0 };
            spin = pos 0;
            total = pos 0;
          };
    }

-- The row of an hour.
abbrev pub row_at : Table → ℕ → Row
row_at t hour = slice_index_or t.rows hour no_row

-- The first limit that the schedule and the reading of a row break.
abbrev pub row_refusal : Row → Option Refusal
row_refusal r = first (optional schedule_refusal r.schedule) (optional reading_refusal r.reading)

-- One row rewritten, and the day's line with it.
abbrev pub rewritten : Table → ℕ → Row → Table
rewritten t hour row = table_of t.hours t.region (slice_set t.rows hour row)
