-- Adding up the lines of a day.
use Rattle.std.specs.Prelude.{ℕ, ◌+◌, ◌*◌, ◌^◌, ◌≤◌, Bool, ◌&&◌, ◌+ℤ◌, unsigned_abs}
use Rattle.settlement.specs.declared.figures.Amounts.{Amounts}
use Rattle.settlement.specs.declared.figures.HourLine.{HourLine}
use Rattle.settlement.specs.Bounds.{is_small_line, is_short_line}
use Rattle.book.specs.declared.figures.DayLine.{DayLine}
use Rattle.book.specs.Lines.{settled_one}

-- A line that a day has room for: of no more intervals and seconds than an hour has, and of small figures.
abbrev pub is_day_part : HourLine → Bool
is_day_part l = is_short_line l && is_small_line l

-- Amounts no larger than those of n hours can be.
pub record AmountsRoom (a : Amounts) (n : ℕ) : Type 0 where
  pub energy : unsigned_abs a.energy ≤ n * 2 ^ 47
  pub loss : unsigned_abs a.loss ≤ n * 2 ^ 47
  pub congestion : unsigned_abs a.congestion ≤ n * 2 ^ 47
  pub total : unsigned_abs a.total ≤ n * 2 ^ 47

-- A day's line no larger than that of n hours can be.
pub record DayRoom (d : DayLine) (n : ℕ) : Type 0 where
  pub settled : d.settled ≤ n
  pub intervals : d.intervals ≤ n * 24
  pub seconds : d.seconds ≤ n * 3600
  pub ahead : AmountsRoom d.ahead n
  pub balance : unsigned_abs d.balance ≤ n * 2 ^ 47
  pub balancing : AmountsRoom d.balancing n
  pub spin : unsigned_abs d.spin ≤ n * 2 ^ 47
  pub total : unsigned_abs d.total ≤ n * 2 ^ 47

-- Amounts added to amounts.
abbrev pub amounts_plus : Amounts → Amounts → Amounts
amounts_plus a b = record { energy = a.energy +ℤ b.energy; loss = a.loss +ℤ b.loss; congestion = a.congestion +ℤ b.congestion; total = a.total +ℤ b.total }

-- An hour's line added to a day's.
abbrev pub day_plus : DayLine → HourLine → DayLine
day_plus d l =
    record {
      settled = d.settled + settled_one l.state;
      intervals = d.intervals + l.intervals;
      seconds = d.seconds + l.seconds;
      ahead = amounts_plus d.ahead l.ahead;
      balance = d.balance +ℤ l.balance;
      balancing = amounts_plus d.balancing l.balancing;
      spin = d.spin +ℤ l.spin;
      total = d.total +ℤ l.total;
    }
