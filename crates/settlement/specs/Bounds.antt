-- How large the figures of an hour can be, and those of its line: so small that those of a day add up without overflow.
use Rattle.std.specs.Prelude.{ℕ, ◌*◌, ◌^◌, ◌≤◌, Bool, ◌&&◌, ℤ, nat_le, unsigned_abs}
use Rattle.settlement.specs.declared.figures.Amounts.{Amounts}
use Rattle.settlement.specs.declared.figures.HourLine.{HourLine}
use Rattle.settlement.specs.declared.figures.IntervalFigures.{IntervalFigures}
use Rattle.settlement.specs.declared.figures.Sums.{Sums}
use Rattle.settlement.specs.declared.figures.Tally.{Tally}

-- A tally of at most n intervals: each of at most 3,600 seconds, at an average of at most 2,000,000 kW.
pub record TallyWithin (n : ℕ) (t : Tally) : Type 0 where
  pub few : t.intervals ≤ n
  pub short : t.seconds ≤ n * 3600
  pub small : unsigned_abs t.volume ≤ n * 7200000000

-- What an interval can come to: a balance in kW, and amounts in cents at the largest price over an hour.
pub record FiguresWithin (f : IntervalFigures) : Type 0 where
  pub balance : unsigned_abs f.balance ≤ 1206000000
  pub energy : unsigned_abs f.energy ≤ 1206000000000
  pub loss : unsigned_abs f.loss ≤ 1206000000000
  pub congestion : unsigned_abs f.congestion ≤ 1206000000000
  pub spin : unsigned_abs f.spin ≤ 1206000000000

-- What n intervals can come to together: their balances in kW seconds, and their amounts.
pub record SumsWithin (n : ℕ) (s : Sums) : Type 0 where
  pub balance : unsigned_abs s.balance ≤ n * 4341600000000
  pub energy : unsigned_abs s.energy ≤ n * 1206000000000
  pub loss : unsigned_abs s.loss ≤ n * 1206000000000
  pub congestion : unsigned_abs s.congestion ≤ n * 1206000000000
  pub spin : unsigned_abs s.spin ≤ n * 1206000000000

-- A figure of at most 2 ^ 47 in size.
abbrev pub is_small : ℤ → Bool
is_small z = nat_le (unsigned_abs z) (2 ^ 47)

-- Amounts that are all small.
abbrev pub is_small_amounts : Amounts → Bool
is_small_amounts a = is_small a.energy && is_small a.loss && is_small a.congestion && is_small a.total

-- A line of which every figure is small.
abbrev pub is_small_line : HourLine → Bool
is_small_line l = is_small_amounts l.ahead && is_small l.balance && is_small_amounts l.balancing && is_small l.spin && is_small l.total

-- A line of at most 24 intervals and 3,600 seconds.
abbrev pub is_short_line : HourLine → Bool
is_short_line l = nat_le l.intervals 24 && nat_le l.seconds 3600
