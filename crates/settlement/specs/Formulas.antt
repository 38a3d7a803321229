-- The formulas of an hour, over whole numbers.
use Rattle.std.specs.Prelude.{ℕ, cond, List, length, ℤ, pos, ◌+ℤ◌, ◌-ℤ◌, ◌*ℤ◌, neg_ℤ, Some, None, Ok, Err, Option, Result, ◌==◌, int_lt, nat_lt, slice_index_or, unsigned_abs}
use Rattle.arithmetic.specs.Rounding.{nearest}
use Rattle.arithmetic.specs.Sums.{sum_ℤ}
use Rattle.settlement.specs.declared.figures.Interval.{Interval}
use Rattle.settlement.specs.declared.figures.IntervalFigures.{IntervalFigures}
use Rattle.settlement.specs.declared.figures.Schedule.{Schedule}
use Rattle.settlement.specs.declared.figures.SpinPrices.{SpinPrices}
use Rattle.settlement.specs.declared.figures.Standing.{Standing}
use Rattle.settlement.specs.declared.figures.Sums.{Sums}
use Rattle.settlement.specs.declared.figures.Amounts.{Amounts}
use Rattle.settlement.specs.declared.figures.HourLine.{HourLine}
use Rattle.settlement.specs.declared.figures.State.{State}
use Rattle.settlement.specs.declared.figures.State.TheVariants.{Settled, Unsettled}
use Rattle.settlement.specs.declared.figures.Region.{Region}
use Rattle.settlement.specs.declared.figures.Region.TheVariants.{East, West}
use Rattle.settlement.specs.declared.editions.Sign.{Sign}
use Rattle.settlement.specs.declared.editions.Sign.TheVariants.{Plus, Minus}
use Rattle.settlement.specs.declared.limits.Refusal.{Refusal}
use Rattle.settlement.specs.declared.limits.Refusal.TheVariants.{Slot, Nothing, Unsettled}
use Rattle.settlement.specs.Editions.{Terms}
use Rattle.settlement.specs.Standing.{intervals, seconds, volume}

-- The row by which an hour is settled: its schedule row, where its standing seconds add up to 3,600.
abbrev pub settled_by : Standing → Option Schedule
settled_by h = cond (seconds h == 3600) h.schedule None

-- The kW that fall to an interval of some average output, by the reading and by S: the average itself where nothing was
-- read; else its part of the reading by its part in S; and the reading itself where S is 0.
abbrev pub share : Option ℤ → ℤ → ℤ → ℤ
share None s average = average
share (Some m) s average = cond (int_lt (pos 0) s) (nearest (pos 3600 *ℤ average *ℤ m) (unsigned_abs s)) m

-- The adjusted energy of an interval, in kW.
abbrev pub adjusted : Standing → Interval → ℤ
adjusted h i = share h.reading (volume h) i.average

-- The kW from which an interval is balanced.
abbrev pub basis : Terms → Standing → Interval → ℤ
basis e h i = e.rule i.flags (adjusted h i) i.limits

-- What is due beyond the schedule, with the change in transactions set off.
abbrev pub balance : Terms → Schedule → Standing → Interval → ℤ
balance e g h i = basis e h i -ℤ g.generation -ℤ (i.transactions -ℤ g.transactions)

-- What some kW over some seconds come to at a price, in cents: 3,600,000 kW seconds are a MWh.
abbrev pub amount : ℤ → ℤ → ℕ → ℤ
amount kw price seconds = nearest (kw *ℤ price *ℤ pos seconds) 3600000

-- A number with the sign with which it is shown.
abbrev pub shown : Sign → ℤ → ℤ
shown Plus z = z
shown Minus z = neg_ℤ z

-- The price of reserve in a region.
abbrev pub spin_price : Region → SpinPrices → ℤ
spin_price East p = p.east
spin_price West p = p.west

-- What an interval comes to, in an hour that a row settles.
abbrev pub figures : Terms → Region → Schedule → Standing → Interval → IntervalFigures
figures e r g h i =
    record {
      adjusted = adjusted h i;
      basis = basis e h i;
      balance = balance e g h i;
      energy = amount (balance e g h i) i.prices.energy i.seconds;
      loss = amount (balance e g h i) i.prices.loss i.seconds;
      congestion = shown e.sign (amount (balance e g h i) i.prices.congestion i.seconds);
      spin = amount (i.spin -ℤ g.spin) (spin_price r i.reserve) i.seconds;
    }

-- What some intervals come to together.
abbrev pub sums : Terms → Region → Schedule → Standing → List Interval → Sums
sums e r g h is =
    record {
      balance = sum_ℤ (λ i. (figures e r g h i).balance *ℤ pos i.seconds) is;
      energy = sum_ℤ (λ i. (figures e r g h i).energy) is;
      loss = sum_ℤ (λ i. (figures e r g h i).loss) is;
      congestion = sum_ℤ (λ i. (figures e r g h i).congestion) is;
      spin = sum_ℤ (λ i. (figures e r g h i).spin) is;
    }

-- Sums with the figures of one interval more, of some seconds.
abbrev pub with_figures : Sums → ℕ → IntervalFigures → Sums
with_figures s seconds f =
    record {
      balance = s.balance +ℤ f.balance *ℤ pos seconds;
      energy = s.energy +ℤ f.energy;
      loss = s.loss +ℤ f.loss;
      congestion = s.congestion +ℤ f.congestion;
      spin = s.spin +ℤ f.spin;
    }

-- What no intervals come to.
abbrev pub no_sums : Sums
no_sums = record { balance = pos 0; energy = pos 0; loss = pos 0; congestion = pos 0; spin = pos 0 }

-- What an hour's intervals come to: nothing where it is not settled.
abbrev pub settled_sums : Terms → Region → Standing → Option Schedule → Sums
settled_sums e r h None = no_sums
settled_sums e r h (Some g) = sums e r g h (intervals h)

-- Amounts with their total: congestion counts against the station, whatever the sign with which it is shown.
abbrev pub amounts : Sign → ℤ → ℤ → ℤ → Amounts
amounts sign energy loss congestion =
    record { energy = energy; loss = loss; congestion = congestion; total = energy +ℤ loss -ℤ shown sign congestion }

-- What was sold the day before comes to at a price, in cents: 1,000 kW are a MW.
abbrev pub sold : Schedule → ℤ → ℤ
sold g price = nearest ((g.generation -ℤ g.transactions) *ℤ price) 1000

-- What a schedule row comes to, congestion negated.
abbrev pub day_ahead : Schedule → Amounts
day_ahead g = amounts Minus (sold g g.prices.energy) (sold g g.prices.loss) (neg_ℤ (sold g g.prices.congestion))

-- The same of an hour, and nothing where it has no row.
abbrev pub ahead : Option Schedule → Amounts
ahead None = amounts Minus (pos 0) (pos 0) (pos 0)
ahead (Some g) = day_ahead g

-- Whether a row settles the hour.
abbrev pub state : Option Schedule → State
state None = Unsettled
state (Some g) = Settled

-- An hour's line, from what its intervals come to.
abbrev pub line_of : Sign → Standing → Sums → HourLine
line_of sign h s =
    record {
      state = state (settled_by h);
      intervals = length (intervals h);
      seconds = seconds h;
      ahead = ahead h.schedule;
      balance = s.balance;
      balancing = amounts sign s.energy s.loss s.congestion;
      spin = s.spin;
      total = (ahead h.schedule).total +ℤ (amounts sign s.energy s.loss s.congestion).total +ℤ s.spin;
    }

-- An hour's line under an edition, in a region.
abbrev pub hour_line : Terms → Region → Standing → HourLine
hour_line e r h = line_of e.sign h (settled_sums e r h (settled_by h))

-- The figures of a record that may stand, in an hour that a row may settle.
abbrev pub figures_of : Terms → Region → Standing → Option Schedule → Option Interval → Result IntervalFigures Refusal
figures_of e r h row None = Err Nothing
figures_of e r h None (Some i) = Err Unsettled
figures_of e r h (Some g) (Some i) = Ok (figures e r g h i)

-- The figures of the interval in a slot: refused for a slot above 23, where nothing stands, and where the hour is not settled.
abbrev pub figures_at : Terms → Region → Standing → ℕ → Result IntervalFigures Refusal
figures_at e r h slot = cond (nat_lt slot 24) (figures_of e r h (settled_by h) (slice_index_or h.records slot None)) (Err Slot)
