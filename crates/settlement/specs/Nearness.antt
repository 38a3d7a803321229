-- How near the amounts of a settled hour lie to the exact fractions, and how near its shared kW come to the reading.
-- Fractions are compared in whole numbers, both sides multiplied by 7,200,000 and by what the exact basis is divided by.
use Rattle.std.specs.Prelude.{◌≡◌, ℕ, ◌+◌, ◌*◌, ◌≤◌, Bool, false, cond, ℤ, pos, ◌+ℤ◌, ◌-ℤ◌, ◌*ℤ◌, Some, None, sum_by, Option, int_lt, unsigned_abs}
use Rattle.arithmetic.specs.Sums.{sum_ℤ}
use Rattle.settlement.specs.declared.figures.Interval.{Interval}
use Rattle.settlement.specs.declared.figures.Region.{Region}
use Rattle.settlement.specs.declared.figures.Schedule.{Schedule}
use Rattle.settlement.specs.declared.figures.Standing.{Standing}
use Rattle.settlement.specs.declared.figures.HourLine.{HourLine}
use Rattle.settlement.specs.declared.editions.Sign.{Sign}
use Rattle.settlement.specs.Editions.{Terms, scaled}
use Rattle.settlement.specs.Standing.{intervals, volume}
use Rattle.settlement.specs.Formulas.{settled_by, adjusted, basis, shown, hour_line}

-- Whether a reading is shared by the averages: something was read, and S is above 0.
abbrev pub by_averages : Option ℤ → ℤ → Bool
by_averages None s = false
by_averages (Some m) s = int_lt (pos 0) s

-- What the exact basis is divided by: S where a reading is shared by the averages, else 1.
abbrev pub divisor : Standing → ℕ
divisor h = cond (by_averages h.reading (volume h)) (unsigned_abs (volume h)) 1

-- What was read, or 0.
abbrev pub metered : Option ℤ → ℤ
metered None = pos 0
metered (Some m) = m

-- The exact basis of an interval, times that divisor: the edition's rule on 3,600 x average x reading with each limit
-- multiplied by S; and where no reading is shared by the averages, the basis itself.
abbrev pub exact_basis : Terms → Standing → Interval → ℤ
exact_basis e h i =
    cond (by_averages h.reading (volume h))
    (e.rule i.flags (pos 3600 *ℤ i.average *ℤ metered h.reading) (scaled (unsigned_abs (volume h)) i.limits))
    (basis e h i)

-- The exact amount of an interval at a price, in 7,200,000ths of a cent, times the divisor.
abbrev pub exact : Terms → Schedule → Standing → (Interval → ℤ) → Interval → ℤ
exact e g h price i =
    pos 2 *ℤ ((exact_basis e h i -ℤ pos (divisor h) *ℤ (g.generation +ℤ (i.transactions -ℤ g.transactions))) *ℤ (price i *ℤ pos i.seconds))

-- Half a cent and |price| x seconds / 7,200,000, in the same unit.
abbrev pub tolerance : Standing → (Interval → ℤ) → Interval → ℕ
tolerance h price i = divisor h * (3600000 + unsigned_abs (price i) * i.seconds)

-- An amount is as near to the exact one, summed over the hour, as the roundings allow.
abbrev pub Near : Terms → Schedule → Standing → (Interval → ℤ) → ℤ → Type 0
Near e g h price cents =
    unsigned_abs (pos (7200000 * divisor h) *ℤ cents -ℤ sum_ℤ (exact e g h price) (intervals h)) ≤ sum_by (tolerance h price) (intervals h)

-- The three amounts of a line, congestion at its price with the sign shown.
pub record NearLine (e : Terms) (g : Schedule) (h : Standing) (line : HourLine) : Type 0 where
  pub energy : Near e g h (λ i. i.prices.energy) line.balancing.energy
  pub loss : Near e g h (λ i. i.prices.loss) line.balancing.loss
  pub congestion : Near e g h (λ i. shown e.sign i.prices.congestion) line.balancing.congestion

-- So they are where a row settles the hour.
abbrev pub NearWhereSettled : Terms → Standing → HourLine → Type 0
NearWhereSettled e h line = (g : Schedule) → settled_by h ≡ Some g → NearLine e g h line

-- In a settled hour with a reading the shared kW x seconds add up to within 1,800 of 3,600 x the kWh read.
abbrev pub SharesReading : Standing → Type 0
SharesReading h =
    (g : Schedule) (m : ℤ) → settled_by h ≡ Some g → h.reading ≡ Some m
    → unsigned_abs (sum_ℤ (λ i. adjusted h i *ℤ pos i.seconds) (intervals h) -ℤ pos 3600 *ℤ m) ≤ 1800

-- The balancing total of a line is the same under every sign.
abbrev pub SignFree : Terms → Region → Standing → HourLine → Type 0
SignFree e r h line = (sign : Sign) → (hour_line (record { rule = e.rule; sign = sign }) r h).balancing.total ≡ line.balancing.total
