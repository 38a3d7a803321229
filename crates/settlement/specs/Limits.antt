-- The limits of the figures, which of them is broken first, and the number of each refusal.
use Rattle.std.specs.Prelude.{ℕ, Bool, not, ◌&&◌, ◌||◌, List, [], ◌∷◌, ℤ, pos, negsuc, None, Option, ◌==◌, bit_and, int_le, nat_le}
use Rattle.settlement.specs.declared.figures.Interval.{Interval}
use Rattle.settlement.specs.declared.figures.Schedule.{Schedule}
use Rattle.settlement.specs.declared.figures.Prices.{Prices}
use Rattle.settlement.specs.declared.figures.Limits.{Limits}
use Rattle.settlement.specs.declared.figures.Standing.{Standing}
use Rattle.settlement.specs.Rulings.{unless, first, optional}
use Rattle.settlement.specs.Standing.{intervals, seconds}
use Rattle.settlement.specs.declared.limits.Refusal.{Refusal}
use Rattle.settlement.specs.declared.limits.Refusal.TheVariants.{Slot, Seconds, Flags, Power, Price, Overfull, Nothing, Reading, Unsettled}

-- The number of each refusal.
abbrev pub number : Refusal → ℕ
number Slot = 6
number Seconds = 7
number Flags = 8
number Power = 9
number Price = 10
number Overfull = 11
number Nothing = 13
number Reading = 14
number Unsettled = 15

-- x lies from low to high.
abbrev pub between : ℤ → ℤ → ℤ → Bool
between low high x = int_le low x && int_le x high

-- An output, a transaction, a reserve or a reading.
abbrev pub fits_power : ℤ → Bool
fits_power x = between (pos 0) (pos 2000000) x

-- A basepoint or an energy limit, which may be negative.
abbrev pub fits_basepoint : ℤ → Bool
fits_basepoint x = between (negsuc 1999999) (pos 2000000) x

-- A price.
abbrev pub fits_price : ℤ → Bool
fits_price x = between (negsuc 999999) (pos 1000000) x

-- The three parts of a price.
abbrev pub fits_prices : Prices → Bool
fits_prices p = fits_price p.energy && fits_price p.loss && fits_price p.congestion

-- Whether a flag is one of those that make up a sum of flags.
abbrev pub has_flag : ℕ → ℕ → Bool
has_flag flags flag = not (bit_and flags flag == 0)

-- The flags are 1 to 64; wind output limited (16) goes with wind (8) only.
abbrev pub fits_flags : ℕ → Bool
fits_flags f = nat_le f 127 && (not (has_flag f 16) || has_flag f 8)

-- The two basepoints and the energy limit.
abbrev pub fits_limits : Limits → Bool
fits_limits l = fits_basepoint l.rtd && fits_basepoint l.agc && fits_basepoint l.energy

-- An interval lasts from 6 seconds to an hour.
abbrev pub fits_length : ℕ → Bool
fits_length seconds = nat_le 6 seconds && nat_le seconds 3600

-- The powers of a record.
abbrev pub fits_powers : Interval → Bool
fits_powers i = fits_power i.average && fits_limits i.limits && fits_power i.transactions && fits_power i.spin

-- The prices of a record.
abbrev pub fits_real_time_prices : Interval → Bool
fits_real_time_prices i = fits_prices i.prices && fits_price i.reserve.east && fits_price i.reserve.west

-- The first limit that a record breaks.
abbrev pub interval_refusal : Interval → Option Refusal
interval_refusal i =
    unless (fits_length i.seconds) Seconds
    (unless (fits_flags i.flags) Flags
    (unless (fits_powers i) Power
    (unless (fits_real_time_prices i) Price None)))

-- The powers of a schedule row.
abbrev pub fits_sold : Schedule → Bool
fits_sold g = fits_power g.generation && fits_power g.transactions && fits_power g.spin

-- The first limit that a schedule row breaks.
abbrev pub schedule_refusal : Schedule → Option Refusal
schedule_refusal g = unless (fits_sold g) Power (unless (fits_prices g.prices) Price None)

-- The limit that a reading breaks.
abbrev pub reading_refusal : ℤ → Option Refusal
reading_refusal m = unless (fits_power m) Reading None

-- The first limit that one of some records breaks.
unfoldable pub each_refusal : List Interval → Option Refusal
each_refusal [] = None
each_refusal (i ∷ is) = first (interval_refusal i) (each_refusal is)

-- The first limit that the records of an hour break: record by record, then the seconds of the hour.
abbrev pub records_refusal : Standing → Option Refusal
records_refusal h = first (each_refusal (intervals h)) (unless (nat_le (seconds h) 3600) Overfull None)

-- The first limit that the figures of an hour break: its records, then the schedule row, then the reading.
abbrev pub hour_refusal : Standing → Option Refusal
hour_refusal h =
    first (records_refusal h) (first (optional schedule_refusal h.schedule) (optional reading_refusal h.reading))
