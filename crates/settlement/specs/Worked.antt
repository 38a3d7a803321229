-- Worked figures: what the formulas give for the operator's own examples, and for a few small ones.
use Rattle.std.specs.Prelude.{◌≡◌, ℕ, [], ◌∷◌, ℤ, pos, negsuc, ◌-ℤ◌, ◌*ℤ◌, Some, None}
use Rattle.arithmetic.specs.Sums.{sum_ℤ}
use Rattle.settlement.specs.declared.figures.Amounts.{Amounts}
use Rattle.settlement.specs.declared.figures.Interval.{Interval}
use Rattle.settlement.specs.declared.figures.Limits.{Limits}
use Rattle.settlement.specs.declared.figures.Prices.{Prices}
use Rattle.settlement.specs.declared.figures.Standing.{Standing}
use Rattle.settlement.specs.declared.editions.Sign.{Sign}
use Rattle.settlement.specs.Editions.{newer, older}
use Rattle.settlement.specs.Standing.{intervals}
use Rattle.settlement.specs.Formulas.{adjusted, amount, amounts, shown, day_ahead}

-- The parts of a price.
abbrev pub prices : ℤ → ℤ → ℤ → Prices
prices energy loss congestion = record { energy = energy; loss = loss; congestion = congestion }

-- The amounts of one interval and their total.
abbrev pub balanced : Sign → ℤ → Prices → ℕ → Amounts
balanced sign kw p seconds = amounts sign (amount kw p.energy seconds) (amount kw p.loss seconds) (shown sign (amount kw p.congestion seconds))

-- What amounts should come to.
abbrev pub gives : ℤ → ℤ → ℤ → ℤ → Amounts
gives energy loss congestion total = record { energy = energy; loss = loss; congestion = congestion; total = total }

-- An interval of half an hour with some average output.
abbrev pub half_hour : ℤ → Interval
half_hour average =
    record {
      seconds = 1800;
      flags = 0;
      average = average;
      limits = record { rtd = pos 0; agc = pos 0; energy = pos 0 };
      transactions = pos 0;
      spin = pos 0;
      prices = prices (pos 0) (pos 0) (pos 0);
      reserve = record { east = pos 0; west = pos 0 };
    }

-- An hour of two such intervals and a reading.
abbrev pub two_halves : ℤ → ℤ → ℤ → Standing
two_halves a b reading = record { schedule = None; reading = Some reading; records = Some (half_hour a) ∷ Some (half_hour b) ∷ [] }

-- The limits of an interval under operator intervention.
abbrev pub intervention : ℤ → Limits
intervention basepoint = record { rtd = basepoint; agc = pos 0; energy = pos 0 }

-- The worked figures, each by what it shows.
pub record WorkedFigures : Type 0 where
  -- 50 MW at $25.25, $3.06 and -$5.49: $1,262.50, $153.00 and $274.50, in all $1,690.00
  pub sold_the_day_before :
      day_ahead (record { generation = pos 50000; transactions = pos 0; spin = pos 0; prices = prices (pos 2525) (pos 306) (negsuc 548) })
      ≡ gives (pos 126250) (pos 15300) (pos 27450) (pos 169000)
  -- 15 MW over five minutes at $33.65, $1.72 and nothing: $42.06 and $2.15, in all $44.21
  pub balanced_five_minutes : balanced newer.sign (pos 15000) (prices (pos 3365) (pos 172) (pos 0)) 300 ≡ gives (pos 4206) (pos 215) (pos 0) (pos 4421)
  -- 32 MW over five minutes at $917.89, $90.87 and -$4.49: congestion is shown negated by the newer edition
  pub congestion_negated : balanced newer.sign (pos 32000) (prices (pos 91789) (pos 9087) (negsuc 448)) 300 ≡ gives (pos 244771) (pos 24232) (pos 1197) (pos 270200)
  -- and as priced by the older, with the same total
  pub congestion_as_priced : balanced older.sign (pos 32000) (prices (pos 91789) (pos 9087) (negsuc 448)) 300 ≡ gives (pos 244771) (pos 24232) (negsuc 1196) (pos 270200)
  -- averages of 10 and 20 kW and a reading of 16 kWh: 10.67 and 21.33 kW, rounded
  pub shared_by_averages : (adjusted (two_halves (pos 10) (pos 20) (pos 16)) (half_hour (pos 10)) ≡ pos 11) × (adjusted (two_halves (pos 10) (pos 20) (pos 16)) (half_hour (pos 20)) ≡ pos 21)
  -- averages of 1 and 3 kW and a reading of 3 kWh: both halves are rounded up, and miss the reading by as much as is allowed
  pub shared_with_halves : (adjusted (two_halves (pos 1) (pos 3) (pos 3)) (half_hour (pos 1)) ≡ pos 2) × (adjusted (two_halves (pos 1) (pos 3) (pos 3)) (half_hour (pos 3)) ≡ pos 5)
  pub shared_against_reading :
      (sum_ℤ (λ i. adjusted (two_halves (pos 1) (pos 3) (pos 3)) i *ℤ pos i.seconds) (intervals (two_halves (pos 1) (pos 3) (pos 3))) ≡ pos 12600) × (pos 3600 *ℤ pos 3 ≡ pos 10800)
  -- operator intervention with a basepoint of -40: the newer edition takes it, the older raises it to 0
  pub basepoint_below_zero : newer.rule 32 (pos 7) (intervention (negsuc 39)) ≡ negsuc 39
  pub basepoint_raised : older.rule 32 (pos 7) (intervention (negsuc 39)) ≡ pos 0
  -- 3 MW of reserve against 5 MW scheduled, at $4.00 over five minutes
  pub reserve_fallen_short : amount (pos 3000 -ℤ pos 5000) (pos 400) 300 ≡ negsuc 66
