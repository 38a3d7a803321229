-- What is known where an interval is settled.
use Rattle.settlement.specs.declared.figures.Interval.{Interval}
use Rattle.settlement.specs.declared.figures.Schedule.{Schedule}
use Rattle.settlement.specs.declared.hour.settling.Settling.{Settling}
use Rattle.settlement.proofs.Ranges.{Sound, Sold, sold}
use Rattle.settlement.proofs.Within.{within, row_fair, sound_one}

-- The row and the interval are within their limits.
pub record Settles (g : Schedule) (i : Interval) : Type 0 where
  pub row : Sold g
  pub interval : Sound i

pub settling : {E : Type 0} (s : Settling E) → Settles s.row.now s.interval.now
settling s =
    let h = s.hour.now.standing in
    let w = within h s.hour.now.within in
    record { row = sold s.row.now (row_fair h s.row.now w s.sold); interval = sound_one h s.interval.now w s.stands }
