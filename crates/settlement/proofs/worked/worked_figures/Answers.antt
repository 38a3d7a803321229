use Rattle.std.proofs.Common.{refl}
use Rattle.arithmetic.specs.Rounding.{half_up}
use Rattle.arithmetic.specs.Sums.{sum_ℤ}
use Rattle.settlement.proofs.worked.worked_figures.Goals as goal

pub returns : goal.returns
unfolding half_up sum_ℤ
returns c =
    record {
      sold_the_day_before = refl;
      balanced_five_minutes = refl;
      congestion_negated = refl;
      congestion_as_priced = refl;
      shared_by_averages = (refl, refl);
      shared_with_halves = (refl, refl);
      shared_against_reading = (refl, refl);
      basepoint_below_zero = refl;
      basepoint_raised = refl;
      reserve_fallen_short = refl;
    }
