-- What an interval adds to a tally of an hour, as the code holds it.
use Rattle.std.proofs.Common.{◌*◌, ◌≤◌, ℤ, pos, ◌+ℤ◌, ◌-ℤ◌, ◌*ℤ◌, nat_abs, lit<, w64, to_z, of_z}
use Rattle.arithmetic.proofs.Machine.{Holds, natural, back, figure, wide, plus, minus, times}
use Rattle.settlement.specs.declared.figures.Interval.{Interval}
use Rattle.settlement.proofs.Ranges.{Sound}
use Rattle.settlement.proofs.Terms.{power_held}

-- The code's term of average x seconds.
abbrev pub energy : Interval → ℤ
energy i = wide i.average *ℤ to_z w64 i.seconds

pub energy_held : (i : Interval) → Sound i → Holds (energy i) (i.average *ℤ pos i.seconds) 7200000000
energy_held i s = times (power_held i.average s.average.size) (natural w64 i.seconds 3600 s.most (lit< tt))

module _ (v : ℤ) (i : Interval) (h : nat_abs v ≤ 24 * 7200000000) (s : Sound i) where
  pub added : Holds (to_z w64 (of_z w64 v) +ℤ to_z w64 (of_z w64 (energy i))) (v +ℤ i.average *ℤ pos i.seconds) (25 * 7200000000)
  added = plus (figure w64 v h (lit< tt)) (back w64 (energy_held i s) (lit< tt))

  pub removed : Holds (to_z w64 (of_z w64 v) -ℤ to_z w64 (of_z w64 (energy i))) (v -ℤ i.average *ℤ pos i.seconds) (25 * 7200000000)
  removed = minus (figure w64 v h (lit< tt)) (back w64 (energy_held i s) (lit< tt))
