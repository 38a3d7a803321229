use Rattle.std.proofs.Common.{◌+◌, lit<, w64}
use Rattle.arithmetic.proofs.Machine.{fits, back}
use Rattle.settlement.proofs.Ranges.{sound}
use Rattle.settlement.proofs.Volumes.{energy_held, added}
use Rattle.settlement.proofs.figures.Tally.count.Goals as goal

pub overflow_mul-self : goal.overflow_mul-self
overflow_mul-self c = fits w64 (energy_held c.args.interval.now (sound _ c.requires.fair)) (lit< tt)

pub overflow_add-self-3 : goal.overflow_add-self-3
overflow_add-self-3 c = fits w64 (added c.args.self.now.volume c.args.interval.now c.requires.room.small (sound _ c.requires.fair)) (lit< tt)

pub returns : goal.returns
returns c =
    let v = back w64 (added c.args.self.now.volume c.args.interval.now c.requires.room.small (sound _ c.requires.fair)) (lit< tt) in
    λ k. record { intervals = c.args.self.now.intervals + 1; seconds = c.args.self.now.seconds + c.args.interval.now.seconds; volume = v.is k }
