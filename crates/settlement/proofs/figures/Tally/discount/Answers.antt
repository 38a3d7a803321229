use Rattle.std.proofs.Common.{◌≡◌, ◌+◌, ◌-◌, ℤ, ◌+ℤ◌, ◌-ℤ◌, arith, lit<, w64}
use borrow.Author.Differences.{ints}
use Rattle.arithmetic.proofs.Machine.{fits, back}
use Rattle.settlement.proofs.Ranges.{sound}
use Rattle.settlement.proofs.Volumes.{energy_held, removed}
use Rattle.settlement.proofs.figures.Tally.discount.Goals as goal

-- What is taken away and put back changes nothing.
put_back : (v w x : ℤ) → w ≡ v -ℤ x → v ≡ w +ℤ x
put_back v w x e = omega (arith, ints)

pub overflow_mul-self : goal.overflow_mul-self
overflow_mul-self c = fits w64 (energy_held c.args.interval.now (sound _ c.requires.fair)) (lit< tt)

pub overflow_sub-self-3 : goal.overflow_sub-self-3
overflow_sub-self-3 c = fits w64 (removed c.args.self.now.volume c.args.interval.now c.requires.room.small (sound _ c.requires.fair)) (lit< tt)

pub returns : goal.returns
returns c =
    let t = c.args.self.now in
    let i = c.args.interval.now in
    let n : t.intervals ≡ t.intervals - 1 + 1 = omega (arith, c.requires.few) in
    let s : t.seconds ≡ t.seconds - i.seconds + i.seconds = omega (arith, c.requires.short) in
    let v = put_back t.volume _ _ (back w64 (removed t.volume i c.requires.room.small (sound _ c.requires.fair)) (lit< tt)).is in
    λ k. record { intervals = n k; seconds = s k; volume = v k }
