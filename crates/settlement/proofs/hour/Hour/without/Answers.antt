use Rattle.std.proofs.Common.{◌<◌, length, ap, arith}
use Rattle.arithmetic.proofs.Sums.{standing_has}
use Rattle.settlement.specs.declared.figures.Tally.{Tally}
use Rattle.settlement.proofs.Changing.{slot_cleared, tally_small, seconds_part}
use Rattle.settlement.proofs.Within.{within, fair_one}
use Rattle.settlement.proofs.hour.Hour.without.Goals as goal

pub discount-requires : goal.discount-requires
discount-requires c =
    let hour = c.args.self.now in
    let h = hour.standing in
    let w = within h hour.within in
    let i = c.in-Some.interval in
    let one = standing_has h.records c.args.slot i (omega (arith, hour.slots, c.requires)) c.in-Some.is in
    let small = tally_small h.records hour.counted hour.slots w.fair hour.tallied in
    let part = seconds_part h i one in
    record {
      fair = fair_one h i w ∣ one ∣₁;
      few = omega (arith, ap (λ (t : Tally). t.intervals) hour.tallied, one.1);
      short = omega (arith, ap (λ (t : Tally). t.seconds) hour.tallied, part);
      room = small;
    }

pub returns-in-Some : goal.returns-in-Some
returns-in-Some c =
    let hour = c.args.self.now in
    let l : c.args.slot < length hour.standing.records = omega (arith, hour.slots, c.requires) in
    slot_cleared hour.standing.records c.args.slot l c.in-Some.interval hour.counted c.discount.new.self c.in-Some.is hour.tallied
    c.discount.ensures
