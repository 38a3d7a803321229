use Rattle.std.proofs.Common.{◌<◌, length, None, refl, ◌∙◌, arith, length-set}
use Rattle.settlement.proofs.Changing.{record_within, others_short}
use Rattle.settlement.proofs.hour.Hour.withdraw.Goals as goal

pub invariant_of-self : goal.invariant_of-self
invariant_of-self c =
    let hour = c.args.self.now in
    let h = hour.standing in
    let k = c.args.slot in
    let l : k < length h.records = omega (arith, hour.slots, c.if-slot-ge24.false) in record { slots = length-set h.records k None ∙ hour.slots; within = record_within h k None l hour.within refl (others_short h k l hour.within); tallied = c.without-counted.ensures }
