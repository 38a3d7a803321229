use Rattle.std.proofs.Common.{◌≡◌, ℕ, ◌+◌, ◌<◌, ◌≤◌, true, false, ltb, leb, length, Some, None, refl, ap, ◌∙◌, arith, length-set}
use Rattle.std.proofs.lemmas.Result.{err_from_is_err_and}
use Rattle.std.proofs.lemmas.Bool.{lt-ltb, le-leb, lt-leb}
use Rattle.settlement.specs.declared.figures.Interval.{Interval}
use Rattle.settlement.specs.declared.figures.Standing.{Standing}
use Rattle.settlement.specs.declared.figures.Tally.{Tally}
use Rattle.settlement.specs.Changes.{with_record, others}
use Rattle.settlement.specs.Limits.{interval_refusal}
use Rattle.settlement.specs.Standing.{intervals, tally_of, seconds, with_interval}
use Rattle.settlement.proofs.Changing.{record_within, slot_filled, tally_small, fair_around}
use Rattle.settlement.proofs.Rulings.{ruled_ok, ruled_err}
use Rattle.settlement.proofs.Within.{within}
use Rattle.settlement.proofs.hour.Hour.post.Goals as goal

-- What is counted with the new record: its seconds are those of the other slots and its own.
counted_seconds : (h : Standing) (k : ℕ) (i : Interval) (t u : Tally) → t ≡ tally_of (intervals (with_record h k None)) → u ≡ with_interval t i → u.seconds ≡ others h k + i.seconds
counted_seconds h k i t u e a = ap (λ (u : Tally). u.seconds) a ∙ ap (λ (t : Tally). t.seconds + i.seconds) e

pub count-requires : goal.count-requires
count-requires c =
    let hour = c.args.self.now in
    let h = hour.standing in
    let k = c.args.slot in
    let l : k < length h.records = omega (arith, hour.slots, c.if-slot-ge24.false) in
    let fair = fair_around h.records k None l (within h hour.within).fair refl in
    let small = tally_small (with_record h k None).records _ (length-set h.records k None ∙ hour.slots) fair c.without-counted.ensures in
    record { fair = (ruled_ok (interval_refusal c.args.interval.now) tt _ c.in_ok-check.ensures).0; room = small }

pub returns-in_err-check : goal.returns-in_err-check
returns-in_err-check c =
    let in_range : ltb c.args.slot 24 ≡ true = lt-ltb c.args.slot 24 c.if-slot-ge24.false in
    let bad = ruled_err (interval_refusal c.args.interval.now) tt _ c.in_err-check.ensures in
    let q = err_from_is_err_and c.from_residual.result c.from_residual.ensures.1 in
    record { answer = rw (q.1, q.2, in_range, bad); after = rw (in_range, bad) }

pub returns-then-counted-gt3600 : goal.returns-then-counted-gt3600
returns-then-counted-gt3600 c =
    let h = c.args.self.now.standing in
    let k = c.args.slot in
    let i = c.args.interval.now in
    let in_range : ltb k 24 ≡ true = lt-ltb k 24 c.if-slot-ge24.false in
    let fair = (ruled_ok (interval_refusal i) tt _ c.in_ok-check.ensures).0 in
    let s = counted_seconds h k i _ _ c.without-counted.ensures c.count.ensures in
    let full : leb (others h k + i.seconds) 3600 ≡ false = lt-leb _ 3600 (omega (arith, s, c.if-counted-gt3600.true)) in
    record { answer = rw (in_range, fair, full); after = rw (in_range, fair, full) }

pub invariant_of-self : goal.invariant_of-self
invariant_of-self c =
    let hour = c.args.self.now in
    let h = hour.standing in
    let k = c.args.slot in
    let i = c.args.interval.now in
    let l : k < length h.records = omega (arith, hour.slots, c.if-slot-ge24.false) in
    let fair = (ruled_ok (interval_refusal i) tt _ c.in_ok-check.ensures).0 in
    let tallied = slot_filled h.records k l i _ _ c.without-counted.ensures c.count.ensures in
    let short : seconds (with_record h k (Some i)) ≤ 3600 = omega (arith, ap (λ (t : Tally). t.seconds) tallied, c.if-counted-gt3600.false) in
    record { slots = length-set h.records k (Some i) ∙ hour.slots; within = record_within h k (Some i) l hour.within fair short; tallied = tallied }

pub returns : goal.returns
returns c =
    let h = c.args.self.now.standing in
    let k = c.args.slot in
    let i = c.args.interval.now in
    let in_range : ltb k 24 ≡ true = lt-ltb k 24 c.if-slot-ge24.false in
    let fair = (ruled_ok (interval_refusal i) tt _ c.in_ok-check.ensures).0 in
    let s = counted_seconds h k i _ _ c.without-counted.ensures c.count.ensures in
    let room : leb (others h k + i.seconds) 3600 ≡ true = le-leb _ 3600 (omega (arith, s, c.if-counted-gt3600.false)) in
    record { answer = rw (in_range, fair, room); after = rw (in_range, fair, room) }
