use Rattle.std.proofs.Common.{is_some, refl, ap}
use Rattle.std.proofs.lemmas.Result.{err_from_is_err_and}
use Rattle.settlement.specs.Limits.{hour_refusal}
use Rattle.settlement.specs.Standing.{intervals, tally_of}
use Rattle.settlement.proofs.Rulings.{ruled_ok, ruled_err}
use Rattle.settlement.proofs.hour.Hour.new.Goals as goal

pub returns-in_err-counted : goal.returns-in_err-counted
returns-in_err-counted c =
    let h = c.args.standing in
    let bad = ruled_err (hour_refusal h) (tally_of (intervals h)) _ c.in_err-counted.ensures.value in
    let q = err_from_is_err_and c.from_residual.result c.from_residual.ensures.1 in
    rw (q.1, q.2) bad

pub invariant_of-result : goal.invariant_of-result
invariant_of-result c =
    let h = c.args.standing in
    let p = ruled_ok (hour_refusal h) (tally_of (intervals h)) _ c.in_ok-counted.ensures.value in
    record { slots = c.in_ok-counted.ensures.slots; within = ap is_some p.0; tallied = p.1 }

pub returns : goal.returns
returns c =
    let h = c.args.standing in
    let p = ruled_ok (hour_refusal h) (tally_of (intervals h)) _ c.in_ok-counted.ensures.value in
    (p.0, refl)
