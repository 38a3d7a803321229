use Rattle.std.proofs.Common.{◌≡◌, ◌≤◌, true, leb, Some, None, Ok, sym, ap, ◌∙◌, arith, w32, SFits, to_z, of_z, rules}
use Rattle.std.proofs.lemmas.Int.{to_z-of_z}
use Rattle.std.proofs.lemmas.Bool.{le-leb}
use Rattle.std.proofs.lemmas.Result.{err_from_is_err_and}
use Rattle.settlement.specs.declared.figures.Standing.{Standing}
use Rattle.settlement.specs.declared.figures.Tally.{Tally}
use Rattle.settlement.specs.Rulings.{optional, ruled}
use Rattle.settlement.specs.Limits.{schedule_refusal, reading_refusal, each_refusal, records_refusal}
use Rattle.settlement.specs.Standing.{intervals, seconds, tally_of}
use Rattle.settlement.proofs.Rulings.{ruled_ok, ruled_err}
use Rattle.settlement.proofs.figures.Standing.tally.Goals as goal
use Rattle.settlement.proofs.figures.Standing.tally.Goals.{in-Some+in_ok-check, in_default}

-- Records that were counted in at most 3,600 seconds break no limit.
counted : (h : Standing) (t : Tally) → Ok t ≡ ruled (each_refusal (intervals h)) (tally_of (intervals h)) → t.seconds ≤ 3600 → records_refusal h ≡ None
counted h t e l =
    let p = ruled_ok (each_refusal (intervals h)) (tally_of (intervals h)) t e in
    let full : leb (seconds h) 3600 ≡ true = le-leb (seconds h) 3600 (omega (arith, ap (λ (t : Tally). t.seconds) p.1, l)) in
    rw (p.0, full)

pub returns-in_err-check-clause-value : goal.returns-in_err-check-clause-value
returns-in_err-check-clause-value c =
    let records = counted c.args.self.now _ c.in_ok-tally.ensures.value (omega (arith, c.if-tally-gt3600.false)) in
    let bad = ruled_err (schedule_refusal c.in-Some.row) tt _ c.in_err-check.ensures in
    let q = err_from_is_err_and c.from_residual-in_err-check.result c.from_residual-in_err-check.ensures.1 in
    rw (q.1, q.2, records, c.in-Some.is, bad)

pub returns-in_err-check_reading-clause-value : goal.returns-in_err-check_reading-clause-value
returns-in_err-check_reading-clause-value c =
    let h = c.args.self.now in
    let records = counted h _ c.in_ok-tally.ensures.value (omega (arith, c.if-tally-gt3600.false)) in
    let row : optional schedule_refusal h.schedule ≡ None =
    elim c.match-self.branch [
      | in-Some+in_ok-check w ↦ ap (optional schedule_refusal) w.in-Some.is ∙ (ruled_ok (schedule_refusal w.in-Some.row) tt _ w.in_ok-check.ensures).0
      | in_default w ↦ ap (optional schedule_refusal) w.in_default.is
    ] in
    let kwh = c.in-Some-reading.kwh in
    let f : SFits w32 kwh = search rules in
    let bad : reading_refusal kwh ≡ Some c.in_err-check_reading.field-0.0 =
    ap reading_refusal (sym (to_z-of_z w32 kwh f)) ∙ ruled_err (reading_refusal (to_z w32 (of_z w32 kwh))) tt _ c.in_err-check_reading.ensures in
    let q = err_from_is_err_and c.from_residual-in_err-check_reading.result c.from_residual-in_err-check_reading.ensures.1 in
    rw (q.1, q.2, records, row, c.in-Some-reading.is, bad)
