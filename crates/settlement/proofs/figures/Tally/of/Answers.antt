use Rattle.std.proofs.Common.{◌+◌, ◌<◌, length, Ok, sym, ap, ◌∙◌, subst, arith}
use Rattle.std.specs.List.{flat_map}
use Rattle.std.specs.Option.{option_to_list}
use Rattle.std.proofs.lemmas.List.{take_all}
use Rattle.std.proofs.lemmas.Result.{err_from_is_err_and}
use Rattle.settlement.specs.Rulings.{ruled}
use Rattle.settlement.specs.Limits.{interval_refusal, each_refusal}
use Rattle.settlement.specs.Standing.{tally_of}
use Rattle.settlement.proofs.Rulings.{ruled_ok, ruled_err}
use Rattle.settlement.proofs.Counting.{Counted, counted_none, counted_empty, counted_more, counted_refused}
use Rattle.settlement.proofs.figures.Tally.of.Goals as goal
use Rattle.settlement.proofs.figures.Tally.of.Goals.{in-Some+in_ok-check, in_default}

pub loop-record-init : goal.loop-record-init
loop-record-init c = counted_none c.args.records.now c.default-tally.result c.default-tally.ensures

pub returns-in_err-check : goal.returns-in_err-check
returns-in_err-check c =
    let xs = c.args.records.now in
    let k = c.loop-record.record-index in
    let p = err_from_is_err_and c.from_residual.result c.from_residual.ensures.1 in
    let bad = ruled_err (interval_refusal c.in-Some.interval) tt _ c.in_err-check.ensures in
    let at = counted_refused xs k c.loop-record.tally c.in-Some.interval _ (omega arith) c.in-Some.is bad c.loop-record.invariant in
    record { value = rw (p.1, p.2, at); slots = c.told-records }

pub count-requires : goal.count-requires
count-requires c =
    let room = c.loop-record.invariant.room in
    record {
      fair = (ruled_ok (interval_refusal c.in-Some.interval) tt _ c.in_ok-check.ensures).0;
      room = record { few = omega (arith, room.few); short = omega (arith, room.short); small = omega (arith, room.small) };
    }

pub loop-record-preserved : goal.loop-record-preserved
loop-record-preserved c =
    let xs = c.args.records.now in
    let k = c.loop-record.record-index in
    let l : k < length xs = omega arith in
    elim c.match-record.branch [
      | in-Some+in_ok-check w ↦
          let i = w.in-Some.interval in
          let fair = (ruled_ok (interval_refusal i) tt _ w.in_ok-check.ensures).0 in
          subst (Counted xs (k + 1)) (sym w.tally-is)
          (counted_more xs k c.loop-record.tally w.count.new.self i l w.in-Some.is fair c.loop-record.invariant w.count.ensures)
      | in_default w ↦ counted_empty xs k _ l w.in_default.is (subst (Counted xs k) (sym w.tally-is) c.loop-record.invariant)
    ]

pub returns : goal.returns
returns c =
    let xs = c.args.records.now in
    let all = take_all c.loop-record.record-index xs (omega arith) in
    record {
      value =
          ap Ok (c.loop-record.invariant.is ∙ ap (λ zs. tally_of (flat_map option_to_list zs)) all)
          ∙ ap (λ o. ruled o (tally_of (flat_map option_to_list xs))) (sym c.loop-record.invariant.passed ∙ ap (λ zs. each_refusal (flat_map option_to_list zs)) all);
      slots = c.told-records;
    }
