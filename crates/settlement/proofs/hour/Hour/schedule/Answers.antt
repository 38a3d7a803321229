use Rattle.std.proofs.Common.{sym, ap}
use Rattle.settlement.specs.Limits.{schedule_refusal}
use Rattle.settlement.specs.Rulings.{changed}
use Rattle.settlement.specs.Changes.{with_row}
use Rattle.settlement.proofs.Changing.{row_within}
use Rattle.settlement.proofs.Rulings.{ruled_ok, ruled_err}
use Rattle.settlement.proofs.hour.Hour.schedule.Goals as goal

pub invariant_of-self : goal.invariant_of-self
invariant_of-self c =
    let hour = c.args.self.now in
    let row = c.args.row.now in
    let fair = (ruled_ok (schedule_refusal row) tt _ c.in_ok-check.ensures).0 in
    record { slots = hour.slots; within = row_within hour.standing row hour.within fair; tallied = hour.tallied }

pub returns-in_err-check-clause-after : goal.returns-in_err-check-clause-after
returns-in_err-check-clause-after c =
    let h = c.args.self.now.standing in
    let row = c.args.row.now in
    sym (ap (λ o. changed o (with_row h row) h) (ruled_err (schedule_refusal row) tt _ c.in_err-check.ensures))
