use Rattle.day_run.proofs.Noting.{noting_none, noting_more, noting_all}
use Rattle.day_run.proofs.entries.run_entries.Goals as goal

pub loop-number-init : goal.loop-number-init
loop-number-init g c = noting_none _ _ _

pub loop-number-preserved : goal.loop-number-preserved
loop-number-preserved g c = noting_more _ _ _ _ _ c.loop-number.number _ _ _ c.loop-number-test.true c.note.ensures.after c.in_ok-note.ensures.page c.loop-number.invariant

pub returns : goal.returns
returns g c = noting_all _ _ _ _ _ c.loop-number.number c.loop-number-test.false c.loop-number.invariant
