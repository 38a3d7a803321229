-- What is read slot by slot is the hour.
use Rattle.std.proofs.Common.{None, arith}
use Rattle.std.proofs.lemmas.List.FromFn.{fill_by_all}
use Rattle.record_store.specs.Meaning.{hour_records}
use Rattle.record_store.proofs.store.Store.hour.Goals as goal

pub returns : goal.returns
unfolding hour_records
returns g c =
    fill_by_all ((g.Self.Store.means c.args.self.now).standing c.args.hour) c.loop-slot.record-items 24 None c.loop-slot.invariant.0
    (λ k h. c.loop-slot.invariant.1 k (omega arith))
