-- A record laid into the place of its slot.
use Rattle.record_store.proofs.Pools.{becomes, replaced}
use Rattle.record_store.proofs.pool.Pool.replace.Goals as goal

pub invariant_of-self : goal.invariant_of-self
invariant_of-self c = record { once = (becomes _ _ _ c.replace.ensures (replaced c.args.self.now c.args.key c.args.at c.args.interval.now c.requires)).once }

pub returns : goal.returns
returns c = (becomes _ _ _ c.replace.ensures (replaced c.args.self.now c.args.key c.args.at c.args.interval.now c.requires)).means
