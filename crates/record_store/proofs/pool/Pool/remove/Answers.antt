-- The last record laid into the place of the one that goes.
use Rattle.record_store.proofs.Pools.{some_place, becomes, reduced}
use Rattle.record_store.proofs.pool.Pool.remove.Goals as goal

pub invariant_of-self : goal.invariant_of-self
invariant_of-self c = record { once = λ d. (becomes _ _ _ (c.remove.ensures d) (reduced c.args.self.now c.args.key d c.args.at c.requires)).once d }

pub returns : goal.returns
returns c = (becomes _ _ _ (c.remove.ensures some_place) (reduced c.args.self.now c.args.key some_place c.args.at c.requires)).means
