-- A record laid into the next place.
use Rattle.record_store.specs.Contents.{contents}
use Rattle.record_store.proofs.Pools.{adds, same_refused}
use Rattle.record_store.proofs.pool.Pool.add.Goals as goal

pub invariant_of-self : goal.invariant_of-self
invariant_of-self c = record { once = (adds c.args.self.now c.args.key c.args.interval.now c.push.result (contents c.push.new.self) c.requires c.push.ensures.laid).once }

pub returns-clause-answer : goal.returns-clause-answer
returns-clause-answer c = (adds c.args.self.now c.args.key c.args.interval.now c.push.result (contents c.push.new.self) c.requires c.push.ensures.laid).answer

pub returns-clause-after : goal.returns-clause-after
returns-clause-after c = (adds c.args.self.now c.args.key c.args.interval.now c.push.result (contents c.push.new.self) c.requires c.push.ensures.laid).means

pub returns-clause-kept : goal.returns-clause-kept
returns-clause-kept c = same_refused c.args.self.now c.push.new.self _ c.push.result c.push.ensures.kept
