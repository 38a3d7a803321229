-- What the index names is what is held.
use Rattle.std.proofs.Common.{Some, sym, ◌∙◌}
use Rattle.record_store.specs.Contents.{contents}
use Rattle.record_store.specs.Meaning.{bounded}
use Rattle.record_store.specs.Shelves.{held}
use Rattle.record_store.proofs.Shelves.{sound_of, reads_at}
use Rattle.record_store.proofs.pool.PoolStore.read.Goals as goal

pub returns : goal.returns
returns c =
    let s = c.args.self.now.shelf in
    let k = c.in-Ok.key in
    let f = c.in-Ok.ensures in
    sym (reads_at _ (contents s) (sound_of s _) k.hour k.slot (Some c.in_ok-at.at) k.hours k.slots (sym c.find.ensures.place ∙ c.in_ok-at.was))
    ∙ (λ i. bounded (held (contents s)) (f.1 i) (f.2 i))
