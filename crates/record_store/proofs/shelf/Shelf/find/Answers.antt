-- The index names a place exactly where something is held.
use Rattle.std.proofs.Common.{◌∙◌, None, is_some, slice_index_or, ap, refl}
use Rattle.record_store.specs.Contents.{contents}
use Rattle.record_store.proofs.Shelves.{sound_of, held_where_named}
use Rattle.record_store.proofs.shelf.Shelf.find.Goals as goal

pub returns : goal.returns
returns g c =
    let s = c.args.self.now in
    let k = c.args.key in
    let e = ap (λ i. slice_index_or s.index i None) c.index.ensures.number in
    record { place = e; kept = ap is_some e ∙ held_where_named (contents s) (sound_of s) s.within s.in_use k.hour k.slot _ k.hours k.slots refl }
