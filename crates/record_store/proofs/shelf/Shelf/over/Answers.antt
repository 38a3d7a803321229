-- An index that names no place.
use Rattle.std.proofs.Common.{take, arith, refl}
use Rattle.std.proofs.lemmas.List.{length-take-le}
use Rattle.record_store.proofs.Shelves.{new_in_use, new_indexing}
use Rattle.record_store.proofs.shelf.Shelf.over.Goals as goal

pub invariant_of-result : goal.invariant_of-result
invariant_of-result g c =
    let places = c.args.places.now in
    let n = c.capacity-capacity.result in
    let e = c.capacity-capacity.ensures in
    record { slots = refl; within = omega arith; small = omega (arith, length-take-le n places e.least, e.most); in_use = new_in_use (take n places); indexing = λ d. new_indexing d (take n places) }
