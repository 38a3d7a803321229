-- What the index names is what is held.
use Rattle.std.proofs.Common.{rules, ◌<◌, length, Some, sym, ◌∙◌, arith}
use Rattle.record_store.specs.Contents.{contents}
use Rattle.record_store.proofs.Shelves.{sound_of, held_none, reads_at}
use Rattle.record_store.proofs.shelf.Shelf.get.Goals as goal

pub returns-in_err-at : goal.returns-in_err-at
returns-in_err-at g c =
    let s = c.args.self.now in
    let k = c.args.key in
    c.from_residual.ensures ∙ sym (held_none (contents s) (sound_of s) k.hour k.slot k.hours k.slots (sym c.find.ensures.place ∙ c.in_err-at.was))

pub bounds-self-at : goal.bounds-self-at
bounds-self-at g c = let s = c.args.self.now in omega (arith, s.in_use _ _ (sym c.find.ensures.place ∙ c.in_ok-at.was), s.within)

pub offset_bounds-self-at : goal.offset_bounds-self-at
offset_bounds-self-at g c =
    let s = c.args.self.now in
    let b : c.in_ok-at.at < length s.places.now = omega (arith, s.in_use _ _ (sym c.find.ensures.place ∙ c.in_ok-at.was), s.within) in
    search rules

pub returns : goal.returns
returns g c =
    let s = c.args.self.now in
    let k = c.args.key in
    let d = c.index-self-at.result in
    sym (reads_at d (contents s) (sound_of s d) k.hour k.slot (Some c.in_ok-at.at) k.hours k.slots (sym c.find.ensures.place ∙ c.in_ok-at.was))
