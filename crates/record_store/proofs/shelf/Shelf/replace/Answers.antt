-- A record laid into the place of its slot.
use Rattle.std.proofs.Common.{rules, ◌<◌, length, refl, arith}
use Rattle.std.proofs.lemmas.List.{length-set}
use Rattle.record_store.specs.declared.places.Place.{Place}
use Rattle.record_store.specs.Contents.{contents}
use Rattle.record_store.proofs.Shelves.{sound_of, kept, laid_to, laid_sound, suits_again}
use Rattle.record_store.proofs.shelf.Shelf.replace.Goals as goal

pub bounds-self-at : goal.bounds-self-at
bounds-self-at g c = let s = c.args.self.now in omega (arith, s.in_use _ _ c.requires, s.within)

pub offset_bounds-self-at : goal.offset_bounds-self-at
offset_bounds-self-at g c =
    let s = c.args.self.now in
    let b : c.args.at < length s.places.now = omega (arith, s.in_use _ _ c.requires, s.within) in
    search rules

pub invariant_of-self : goal.invariant_of-self
invariant_of-self g c =
    let s = c.args.self.now in
    let k = c.args.key in
    let e : Place _ = record { hour = k.hour; slot = k.slot; content = c.args.content } in
    let new = laid_to (contents s) c.args.at e s.used in
    let f = kept new e (λ d. laid_sound d (contents s) (sound_of s d) c.args.at s.used e (suits_again d (contents s) (sound_of s d) e c.args.at k.hours k.slots c.requires)) in
    record {
      slots = simp length-set s.slots;
      within = simp length-set s.within;
      small = simp length-set s.small;
      in_use = rw c.index.ensures.number f.in_use;
      indexing = λ d. rw (c.index.ensures.number, c.place.ensures) (f.indexing d);
    }

pub returns : goal.returns
returns g c = rw (c.index.ensures.number, c.place.ensures) refl
