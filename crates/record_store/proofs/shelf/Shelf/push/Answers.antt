-- A record laid into the next place.
use Rattle.std.proofs.Common.{◌+◌, ◌<◌, length, refl, arith}
use Rattle.std.proofs.lemmas.List.{length-set}
use Rattle.record_store.specs.declared.places.Place.{Place}
use Rattle.record_store.specs.Contents.{contents}
use Rattle.record_store.proofs.Shelves.{sound_of, kept, laid_to, laid_sound, suits_next}
use Rattle.record_store.proofs.shelf.Shelf.push.Goals as goal

pub invariant_of-self : goal.invariant_of-self
invariant_of-self g c =
    let s = c.args.self.now in
    let k = c.args.key in
    let e : Place _ = record { hour = k.hour; slot = k.slot; content = c.args.content } in
    let room : s.used < length s.places.now = omega (arith, c.if-used-capacity.false, c.used.ensures, c.capacity.ensures) in
    let new = laid_to (contents s) s.used e (s.used + 1) in
    let f = kept new e (λ d. laid_sound d (contents s) (sound_of s d) s.used (s.used + 1) e (suits_next d (contents s) (sound_of s d) e k.hours k.slots room)) in
    record {
      slots = simp length-set s.slots;
      within = simp length-set (omega (arith, room));
      small = simp length-set s.small;
      in_use = rw c.index.ensures.number f.in_use;
      indexing = λ d. rw (c.index.ensures.number, c.place.ensures) (f.indexing d);
    }

pub returns-clause-laid : goal.returns-clause-laid
returns-clause-laid g c = (omega (arith, c.if-used-capacity.false, c.used.ensures, c.capacity.ensures), rw (c.index.ensures.number, c.place.ensures) refl)
