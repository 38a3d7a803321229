-- The last record laid into the place of the one that goes.
use Rattle.std.proofs.Common.{rules, ◌<◌, ◌-◌, length, subst, arith}
use Rattle.std.proofs.lemmas.List.{length-set}
use Rattle.record_store.specs.Contents.{contents}
use Rattle.record_store.specs.Shelves.{removed}
use Rattle.record_store.proofs.Shelves.{Sound, sound_of, kept}
use Rattle.record_store.proofs.Removing.{indexed, same_removed, left_sound}
use Rattle.record_store.proofs.shelf.Shelf.remove.Goals as goal

pub overflow_sub-last : goal.overflow_sub-last
overflow_sub-last g c = omega (arith, c.args.self.now.in_use _ _ c.requires.here)

pub bounds-self-self : goal.bounds-self-self
bounds-self-self g c = let s = c.args.self.now in omega (arith, s.in_use _ _ c.requires.here, s.within)

pub bounds-self-at : goal.bounds-self-at
bounds-self-at g c = let s = c.args.self.now in omega (arith, s.in_use _ _ c.requires.here, s.within)

pub offset_bounds-self-at : goal.offset_bounds-self-at
offset_bounds-self-at g c =
    let s = c.args.self.now in
    let b : c.args.at < length s.places.now = omega (arith, s.in_use _ _ c.requires.here, s.within) in
    search rules

pub overflow_sub-self : goal.overflow_sub-self
overflow_sub-self g c = omega (arith, c.args.self.now.in_use _ _ c.requires.here)

-- The last place in use is of a slot that a store has.
pub invariant_of-moved : goal.invariant_of-moved
invariant_of-moved g c =
    let s = c.args.self.now in
    let r = (s.indexing c.index-self-self.result).ranged (s.used - 1) (omega (arith, s.in_use _ _ c.requires.here)) in
    record { hours = r.0; slots = r.1 }

pub invariant_of-self : goal.invariant_of-self
invariant_of-self g c =
    let s = c.args.self.now in
    let k = c.args.key in
    let some = c.index-self-self.result in
    let f = kept (removed some (contents s) c.args.at k.hour k.slot) some (λ d.
    subst (Sound d) (same_removed (contents s) d some c.args.at k.hour k.slot (s.in_use _ _ c.requires.here) s.within)
    (left_sound d (contents s) (sound_of s d) (indexed d (contents s) (sound_of s d) (c.requires.once d)) k.hour k.slot c.args.at k.hours k.slots c.requires.here)) in
    record {
      slots = simp (length-set, length-set) s.slots;
      within = simp length-set (omega (arith, s.within));
      small = simp length-set s.small;
      in_use = rw (c.index.ensures.number, c.index-2.ensures.number) f.in_use;
      indexing = λ d. rw (c.index.ensures.number, c.index-2.ensures.number) (f.indexing d);
    }

pub returns : goal.returns
returns g c d =
    let s = c.args.self.now in
    let k = c.args.key in
    rw (c.index.ensures.number, c.index-2.ensures.number) (same_removed (contents s) c.index-self-self.result d c.args.at k.hour k.slot (s.in_use _ _ c.requires.here) s.within)
