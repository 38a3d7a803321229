-- Places of which no two are of one slot, and one of them taken away.
use Rattle.std.proofs.Common.{◌≡◌, ℕ, ◌-◌, ◌<◌, ◌≤◌, cond, ◌&&◌, eqb, length, get_or, set, Some, None, Option, sym, refl, ap, ◌∙◌, arith}
use Rattle.std.proofs.lemmas.List.{get_or-set_same, get_or-set_other, length-set, get_or_default}
use Rattle.std.proofs.lemmas.Bool.{eq-eqb, ne_eqb}
use Rattle.record_store.specs.declared.places.Place.{Place}
use Rattle.record_store.specs.Meaning.{bounded}
use Rattle.record_store.specs.Shelves.{Contents, held, key, key_of, named, reach, laid, dropped, removed, Once}
use Rattle.record_store.proofs.Shelves.{Sound, Suits, laid_to, placed, placed_same, set_by, by_slot, reads, apart, same_slot, one_place, no_place, somewhere}

-- Each place in use is the one that the index names for its slot.
abbrev pub Indexed : {T : Type 0} → Place T → Contents T → Type 0
Indexed d c = (p : ℕ) → p < c.used → named c (key_of (get_or c.places p d)) ≡ Some p

pub once : {T : Type 0} (d : Place T) (c : Contents T) → Indexed d c → Once d c
once d c indexed p q x =
    let k : key_of (get_or c.places p d) ≡ key_of (get_or c.places q d) = omega arith in
    one_place p q (sym (indexed p x.0) ∙ (ap (named c) k ∙ indexed q x.1))

pub indexed : {T : Type 0} (d : Place T) (c : Contents T) → Sound d c → Once d c → Indexed d c
indexed d c sound once p l =
    let k = key_of (get_or c.places p d) in
    let a = somewhere (named c k) (omega (arith, sound.indexing.covered p l)) in
    let q = a.0 in
    let ql : q < c.used = sound.in_use k q a.1 in
    let s = same_slot d (get_or c.places q d).hour (get_or c.places q d).slot (get_or c.places p d).hour (get_or c.places p d).slot (sound.indexing.ranged q ql).1 (sound.indexing.ranged p l).1 (sound.indexing.pointed k q a.1) in
    a.1 ∙ ap Some (once q p (ql, l, s.0, s.1))

-- A record is laid into a place of its own.
pub laid_indexed : {T : Type 0} (d : Place T) (c : Contents T) → Sound d c → Indexed d c → (p n : ℕ) (e : Place T) → Suits c p e n → ((q : ℕ) → named c (key_of e) ≡ Some q → q ≡ p) → Indexed d (laid_to c p e n)
laid_indexed d c sound indexed p n e suits alone r =
    let pl : p < length c.places = omega (arith, suits.inside, suits.room) in
    let kl : key_of e < length c.index = omega (arith, suits.hour, suits.slot, sound.slots) in
    set_by c.places p r e d (λ x. r < n → named (laid_to c p e n) (key_of x) ≡ Some r) pl
    (λ q _. rw (get_or-set_same c.index (key_of e) (Some p) None kl, q))
    (λ q l.
    let i = indexed r (suits.only r l q) in
    set_by c.index (key_of e) (key_of (get_or c.places r d)) (Some p) None (λ o. o ≡ Some r) kl
    (λ same. absurd (q (alone r (ap (named c) (sym same) ∙ i))))
    (λ _. i))

-- What a read past the end would give does not matter where there is a last record.
pub same_removed : {T : Type 0} (c : Contents T) (d e : Place T) (at h s : ℕ) → at < c.used → c.used ≤ length c.places → removed d c at h s ≡ removed e c at h s
same_removed c d e at h s l room = ap (λ x. dropped (laid c at x) h s) (get_or_default c.places (c.used - 1) d e (omega arith))

-- A record is taken away: the last one is laid into its place, and its slot is forgotten.
module _ {T : Type 0} (d : Place T) (c : Contents T) (sound : Sound d c) (all : Indexed d c) (h s p : ℕ) (hl : h ≤ 24) (sl : s ≤ 23) (here : named c (key h s) ≡ Some p) where
  abbrev last : Place T
  last = get_or c.places (c.used - 1) d

  abbrev left : Contents T
  left = removed d c p h s

  some : p < c.used
  some = sound.in_use (key h s) p here

  inside : p < length c.places
  inside = omega (arith, some, sound.room)

  at_last : named c (key_of last) ≡ Some (c.used - 1)
  at_last = all (c.used - 1) (omega (arith, some))

  last_hour : last.hour ≤ 24
  last_hour = (sound.indexing.ranged (c.used - 1) (omega (arith, some))).0

  last_slot : last.slot ≤ 23
  last_slot = (sound.indexing.ranged (c.used - 1) (omega (arith, some))).1

  -- What the index has after the two writes, by cases.
  moved_by : (j : ℕ) (P : Option ℕ → Type 0) → (j ≡ key h s → P None) → ((j ≡ key h s → ⊥) → j ≡ key_of last → P (Some p)) → ((j ≡ key h s → ⊥) → (j ≡ key_of last → ⊥) → P (named c j)) → P (named left j)
  moved_by j P gone moved other =
      let a : key h s < length (set c.index (key_of last) (Some p)) = simp length-set (omega (arith, hl, sl, sound.slots)) in
      let b : key_of last < length c.index = omega (arith, last_hour, last_slot, sound.slots) in
      set_by (set c.index (key_of last) (Some p)) (key h s) j None None P a gone
      (λ q. set_by c.index (key_of last) j (Some p) None P b (moved q) (other q))

  -- Another slot is at another place.
  not_here : (j q : ℕ) → (j ≡ key h s → ⊥) → named c j ≡ Some q → (q ≡ p → ⊥)
  not_here j q other on z = other (apart d c sound j (key h s) p (on ∙ ap Some z) here)

  not_last : (j q : ℕ) → (j ≡ key_of last → ⊥) → named c j ≡ Some q → (q ≡ c.used - 1 → ⊥)
  not_last j q other on z = other (apart d c sound j (key_of last) (c.used - 1) (on ∙ ap Some z) at_last)

  left_indexed : Indexed d left
  left_indexed r =
      set_by c.places p r last d (λ x. r < c.used - 1 → named left (key_of x) ≡ Some r) inside
      (λ q l.
      moved_by (key_of last) (λ o. o ≡ Some r)
      (λ e. absurd (omega (arith, one_place (c.used - 1) p (sym at_last ∙ (ap (named c) e ∙ here)))))
      (λ _ _. ap Some (sym q))
      (λ _ y. absurd (y refl)))
      (λ q l.
      let i = all r (omega arith) in
      moved_by (key_of (get_or c.places r d)) (λ o. o ≡ Some r)
      (λ e. absurd (q (one_place r p (sym i ∙ (ap (named c) e ∙ here)))))
      (λ _ e. absurd (omega (arith, one_place r (c.used - 1) (sym i ∙ (ap (named c) e ∙ at_last)))))
      (λ _ _. i))

  -- A slot of the last record is not the one that is forgotten, unless the last record goes.
  before_last : (j : ℕ) → (j ≡ key h s → ⊥) → j ≡ key_of last → p < c.used - 1
  before_last j q e =
      let n : p ≡ c.used - 1 → ⊥ = λ y. q (e ∙ apart d c sound (key_of last) (key h s) p (at_last ∙ ap Some (sym y)) here) in
      omega (arith, n, some)

  pub left_sound : Sound d left
  left_sound =
      record {
        in_use = λ j r.
            moved_by j (λ o. o ≡ Some r → r < c.used - 1)
            (λ _ bad. absurd (no_place r bad))
            (λ q e on. omega (arith, one_place p r on, before_last j q e))
            (λ q e on. omega (arith, sound.in_use j r on, not_last j r e on));
        indexing = record {
          pointed = λ j r.
              moved_by j (λ o. o ≡ Some r → key_of (get_or (set c.places p last) r d) ≡ j)
              (λ _ bad. absurd (no_place r bad))
              (λ q e on. let z : r ≡ p = sym (one_place p r on) in rw (z, get_or-set_same c.places p last d inside) (sym e))
              (λ q e on. rw (get_or-set_other c.places p r last d (not_here j r q on)) (sound.indexing.pointed j r on));
          covered = λ r l. omega (arith, ap reach (left_indexed r l));
          ranged = λ r.
              set_by c.places p r last d (λ x. r < c.used - 1 → (x.hour ≤ 24) × (x.slot ≤ 23)) inside
              (λ _ _. (last_hour, last_slot))
              (λ _ l. sound.indexing.ranged r (omega arith));
        };
        room = simp length-set (omega (arith, sound.room));
        slots = simp (length-set, length-set) sound.slots;
      }

  pub left_once : Once d left
  left_once = once d left left_indexed

  left_named : (j : ℕ) → placed d (set c.places p last) (named left j) ≡ cond (eqb j (key h s)) None (placed d c.places (named c j))
  left_named j =
      moved_by j (λ o. placed d (set c.places p last) o ≡ cond (eqb j (key h s)) None (placed d c.places (named c j)))
      (λ q. rw (eq-eqb j (key h s) q))
      (λ q e.
      let w : named c j ≡ Some (c.used - 1) = ap (named c) e ∙ at_last in
      rw (ne_eqb j (key h s) q, w) (ap (λ (x : Place T). Some x.content) (get_or-set_same c.places p last d inside)))
      (λ q e. rw (ne_eqb j (key h s) q) (placed_same d (set c.places p last) c.places (named c j) (λ r on. get_or-set_other c.places p r last d (not_here j r q on))))

  pub left_held : (i j : ℕ) → bounded (held left) i j ≡ cond (eqb i h && eqb j s) None (bounded (held c) i j)
  left_held i j =
      reads d left left_sound i j
      ∙ (by_slot (λ k. placed d (set c.places p last) (named left k)) (λ k. placed d c.places (named c k)) h s None hl sl left_named i j
      ∙ ap (cond (eqb i h && eqb j s) None) (sym (reads d c sound i j)))
