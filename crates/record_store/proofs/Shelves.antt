-- What a shelf's index says, and what laying a record changes.
use Rattle.std.proofs.Common.{◌≡◌, ℕ, zero, suc, ◌+◌, ◌<◌, ◌≤◌, true, false, cond, ◌&&◌, eqb, ltb, List, [], ◌∷◌, length, get_or, take, set, replicate, Some, None, Option, is_some, sym, refl, ap, ◌∙◌, subst, inl, inr, ⊎_elim, add-one, arith}
use Rattle.std.specs.Option.{option_map, unwrap_or}
use Rattle.std.proofs.lemmas.List.{get_or-set_same, get_or-set_other, length-set}
use Rattle.std.proofs.lemmas.List.Sums.{fold_more}
use Rattle.std.proofs.lemmas.Bool.{cases_eq, cases_Bool, and_parts, eq-eqb, ne_eqb, ltb-true}
use Rattle.std.proofs.lemmas.Bool.Decides.{nat_tests}
use Rattle.record_store.specs.declared.places.Place.{Place}
use Rattle.record_store.specs.declared.shelf.Shelf.{Shelf}
use Rattle.record_store.specs.Meaning.{in_range, bounded}
use Rattle.record_store.specs.Places.{of_slot, noted, latest}
use Rattle.record_store.specs.Contents.{contents}
use Rattle.record_store.specs.Shelves.{Contents, empty, held, key, key_of, named, reach, InUse, Indexing}

-- What stands at a place after a write, by cases.
pub set_by : {X : Type 0} (xs : List X) (k j : ℕ) (v d : X) (P : X → Type 0) → k < length xs → (j ≡ k → P v) → ((j ≡ k → ⊥) → P (get_or xs j d)) → P (get_or (set xs k v) j d)
set_by xs k j v d P l same other =
    ⊎_elim
    (λ e. rw e (rw (get_or-set_same xs k v d l) (same e)))
    (λ n. rw (get_or-set_other xs k j v d n) (other n))
    (cases_eq j k)

-- A place is named by one number.
pub one_place : (p q : ℕ) → Some p ≡ Some q → p ≡ q
one_place p q e = ap (λ o. unwrap_or o 0) e

pub no_place : (p : ℕ) → None ≡ Some p → ⊥
no_place p e = cc

-- A new index names no place.
nowhere : (n k : ℕ) → ◌≡◌ {A = Option ℕ} (get_or (replicate n None) k None) None
nowhere zero k = refl
nowhere (suc n) zero = refl
nowhere (suc n) (suc k) = nowhere n k

-- What reaches to some place names one.
pub somewhere : (o : Option ℕ) → 0 < reach o → (p : ℕ) × (o ≡ Some p)
somewhere None l = absurd (omega arith)
somewhere (Some p) l = (p, refl)

reach_within : (o : Option ℕ) (n : ℕ) → ((p : ℕ) → o ≡ Some p → p < n) → reach o ≤ n
reach_within None n within = omega arith
reach_within (Some p) n within = omega (arith, within p refl)

-- What the place holds that the index names.
abbrev pub placed : {T : Type 0} → Place T → List (Place T) → Option ℕ → Option T
placed d places o = option_map (λ p. (get_or places p d).content) o

pub placed_same : {T : Type 0} (d : Place T) (ps qs : List (Place T)) (o : Option ℕ) → ((p : ℕ) → o ≡ Some p → get_or ps p d ≡ get_or qs p d) → placed d ps o ≡ placed d qs o
placed_same d ps qs None same = refl
placed_same d ps qs (Some p) same = ap (λ (x : Place _). Some x.content) (same p refl)

-- A slot rewritten by its number is the slot rewritten.
pub by_slot : {T : Type 0} (f g : ℕ → Option T) (h s : ℕ) (v : Option T) → h ≤ 24 → s ≤ 23 → ((k : ℕ) → f k ≡ cond (eqb k (key h s)) v (g k)) → (i j : ℕ)
    → bounded (λ i j. f (key i j)) i j ≡ cond (eqb i h && eqb j s) v (bounded (λ i j. g (key i j)) i j)
by_slot f g h s v hl sl e i j = rw (e (key i j)) (grind (arith, nat_tests))

-- All that a shelf keeps.
pub record Sound {T : Type 0} (d : Place T) (c : Contents T) : Type 0 where
  pub in_use : InUse c
  pub indexing : Indexing d c
  pub room : c.used ≤ length c.places
  pub slots : length c.index ≡ 600

-- A record laid into a place, the places below n being in use then.
abbrev pub laid_to : {T : Type 0} → Contents T → ℕ → Place T → ℕ → Contents T
laid_to c p e n = record { index = set c.index (key_of e) (Some p); places = set c.places p e; used = n }

-- A record may be laid into a place that is its slot's, or the next one.
pub record Suits {T : Type 0} (c : Contents T) (p : ℕ) (e : Place T) (n : ℕ) : Type 0 where
  pub hour : e.hour ≤ 24
  pub slot : e.slot ≤ 23
  pub inside : p < n
  pub room : n ≤ length c.places
  pub more : c.used ≤ n
  pub only : (q : ℕ) → q < n → (q ≡ p → ⊥) → q < c.used
  pub free : (j : ℕ) → named c j ≡ Some p → j ≡ key_of e
  pub last : reach (named c (key_of e)) ≤ p + 1

module _ {T : Type 0} (d : Place T) where
  -- Slots have different numbers.
  pub same_slot : (h s i j : ℕ) → s ≤ 23 → j ≤ 23 → key h s ≡ key i j → (h ≡ i) × (s ≡ j)
  same_slot h s i j sl jl e = (omega arith, omega arith)

  module _ (c : Contents T) (sound : Sound d c) where
    -- Past the place that the index names for a slot no other is of the slot.
    after : (h s i : ℕ) → reach (named c (key h s)) ≤ i → i ≤ c.used → latest (take i c.places) h s ≡ latest (take (reach (named c (key h s))) c.places) h s
    after h s zero l u = let z : reach (named c (key h s)) ≡ 0 = omega arith in rw z
    after h s (suc i) l u =
        elim (cases_eq (reach (named c (key h s))) (suc i)) [
          | inl e ↦ rw e
          | inr n ↦
              let a = sound.indexing.covered i u in
              let r = sound.indexing.ranged i u in
              let z : of_slot h s (get_or c.places i d) ≡ false = grind (arith, nat_tests) in
              subst (λ (m : ℕ). latest (take m c.places) h s ≡ latest (take (reach (named c (key h s))) c.places) h s) (add-one i)
              (fold_more (noted h s) None c.places i d (omega (arith, sound.room)) ∙ rw z (after h s i (omega arith) (omega arith)))
        ]

    -- The index names places in use only.
    pub low : (k : ℕ) → reach (named c k) ≤ c.used
    low k = reach_within (named c k) c.used (sound.in_use k)

    -- The latest record of a slot is where the index names it.
    at_named : (h s : ℕ) (o : Option ℕ) → s ≤ 23 → named c (key h s) ≡ o → latest (take (reach o) c.places) h s ≡ placed d c.places o
    at_named h s None sl e = refl
    at_named h s (Some p) sl e =
        let l = sound.in_use (key h s) p e in
        let k = sound.indexing.pointed (key h s) p e in
        let r = sound.indexing.ranged p l in
        let z : of_slot h s (get_or c.places p d) ≡ true = grind (arith, nat_tests) in
        fold_more (noted h s) None c.places p d (omega (arith, l, sound.room)) ∙ rw z refl

    -- What the places in use hold for a slot is where the index says.
    pub reads : (h s : ℕ) → bounded (held c) h s ≡ bounded (λ h s. placed d c.places (named c (key h s))) h s
    reads h s =
        elim (cases_Bool (in_range h s)) [
          | inl t ↦
              let sl : s ≤ 23 = omega (arith, ltb-true s 24 (and_parts (ltb h 25) (ltb s 24) t).1) in
              rw t (after h s c.used (low (key h s)) (omega arith) ∙ at_named h s (named c (key h s)) sl refl)
          | inr f ↦ rw f
        ]

    -- So it is for a slot that a store has.
    pub reads_at : (h s : ℕ) (o : Option ℕ) → h ≤ 24 → s ≤ 23 → named c (key h s) ≡ o → bounded (held c) h s ≡ placed d c.places o
    reads_at h s o hl sl e = let t : in_range h s ≡ true = grind (arith, nat_tests) in reads h s ∙ rw t (ap (placed d c.places) e)

    module _ (p n : ℕ) (e : Place T) (suits : Suits c p e n) where
      inside : p < length c.places
      inside = omega (arith, suits.inside, suits.room)

      key_inside : key_of e < length c.index
      key_inside = omega (arith, suits.hour, suits.slot, sound.slots)

      -- Where the index names the place of another slot, that place is not rewritten.
      elsewhere : (j q : ℕ) → (j ≡ key_of e → ⊥) → named c j ≡ Some q → get_or (set c.places p e) q d ≡ get_or c.places q d
      elsewhere j q other on = get_or-set_other c.places p q e d (λ z. other (suits.free j (on ∙ ap Some z)))

      pub laid_sound : Sound d (laid_to c p e n)
      laid_sound =
          record {
            in_use = λ k r.
                set_by c.index (key_of e) k (Some p) None (λ o. o ≡ Some r → r < n) key_inside
                (λ _ on. omega (arith, suits.inside, one_place p r on))
                (λ _ on. omega (arith, sound.in_use k r on, suits.more));
            indexing = record {
              pointed = λ k r.
                  set_by c.index (key_of e) k (Some p) None (λ o. o ≡ Some r → key_of (get_or (set c.places p e) r d) ≡ k) key_inside
                  (λ q on. let z : r ≡ p = sym (one_place p r on) in rw (z, get_or-set_same c.places p e d inside) (sym q))
                  (λ q on. rw (elsewhere k r q on) (sound.indexing.pointed k r on));
              covered = λ r.
                  set_by c.places p r e d (λ x. r < n → r < reach (named (laid_to c p e n) (key_of x))) inside
                  (λ q _. rw (get_or-set_same c.index (key_of e) (Some p) None key_inside) (omega arith))
                  (λ q l.
                  let a = sound.indexing.covered r (suits.only r l q) in
                  set_by c.index (key_of e) (key_of (get_or c.places r d)) (Some p) None (λ o. r < reach o) key_inside
                  (λ same. omega (arith, ap (λ k. reach (named c k)) same, suits.last))
                  (λ _. a));
              ranged = λ r.
                  set_by c.places p r e d (λ x. r < n → (x.hour ≤ 24) × (x.slot ≤ 23)) inside
                  (λ _ _. (suits.hour, suits.slot))
                  (λ q l. sound.indexing.ranged r (suits.only r l q));
            };
            room = simp length-set suits.room;
            slots = simp length-set sound.slots;
          }

      laid_named : (k : ℕ) → placed d (set c.places p e) (named (laid_to c p e n) k) ≡ cond (eqb k (key_of e)) (Some e.content) (placed d c.places (named c k))
      laid_named k =
          set_by c.index (key_of e) k (Some p) None (λ o. placed d (set c.places p e) o ≡ cond (eqb k (key_of e)) (Some e.content) (placed d c.places (named c k))) key_inside
          (λ q. rw (eq-eqb k (key_of e) q) (ap (λ (x : Place T). Some x.content) (get_or-set_same c.places p e d inside)))
          (λ q. rw (ne_eqb k (key_of e) q) (placed_same d (set c.places p e) c.places (named c k) (λ r on. elsewhere k r q on)))

-- A record that is laid is held for its slot, and all else is held as before.
pub laid_held : {T : Type 0} (d : Place T) (c : Contents T) (sound : Sound d c) (p n : ℕ) (e : Place T) (suits : Suits c p e n) (h s : ℕ)
    → bounded (held (laid_to c p e n)) h s ≡ cond (eqb h e.hour && eqb s e.slot) (Some e.content) (bounded (held c) h s)
laid_held d c sound p n e suits h s =
    reads d (laid_to c p e n) (laid_sound d c sound p n e suits) h s
    ∙ (by_slot (λ k. placed d (set c.places p e) (named (laid_to c p e n) k)) (λ k. placed d c.places (named c k)) e.hour e.slot (Some e.content) suits.hour suits.slot (laid_named d c sound p n e suits) h s
    ∙ ap (cond (eqb h e.hour && eqb s e.slot) (Some e.content)) (sym (reads d c sound h s)))

module _ {T : Type 0} (d : Place T) (c : Contents T) (sound : Sound d c) where
  -- A place is the place of one slot.
  pub apart : (i j p : ℕ) → named c i ≡ Some p → named c j ≡ Some p → i ≡ j
  apart i j p e f = sym (sound.indexing.pointed i p e) ∙ sound.indexing.pointed j p f

  -- A record may be laid into the next place.
  pub suits_next : (e : Place T) → e.hour ≤ 24 → e.slot ≤ 23 → c.used < length c.places → Suits c c.used e (c.used + 1)
  suits_next e hl sl l =
      record {
        hour = hl;
        slot = sl;
        inside = omega arith;
        room = omega arith;
        more = omega arith;
        only = λ q n o. omega arith;
        free = λ j a. absurd (omega (arith, sound.in_use j c.used a));
        last = omega (arith, low d c sound (key_of e));
      }

  -- A record may be laid into the place of its slot.
  pub suits_again : (e : Place T) (p : ℕ) → e.hour ≤ 24 → e.slot ≤ 23 → named c (key_of e) ≡ Some p → Suits c p e c.used
  suits_again e p hl sl f =
      record {
        hour = hl;
        slot = sl;
        inside = sound.in_use (key_of e) p f;
        room = sound.room;
        more = omega arith;
        only = λ q n o. n;
        free = λ j b. apart j (key_of e) p b f;
        last = omega (arith, ap reach f);
      }

-- Where nothing is held, nothing stands.
pub bounded_none : {T : Type 0} (h s : ℕ) → bounded {T = T} (λ h s. None) h s ≡ None
bounded_none h s = elim (cases_Bool (in_range h s)) [ inl t ↦ rw t | inr f ↦ rw f ]

-- An index that names no place keeps all that it has to.
pub new_in_use : {T : Type 0} (places : List (Place T)) → InUse (empty places)
new_in_use places k p e = absurd (no_place p (sym (nowhere 600 k) ∙ e))

pub new_indexing : {T : Type 0} (d : Place T) (places : List (Place T)) → Indexing d (empty places)
new_indexing d places =
    record {
      pointed = λ k p e. absurd (no_place p (sym (nowhere 600 k) ∙ e));
      covered = λ p l. absurd (omega arith);
      ranged = λ p l. absurd (omega arith);
    }

-- Where there is no place at all, nothing is held.
none_kept : {T : Type 0} (places : List (Place T)) (n h s : ℕ) → ((d : Place T) → bounded (latest (take n places)) h s ≡ None) → bounded (latest (take n places)) h s ≡ None
none_kept [] zero h s at = bounded_none h s
none_kept [] (suc n) h s at = bounded_none h s
none_kept (p ∷ ps) n h s at = at p

-- What stands first in a list that is not empty.
first_of : {X : Type 0} (xs : List X) → 0 < length xs → X
first_of [] l = absurd (omega arith)
first_of (x ∷ xs) l = x

module _ {T : Type 0} (c : Contents T) (sound : (d : Place T) → Sound d c) where
  -- Where the index names no place for a slot, nothing is held for it.
  pub held_none : (h s : ℕ) → h ≤ 24 → s ≤ 23 → named c (key h s) ≡ None → bounded (held c) h s ≡ None
  held_none h s hl sl e = none_kept c.places c.used h s (λ d. reads_at d c (sound d) h s None hl sl e)

  -- Something is held for a slot exactly where the index names a place.
  pub held_where_named : (room : c.used ≤ length c.places) (in_use : InUse c) (h s : ℕ) (o : Option ℕ) → h ≤ 24 → s ≤ 23 → named c (key h s) ≡ o → is_some o ≡ is_some (bounded (held c) h s)
  held_where_named room in_use h s None hl sl e = sym (ap is_some (held_none h s hl sl e))
  held_where_named room in_use h s (Some p) hl sl e =
      let d = first_of c.places (omega (arith, in_use (key h s) p e)) in
      sym (ap is_some (reads_at d c (sound d) h s (Some p) hl sl e))

-- What the facts of the type come to.
pub sound_of : {T : Type 0} (s : Shelf T) (d : Place T) → Sound d (contents s)
sound_of s d = record { in_use = s.in_use; indexing = s.indexing d; room = s.within; slots = s.slots }

-- And the facts of the type, where there is some place.
pub record Kept {T : Type 0} (c : Contents T) : Type 0 where
  pub slots : length c.index ≡ 600
  pub within : c.used ≤ length c.places
  pub in_use : InUse c
  pub indexing : (d : Place T) → Indexing d c

pub kept : {T : Type 0} (c : Contents T) → Place T → ((d : Place T) → Sound d c) → Kept c
kept c some sound = record { slots = (sound some).slots; within = (sound some).room; in_use = (sound some).in_use; indexing = λ d. (sound d).indexing }
