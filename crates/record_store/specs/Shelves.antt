-- Lent places with an index: what they hold, and what the index keeps.
use Rattle.std.specs.Prelude.{◌≡◌, ℕ, ◌+◌, ◌-◌, ◌*◌, ◌<◌, ◌≤◌, List, get_or, length, take, replicate, Some, None, Option, slice_index_or, slice_set}
use Rattle.record_store.specs.declared.faults.StoreFault.{StoreFault}
use Rattle.record_store.specs.declared.faults.StoreFault.TheVariants.{Full}
use Rattle.record_store.specs.declared.places.Place.{Place}
use Rattle.record_store.specs.Places.{latest}

-- The places, how many of them are in use, and for each slot the place that the index names, if any.
pub record Contents (T : Type 0) : Type 0 where
  pub index : List (Option ℕ)
  pub places : List (Place T)
  pub used : ℕ

-- Places of which none is in use.
abbrev pub empty : {T : Type 0} → List (Place T) → Contents T
empty places = record { index = replicate 600 None; places = places; used = 0 }

-- What the places in use hold for a slot.
abbrev pub held : {T : Type 0} → Contents T → ℕ → ℕ → Option T
held c = latest (take c.used c.places)

-- The number of a slot of an hour among those of all hours.
abbrev pub key : ℕ → ℕ → ℕ
key hour slot = 24 * hour + slot

-- The number of a place's slot.
abbrev pub key_of : {T : Type 0} → Place T → ℕ
key_of p = key p.hour p.slot

-- The place that the index names for the slot of a number.
abbrev pub named : {T : Type 0} → Contents T → ℕ → Option ℕ
named c k = slice_index_or c.index k None

-- A record laid into a place, and its place noted.
abbrev pub laid : {T : Type 0} → Contents T → ℕ → Place T → Contents T
laid c at new = record { index = slice_set c.index (key_of new) (Some at); places = slice_set c.places at new; used = c.used }

-- A record laid into the first place that is not in use.
abbrev pub pushed : {T : Type 0} → Contents T → Place T → Contents T
pushed c new = record { index = slice_set c.index (key_of new) (Some c.used); places = slice_set c.places c.used new; used = c.used + 1 }

-- What is left where a record finds a place that is not in use.
abbrev pub Pushed : {T : Type 0} → Contents T → Place T → Contents T → Unit {0} → Type 0
Pushed old new after done = (old.used < length old.places) × (after ≡ pushed old new)

-- What is left where it finds none: all as it was, and the fault names the hour and the slot.
abbrev pub Unpushed : {T : Type 0} → Contents T → ℕ → ℕ → Contents T → StoreFault → Type 0
Unpushed old hour slot after fault = (length old.places ≤ old.used) × (fault ≡ Full hour slot) × (after ≡ old)

-- A slot whose place is forgotten, and one place less in use.
abbrev pub dropped : {T : Type 0} → Contents T → ℕ → ℕ → Contents T
dropped c hour slot = record { index = slice_set c.index (key hour slot) None; places = c.places; used = c.used - 1 }

-- A record taken away: the last one is laid into its place. (d is what a read past the end of the memory would give.)
abbrev pub removed : {T : Type 0} → Place T → Contents T → ℕ → ℕ → ℕ → Contents T
removed d c at hour slot = dropped (laid c at (get_or c.places (c.used - 1) d)) hour slot

-- How many places there are up to a named one, with it.
abbrev pub reach : Option ℕ → ℕ
reach None = 0
reach (Some p) = p + 1

-- What the index names is in use.
abbrev pub InUse : {T : Type 0} → Contents T → Type 0
InUse c = (k p : ℕ) → named c k ≡ Some p → p < c.used

-- What the index names is of the slot; no place in use comes after the one that the index names for its slot; and a
-- place in use is of a slot that a store has.
pub record Indexing {T : Type 0} (d : Place T) (c : Contents T) : Type 0 where
  pub pointed : (k p : ℕ) → named c k ≡ Some p → key_of (get_or c.places p d) ≡ k
  pub covered : (p : ℕ) → p < c.used → p < reach (named c (key_of (get_or c.places p d)))
  pub ranged : (p : ℕ) → p < c.used → ((get_or c.places p d).hour ≤ 24) × ((get_or c.places p d).slot ≤ 23)

-- No slot stands twice.
abbrev pub Once : {T : Type 0} → Place T → Contents T → Type 0
Once d c =
    (p q : ℕ) → (p < c.used) × (q < c.used) × ((get_or c.places p d).hour ≡ (get_or c.places q d).hour) × ((get_or c.places p d).slot ≡ (get_or c.places q d).slot) → p ≡ q
