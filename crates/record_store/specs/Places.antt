-- Lent places: how many a store may have, and what they hold for a slot.
use Rattle.std.specs.Prelude.{ℕ, Bool, cond, ◌&&◌, List, Some, None, fold, Option, ◌==◌, nat_le}
use Rattle.record_store.specs.declared.faults.StoreFault.{StoreFault}
use Rattle.record_store.specs.declared.faults.StoreFault.TheVariants.{Places}
use Rattle.record_store.specs.declared.places.Place.{Place}
use Rattle.settlement.specs.Rulings.{changed}

-- What refuses memory of some number of places.
abbrev pub places_refused : ℕ → Option StoreFault
places_refused n = cond (nat_le 24 n && nat_le n 4096) None (Some Places)

-- The capacity of a store over memory of some number of places: none where the number is refused.
abbrev pub capacity_of : ℕ → ℕ
capacity_of n = changed (places_refused n) n 0

-- Whether a place is of a slot.
abbrev pub of_slot : {T : Type 0} → ℕ → ℕ → Place T → Bool
of_slot h s p = h == p.hour && s == p.slot

-- What a place leaves of what was held for a slot.
abbrev pub noted : {T : Type 0} → ℕ → ℕ → Option T → Place T → Option T
noted h s before p = cond (of_slot h s p) (Some p.content) before

-- What places hold for a slot: the latest of them that is of the slot counts.
abbrev pub latest : {T : Type 0} → List (Place T) → ℕ → ℕ → Option T
latest places h s = fold (noted h s) None places
