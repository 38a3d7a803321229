-- What a store means: for each slot of each hour a record or none, a number spent, a capacity, and what rewriting a
-- slot costs; and what each call makes of it.
use Rattle.std.specs.Prelude.{◌≡◌, ℕ, ◌+◌, ◌-◌, ◌≤◌, Bool, false, cond, ◌&&◌, List, map, is_some, Some, None, Option, ◌==◌, nat_lt}
use Rattle.std.specs.List.{range_with_len}
use Rattle.settlement.specs.declared.figures.Interval.{Interval}
use Rattle.settlement.specs.Rulings.{first}
use Rattle.record_store.specs.declared.faults.StoreFault.{StoreFault}
use Rattle.record_store.specs.declared.faults.StoreFault.TheVariants.{Hour, Slot, Full}

-- What stands in each slot of each hour, how much is spent of what capacity, and the charge for a rewrite.
pub record Meaning : Type 0 where
  pub standing : ℕ → ℕ → Option Interval
  pub spent : ℕ
  pub capacity : ℕ
  pub charge : ℕ

-- A store has the hours 0 to 24, and each of them the slots 0 to 23.
abbrev pub in_range : ℕ → ℕ → Bool
in_range hour slot = nat_lt hour 25 && nat_lt slot 24

-- Of what is held for each slot, that of the slots that a store has.
abbrev pub bounded : {T : Type 0} → (ℕ → ℕ → Option T) → ℕ → ℕ → Option T
bounded f hour slot = cond (in_range hour slot) (f hour slot) None

-- What holds of every store: nothing stands beyond its hours and slots, no more is spent than there is, and a rewrite
-- costs nothing or 1.
pub record Lawful (m : Meaning) : Type 0 where
  pub beyond : (hour slot : ℕ) → in_range hour slot ≡ false → m.standing hour slot ≡ None
  pub within : m.spent ≤ m.capacity
  pub charges : m.charge ≤ 1

-- A new store: nothing stands, nothing is spent.
abbrev pub fresh : ℕ → ℕ → Meaning
fresh capacity charge = record { standing = λ h s. None; spent = 0; capacity = capacity; charge = charge }

-- What stands after one slot is rewritten.
abbrev pub updated : (ℕ → ℕ → Option Interval) → ℕ → ℕ → Option Interval → ℕ → ℕ → Option Interval
updated standing hour slot new h s = cond (h == hour && s == slot) new (standing h s)

-- A write costs 1 where nothing stands, else the charge.
abbrev pub cost : Meaning → ℕ → ℕ → ℕ
cost m hour slot = cond (is_some (m.standing hour slot)) m.charge 1

-- What costs more than is left finds the store full.
abbrev pub is_full : Meaning → ℕ → Bool
is_full m n = nat_lt m.capacity (m.spent + n)

-- What refuses an hour and a slot that no store has, the hour first.
abbrev pub slot_refused : ℕ → ℕ → Option StoreFault
slot_refused hour slot = cond (nat_lt hour 25) (cond (nat_lt slot 24) None (Some (Slot hour slot))) (Some (Hour hour slot))

-- What refuses one more that costs 1.
abbrev pub full_refused : Meaning → ℕ → ℕ → Option StoreFault
full_refused m hour slot = cond (is_full m 1) (Some (Full hour slot)) None

-- What refuses a write.
abbrev pub write_refused : Meaning → ℕ → ℕ → Option StoreFault
write_refused m hour slot = first (slot_refused hour slot) (cond (is_full m (cost m hour slot)) (Some (Full hour slot)) None)

-- What refuses a taking away: at charge 1 it costs 1 to take away what stands.
abbrev pub take_refused : Meaning → ℕ → ℕ → Option StoreFault
take_refused m hour slot =
    first (slot_refused hour slot) (cond (is_some (m.standing hour slot) && m.charge == 1 && is_full m 1) (Some (Full hour slot)) None)

-- A store with one slot rewritten, and that much spent.
abbrev pub rewritten : Meaning → ℕ → ℕ → Option Interval → ℕ → Meaning
rewritten m hour slot new spent = record { standing = updated m.standing hour slot new; spent = spent; capacity = m.capacity; charge = m.charge }

-- The store after an accepted write.
abbrev pub written : Meaning → ℕ → ℕ → Interval → Meaning
written m hour slot new = rewritten m hour slot (Some new) (m.spent + cost m hour slot)

-- The store after a record that stands is taken away: at charge 0 its place is free again.
abbrev pub emptied : Meaning → ℕ → ℕ → Meaning
emptied m hour slot = rewritten m hour slot None (cond (m.charge == 0) (m.spent - 1) (m.spent + 1))

-- The store after an accepted taking away: the same where nothing stood.
abbrev pub taken : Meaning → ℕ → ℕ → Meaning
taken m hour slot = cond (is_some (m.standing hour slot)) (emptied m hour slot) m

-- The 24 slots of an hour in their order.
unfoldable pub hour_records : (ℕ → Option Interval) → List (Option Interval)
hour_records standing = map standing (range_with_len 0 24)
