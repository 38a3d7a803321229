-- The faults of a store, layer S: the number of each, and the hour and slot that it speaks of.
use Rattle.std.specs.Prelude.{ℕ}
use Rattle.record_store.specs.declared.faults.StoreFault.{StoreFault}
use Rattle.record_store.specs.declared.faults.StoreFault.TheVariants.{Places, Hour, Slot, Full}

-- What a fault says: its number, and the hour and slot that the call named.
pub record Figures : Type 0 where
  pub number : ℕ
  pub hour : ℕ
  pub slot : ℕ

-- A making names no hour and no slot.
abbrev pub figures : StoreFault → Figures
figures Places = record { number = 4; hour = 0; slot = 0 }
figures (Hour h s) = record { number = 5; hour = h; slot = s }
figures (Slot h s) = record { number = 6; hour = h; slot = s }
figures (Full h s) = record { number = 12; hour = h; slot = s }
