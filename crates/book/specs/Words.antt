-- The book in other words.
use Rattle.std.specs.Prelude.{◌≡◌, ℕ, ◌+◌, ◌≤◌, ◌⊎◌, List, [], ◌∷◌, ◌++◌, ℤ, Some}
use Rattle.std.specs.List.{All}
use Rattle.settlement.specs.declared.figures.Interval.{Interval}
use Rattle.settlement.specs.declared.figures.Schedule.{Schedule}
use Rattle.book.specs.declared.calls.Call.{Call}
use Rattle.book.specs.declared.calls.Change.{Change}
use Rattle.book.specs.declared.calls.Change.TheVariants.{Scheduled, Posted, Withdrawn, Read, Unread}
use Rattle.book.specs.Book.{Opening, stands, scheduled, was_read, spent_by, accepted}
use Rattle.book.specs.Gate.{count}

-- A record posted to a slot, or one withdrawn.
abbrev pub ToSlot : ℕ → ℕ → Change → Type 0
ToSlot h s c = ((i : Interval) × (c ≡ Posted h s i)) ⊎ (c ≡ Withdrawn h s)

-- A row scheduled for an hour.
abbrev pub ToSchedule : ℕ → Change → Type 0
ToSchedule h c = (g : Schedule) × (c ≡ Scheduled h g)

-- A reading of an hour, or one withdrawn.
abbrev pub ToReading : ℕ → Change → Type 0
ToReading h c = ((m : ℤ) × (c ≡ Read h m)) ⊎ (c ≡ Unread h)

-- A change was accepted, and none of its kind since.
abbrev pub Last : (Change → Type 0) → Change → List Change → Type 0
Last Kind c log = (newer : List Change) × (older : List Change) × (log ≡ newer ++ c ∷ older) × All (λ d. Kind d → ⊥) newer

-- One exactly if the other.
abbrev pub Exactly : Type 0 → Type 0 → Type 0
Exactly A B = (A → B) × (B → A)

-- What the definitions of the book mean.
pub record OtherWords : Type 0 where
  -- A record stands exactly if some accepted posting put it there and nothing later posted or withdrew there.
  pub stands_is_last : (log : List Change) (h s : ℕ) (i : Interval) → Exactly (stands log h s ≡ Some i) (Last (ToSlot h s) (Posted h s i) log)
  -- A row is scheduled exactly if it was accepted for the hour, and no later one.
  pub scheduled_is_last : (log : List Change) (h : ℕ) (g : Schedule) → Exactly (scheduled log h ≡ Some g) (Last (ToSchedule h) (Scheduled h g) log)
  -- A reading stands exactly if it was accepted for the hour, and none was read or withdrawn there later.
  pub read_is_last : (log : List Change) (h : ℕ) (m : ℤ) → Exactly (was_read log h ≡ Some m) (Last (ToReading h) (Read h m) log)
  -- Where a rewrite costs nothing, as much is spent as at the opening and 1 for each record that stands.
  pub spent_is_count :
      (o : Opening) (calls : List Call) → o.hours ≤ 25 → o.charge ≡ 0
      → spent_by o (accepted o [] calls) ≡ o.spent + count (stands (accepted o [] calls))
