-- Changing what stands in an hour: why a change is refused, and what stands after it.
use Rattle.std.specs.Prelude.{ℕ, ◌+◌, ℤ, is_some, Some, None, Option, nat_le, nat_lt, slice_index_or, slice_set}
use Rattle.settlement.specs.declared.figures.Interval.{Interval}
use Rattle.settlement.specs.declared.figures.Schedule.{Schedule}
use Rattle.settlement.specs.declared.figures.Standing.{Standing}
use Rattle.settlement.specs.declared.limits.Refusal.{Refusal}
use Rattle.settlement.specs.declared.limits.Refusal.TheVariants.{Slot, Overfull, Nothing}
use Rattle.settlement.specs.Rulings.{unless, first}
use Rattle.settlement.specs.Limits.{interval_refusal}
use Rattle.settlement.specs.Standing.{seconds}

-- The hour with another record, or none, in a slot.
abbrev pub with_record : Standing → ℕ → Option Interval → Standing
with_record h slot o = record { schedule = h.schedule; reading = h.reading; records = slice_set h.records slot o }

-- The hour with another schedule row.
abbrev pub with_row : Standing → Schedule → Standing
with_row h row = record { schedule = Some row; reading = h.reading; records = h.records }

-- The hour with another reading, or none.
abbrev pub with_reading : Standing → Option ℤ → Standing
with_reading h o = record { schedule = h.schedule; reading = o; records = h.records }

-- The seconds that stand in the other slots of an hour.
abbrev pub others : Standing → ℕ → ℕ
others h slot = seconds (with_record h slot None)

-- A record posted to a slot: the slot, the record's own limits, and the seconds of the hour.
abbrev pub post_refusal : Standing → ℕ → Interval → Option Refusal
post_refusal h slot i =
    unless (nat_lt slot 24) Slot
    (first (interval_refusal i)
    (unless (nat_le (others h slot + i.seconds) 3600) Overfull None))

-- A record withdrawn from a slot.
abbrev pub withdraw_refusal : Standing → ℕ → Option Refusal
withdraw_refusal h slot = unless (nat_lt slot 24) Slot (unless (is_some (slice_index_or h.records slot None)) Nothing None)

-- A reading withdrawn.
abbrev pub unread_refusal : Standing → Option Refusal
unread_refusal h = unless (is_some h.reading) Nothing None
