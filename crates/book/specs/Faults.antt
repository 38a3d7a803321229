-- What is told of each fault: its layer, its number, and the hour and slot that the call named.
use Rattle.std.specs.Prelude.{ℕ, List, codes}
use Rattle.settlement.specs.Limits.{number}
use Rattle.record_store.specs.Faults.{figures}
use Rattle.book.specs.declared.faults.Fault.{Fault}
use Rattle.book.specs.declared.faults.Fault.TheVariants.{BadHours, BadRegion, Occupied, BadRecords, NoHour, Refused, InStore}
use Rattle.book.specs.declared.faults.Layer.{Layer}
use Rattle.book.specs.declared.faults.Layer.TheVariants.{File, Statement, Store}
use Rattle.book.specs.declared.faults.Report.{Report}

-- The layers by name.
abbrev pub layer_name : Layer → List ℕ
layer_name File = codes "file"
layer_name Statement = codes "statement"
layer_name Store = codes "store"

-- A fault that the statement found.
abbrev pub told : ℕ → ℕ → ℕ → Report
told number hour slot = record { layer = Statement; number = number; hour = hour; slot = slot }

-- An opening names no hour and no slot.
abbrev pub report : Fault → Report
report BadHours = told 1 0 0
report BadRegion = told 2 0 0
report Occupied = told 3 0 0
report (BadRecords hour slot) = told 3 hour slot
report (NoHour hour slot) = told 5 hour slot
report (Refused refusal hour slot) = told (number refusal) hour slot
report (InStore fault) = record { layer = Store; number = (figures fault).number; hour = (figures fault).hour; slot = (figures fault).slot }
