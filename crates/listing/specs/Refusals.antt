-- The lines of what is refused.
use Rattle.std.specs.Prelude.{ℕ, List, [], ◌∷◌, codes, decimal}
use Rattle.book.specs.declared.faults.Layer.{Layer}
use Rattle.book.specs.declared.faults.Layer.TheVariants.{File, Statement, Store}
use Rattle.book.specs.declared.faults.Report.{Report}
use Rattle.day_file.specs.declared.faults.FileFault.{FileFault}
use Rattle.day_file.specs.Faults.{report, place}
use Rattle.listing.specs.Fields.{line_of}

-- F for the file, B for the day's book, and S for the store.
abbrev pub layer_letter : Layer → ℕ
layer_letter File = 70
layer_letter Statement = 66
layer_letter Store = 83

-- FILE, the number of the fault, and its place.
abbrev pub file_line : FileFault → List ℕ
file_line fault = line_of (codes "FILE" ∷ decimal (report fault).number ∷ decimal (place fault) ∷ [])

-- What is told of an entry: the layer, the number, the hour and the slot.
abbrev pub told_fields : Report → List (List ℕ)
told_fields told = (layer_letter told.layer ∷ []) ∷ decimal told.number ∷ decimal told.hour ∷ decimal told.slot ∷ []

-- REFUSED, which entry, and what is told of it.
abbrev pub refused_line : ℕ → FileFault → List ℕ
refused_line entry fault = line_of (codes "REFUSED" ∷ decimal entry ∷ told_fields (report fault))
