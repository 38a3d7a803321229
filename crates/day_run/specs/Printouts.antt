-- What a program prints for a day file.
use Rattle.std.specs.Prelude.{◌≡◌, ℕ, List, Some, Ok, Err, Result, vec_items}
use Rattle.day_file.specs.declared.day.ReadError.{ReadError}
use Rattle.day_file.specs.declared.day.ReadError.TheVariants.{Refused}
use Rattle.day_file.specs.declared.faults.FileFault.{FileFault}
use Rattle.day_file.specs.Refusals.{file_fault}
use Rattle.listing.specs.Refusals.{file_line}
use Rattle.listing.specs.Texts.{text}
use Rattle.day_run.specs.declared.printout.Printout.{Printout}
use Rattle.day_run.specs.declared.printout.Printout.TheVariants.{Page, Refused as RefusedFile}
use Rattle.day_run.specs.Pages.{FirstPage}

-- The bytes that are printed.
abbrev pub printed : Printout → List ℕ
printed (Page page) = vec_items page
printed (RefusedFile line) = text line

-- What becomes of a page, or of the reason why there is none: a page is printed as it is, and of a file that is refused
-- its line.
abbrev pub Shows : {V : Type 0} → (V → List ℕ) → Result V ReadError → Printout → Type 0
Shows items (Ok page) (Page printed) = vec_items printed ≡ items page
Shows items (Err (Refused fault)) (RefusedFile line) = text line ≡ file_line fault
Shows items _ _ = ⊥

-- What is printed for a file over a new store: the page of a file that is accepted, or the line of the file's first fault.
abbrev pub Printed : ℕ → ℕ → List ℕ → Printout → Type 0
Printed capacity charge bytes (Page page) = FirstPage capacity charge bytes (vec_items page)
Printed capacity charge bytes (RefusedFile line) = (fault : FileFault) × (file_fault bytes ≡ Some fault) × (text line ≡ file_line fault)
