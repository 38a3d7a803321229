-- What reading a file tells of it.
use Rattle.std.specs.Prelude.{◌≡◌, ℕ, List, Some, None}
use Rattle.book.specs.declared.calls.Change.{Change}
use Rattle.day_file.specs.declared.day.Header.{Header}
use Rattle.day_file.specs.declared.day.ReadError.{ReadError}
use Rattle.day_file.specs.declared.day.ReadError.TheVariants.{Refused, NoMemory}
use Rattle.day_file.specs.Encode.{encode}
use Rattle.day_file.specs.Valid.{Valid}
use Rattle.day_file.specs.Refusals.{opening_fault, file_fault}

-- The file that a day is written as.
pub record FileOf (h : Header) (calls : List Change) (bytes : List ℕ) : Type 0 where
  pub valid : Valid h calls
  pub written : bytes ≡ encode h calls

-- A refusal names the file's first fault. Memory can lack only once the header and the length are found right.
abbrev pub Told : ReadError → List ℕ → Type 0
Told (Refused fault) bytes = file_fault bytes ≡ Some fault
Told NoMemory bytes = opening_fault bytes ≡ None

-- Some day.
pub record DayOf (bytes : List ℕ) : Type 0 where
  pub header : Header
  pub calls : List Change
  pub file : FileOf header calls bytes

-- A file has no fault exactly if it is what some day is written as.
pub record Exact (bytes : List ℕ) : Type 0 where
  pub sound : file_fault bytes ≡ None → DayOf bytes
  pub complete : (h : Header) (calls : List Change) → FileOf h calls bytes → file_fault bytes ≡ None
