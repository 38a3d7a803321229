-- What writing a day into memory leaves there.
use Rattle.std.specs.Prelude.{◌≡◌, ℕ, ◌+◌, ◌*◌, List, ◌++◌, length, drop, Some, None}
use Rattle.book.specs.declared.calls.Change.{Change}
use Rattle.day_file.specs.declared.day.Header.{Header}
use Rattle.day_file.specs.declared.faults.FileFault.{FileFault}
use Rattle.day_file.specs.Encode.{encode}
use Rattle.day_file.specs.Valid.{Valid}
use Rattle.day_file.specs.Refusals.{write_fault}

-- A day that is not refused: its file comes first in the memory, and what lies past the file is as it was.
pub record Written (h : Header) (calls : List Change) (old new : List ℕ) (n : ℕ) : Type 0 where
  pub unrefused : write_fault h (length calls) (length old) ≡ None
  pub valid : Valid h calls
  pub size : n ≡ 6 + 52 * length calls
  pub bytes : new ≡ encode h calls ++ drop n old

-- A refused day: the first fault is told, and all of the memory is as it was.
pub record Unwritten (h : Header) (calls : List Change) (old new : List ℕ) (fault : FileFault) : Type 0 where
  pub told : write_fault h (length calls) (length old) ≡ Some fault
  pub same : new ≡ old
