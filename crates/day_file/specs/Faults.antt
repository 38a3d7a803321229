-- What is told of each fault of a day file: its layer, its number, and its place.
use Rattle.std.specs.Prelude.{ℕ}
use Rattle.book.specs.declared.faults.Layer.TheVariants.{File}
use Rattle.book.specs.declared.faults.Report.{Report}
use Rattle.book.specs.Faults.{report as statement_report}
use Rattle.day_file.specs.declared.faults.FileFault.{FileFault}
use Rattle.day_file.specs.declared.faults.FileFault.TheVariants.{Length, Header, Kind, NotZero, Room, InStatement}

-- A fault that the file's own layer found names no hour and no slot.
abbrev pub in_file : ℕ → Report
in_file number = record { layer = File; number = number; hour = 0; slot = 0 }

-- The statement's fault is passed on whole.
abbrev pub report : FileFault → Report
report (Length place) = in_file 16
report (Header place) = in_file 17
report (Kind place) = in_file 18
report (NotZero place) = in_file 19
report (Room place) = in_file 20
report (InStatement fault) = statement_report fault

-- The byte, the file's length, or the length needed.
abbrev pub place : FileFault → ℕ
place (Length p) = p
place (Header p) = p
place (Kind p) = p
place (NotZero p) = p
place (Room p) = p
place (InStatement fault) = 0
