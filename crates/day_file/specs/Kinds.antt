-- The kinds of entry, and the byte that tells each.
use Rattle.std.specs.Prelude.{◌≡◌, ℕ, false, Result, MatchResult}
use Rattle.day_file.specs.declared.kind.Kind.{Kind}
use Rattle.day_file.specs.declared.kind.Kind.TheVariants.{Schedule, Posting, Withdrawal, Reading, ReadingWithdrawn}
use Rattle.day_file.specs.declared.kind.UnknownKind.{UnknownKind}
use Rattle.day_file.specs.Refusals.{is_kind_byte}

-- The byte of a kind.
abbrev pub kind_byte : Kind → ℕ
kind_byte Schedule = 1
kind_byte Posting = 2
kind_byte Withdrawal = 3
kind_byte Reading = 4
kind_byte ReadingWithdrawn = 5

-- The kind that has a byte, and no kind where none has it.
abbrev pub Decodes : ℕ → Result Kind UnknownKind → Type 0
Decodes byte r = MatchResult r (λ kind. kind_byte kind ≡ byte) (λ _. is_kind_byte byte ≡ false)
