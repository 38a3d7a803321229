-- What a line says, and how much more fits on it.
use Rattle.std.specs.Prelude.{ℕ, ◌+◌, ◌≤◌, List, length}
use Rattle.listing.specs.declared.line.Line.{Line}

-- The bytes that are written on a line.
abbrev pub text : Line → List ℕ
text line = line.bytes.items

-- A line has 160 bytes: so many more fit.
abbrev pub HasRoom : Line → ℕ → Type 0
HasRoom line n = length (text line) + n ≤ 160
