-- Numbers as bytes, the high byte first.
use Rattle.std.specs.Prelude.{ℕ, ◌/◌, ◌%◌, List, [], ◌∷◌, ℤ}
use Rattle.std.specs.Int.{w32}
use Rattle.std.specs.List.{flat_map}
use Rattle.std.proofs.Common.{of_z}

-- A number below 2 ^ 16, in two bytes.
abbrev pub half : ℕ → List ℕ
half n = (n / 256 % 256) ∷ (n % 256) ∷ []

-- A number below 2 ^ 32, in four bytes.
abbrev pub quad : ℕ → List ℕ
quad n = (n / 16777216 % 256) ∷ (n / 65536 % 256) ∷ (n / 256 % 256) ∷ (n % 256) ∷ []

-- A signed number in two's complement, in four bytes.
abbrev pub word : ℤ → List ℕ
word z = quad (of_z w32 z)

-- Signed numbers, one after another.
unfoldable pub words : List ℤ → List ℕ
words zs = flat_map word zs
