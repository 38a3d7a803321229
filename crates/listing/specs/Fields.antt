-- A line is made of fields, each a list of bytes.
use Rattle.std.specs.Prelude.{ℕ, List, [], ◌∷◌, ◌++◌}
use Rattle.std.specs.List.{flat_map}

-- Fields after the first: a comma leads each.
abbrev pub further : List (List ℕ) → List ℕ
further fields = flat_map (λ field. 44 ∷ field) fields

-- The fields parted by commas, and byte 10 at the end.
abbrev pub line_of : List (List ℕ) → List ℕ
line_of [] = 10 ∷ []
line_of (field ∷ fields) = field ++ (further fields ++ (10 ∷ []))
