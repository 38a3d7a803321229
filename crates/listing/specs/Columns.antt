-- The figures that are listed of an hour or of a day, in the order of the columns.
use Rattle.std.specs.Prelude.{ℕ, List, [], ◌∷◌, map, ℤ}
use Rattle.std.specs.Fmt.{signed_decimal}
use Rattle.settlement.specs.declared.figures.Amounts.{Amounts}

-- What was sold the day before in all, what was balanced by component, the reserve, and the whole.
abbrev pub columns : Amounts → Amounts → ℤ → ℤ → List ℤ
columns ahead balancing spin total = ahead.total ∷ balancing.energy ∷ balancing.loss ∷ balancing.congestion ∷ spin ∷ total ∷ []

-- Figures as fields: decimal digits, led by a hyphen below zero.
abbrev pub figures : List ℤ → List (List ℕ)
figures columns = map signed_decimal columns
