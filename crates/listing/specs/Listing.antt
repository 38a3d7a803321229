-- The listing of a day, and how it comes into the memory that is lent for it.
use Rattle.std.specs.Prelude.{◌≡◌, ℕ, ◌<◌, ◌≤◌, List, [], ◌∷◌, ◌++◌, length, drop, Ok, Err, codes, Result}
use Rattle.std.specs.List.{range_with_len, flat_map}
use Rattle.book.specs.declared.figures.Table.{Table}
use Rattle.book.specs.Lines.{row_at}
use Rattle.day_file.specs.declared.faults.FileFault.{FileFault}
use Rattle.day_file.specs.declared.faults.FileFault.TheVariants.{Room}
use Rattle.listing.specs.Fields.{line_of}
use Rattle.listing.specs.Rows.{hour_row, day_row}

-- The names of the columns.
unfoldable pub heading : List ℕ
heading = line_of (codes "HOUR" ∷ codes "STATE" ∷ codes "DAY_AHEAD" ∷ codes "ENERGY" ∷ codes "LOSS" ∷ codes "CONGESTION" ∷ codes "SPIN" ∷ codes "TOTAL" ∷ [])

-- The rows of the first hours of a day, as many as are asked for, one after the other.
unfoldable pub first_rows : Table → ℕ → List ℕ
first_rows table hours = flat_map (λ hour. hour_row hour (row_at table hour)) (range_with_len 0 hours)

-- The heading, the rows of the hours 0 to 24, and the row of the day.
abbrev pub listing : Table → List ℕ
listing table = (heading ++ first_rows table 25) ++ day_row table.day

-- A text at the front of memory, and past it what was there before.
abbrev pub laid : List ℕ → List ℕ → List ℕ
laid text before = text ++ drop (length text) before

-- Where a text fits it is laid into the memory, and its length is answered; where it does not, nothing is touched, and
-- the length that it needs is told.
abbrev pub Laid : List ℕ → List ℕ → Result ℕ FileFault → List ℕ → Type 0
Laid text before (Ok n) after = (length text ≤ length before) × (n ≡ length text) × (after ≡ laid text before)
Laid text before (Err fault) after = (length before < length text) × (fault ≡ Room (length text)) × (after ≡ before)
