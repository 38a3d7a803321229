-- A day as the bytes of its file. This is all that the format means: a file is read rightly if what was read is written
-- as the same bytes.
use Rattle.std.specs.Prelude.{ℕ, ◌-◌, ◌*◌, List, [], ◌∷◌, ◌++◌, length, replicate, ℤ}
use Rattle.std.specs.List.{flat_map}
use Rattle.settlement.specs.declared.figures.Interval.{Interval}
use Rattle.settlement.specs.declared.figures.Schedule.{Schedule}
use Rattle.book.specs.declared.calls.Change.{Change}
use Rattle.book.specs.declared.calls.Change.TheVariants.{Scheduled, Posted, Withdrawn, Read, Unread}
use Rattle.day_file.specs.declared.day.Header.{Header}
use Rattle.day_file.specs.Numbers.{half, words}

-- The figures of a schedule row, in the order of the file.
abbrev pub row_figures : Schedule → List ℤ
row_figures row = row.generation ∷ row.transactions ∷ row.spin ∷ row.prices.energy ∷ row.prices.loss ∷ row.prices.congestion ∷ []

-- The figures of an interval's record, in the order of the file.
abbrev pub record_figures : Interval → List ℤ
record_figures v =
    v.average ∷ v.limits.rtd ∷ v.limits.agc ∷ v.limits.energy ∷ v.transactions ∷ v.spin ∷ v.prices.energy ∷ v.prices.loss ∷ v.prices.congestion ∷ v.reserve.east ∷ v.reserve.west ∷ []

-- Figures, and zeros up to the 48 bytes of a body.
abbrev pub padded : List ℤ → List ℕ
padded zs = words zs ++ replicate (48 - 4 * length zs) 0

-- An interval's record: seconds in two bytes, flags, a zero, and its figures.
abbrev pub record_body : Interval → List ℕ
record_body v = half v.seconds ++ v.flags ∷ 0 ∷ words (record_figures v)

-- The key of an entry: its kind, its hour, its slot and a zero.
abbrev pub key : Change → List ℕ
key (Scheduled hour row) = 1 ∷ hour ∷ 0 ∷ 0 ∷ []
key (Posted hour slot interval) = 2 ∷ hour ∷ slot ∷ 0 ∷ []
key (Withdrawn hour slot) = 3 ∷ hour ∷ slot ∷ 0 ∷ []
key (Read hour kwh) = 4 ∷ hour ∷ 0 ∷ 0 ∷ []
key (Unread hour) = 5 ∷ hour ∷ 0 ∷ 0 ∷ []

-- The body of an entry: its figures.
unfoldable pub body : Change → List ℕ
body (Scheduled hour row) = padded (row_figures row)
body (Posted hour slot interval) = record_body interval
body (Withdrawn hour slot) = padded []
body (Read hour kwh) = padded (kwh ∷ [])
body (Unread hour) = padded []

-- The header, with the number of entries.
abbrev pub header : Header → ℕ → List ℕ
header h n = h.hours ∷ h.edition ∷ h.region ∷ 0 ∷ half n

-- A day's file: the header, the keys of all entries, their bodies.
abbrev pub encode : Header → List Change → List ℕ
encode h calls = header h (length calls) ++ (flat_map key calls ++ flat_map body calls)
