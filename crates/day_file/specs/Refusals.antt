-- What is wrong with a file, and what is wrong with a day to be written: the first that applies, with its place in the
-- file.
use Rattle.std.specs.Prelude.{ℕ, zero, suc, ◌+◌, ◌*◌, Bool, true, false, cond, List, [], ◌∷◌, length, take, drop, None, Option, ◌==◌, nat_le, slice_index}
use Rattle.settlement.specs.Rulings.{unless, first}
use Rattle.day_file.specs.declared.day.Header.{Header}
use Rattle.day_file.specs.declared.faults.FileFault.{FileFault}
use Rattle.day_file.specs.declared.faults.FileFault.TheVariants.{Length, Header as InHeader, Kind, NotZero, Room}

-- The first byte that is not zero, of bytes that begin at a place of the file.
abbrev pub not_zero : ℕ → List ℕ → Option FileFault
not_zero place [] = None
not_zero place (b ∷ bytes) = unless (b == 0) (NotZero place) (not_zero (place + 1) bytes)

-- There are five kinds of entry, 1 to 5.
abbrev pub is_kind_byte : ℕ → Bool
is_kind_byte kind = cond (nat_le 1 kind) (nat_le kind 5) false

-- Only a posting and an interval withdrawn name a slot.
abbrev pub names_slot : ℕ → Bool
names_slot kind = cond (kind == 2) true (kind == 3)

-- What a key has no use for must be zero: the last byte, and the slot's where its kind names none.
abbrev pub key_zeros : ℕ → ℕ → List ℕ → Option FileFault
key_zeros kind place key = cond (names_slot kind) (not_zero (place + 3) (take 1 (drop 3 key))) (not_zero (place + 2) (take 2 (drop 2 key)))

-- A key at a place: its kind first, then the bytes that must be zero.
abbrev pub key_fault : ℕ → List ℕ → Option FileFault
key_fault place key = unless (is_kind_byte (slice_index key 0)) (Kind place) (key_zeros (slice_index key 0) place key)

-- A body at a place: what its kind has no figures for must be zero.
abbrev pub body_fault : ℕ → ℕ → List ℕ → Option FileFault
body_fault kind place body =
    cond (kind == 1) (not_zero (place + 24) (take 24 (drop 24 body)))
    (cond (kind == 2) (not_zero (place + 3) (take 1 (drop 3 body)))
    (cond (kind == 4) (not_zero (place + 4) (take 44 (drop 4 body)))
    (not_zero place (take 48 body))))

-- An entry, by the places of its key and its body.
abbrev pub entry_fault : List ℕ → ℕ → ℕ → Option FileFault
entry_fault bytes k b = first (key_fault k (take 4 (drop k bytes))) (body_fault (slice_index bytes k) b (take 48 (drop b bytes)))

-- So many entries, by the places of the first.
unfoldable pub entries_fault : List ℕ → ℕ → ℕ → ℕ → Option FileFault
entries_fault bytes zero k b = None
entries_fault bytes (suc n) k b = first (entry_fault bytes k b) (entries_fault bytes n (k + 4) (b + 48))

-- The header's values that a day has itself.
abbrev pub header_fault : Header → Option FileFault
header_fault h =
    unless (cond (nat_le 23 h.hours) (nat_le h.hours 25) false) (InHeader 0)
    (unless (nat_le h.edition 1) (InHeader 1)
    (unless (nat_le h.region 1) (InHeader 2) None))

-- The header that the first bytes of a file give.
abbrev pub header_in : List ℕ → Header
header_in bytes = record { hours = slice_index bytes 0; edition = slice_index bytes 1; region = slice_index bytes 2 }

-- The number of entries that they give.
abbrev pub count_in : List ℕ → ℕ
count_in bytes = slice_index bytes 4 * 256 + slice_index bytes 5

-- A file's header, and its length.
abbrev pub opening_fault : List ℕ → Option FileFault
opening_fault bytes =
    unless (nat_le 6 (length bytes)) (Length (length bytes))
    (first (header_fault (header_in bytes))
    (unless (slice_index bytes 3 == 0) (InHeader 3)
    (unless (nat_le (count_in bytes) 1000) (InHeader 4)
    (unless (length bytes == 6 + 52 * count_in bytes) (Length (length bytes)) None))))

-- A file: its header and length, then entry by entry.
abbrev pub file_fault : List ℕ → Option FileFault
file_fault bytes = first (opening_fault bytes) (entries_fault bytes (count_in bytes) 6 (6 + 4 * count_in bytes))

-- A day with so many calls, to be written into so many bytes of memory.
abbrev pub write_fault : Header → ℕ → ℕ → Option FileFault
write_fault h n room =
    first (header_fault h)
    (unless (nat_le n 1000) (InHeader 4)
    (unless (nat_le (6 + 52 * n) room) (Room (6 + 52 * n)) None))
