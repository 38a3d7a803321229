-- The listing as it grows: row by row, and from the front of the memory on.
use Rattle.std.proofs.Common.{◌≡◌, ℕ, zero, suc, ◌+◌, ◌≤◌, List, [], ◌∷◌, ◌++◌, length, take, drop, sym, refl, ap, ◌∙◌, arith}
use Rattle.std.specs.List.{range_with_len, flat_map}
use Rattle.std.proofs.lemmas.List.FromFn.{map-range_with_len_more}
use Rattle.std.proofs.lemmas.List.{append_assoc, append-nil, length-append, map-id, flat_map_more, take_at, drop-drop, drop_at}
use Rattle.std.proofs.lemmas.Slice.{drop-append-drop}
use Rattle.book.specs.declared.figures.Table.{Table}
use Rattle.book.specs.Lines.{row_at}
use Rattle.listing.specs.Listing.{heading, first_rows, listing, laid}
use Rattle.listing.specs.Rows.{hour_row, day_row}

counting_more : (n : ℕ) → range_with_len 0 (n + 1) ≡ range_with_len 0 n ++ (n ∷ [])
counting_more n =
    sym (map-id (range_with_len 0 (n + 1))) ∙ map-range_with_len_more (λ k. k) 0 n n (omega arith) ∙ ap (λ xs. xs ++ (n ∷ [])) (map-id (range_with_len 0 n))

-- One hour more.
pub rows_more : (t : Table) (n : ℕ) → first_rows t (n + 1) ≡ first_rows t n ++ hour_row n (row_at t n)
unfolding first_rows
rows_more t n =
    let f : ℕ → List ℕ = λ hour. hour_row hour (row_at t hour) in
    ap (flat_map f) (counting_more n) ∙ sym (flat_map_more f [] (range_with_len 0 n) n)

pub rows_none : (t : Table) → first_rows t 0 ≡ []
unfolding first_rows
rows_none t = refl

-- Fewer rows are no longer.
joined_le : (f : ℕ → List ℕ) (a m n : ℕ) → m ≤ n → length (flat_map f (range_with_len a m)) ≤ length (flat_map f (range_with_len a n))
joined_le f a zero n h = omega arith
joined_le f a (suc m) zero h = absurd (omega arith)
joined_le f a (suc m) (suc n) h =
    omega (arith, joined_le f (a + 1) m n (omega arith), length-append (f a) (flat_map f (range_with_len (a + 1) m)), length-append (f a) (flat_map f (range_with_len (a + 1) n)))

pub rows_le : (t : Table) (m n : ℕ) → m ≤ n → length (first_rows t m) ≤ length (first_rows t n)
unfolding first_rows
rows_le t m n h = joined_le (λ hour. hour_row hour (row_at t hour)) 0 m n h

-- What is laid after a text makes the text longer by it.
pub laid_more : (out old now bytes : List ℕ) (so_far : List ℕ) (at : ℕ) → at ≡ length so_far → out ≡ laid so_far old → now ≡ take at out ++ (bytes ++ drop (at + length bytes) out) → now ≡ laid (so_far ++ bytes) old
laid_more out old now bytes so_far at p q r =
    let a : take at out ≡ so_far = ap (take at) q ∙ take_at so_far (drop (length so_far) old) at (sym p) in
    let n : length so_far + length bytes ≡ length (so_far ++ bytes) = sym (length-append so_far bytes) in
    let b : drop (at + length bytes) out ≡ drop (length (so_far ++ bytes)) old =
    sym (drop-drop (length bytes) at out) ∙ ap (λ y. drop (length bytes) (drop at y)) q ∙ ap (drop (length bytes)) (drop_at so_far (drop (length so_far) old) at (sym p)) ∙ drop-drop (length bytes) (length so_far) old ∙ ap (λ k. drop k old) n
    in
    r ∙ ap (λ y. y ++ (bytes ++ drop (at + length bytes) out)) a ∙ ap (λ y. so_far ++ (bytes ++ y)) b ∙ sym (append_assoc so_far bytes (drop (length (so_far ++ bytes)) old))

-- A listing as far as its first hours, and one hour further.
abbrev pub as_far : Table → ℕ → List ℕ
as_far t n = heading ++ first_rows t n

pub far_none : (t : Table) → as_far t 0 ≡ heading
far_none t = ap (λ y. heading ++ y) (rows_none t) ∙ append-nil heading

pub far_more : (t : Table) (n : ℕ) → as_far t (n + 1) ≡ as_far t n ++ hour_row n (row_at t n)
far_more t n = ap (λ y. heading ++ y) (rows_more t n) ∙ sym (append_assoc heading (first_rows t n) (hour_row n (row_at t n)))

pub far_le : (t : Table) (m n : ℕ) → m ≤ n → length (as_far t m) ≤ length (as_far t n)
far_le t m n h = omega (arith, rows_le t m n h, length-append heading (first_rows t m), length-append heading (first_rows t n))

pub length_far_more : (t : Table) (n k : ℕ) (bytes : List ℕ) → k ≡ length (as_far t n) → bytes ≡ hour_row n (row_at t n) → k + length bytes ≡ length (as_far t (n + 1))
length_far_more t n k bytes p q =
    let l = ap length (far_more t n) ∙ length-append (as_far t n) (hour_row n (row_at t n)) in
    omega (arith, ap length q)

pub length-heading : length heading ≡ 55
unfolding heading
length-heading = refl

-- The whole listing: the day's row after the last hour.
pub listing_far : (t : Table) (n : ℕ) (bytes : List ℕ) → n ≡ 25 → bytes ≡ day_row t.day → as_far t n ++ bytes ≡ listing t
listing_far t n bytes p q = ap (λ k. as_far t k ++ bytes) p ∙ ap (λ y. as_far t 25 ++ y) q

pub length-listing : (t : Table) (n k : ℕ) (bytes : List ℕ) → n ≡ 25 → k ≡ length (as_far t n) → bytes ≡ day_row t.day → k + length bytes ≡ length (listing t)
length-listing t n k bytes p q r = ap (λ x. x + length bytes) q ∙ sym (length-append (as_far t n) bytes) ∙ ap length (listing_far t n bytes p r)

-- The front of a listing is no longer than the whole.
pub far_within : (t : Table) (n : ℕ) → n ≤ 25 → length (as_far t n) ≤ length (listing t)
far_within t n h = omega (arith, far_le t n 25 h, length-append (as_far t 25) (day_row t.day))

-- A text laid over a shorter one hides it.
pub laid_over : (text shorter old : List ℕ) → length shorter ≤ length text → laid text (laid shorter old) ≡ laid text old
laid_over text shorter old h = ap (λ y. text ++ y) (drop-append-drop (length shorter) old shorter (length text) h refl)

pub laid_first : (out now bytes : List ℕ) → bytes ≡ heading → now ≡ bytes ++ drop (0 + length bytes) out → now ≡ laid heading out
laid_first out now bytes p q = laid_more out out now bytes [] 0 refl refl q ∙ ap (λ x. laid x out) p

-- The memory after the last row, from the memory as the heading left it.
pub laid_listing : (t : Table) (out headed now : List ℕ) → headed ≡ laid heading out → now ≡ laid (listing t) headed → now ≡ laid (listing t) out
laid_listing t out headed now p q =
    q ∙ ap (laid (listing t)) p ∙ laid_over (listing t) heading out (omega (arith, far_within t 0 (omega arith), ap length (far_none t)))
