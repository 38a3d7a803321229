-- Numbers to bytes and back, and parts written one after another.
use Rattle.std.proofs.Common.{◌≡◌, ℕ, zero, suc, ◌+◌, ◌*◌, ◌/◌, ◌%◌, ◌^◌, ◌<◌, ◌≤◌, List, [], ◌∷◌, ◌++◌, length, get_or, take, drop, replicate, map, ℤ, pos, sym, refl, ap, ◌∙◌, arith, take-add, w32, SFits, to_z, of_z, rules}
use native.Mathlib.Nat.{div-div-eq-div-mul}
use borrow.Author.Gap.{read_sfits}
use borrow.Rule.Slice.PartMut.{put_mid}
use lib.Signed.{mag}
use Rattle.std.specs.List.{All, range_with_len}
use Rattle.std.proofs.lemmas.List.FromFn.{fill_by_all}
use Rattle.std.proofs.lemmas.List.Elements.{All-nil, All-cons, All-from_get_or}
use Rattle.std.proofs.lemmas.Int.{ints, to_z-of_z, of_z-to_z}
use Rattle.std.proofs.lemmas.List.{take_at, drop_at, drop-drop, append_assoc, drop_more, drop-replicate, get_or-drop}
use Rattle.day_file.specs.Numbers.{half, quad, word, words}
use Rattle.day_file.specs.Encode.{padded}

mix : (n q p o a b c d : ℕ) → 256 * q + d ≡ n → 256 * p + c ≡ q → 256 * o + b ≡ p → o ≡ a → a * 16777216 + b * 65536 + c * 256 + d ≡ n
mix n q p o a b c d h1 h2 h3 h4 = omega arith

four : (n : ℕ) → n < 2 ^ 32 → (n / 16777216 % 256) * 16777216 + (n / 65536 % 256) * 65536 + (n / 256 % 256) * 256 + n % 256 ≡ n
four n h =
    mix n (n / 256) (n / 65536) (n / 16777216) _ _ _ _ (omega arith) (omega (arith, div-div-eq-div-mul n 256 256)) (omega (arith, div-div-eq-div-mul n 65536 256)) (omega arith)

of_z_below : (z : ℤ) → SFits w32 z → of_z w32 z < 2 ^ 32
of_z_below z f = search (rules, ints)

-- A number as a machine hands it on.
pub handed : {z : ℤ} → mag z < 2147483648 → to_z w32 (of_z w32 z) ≡ z
handed {z} h = to_z-of_z w32 z (record { sfits = h })

-- A number that was read, as a machine hands it on.
pub read_word : (z : ℤ) {bs : List ℕ} → mag z < 2147483648 → word z ≡ bs → word (to_z w32 (of_z w32 z)) ≡ bs
read_word z {bs} h e = ap word (handed {z = z} h) ∙ e

-- Numbers, listed as a machine hands them on.
pub listed : (zs : List ℤ) (n : ℕ) → length zs ≡ n → All (SFits w32) zs → map (λ k. to_z w32 (of_z w32 (get_or zs k (pos 0)))) (range_with_len 0 n) ≡ zs
listed zs n l f = sym (fill_by_all (λ k. to_z w32 (of_z w32 (get_or zs k (pos 0)))) zs n (pos 0) l (λ k h. sym (to_z-of_z w32 _ (f k (pos 0) (omega arith)))))

-- The number that four bytes write.
abbrev pub value_of : ℕ → ℕ → ℕ → ℕ → ℤ
value_of a b c d = to_z w32 (a * 16777216 + b * 65536 + c * 256 + d)

abbrev pub value_at : List ℕ → ℕ → ℤ
value_at bs i = value_of (get_or bs i 0) (get_or bs (i + 1) 0) (get_or bs (i + 2) 0) (get_or bs (i + 3) 0)

pub word_back : (z : ℤ) (rest : List ℕ) → SFits w32 z → value_at (word z ++ rest) 0 ≡ z
word_back z rest f = ap (to_z w32) (four (of_z w32 z) (of_z_below z f)) ∙ to_z-of_z w32 z f

quad_back : (a b c d : ℕ) → a < 256 → b < 256 → c < 256 → d < 256 → word (value_of a b c d) ≡ a ∷ b ∷ c ∷ d ∷ []
quad_back a b c d p q r s =
    let e : of_z w32 (to_z w32 (a * 16777216 + b * 65536 + c * 256 + d)) ≡ a * 16777216 + b * 65536 + c * 256 + d = of_z-to_z w32 _ (omega arith) in
    let x : (a * 16777216 + b * 65536 + c * 256 + d) / 16777216 % 256 ≡ a = omega arith in
    let y : (a * 16777216 + b * 65536 + c * 256 + d) / 65536 % 256 ≡ b = omega arith in
    let z : (a * 16777216 + b * 65536 + c * 256 + d) / 256 % 256 ≡ c = omega arith in
    let w : (a * 16777216 + b * 65536 + c * 256 + d) % 256 ≡ d = omega arith in
    ap quad e ∙ (cc)

pub two_back : (n : ℕ) → n < 2 ^ 16 → (n / 256 % 256) * 256 + n % 256 ≡ n
two_back n h = omega arith

pub half_back : (a b : ℕ) → a < 256 → b < 256 → half (a * 256 + b) ≡ a ∷ b ∷ []
half_back a b p q =
    let x : (a * 256 + b) / 256 % 256 ≡ a = omega arith in
    let y : (a * 256 + b) % 256 ≡ b = omega arith in
    cc

-- Bytes are below 256.
abbrev pub Small : List ℕ → Type 0
Small bs = (k : ℕ) → get_or bs k 0 < 256

small_take : (m : ℕ) (l : List ℕ) → Small l → Small (take m l)
small_take zero l s i = omega arith
small_take (suc m) [] s i = omega arith
small_take (suc m) (x ∷ l) s zero = s 0
small_take (suc m) (x ∷ l) s (suc i) = small_take m l (λ j. s (suc j)) i

pub small_part : (m k : ℕ) (l : List ℕ) → Small l → Small (take m (drop k l))
small_part m k l s = small_take m (drop k l) (λ i. let e = get_or-drop k l i 0 in let h = s (k + i) in omega arith)

pub all_small : (l : List ℕ) → Small l → All (λ b. b < 2 ^ 8) l
all_small l s = All-from_get_or (λ b. b < 2 ^ 8) l 0 (λ i h. s i)

pub four_at : (l : List ℕ) (k : ℕ) → k + 4 ≤ length l → take 4 (drop k l) ≡ get_or l k 0 ∷ get_or l (k + 1) 0 ∷ get_or l (k + 2) 0 ∷ get_or l (k + 3) 0 ∷ []
four_at l k h =
    let d0 = drop_more l k 0 (omega arith) in
    let d1 : drop (k + 1) l ≡ get_or l (k + 1) 0 ∷ drop (k + 2) l = drop_more l (k + 1) 0 (omega arith) ∙ ap (λ n. get_or l (k + 1) 0 ∷ drop n l) (omega arith) in
    let d2 : drop (k + 2) l ≡ get_or l (k + 2) 0 ∷ drop (k + 3) l = drop_more l (k + 2) 0 (omega arith) ∙ ap (λ n. get_or l (k + 2) 0 ∷ drop n l) (omega arith) in
    let d3 : drop (k + 3) l ≡ get_or l (k + 3) 0 ∷ drop (k + 4) l = drop_more l (k + 3) 0 (omega arith) ∙ ap (λ n. get_or l (k + 3) 0 ∷ drop n l) (omega arith) in
    ap (take 4) (d0 ∙ ap (λ x. get_or l k 0 ∷ x) (d1 ∙ ap (λ x. get_or l (k + 1) 0 ∷ x) (d2 ∙ ap (λ x. get_or l (k + 2) 0 ∷ x) d3)))

-- The number read from four bytes is written as these.
pub value_back : (bs : List ℕ) (i : ℕ) → Small bs → i + 4 ≤ length bs → word (value_at bs i) ≡ take 4 (drop i bs)
value_back bs i s h = quad_back _ _ _ _ (s i) (s (i + 1)) (s (i + 2)) (s (i + 3)) ∙ sym (four_at bs i h)

-- So many numbers that stand in the bytes from a place on.
pub record Stand (bs : List ℕ) (i n : ℕ) (zs : List ℤ) : Type 0 where
  pub there : words zs ≡ take (4 * n) (drop i bs)
  pub fit : All (SFits w32) zs

pub none_stand : {bs : List ℕ} {i : ℕ} → Stand bs i 0 []
unfolding words
none_stand {bs} {i} = record { there = refl; fit = All-nil (SFits w32) }

-- One number more, in front of others: the one that the bytes there write.
pub value_stand : {bs : List ℕ} {i n : ℕ} {zs : List ℤ} → Small bs → i + 4 ≤ length bs → Stand bs (4 + i) n zs → Stand bs i (suc n) (value_at bs i ∷ zs)
unfolding words
value_stand {bs} {i} {n} {zs} s h q =
    record {
      there = ap (λ x. x ++ words zs) (value_back bs i s h) ∙ ap (λ x. take 4 (drop i bs) ++ x) (q.there ∙ ap (take (4 * n)) (sym (drop-drop 4 i bs ∙ ap (λ m. drop m bs) (omega arith)))) ∙ sym (take-add 4 (4 * n) (drop i bs)) ∙ ap (λ m. take m (drop i bs)) (omega arith);
      fit = All-cons (SFits w32) _ zs (read_sfits w32 _) q.fit;
    }

pub length-words : (zs : List ℤ) → length (words zs) ≡ 4 * length zs
unfolding words
length-words [] = refl
length-words (z ∷ zs) = let h = length-words zs in omega arith

-- A part written right after what is written already.
pub grow : (w ys old xs : List ℕ) (a k e : ℕ) → length w ≡ a → length ys ≡ k → e ≡ a + k → xs ≡ w ++ drop a old → put_mid a k xs ys ≡ (w ++ ys) ++ drop e old
grow w ys old xs a k e p q r h =
    let t : take a xs ≡ w = ap (take a) h ∙ take_at w (drop a old) a p in
    let d : drop a xs ≡ drop a old = ap (drop a) h ∙ drop_at w (drop a old) a p in
    let f : drop k (drop a old) ≡ drop e old = drop-drop k a old ∙ ap (λ n. drop n old) (sym r) in
    let g = append_assoc w ys (drop e old) in
    cc

pub pad_is : (zs : List ℤ) (w : List ℕ) → w ≡ words zs → w ++ drop (4 * length zs) (replicate 48 0) ≡ padded zs
pad_is zs w p = ap (λ x. x ++ drop (4 * length zs) (replicate 48 0)) p ∙ ap (λ x. words zs ++ x) (drop-replicate (4 * length zs) 48 0)
