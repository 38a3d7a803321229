-- Items laid one after another.
use Rattle.std.proofs.Common.{◌≡◌, ℕ, ◌+◌, ◌*◌, ◌<◌, ◌≤◌, List, [], ◌∷◌, ◌++◌, length, get_or, take, drop, sym, ap, ◌∙◌, mul-add, arith, take-add}
use borrow.Rule.Slice.PartMut.{put_mid}
use Rattle.std.specs.List.{flat_map}
use Rattle.std.proofs.lemmas.List.{take_more, flat_map_more, length-append}
use Rattle.std.proofs.lemmas.Slice.{take-put_mid}

-- The bytes of items of one size.
pub length_parts : {T : Type 0} (f : T → List ℕ) (n : ℕ) → ((x : T) → length (f x) ≡ n) → (xs : List T) → length (flat_map f xs) ≡ n * length xs
length_parts f n size [] = omega arith
length_parts f n size (x ∷ xs) = let h = length_parts f n size xs in let k = size x in length-append (f x) (flat_map f xs) ∙ (omega (arith, mul-add n 1 (length xs)))

-- One more item is read.
pub read_more : {T : Type 0} (f : T → List ℕ) (xs : List T) (x : T) (a n b : ℕ) (bytes : List ℕ) → flat_map f xs ≡ take a bytes → f x ≡ take n (drop a bytes) → b ≡ a + n → flat_map f (xs ++ x ∷ []) ≡ take b bytes
read_more f xs x a n b bytes h e q = sym (flat_map_more f [] xs x) ∙ ap (λ y. y ++ f x) h ∙ ap (λ y. take a bytes ++ y) e ∙ sym (take-add a n bytes) ∙ ap (λ k. take k bytes) (sym q)

-- One more item is laid, after the first i.
pub laid_more : {T : Type 0} (f : T → List ℕ) (xs : List T) (x : T) (i a k b : ℕ) (out part : List ℕ) → i < length xs → x ≡ get_or xs i x → part ≡ f x → b ≡ a + length part → a ≤ length out → take a out ≡ flat_map f (take i xs) → take b (put_mid a k out part) ≡ flat_map f (take (i + 1) xs)
laid_more f xs x i a k b out part h r e l m g =
    let t : take (i + 1) xs ≡ take i xs ++ x ∷ [] = take_more xs i x h ∙ ap (λ y. take i xs ++ y ∷ []) (sym r) in
    take-put_mid a k out part b l m ∙ ap (λ y. y ++ part) g ∙ ap (λ y. flat_map f (take i xs) ++ y) e ∙ flat_map_more f [] (take i xs) x ∙ ap (flat_map f) (sym t)
