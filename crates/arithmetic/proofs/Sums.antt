-- Sums over a list, and what stands in a list of places.
use Rattle.std.proofs.Common.{◌≡◌, ℕ, zero, suc, ◌+◌, ◌*◌, ◌<◌, ◌≤◌, List, [], ◌∷◌, ◌++◌, length, get_or, take, drop, set, ℤ, pos, ◌+ℤ◌, ◌-ℤ◌, ◌*ℤ◌, neg_ℤ, nat_abs, ◌≤ℤ◌, Some, None, sum_by, Option, sym, refl, ap, ◌∙◌, subst, arith}
use lib.IntN.{+ℤ_assoc, *ℤ-zero}
use borrow.Author.Differences.{ints}
use Rattle.std.specs.List.{flat_map, All, Contains}
use Rattle.std.specs.Option.{option_to_list}
use Rattle.std.proofs.lemmas.List.{take_more, flat_map_more, take-append-drop, append-nil, set_split}
use Rattle.std.proofs.lemmas.List.Concat.{flat_map-append}
use Rattle.std.proofs.lemmas.List.Elements.{All-tail, Contains-append_left, Contains-push}
use Rattle.std.proofs.lemmas.List.Sums.{sum_by-cons}
use Rattle.arithmetic.specs.Sums.{sum_ℤ}
use Rattle.arithmetic.proofs.Ring.{int, ◌:+◌, ◌:-◌, ◌:*◌, ◌times◌, ring}
use Rattle.arithmetic.proofs.Sizes.{abs_sum}

-- One element more.
pub sum_ℤ-push : {A : Type 0} (f : A → ℤ) (xs : List A) (x : A) → sum_ℤ f (xs ++ x ∷ []) ≡ sum_ℤ f xs +ℤ f x
unfolding sum_ℤ
sum_ℤ-push f [] x = omega (arith, ints)
sum_ℤ-push f (y ∷ xs) x = ap (λ z. f y +ℤ z) (sum_ℤ-push f xs x) ∙ sym (+ℤ_assoc (f y) (sum_ℤ f xs) (f x))

pub sum_ℤ_none : {A : Type 0} (f : A → ℤ) → sum_ℤ f [] ≡ pos 0
unfolding sum_ℤ
sum_ℤ_none f = refl

-- A bound on k times each figure's distance from another is a bound on their sums'.
pub sum_ℤ_near : {A : Type 0} (k : ℕ) (f e : A → ℤ) (t : A → ℕ) → ((x : A) → nat_abs (pos k *ℤ f x -ℤ e x) ≤ t x)
    → (xs : List A) → nat_abs (pos k *ℤ sum_ℤ f xs -ℤ sum_ℤ e xs) ≤ sum_by t xs
unfolding sum_ℤ
sum_ℤ_near k f e t h [] = omega (arith, ints)
sum_ℤ_near k f e t h (x ∷ xs) =
    let a = k times int (f x) :- int (e x) in
    let b = k times int (sum_ℤ f xs) :- int (sum_ℤ e xs) in
    let r = ring (k times (int (f x) :+ int (sum_ℤ f xs)) :- (int (e x) :+ int (sum_ℤ e xs))) (a :+ b) (omega arith) in
    omega (arith, ap nat_abs r, abs_sum (pos k *ℤ f x -ℤ e x) (pos k *ℤ sum_ℤ f xs -ℤ sum_ℤ e xs), h x, sum_ℤ_near k f e t h xs, sum_by-cons t x xs)

-- What stands in one place more.
pub standing_more : {A : Type 0} (xs : List (Option A)) (k : ℕ) → k < length xs
    → flat_map option_to_list (take (k + 1) xs) ≡ flat_map option_to_list (take k xs) ++ option_to_list (get_or xs k None)
standing_more xs k h = ap (flat_map option_to_list) (take_more xs k None h) ∙ sym (flat_map_more option_to_list [] (take k xs) (get_or xs k None))

pub standing_empty : {A : Type 0} (xs : List (Option A)) (k : ℕ) → k < length xs → get_or xs k None ≡ None
    → flat_map option_to_list (take (k + 1) xs) ≡ flat_map option_to_list (take k xs)
standing_empty xs k l e =
    standing_more xs k l ∙ ap (λ o. flat_map option_to_list (take k xs) ++ option_to_list o) e ∙ append-nil (flat_map option_to_list (take k xs))

pub standing_push : {A : Type 0} (xs : List (Option A)) (k : ℕ) (x : A) → k < length xs → get_or xs k None ≡ Some x
    → flat_map option_to_list (take (k + 1) xs) ≡ flat_map option_to_list (take k xs) ++ x ∷ []
standing_push xs k x l e = standing_more xs k l ∙ ap (λ o. flat_map option_to_list (take k xs) ++ option_to_list o) e

-- A sum of figures that are not negative is not negative, and none of them exceeds it.
pub sum_ℤ_positive : {A : Type 0} (f : A → ℤ) (xs : List A) → All (λ x. pos 0 ≤ℤ f x) xs → pos 0 ≤ℤ sum_ℤ f xs
unfolding sum_ℤ
sum_ℤ_positive f [] h = omega (arith, ints)
sum_ℤ_positive f (x ∷ xs) h = let p = h 0 x (omega arith) in let q = sum_ℤ_positive f xs (All-tail (λ x. pos 0 ≤ℤ f x) x xs h) in omega (arith, ints)

pub sum_ℤ_part : {A : Type 0} (f : A → ℤ) (xs : List A) (k : ℕ) (d : A) → k < length xs → All (λ x. pos 0 ≤ℤ f x) xs → f (get_or xs k d) ≤ℤ sum_ℤ f xs
unfolding sum_ℤ
sum_ℤ_part f [] k d l h = absurd (omega arith)
sum_ℤ_part f (x ∷ xs) zero d l h = let q = sum_ℤ_positive f xs (All-tail (λ x. pos 0 ≤ℤ f x) x xs h) in omega (arith, ints)
sum_ℤ_part f (x ∷ xs) (suc k) d l h =
    let p = h 0 x (omega arith) in let q = sum_ℤ_part f xs k d (omega arith) (All-tail (λ x. pos 0 ≤ℤ f x) x xs h) in omega (arith, ints)

-- What stands before a filled place, in it, and after it.
pub standing_split : {A : Type 0} (xs : List (Option A)) (k : ℕ) (x : A) → k < length xs → get_or xs k None ≡ Some x
    → flat_map option_to_list xs ≡ (flat_map option_to_list (take k xs) ++ x ∷ []) ++ flat_map option_to_list (drop (k + 1) xs)
standing_split xs k x l e =
    ap (flat_map option_to_list) (sym (take-append-drop (k + 1) xs)) ∙ flat_map-append option_to_list (take (k + 1) xs) (drop (k + 1) xs)
    ∙ ap (λ zs. zs ++ flat_map option_to_list (drop (k + 1) xs)) (standing_push xs k x l e)

pub standing_has : {A : Type 0} (xs : List (Option A)) (k : ℕ) (x : A) → k < length xs → get_or xs k None ≡ Some x → Contains (flat_map option_to_list xs) x
standing_has xs k x l e =
    subst (λ zs. Contains zs x) (sym (standing_split xs k x l e)) (Contains-append_left (flat_map option_to_list (take k xs) ++ x ∷ []) (flat_map option_to_list (drop (k + 1) xs)) x (Contains-push (flat_map option_to_list (take k xs)) x))

-- A place in which something stands is there.
pub standing_place : {A : Type 0} (xs : List (Option A)) (k : ℕ) (x : A) → get_or xs k None ≡ Some x → k < length xs
standing_place [] k x e = let z : ◌≡◌ {A = ℕ} 0 1 = cc in absurd (omega arith)
standing_place (y ∷ xs) zero x e = omega arith
standing_place (y ∷ xs) (suc k) x e = let l = standing_place xs k x e in omega arith

-- Sums of multiples, of negated figures, and of naturals.
pub sum_ℤ_scale : {A : Type 0} (c : ℤ) (f : A → ℤ) (xs : List A) → sum_ℤ (λ x. c *ℤ f x) xs ≡ c *ℤ sum_ℤ f xs
unfolding sum_ℤ
sum_ℤ_scale c f [] = sym (*ℤ-zero c)
sum_ℤ_scale c f (x ∷ xs) = ap (λ z. c *ℤ f x +ℤ z) (sum_ℤ_scale c f xs) ∙ ring (int c :* int (f x) :+ int c :* int (sum_ℤ f xs)) (int c :* (int (f x) :+ int (sum_ℤ f xs))) (omega arith)

pub sum_ℤ-neg : {A : Type 0} (f : A → ℤ) (xs : List A) → sum_ℤ (λ x. neg_ℤ (f x)) xs ≡ neg_ℤ (sum_ℤ f xs)
unfolding sum_ℤ
sum_ℤ-neg f [] = refl
sum_ℤ-neg f (x ∷ xs) = let e = sum_ℤ-neg f xs in omega (arith, ints)

pub sum_ℤ_naturals : {A : Type 0} (f : A → ℕ) (xs : List A) → sum_ℤ (λ x. pos (f x)) xs ≡ pos (sum_by f xs)
unfolding sum_ℤ
sum_ℤ_naturals f [] = refl
sum_ℤ_naturals f (x ∷ xs) = ap (λ z. pos (f x) +ℤ z) (sum_ℤ_naturals f xs) ∙ ap pos (sym (sum_by-cons f x xs))

pub sum_by_scale : {A : Type 0} (k : ℕ) (f : A → ℕ) (xs : List A) → sum_by (λ x. k * f x) xs ≡ k * sum_by f xs
sum_by_scale k f [] = omega arith
sum_by_scale k f (x ∷ xs) = omega (arith, sum_by-cons (λ x. k * f x) x xs, sum_by-cons f x xs, sum_by_scale k f xs, ap (λ (t : ℕ). k * t) (sum_by-cons f x xs))

-- Sums one after another, and how large a sum can be.
pub sum_ℤ-append : {A : Type 0} (f : A → ℤ) (xs ys : List A) → sum_ℤ f (xs ++ ys) ≡ sum_ℤ f xs +ℤ sum_ℤ f ys
unfolding sum_ℤ
sum_ℤ-append f [] ys = omega (arith, ints)
sum_ℤ-append f (x ∷ xs) ys = ap (λ z. f x +ℤ z) (sum_ℤ-append f xs ys) ∙ sym (+ℤ_assoc (f x) (sum_ℤ f xs) (sum_ℤ f ys))

pub sum_ℤ-le : {A : Type 0} (f : A → ℤ) (n : ℕ) (xs : List A) → All (λ x. nat_abs (f x) ≤ n) xs → nat_abs (sum_ℤ f xs) ≤ length xs * n
unfolding sum_ℤ
sum_ℤ-le f n [] h = omega arith
sum_ℤ-le f n (x ∷ xs) h = omega (arith, abs_sum (f x) (sum_ℤ f xs), h 0 x (omega arith), sum_ℤ-le f n xs (All-tail (λ x. nat_abs (f x) ≤ n) x xs h))

-- No more stands than there are places.
pub standing_length : {A : Type 0} (xs : List (Option A)) → length (flat_map option_to_list xs) ≤ length xs
standing_length [] = omega arith
standing_length (None ∷ xs) = let l = standing_length xs in omega arith
standing_length (Some x ∷ xs) = let l = standing_length xs in omega arith

-- What stands where one place was rewritten, around that place.
pub standing_set : {A : Type 0} (xs : List (Option A)) (k : ℕ) (o : Option A) → k < length xs
    → flat_map option_to_list (set xs k o) ≡ flat_map option_to_list (take k xs) ++ (option_to_list o ++ flat_map option_to_list (drop (suc k) xs))
standing_set xs k o l = ap (flat_map option_to_list) (set_split xs k o l) ∙ flat_map-append option_to_list (take k xs) (o ∷ drop (suc k) xs)
