-- A list that is worked out from a function of the place: its elements, and one of them written again.
use Rattle.std.proofs.Common.{◌≡◌, ℕ, ◌<◌, ◌≢◌, List, map, length, get_or, set, sym, ◌∙◌, ⊎_elim, arith, length-set}
use Rattle.std.specs.List.{range_with_len}
use Rattle.std.proofs.lemmas.List.FromFn.{length-map-range_with_len, get_or-map-range_with_len}
use Rattle.std.proofs.lemmas.List.{same_lists, ext_get_or, get_or-set_same, get_or-set_other}
use Rattle.std.proofs.lemmas.Bool.{cases_eq}

module _ {A : Type 0} (n : ℕ) where
  pub long : (f : ℕ → A) → length (map f (range_with_len 0 n)) ≡ n
  long f = length-map-range_with_len f 0 n

  pub at : (f : ℕ → A) (k : ℕ) (d : A) → k < n → get_or (map f (range_with_len 0 n)) k d ≡ f k
  at f k d l = get_or-map-range_with_len f 0 n k k d l (omega arith)

  -- Written at one place, it is worked out from a function that differs there alone.
  pub written_at : (f g : ℕ → A) (k : ℕ) (x : A) → k < n → x ≡ g k → ((j : ℕ) → j ≢ k → f j ≡ g j) → set (map f (range_with_len 0 n)) k x ≡ map g (range_with_len 0 n)
  written_at f g k x l e same =
      same_lists (set (map f (range_with_len 0 n)) k x) (map g (range_with_len 0 n)) (length-set (map f (range_with_len 0 n)) k x ∙ long f ∙ sym (long g))
      (λ j d below.
      let a = long f in
      let b = length-set (map f (range_with_len 0 n)) k x in
      let inside : j < n = omega arith in
      let kin : k < length (map f (range_with_len 0 n)) = omega arith in
      ⊎_elim
      (λ eq. rw eq (get_or-set_same (map f (range_with_len 0 n)) k x d kin ∙ e ∙ sym (at g k d l)))
      (λ off. get_or-set_other (map f (range_with_len 0 n)) k j x d off ∙ at f j d inside ∙ same j off ∙ sym (at g j d inside))
      (cases_eq j k))

  -- A list of that length is worked out from a function that gives each of its elements.
  pub all_of : (xs : List A) (f : ℕ → A) (d : A) → length xs ≡ n → ((k : ℕ) → k < n → get_or xs k d ≡ f k) → xs ≡ map f (range_with_len 0 n)
  all_of xs f d e each = ext_get_or d xs (map f (range_with_len 0 n)) (e ∙ sym (long f)) (λ k l. let inside : k < n = omega arith in each k inside ∙ sym (at f k d inside))
