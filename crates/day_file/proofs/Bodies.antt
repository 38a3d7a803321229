-- The bodies of entries, written and read.
use Rattle.std.proofs.Common.{◌≡◌, ℕ, ◌+◌, ◌*◌, List, [], ◌∷◌, ◌++◌, length, get_or, take, drop, sym, refl, ap, ◌∙◌, arith}
use borrow.Rule.Slice.PartMut.{put_mid}
use Rattle.std.proofs.lemmas.List.{append-nil, drop_all, drop_more}
use Rattle.settlement.specs.declared.figures.Interval.{Interval}
use Rattle.day_file.specs.Numbers.{half, words}
use Rattle.day_file.specs.Encode.{record_figures, record_body}
use Rattle.day_file.proofs.Bytes.{Small, grow, length-words, half_back}

-- A part written after the first four bytes, to the end.
tail_put : (a w old : List ℕ) (n k : ℕ) → length a ≡ 4 → length w ≡ n → length old ≡ 4 + n → k ≡ n → put_mid 4 k (a ++ drop 4 old) w ≡ a ++ w
tail_put a w old n k p q r s =
    grow a w old (a ++ drop 4 old) 4 k (4 + n) p (omega arith) (omega arith) refl ∙ (let d : drop (4 + n) old ≡ [] = drop_all (4 + n) old (omega arith) in let z = append-nil (a ++ w) in cc)

pub record_put : (v : Interval) (a w old : List ℕ) (k : ℕ) → a ≡ half v.seconds ++ v.flags ∷ 0 ∷ [] → w ≡ words (record_figures v) → length old ≡ 48 → k ≡ 44 → put_mid 4 k (a ++ drop 4 old) w ≡ record_body v
record_put v a w old k f g h i =
    let a4 : length a ≡ 4 = ap length f in
    let w44 : length w ≡ 44 = ap length g ∙ length-words (record_figures v) in
    tail_put a w old 44 k a4 w44 h (omega arith) ∙ ap (λ x. x ++ w) f ∙ ap (λ x. (half v.seconds ++ v.flags ∷ 0 ∷ []) ++ x) g

pub front_read : (b : List ℕ) (n : ℕ) → Small b → length b ≡ 48 → n ≡ get_or b 0 0 * 256 + get_or b 1 0 → half n ++ get_or b 2 0 ∷ [] ≡ take 3 b
front_read b n s l e =
    let d : b ≡ get_or b 0 0 ∷ get_or b 1 0 ∷ get_or b 2 0 ∷ drop 3 b = drop_more b 0 0 (omega arith) ∙ ap (λ x. get_or b 0 0 ∷ x) (drop_more b 1 0 (omega arith) ∙ ap (λ x. get_or b 1 0 ∷ x) (drop_more b 2 0 (omega arith))) in
    ap (λ x. half x ++ get_or b 2 0 ∷ []) e ∙ ap (λ x. x ++ get_or b 2 0 ∷ []) (half_back (get_or b 0 0) (get_or b 1 0) (s 0) (s 1)) ∙ sym (ap (take 3) d)
