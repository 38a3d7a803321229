-- A key and a body that have no fault are those of a call.
use Rattle.std.proofs.Common.{◌≡◌, ℕ, ◌+◌, ◌^◌, ◌<◌, ◌≤◌, Bool, true, false, cond, List, [], ◌∷◌, ◌++◌, length, get_or, take, drop, replicate, ℤ, None, sym, refl, ap, ◌∙◌, subst, arith}
use Rattle.std.specs.List.{All}
use Rattle.std.proofs.lemmas.List.{take_all, length-drop, drop_more, take-append-drop}
use Rattle.std.proofs.lemmas.Bool.Decides.{nat_tests}
use Rattle.settlement.proofs.Rulings.{passed}
use Rattle.settlement.specs.declared.figures.Interval.{Interval}
use Rattle.settlement.specs.declared.figures.Schedule.{Schedule as Row}
use Rattle.book.specs.declared.calls.Change.TheVariants.{Scheduled, Posted, Withdrawn, Read, Unread}
use Rattle.settlement.specs.Rulings.{unless}
use Rattle.day_file.specs.declared.faults.FileFault.TheVariants.{Kind as BadKind}
use Rattle.day_file.specs.declared.kind.Kind.{Kind}
use Rattle.day_file.specs.declared.kind.Kind.TheVariants.{Schedule, Posting, Withdrawal, Reading, ReadingWithdrawn}
use Rattle.day_file.specs.Kinds.{kind_byte}
use Rattle.day_file.specs.Numbers.{half, word, words}
use Rattle.day_file.specs.Encode.{row_figures, record_figures, body}
use Rattle.day_file.specs.Refusals.{not_zero, is_kind_byte, names_slot, key_zeros, key_fault, body_fault}
use Rattle.day_file.proofs.Zeros.{zeros_from}

four_is : (l : List ℕ) → length l ≡ 4 → l ≡ get_or l 0 0 ∷ get_or l 1 0 ∷ get_or l 2 0 ∷ get_or l 3 0 ∷ []
four_is [] h = absurd (omega arith)
four_is (a ∷ []) h = absurd (omega arith)
four_is (a ∷ b ∷ []) h = absurd (omega arith)
four_is (a ∷ b ∷ c ∷ []) h = absurd (omega arith)
four_is (a ∷ b ∷ c ∷ d ∷ []) h = refl
four_is (a ∷ b ∷ c ∷ d ∷ e ∷ l) h = absurd (omega arith)

kind_is : (k : ℕ) → is_kind_byte k ≡ true → (0 < k) × (k < 6)
kind_is k e = (grind (arith, nat_tests), grind (arith, nat_tests))

pub kind_known : (at : ℕ) (l : List ℕ) → key_fault at l ≡ None → (0 < get_or l 0 0) × (get_or l 0 0 < 6)
kind_known at l e = kind_is (get_or l 0 0) (passed (is_kind_byte (get_or l 0 0)) _ _ e).0

choose_else : {A : Type 0} (s : Bool) (x y z : A) → s ≡ false → cond s x y ≡ z → y ≡ z
choose_else true x y z e h = absurd (let n : ◌≡◌ {A = ℕ} 0 1 = cc in omega arith)
choose_else false x y z e h = h

choose_then : {A : Type 0} (s : Bool) (x y z : A) → s ≡ true → cond s x y ≡ z → x ≡ z
choose_then true x y z e h = h
choose_then false x y z e h = absurd (let n : ◌≡◌ {A = ℕ} 0 1 = cc in omega arith)

is_kind : (kind : Kind) → is_kind_byte (kind_byte kind) ≡ true
is_kind Schedule = refl
is_kind Posting = refl
is_kind Withdrawal = refl
is_kind Reading = refl
is_kind ReadingWithdrawn = refl

-- A key of a kind.
pub key_of_kind : (kind : Kind) (at : ℕ) (l : List ℕ) → kind_byte kind ≡ get_or l 0 0 → key_fault at l ≡ key_zeros (kind_byte kind) at l
key_of_kind kind at l e = ap (λ k. unless (is_kind_byte k) (BadKind at) (key_zeros k at l)) (sym e) ∙ ap (λ t. unless t (BadKind at) (key_zeros (kind_byte kind) at l)) (is_kind kind)

-- A key with no slot, and one with a slot.
module _ (at k : ℕ) (l : List ℕ) (n : length l ≡ 4) (e : get_or l 0 0 ≡ k) where
  pub plain_key : names_slot k ≡ false → key_fault at l ≡ None → k ∷ get_or l 1 0 ∷ 0 ∷ 0 ∷ [] ≡ l
  plain_key s f =
      let q = four_is l n in
      let h = (passed (is_kind_byte (get_or l 0 0)) _ _ f).1 in
      let r = choose_else (names_slot (get_or l 0 0)) _ _ _ (ap names_slot e ∙ s) h in
      let t : take 2 (drop 2 l) ≡ get_or l 2 0 ∷ get_or l 3 0 ∷ [] = ap (λ x. take 2 (drop 2 x)) q in
      let z : get_or l 2 0 ∷ get_or l 3 0 ∷ [] ≡ 0 ∷ 0 ∷ [] = zeros_from (at + 2) _ (ap (not_zero (at + 2)) (sym t) ∙ r) in
      sym (q ∙ ap (λ x. x ∷ get_or l 1 0 ∷ get_or l 2 0 ∷ get_or l 3 0 ∷ []) e ∙ ap (λ x. k ∷ get_or l 1 0 ∷ x) z)

  pub slot_key : names_slot k ≡ true → key_fault at l ≡ None → k ∷ get_or l 1 0 ∷ get_or l 2 0 ∷ 0 ∷ [] ≡ l
  slot_key s f =
      let q = four_is l n in
      let h = (passed (is_kind_byte (get_or l 0 0)) _ _ f).1 in
      let r = choose_then (names_slot (get_or l 0 0)) _ _ _ (ap names_slot e ∙ s) h in
      let t : take 1 (drop 3 l) ≡ get_or l 3 0 ∷ [] = ap (λ x. take 1 (drop 3 x)) q in
      let z : get_or l 3 0 ∷ [] ≡ 0 ∷ [] = zeros_from (at + 3) _ (ap (not_zero (at + 3)) (sym t) ∙ r) in
      sym (q ∙ ap (λ x. x ∷ get_or l 1 0 ∷ get_or l 2 0 ∷ get_or l 3 0 ∷ []) e ∙ ap (λ x. k ∷ get_or l 1 0 ∷ get_or l 2 0 ∷ x) z)

pub key_fit : (l k : List ℕ) → All (λ b. b < 2 ^ 8) l → k ≡ l → All (λ b. b < 2 ^ 8) k
key_fit l k s e = subst (All (λ b. b < 2 ^ 8)) (sym e) s

drop_zero : (i m at : ℕ) (b : List ℕ) → length b ≡ i + m → not_zero at (take m (drop i b)) ≡ None → drop i b ≡ replicate m 0
drop_zero i m at b n e =
    let d : length (drop i b) ≡ m = length-drop i b ∙ omega arith in
    let t : take m (drop i b) ≡ drop i b = take_all m (drop i b) (omega arith) in
    zeros_from at (drop i b) (ap (not_zero at) (sym t) ∙ e) ∙ ap (λ k. replicate k 0) d

-- The body of each kind.
pub schedule_body : (at h : ℕ) (row : Row) (b : List ℕ) → length b ≡ 48 → body_fault 1 at b ≡ None → words (row_figures row) ≡ take 24 b → body (Scheduled h row) ≡ b
unfolding body
schedule_body at h row b n e f = ap (λ x. x ++ replicate 24 0) f ∙ ap (λ x. take 24 b ++ x) (sym (drop_zero 24 24 (at + 24) b n e)) ∙ take-append-drop 24 b

pub reading_body : (at h : ℕ) (z : ℤ) (b : List ℕ) → length b ≡ 48 → body_fault 4 at b ≡ None → word z ≡ take 4 b → body (Read h z) ≡ b
unfolding body words
reading_body at h z b n e f = ap (λ x. x ++ replicate 44 0) f ∙ ap (λ x. take 4 b ++ x) (sym (drop_zero 4 44 (at + 4) b n e)) ∙ take-append-drop 4 b

pub withdrawal_body : (at h k : ℕ) (b : List ℕ) → length b ≡ 48 → body_fault 3 at b ≡ None → body (Withdrawn h k) ≡ b
unfolding body words
withdrawal_body at h k b n e = sym (drop_zero 0 48 at b n e)

pub unread_body : (at h : ℕ) (b : List ℕ) → length b ≡ 48 → body_fault 5 at b ≡ None → body (Unread h) ≡ b
unfolding body words
unread_body at h b n e = sym (drop_zero 0 48 at b n e)

pub posting_body : (at h k : ℕ) (v : Interval) (b : List ℕ) → length b ≡ 48 → body_fault 2 at b ≡ None → half v.seconds ++ v.flags ∷ [] ≡ take 3 b → words (record_figures v) ≡ take 44 (drop 4 b) → body (Posted h k v) ≡ b
unfolding body
posting_body at h k v b n e p f =
    let d3 : drop 3 b ≡ get_or b 3 0 ∷ drop 4 b = drop_more b 3 0 (omega arith) in
    let z : get_or b 3 0 ∷ [] ≡ 0 ∷ [] = zeros_from (at + 3) _ (ap (λ x. not_zero (at + 3) (take 1 x)) (sym d3) ∙ e) in
    let l : length (drop 4 b) ≤ 44 = (let y = length-drop 4 b in omega arith) in
    let w : words (record_figures v) ≡ drop 4 b = f ∙ take_all 44 (drop 4 b) l in
    ap (λ x. (half v.seconds ++ v.flags ∷ []) ++ 0 ∷ x) w ∙ ap (λ x. x ++ 0 ∷ drop 4 b) p ∙ ap (λ x. take 3 b ++ (x ++ drop 4 b)) (sym z) ∙ ap (λ x. take 3 b ++ x) (sym d3) ∙ take-append-drop 3 b
