-- Keys and bodies one after another, written and read.
use Rattle.std.proofs.Common.{◌≡◌, ℕ, ◌+◌, ◌-◌, ◌*◌, List, [], ◌∷◌, ◌++◌, length, get_or, drop, refl, ap, ◌∙◌, arith}
use borrow.Rule.Slice.PartMut.{put_mid}
use Rattle.std.specs.List.{flat_map}
use Rattle.std.proofs.lemmas.List.{length-append, append_assoc}
use Rattle.book.specs.declared.calls.Change.{Change}
use Rattle.book.specs.declared.calls.Change.TheVariants.{Scheduled, Posted, Withdrawn, Read, Unread}
use Rattle.day_file.specs.declared.day.Header.{Header}
use Rattle.day_file.specs.Numbers.{half, words}
use Rattle.day_file.specs.Encode.{key, body, header, encode}
use Rattle.day_file.proofs.Bytes.{grow}
use Rattle.day_file.proofs.Parts.{length_parts}

pub length-key : (c : Change) → length (key c) ≡ 4
length-key (Scheduled h r) = refl
length-key (Posted h s v) = refl
length-key (Withdrawn h s) = refl
length-key (Read h z) = refl
length-key (Unread h) = refl

pub length-body : (c : Change) → length (body c) ≡ 48
unfolding body words
length-body (Scheduled h r) = refl
length-body (Posted h s v) = refl
length-body (Withdrawn h s) = refl
length-body (Read h z) = refl
length-body (Unread h) = refl

pub length-keys : (xs : List Change) → length (flat_map key xs) ≡ 4 * length xs
length-keys xs = length_parts key 4 length-key xs

pub length-bodies : (xs : List Change) → length (flat_map body xs) ≡ 48 * length xs
length-bodies xs = length_parts body 48 length-body xs

pub length-encode : (h : Header) (cs : List Change) → length (encode h cs) ≡ 6 + 52 * length cs
length-encode h cs = let a = length-keys cs in let b = length-bodies cs in let l = length-append (flat_map key cs) (flat_map body cs) in omega arith

write_put : (hd ks bs out : List ℕ) (n e : ℕ) → length hd ≡ 6 → length ks ≡ 4 * n → length bs ≡ 48 * n → e ≡ 6 + 52 * n → put_mid (6 + 4 * n) (e - (6 + 4 * n)) (put_mid 6 ((6 + 4 * n) - 6) (hd ++ drop 6 out) ks) bs ≡ (hd ++ (ks ++ bs)) ++ drop e out
write_put hd ks bs out n e h k b q =
    let one = grow hd ks out (hd ++ drop 6 out) 6 ((6 + 4 * n) - 6) (6 + 4 * n) h (omega arith) (omega arith) refl in
    let l : length (hd ++ ks) ≡ 6 + 4 * n = length-append hd ks ∙ omega arith in
    grow (hd ++ ks) bs out _ (6 + 4 * n) (e - (6 + 4 * n)) e l (omega arith) (omega arith) one ∙ ap (λ x. x ++ drop e out) (append_assoc hd ks bs)

pub write_is : (h : Header) (calls : List Change) (tb hd ks bs out : List ℕ) (e : ℕ) → tb ≡ half (length calls) → hd ≡ h.hours ∷ h.edition ∷ h.region ∷ 0 ∷ get_or tb 0 0 ∷ get_or tb 1 0 ∷ [] → ks ≡ flat_map key calls → bs ≡ flat_map body calls → e ≡ 6 + 52 * length calls → put_mid (6 + 4 * length calls) (e - (6 + 4 * length calls)) (put_mid 6 ((6 + 4 * length calls) - 6) (hd ++ drop 6 out) ks) bs ≡ encode h calls ++ drop e out
write_is h calls tb hd ks bs out e t p k b q =
    write_put hd ks bs out (length calls) e (ap length p) (ap length k ∙ length-keys calls) (ap length b ∙ length-bodies calls) q ∙ ap (λ x. (x ++ (ks ++ bs)) ++ drop e out) (p ∙ ap (λ x. h.hours ∷ h.edition ∷ h.region ∷ 0 ∷ get_or x 0 0 ∷ get_or x 1 0 ∷ []) t)
    ∙ ap (λ x. (header h (length calls) ++ (x ++ bs)) ++ drop e out) k ∙ ap (λ x. (header h (length calls) ++ (flat_map key calls ++ x)) ++ drop e out) b
