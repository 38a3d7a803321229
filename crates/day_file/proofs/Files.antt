-- Whole files: read so far, read, and written.
use Rattle.std.proofs.Common.{◌≡◌, ℕ, suc, ◌+◌, ◌-◌, ◌*◌, ◌<◌, ◌≤◌, cond, List, [], ◌∷◌, ◌++◌, length, get_or, take, drop, is_ok, IsErrAnd, Some, None, Ok, Err, Result, sym, refl, ap, ◌∙◌, subst, arith, MatchResult}
use Rattle.std.specs.List.{flat_map, All}
use Rattle.std.proofs.lemmas.List.{take_all, length-drop, length_push, drop_more, take-append-drop, drop-drop}
use Rattle.std.proofs.lemmas.List.Elements.{All-push}
use Rattle.settlement.specs.Rulings.{first}
use Rattle.book.specs.declared.calls.Change.{Change}
use Rattle.book.specs.declared.calls.Change.TheVariants.{Scheduled, Posted, Withdrawn, Read, Unread}
use Rattle.day_file.specs.declared.day.ReadError.{ReadError}
use Rattle.day_file.specs.declared.day.ReadError.TheVariants.{Refused}
use Rattle.day_file.specs.declared.faults.FileFault.{FileFault}
use Rattle.day_file.specs.Numbers.{half, words}
use Rattle.day_file.specs.Encode.{key, body, header}
use Rattle.day_file.specs.Valid.{Fit}
use Rattle.day_file.specs.Refusals.{key_fault, body_fault, entry_fault, entries_fault, opening_fault, file_fault, header_in, count_in}
use Rattle.day_file.specs.Reading.{FileOf, Told}
use Rattle.day_file.proofs.Bytes.{Small, four_at, half_back}
use Rattle.day_file.proofs.Headers.{opened}
use Rattle.day_file.proofs.Parts.{read_more}

-- What a call is written as has no fault.
pub call_clear : (k b : ℕ) (c : Change) → first (key_fault k (key c)) (body_fault (get_or (key c) 0 0) b (body c)) ≡ None
unfolding body words
call_clear k b (Scheduled h r) = refl
call_clear k b (Posted h s v) = refl
call_clear k b (Withdrawn h s) = refl
call_clear k b (Read h z) = refl
call_clear k b (Unread h) = refl

pub entry_clear : (bytes : List ℕ) (k b : ℕ) (c : Change) → k + 4 ≤ length bytes → key c ≡ take 4 (drop k bytes) → body c ≡ take 48 (drop b bytes) → entry_fault bytes k b ≡ None
entry_clear bytes k b c h p q =
    let kind : get_or bytes k 0 ≡ get_or (key c) 0 0 = sym (ap (λ l. get_or l 0 0) (four_at bytes k h)) ∙ ap (λ l. get_or l 0 0) (sym p) in
    ap (λ x. first (key_fault k x) (body_fault (get_or bytes k 0) b (take 48 (drop b bytes)))) (sym p) ∙ ap (λ x. first (key_fault k (key c)) (body_fault x b (take 48 (drop b bytes)))) kind
    ∙ ap (λ x. first (key_fault k (key c)) (body_fault (get_or (key c) 0 0) b x)) (sym q) ∙ call_clear k b c

-- One entry of several, that has no fault, or that has one.
pub entries_step : (bytes : List ℕ) (n k b : ℕ) → entry_fault bytes k b ≡ None → entries_fault bytes (suc n) k b ≡ entries_fault bytes n (k + 4) (b + 48)
unfolding entries_fault
entries_step bytes n k b e = ap (λ x. first x (entries_fault bytes n (k + 4) (b + 48))) e

entries_halt : (bytes : List ℕ) (n k b : ℕ) (f : FileFault) → entry_fault bytes k b ≡ Some f → entries_fault bytes (suc n) k b ≡ Some f
unfolding entries_fault
entries_halt bytes n k b f e = ap (λ x. first x (entries_fault bytes n (k + 4) (b + 48))) e

same_entries : (bytes : List ℕ) {n n' k k' b b' : ℕ} → n ≡ n' → k ≡ k' → b ≡ b' → entries_fault bytes n k b ≡ entries_fault bytes n' k' b'
same_entries bytes p q r = cc

-- The first i of n entries are read, and the rest decides.
pub record SoFar (bytes : List ℕ) (n i : ℕ) (calls : List Change) : Type 0 where
  pub many : length calls ≡ i
  pub keys : flat_map key calls ≡ take (4 * i) (drop 6 bytes)
  pub bodies : flat_map body calls ≡ take (48 * i) (drop (6 + 4 * n) bytes)
  pub rest : entries_fault bytes (n - i) (6 + 4 * i) (6 + 4 * n + 48 * i) ≡ entries_fault bytes n 6 (6 + 4 * n)
  pub fit : All Fit calls

module _ (bytes : List ℕ) (n i : ℕ) (calls : List Change) (long : length bytes ≡ 6 + 52 * n) (lt : i < n) (s : SoFar bytes n i calls) where
  pub so_far_more : (c : Change) → key c ≡ take 4 (drop (6 + 4 * i) bytes) → body c ≡ take 48 (drop (6 + 4 * n + 48 * i) bytes) → Fit c → SoFar bytes n (i + 1) (calls ++ c ∷ [])
  so_far_more c p q f = record {
    many = length_push calls c ∙ ap (λ m. m + 1) s.many;
    keys = read_more key calls c (4 * i) 4 (4 * (i + 1)) (drop 6 bytes) s.keys (p ∙ ap (take 4) (sym (drop-drop (4 * i) 6 bytes))) (omega arith);
    bodies = read_more body calls c (48 * i) 48 (48 * (i + 1)) (drop (6 + 4 * n) bytes) s.bodies (q ∙ ap (take 48) (sym (drop-drop (48 * i) (6 + 4 * n) bytes))) (omega arith);
    rest = sym (same_entries bytes {n' = suc (n - (i + 1))} (omega arith) refl refl ∙ entries_step bytes (n - (i + 1)) (6 + 4 * i) (6 + 4 * n + 48 * i) (entry_clear bytes (6 + 4 * i) (6 + 4 * n + 48 * i) c (omega arith) p q) ∙ same_entries bytes refl (omega arith) (omega arith)) ∙ s.rest;
    fit = All-push Fit calls c s.fit f;
  }

  pub SoFar_stop : (f : FileFault) → entry_fault bytes (6 + 4 * i) (6 + 4 * n + 48 * i) ≡ Some f → entries_fault bytes n 6 (6 + 4 * n) ≡ Some f
  SoFar_stop f e = sym s.rest ∙ same_entries bytes {n' = suc (n - (i + 1))} (omega arith) refl refl ∙ entries_halt bytes (n - (i + 1)) (6 + 4 * i) (6 + 4 * n + 48 * i) f e

first_six : (b : List ℕ) → 6 ≤ length b → b ≡ get_or b 0 0 ∷ get_or b 1 0 ∷ get_or b 2 0 ∷ get_or b 3 0 ∷ get_or b 4 0 ∷ get_or b 5 0 ∷ drop 6 b
first_six b h =
    drop_more b 0 0 (omega arith) ∙ ap (λ x. get_or b 0 0 ∷ x) (drop_more b 1 0 (omega arith) ∙ ap (λ x. get_or b 1 0 ∷ x) (drop_more b 2 0 (omega arith) ∙ ap (λ x. get_or b 2 0 ∷ x) (drop_more b 3 0 (omega arith)
    ∙ ap (λ x. get_or b 3 0 ∷ x) (drop_more b 4 0 (omega arith) ∙ ap (λ x. get_or b 4 0 ∷ x) (drop_more b 5 0 (omega arith))))))

-- A file whose header and length are right.
module _ (bytes : List ℕ) (n : ℕ) (is : n ≡ count_in bytes) (e : opening_fault bytes ≡ None) where
  pub entries_decide : file_fault bytes ≡ entries_fault bytes n 6 (6 + 4 * n)
  entries_decide = ap (λ x. first x (entries_fault bytes (count_in bytes) 6 (6 + 4 * count_in bytes))) e ∙ ap (λ m. entries_fault bytes m 6 (6 + 4 * m)) (sym is)

  pub all_read : (calls : List Change) → Small bytes → SoFar bytes n n calls → FileOf (header_in bytes) calls bytes
  all_read calls sm s =
      let o = opened bytes e in
      let c : length calls ≡ count_in bytes = s.many ∙ is in
      let hh : half (length calls) ≡ get_or bytes 4 0 ∷ get_or bytes 5 0 ∷ [] = ap half c ∙ half_back (get_or bytes 4 0) (get_or bytes 5 0) (sm 4) (sm 5) in
      let l = length-drop (6 + 4 * n) bytes in
      let long : length bytes ≡ 6 + 52 * n = o.long ∙ ap (λ m. 6 + 52 * m) (sym is) in
      let bs : flat_map body calls ≡ drop (4 * n) (drop 6 bytes) = s.bodies ∙ take_all (48 * n) (drop (6 + 4 * n) bytes) (omega arith) ∙ sym (drop-drop (4 * n) 6 bytes) in
      let j : flat_map key calls ++ flat_map body calls ≡ drop 6 bytes = ap (λ x. x ++ flat_map body calls) s.keys ∙ ap (λ x. take (4 * n) (drop 6 bytes) ++ x) bs ∙ take-append-drop (4 * n) (drop 6 bytes) in
      record {
        valid = record { shortest = o.right.shortest; longest = o.right.longest; editions = o.right.editions; regions = o.right.regions; few = omega (arith, o.few); fit = s.fit };
        written = first_six bytes (omega arith) ∙ ap (λ x. get_or bytes 0 0 ∷ get_or bytes 1 0 ∷ get_or bytes 2 0 ∷ x ∷ get_or bytes 4 0 ∷ get_or bytes 5 0 ∷ drop 6 bytes) o.nought
            ∙ ap (λ x. get_or bytes 0 0 ∷ get_or bytes 1 0 ∷ get_or bytes 2 0 ∷ 0 ∷ (x ++ drop 6 bytes)) (sym hh) ∙ ap (λ x. header (header_in bytes) (length calls) ++ x) (sym j);
      }

-- A refusal that is passed on.
pub told_fault : {T : Type 0} (r : Result T ReadError) (P : T → Type 0) (bytes : List ℕ) (f : FileFault) → IsErrAnd r (λ y. y ≡ Refused f) → file_fault bytes ≡ Some f → MatchResult r P (λ y. Told y bytes)
told_fault (Ok x) P bytes f by e = absurd by
told_fault (Err y) P bytes f by e = subst (λ x. Told x bytes) (sym by) e

-- A vector after a push for which there was room.
pub pushed : {T E : Type 0} {new : List Change} (old : List Change) (c : Change) (r : Result T E) (x : T) → new ≡ cond (is_ok r) (old ++ c ∷ []) old → r ≡ Ok x → new ≡ old ++ c ∷ []
pushed old c r x e w = e ∙ ap (λ y. cond (is_ok y) (old ++ c ∷ []) old) w
