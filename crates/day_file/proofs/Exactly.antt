-- A file has no fault exactly if it is what a day is written as, and of one day only.
use Rattle.std.proofs.Common.{◌≡◌, ℕ, zero, suc, ◌+◌, ◌-◌, ◌*◌, ◌≤◌, List, [], ◌∷◌, ◌++◌, length, get_or, take, drop, Some, None, Ok, Err, vec_items, Option, Result, sym, refl, ap, ◌∙◌, arith, take-add, MatchResult}
use Rattle.std.specs.List.{flat_map as joined, All}
use Rattle.std.proofs.lemmas.List.Elements.{All-nil, All-cons, All-head, All-tail}
use Rattle.std.proofs.lemmas.List.{take_at, drop_at, append_assoc, drop-drop, length-drop, length-take, append-nil}
use Rattle.settlement.specs.Rulings.{first}
use Rattle.settlement.proofs.Rulings.{neither}
use Rattle.book.specs.declared.calls.Change.{Change}
use Rattle.day_file.specs.declared.day.Day.{Day}
use Rattle.day_file.specs.declared.day.Header.{Header}
use Rattle.day_file.specs.declared.day.ReadError.{ReadError}
use Rattle.day_file.specs.declared.day.ReadError.TheVariants.{Refused, NoMemory}
use Rattle.day_file.specs.declared.faults.FileFault.{FileFault}
use Rattle.day_file.specs.Encode.{key, body, encode}
use Rattle.day_file.specs.Valid.{Fit, Valid}
use Rattle.day_file.specs.Refusals.{key_fault, body_fault, entry_fault, entries_fault, opening_fault, file_fault, count_in, header_in}
use Rattle.day_file.specs.Reading.{FileOf, DayOf, Told, Exact}
use Rattle.day_file.proofs.Bytes.{Small, small_part, four_at, two_back}
use Rattle.day_file.proofs.Decode.{call_of, same_call, gives}
use Rattle.day_file.proofs.Entries.{length-key, length-body, length-keys, length-encode}
use Rattle.day_file.proofs.Files.{entry_clear, entries_step, all_read}
use Rattle.day_file.proofs.Headers.{opened, opens}

-- What calls are written as has no fault.
entries_clear : (cs : List Change) (bytes rest more : List ℕ) (k b : ℕ) → drop k bytes ≡ joined key cs ++ rest → drop b bytes ≡ joined body cs ++ more → k + 4 * length cs ≤ length bytes → entries_fault bytes (length cs) k b ≡ None
unfolding entries_fault
entries_clear [] bytes rest more k b p q h = refl
entries_clear (x ∷ cs) bytes rest more k b p q h =
    let p' = p ∙ append_assoc (key x) (joined key cs) rest in
    let q' = q ∙ append_assoc (body x) (joined body cs) more in
    let kx : key x ≡ take 4 (drop k bytes) = sym (ap (take 4) p' ∙ take_at (key x) (joined key cs ++ rest) 4 (length-key x)) in
    let bx : body x ≡ take 48 (drop b bytes) = sym (ap (take 48) q' ∙ take_at (body x) (joined body cs ++ more) 48 (length-body x)) in
    let kd : drop (k + 4) bytes ≡ joined key cs ++ rest = sym (drop-drop 4 k bytes) ∙ ap (drop 4) p' ∙ drop_at (key x) (joined key cs ++ rest) 4 (length-key x) in
    let bd : drop (b + 48) bytes ≡ joined body cs ++ more = sym (drop-drop 48 b bytes) ∙ ap (drop 48) q' ∙ drop_at (body x) (joined body cs ++ more) 48 (length-body x) in
    entries_step bytes (length cs) k b (entry_clear bytes k b x (omega arith) kx bx) ∙ entries_clear cs bytes rest more (k + 4) (b + 48) kd bd (omega arith)

module _ (h : Header) (cs : List Change) (v : Valid h cs) where
  count_back : count_in (encode h cs) ≡ length cs
  count_back = two_back (length cs) (omega (arith, v.few))

  opening_clear : opening_fault (encode h cs) ≡ None
  opening_clear = opens (encode h cs) (record {
    right = record { shortest = v.shortest; longest = v.longest; editions = v.editions; regions = v.regions };
    nought = refl;
    few = (let c = count_back in omega (arith, v.few));
    long = length-encode h cs ∙ ap (λ m. 6 + 52 * m) (sym count_back);
  })

  bodies_at : drop (6 + 4 * length cs) (encode h cs) ≡ joined body cs
  bodies_at = sym (drop-drop (4 * length cs) 6 (encode h cs)) ∙ drop_at (joined key cs) (joined body cs) (4 * length cs) (length-keys cs)

  file_clear : file_fault (encode h cs) ≡ None
  file_clear =
      ap (λ x. first x (entries_fault (encode h cs) (count_in (encode h cs)) 6 (6 + 4 * count_in (encode h cs)))) opening_clear ∙ ap (λ m. entries_fault (encode h cs) m 6 (6 + 4 * m)) count_back
      ∙ entries_clear cs (encode h cs) (joined body cs) [] 6 (6 + 4 * length cs) refl (bodies_at ∙ sym (append-nil (joined body cs))) (let l = length-encode h cs in omega arith)

pub written_clear : (h : Header) (cs : List Change) (bytes : List ℕ) → FileOf h cs bytes → file_fault bytes ≡ None
written_clear h cs bytes f = ap file_fault f.written ∙ file_clear h cs f.valid

-- Bytes with no fault are what some calls are written as.
length_at : (m k : ℕ) (l : List ℕ) → k + m ≤ length l → length (take m (drop k l)) ≡ m
length_at m k l h = length-take m (drop k l) ∙ (let d = length-drop k l in omega arith)

pub record CallsIn (bytes : List ℕ) (n k b : ℕ) : Type 0 where
  pub calls : List Change
  pub many : length calls ≡ n
  pub keys : joined key calls ≡ take (4 * n) (drop k bytes)
  pub bodies : joined body calls ≡ take (48 * n) (drop b bytes)
  pub fit : All Fit calls

two_parts : (m n k : ℕ) (l : List ℕ) → take m (drop k l) ++ take n (drop (k + m) l) ≡ take (m + n) (drop k l)
two_parts m n k l = ap (λ x. take m (drop k l) ++ take n x) (sym (drop-drop m k l)) ∙ sym (take-add m n (drop k l))

entries_give : (bytes : List ℕ) → Small bytes → (n k b : ℕ) → k + 4 * n ≤ length bytes → b + 48 * n ≤ length bytes → entries_fault bytes n k b ≡ None → CallsIn bytes n k b
unfolding entries_fault
entries_give bytes s zero k b hk hb e = record { calls = []; many = refl; keys = refl; bodies = refl; fit = All-nil Fit }
entries_give bytes s (suc n) k b hk hb e =
    let f = neither (entry_fault bytes k b) _ e in
    let g = neither (key_fault k (take 4 (drop k bytes))) _ f.0 in
    let kind : get_or (take 4 (drop k bytes)) 0 0 ≡ get_or bytes k 0 = ap (λ l. get_or l 0 0) (four_at bytes k (omega arith)) in
    let x = gives k b (take 4 (drop k bytes)) (take 48 (drop b bytes)) (length_at 4 k bytes (omega arith)) (length_at 48 b bytes (omega arith)) (small_part 4 k bytes s) (small_part 48 b bytes s) g.0 (ap (λ m. body_fault m b (take 48 (drop b bytes))) kind ∙ g.1) in
    let c = call_of (take 4 (drop k bytes)) (take 48 (drop b bytes)) in
    let r = entries_give bytes s n (k + 4) (b + 48) (omega arith) (omega arith) f.1 in
    record {
      calls = c ∷ r.calls;
      many = ap suc r.many;
      keys = ap (λ y. y ++ joined key r.calls) x.keyed ∙ ap (λ y. take 4 (drop k bytes) ++ y) r.keys ∙ two_parts 4 (4 * n) k bytes ∙ ap (λ m. take m (drop k bytes)) (omega arith);
      bodies = ap (λ y. y ++ joined body r.calls) x.bodied ∙ ap (λ y. take 48 (drop b bytes) ++ y) r.bodies ∙ two_parts 48 (48 * n) b bytes ∙ ap (λ m. take m (drop b bytes)) (omega arith);
      fit = All-cons Fit c r.calls x.fit r.fit;
    }

none_left : (bytes : List ℕ) (n k b : ℕ) → entries_fault bytes (n - n) k b ≡ None
unfolding entries_fault
none_left bytes n k b = let e : n - n ≡ 0 = omega arith in ap (λ m. entries_fault bytes m k b) e

pub clear_written : (bytes : List ℕ) → Small bytes → file_fault bytes ≡ None → DayOf bytes
clear_written bytes s e =
    let f = neither (opening_fault bytes) _ e in
    let o = opened bytes f.0 in
    let n = count_in bytes in
    let r = entries_give bytes s (count_in bytes) 6 (6 + 4 * count_in bytes) (omega (arith, o.long)) (omega (arith, o.long)) f.1 in
    let z : entries_fault bytes (count_in bytes - count_in bytes) (6 + 4 * count_in bytes) (6 + 4 * count_in bytes + 48 * count_in bytes) ≡ None = none_left bytes (count_in bytes) _ _ in
    record {
      header = header_in bytes;
      calls = r.calls;
      file = all_read bytes (count_in bytes) refl f.0 r.calls s (record { many = r.many; keys = r.keys; bodies = r.bodies; rest = z ∙ sym f.1; fit = r.fit });
    }

pub exactly : (bytes : List ℕ) → Small bytes → Exact bytes
exactly bytes s = record { sound = clear_written bytes s; complete = λ h cs f. written_clear h cs bytes f }

-- Two days with the same file are the same.
same_calls : (cs ds : List Change) → length cs ≡ length ds → All Fit cs → All Fit ds → joined key cs ≡ joined key ds → joined body cs ≡ joined body ds → cs ≡ ds
same_calls [] [] n f g a b = refl
same_calls [] (y ∷ ds) n f g a b = absurd (omega arith)
same_calls (x ∷ cs) [] n f g a b = absurd (omega arith)
same_calls (x ∷ cs) (y ∷ ds) n f g a b =
    let kx : key x ≡ key y = sym (take_at (key x) (joined key cs) 4 (length-key x)) ∙ ap (take 4) a ∙ take_at (key y) (joined key ds) 4 (length-key y) in
    let bx : body x ≡ body y = sym (take_at (body x) (joined body cs) 48 (length-body x)) ∙ ap (take 48) b ∙ take_at (body y) (joined body ds) 48 (length-body y) in
    let ks : joined key cs ≡ joined key ds = sym (drop_at (key x) (joined key cs) 4 (length-key x)) ∙ ap (drop 4) a ∙ drop_at (key y) (joined key ds) 4 (length-key y) in
    let bs : joined body cs ≡ joined body ds = sym (drop_at (body x) (joined body cs) 48 (length-body x)) ∙ ap (drop 48) b ∙ drop_at (body y) (joined body ds) 48 (length-body y) in
    ap (λ u. u ∷ cs) (same_call x y (All-head Fit x cs f) (All-head Fit y ds g) kx bx) ∙ ap (λ u. y ∷ u) (same_calls cs ds (omega arith) (All-tail Fit x cs f) (All-tail Fit y ds g) ks bs)

abbrev header_of : ℕ → ℕ → ℕ → Header
header_of a b c = record { hours = a; edition = b; region = c }

parts : {a b c a' b' c' : ℕ} → a ≡ a' → b ≡ b' → c ≡ c' → header_of a b c ≡ header_of a' b' c'
parts p q r = cc

same_header : (h g : Header) → h.hours ≡ g.hours → h.edition ≡ g.edition → h.region ≡ g.region → h ≡ g
same_header h g a b c = parts a b c

same_file : (h g : Header) (cs ds : List Change) → Valid h cs → Valid g ds → encode h cs ≡ encode g ds → (h ≡ g) × (cs ≡ ds)
same_file h g cs ds v w q =
    let n : length cs ≡ length ds = sym (count_back h cs v) ∙ ap count_in q ∙ count_back g ds w in
    let t : joined key cs ++ joined body cs ≡ joined key ds ++ joined body ds = ap (drop 6) q in
    let lc = length-keys cs in
    let ld : length (joined key ds) ≡ 4 * length cs = length-keys ds ∙ ap (λ m. 4 * m) (sym n) in
    let ks : joined key cs ≡ joined key ds = sym (take_at (joined key cs) (joined body cs) (4 * length cs) lc) ∙ ap (take (4 * length cs)) t ∙ take_at (joined key ds) (joined body ds) (4 * length cs) ld in
    let bs : joined body cs ≡ joined body ds = sym (drop_at (joined key cs) (joined body cs) (4 * length cs) lc) ∙ ap (drop (4 * length cs)) t ∙ drop_at (joined key ds) (joined body ds) (4 * length cs) ld in
    (same_header h g (ap (λ l. get_or l 0 0) q) (ap (λ l. get_or l 1 0) q) (ap (λ l. get_or l 2 0) q), same_calls cs ds n v.fit w.fit ks bs)

never : (o : Option FileFault) (f : FileFault) → o ≡ None → o ≡ Some f → ◌≡◌ {A = ℕ} 0 1
never o f p q = cc

-- What a valid day is written as is read as that day.
pub reads_back : (bytes : List ℕ) (r : Result Day ReadError) (h : Header) (cs : List Change) → FileOf h cs bytes → MatchResult r (λ d. FileOf d.header (vec_items d.calls) bytes) (λ e. Told e bytes) → MatchResult r (λ d. (d.header ≡ h) × (vec_items d.calls ≡ cs)) (λ e. e ≡ NoMemory)
reads_back bytes (Ok d) h cs f k = same_file d.header h (vec_items d.calls) cs k.valid f.valid (sym k.written ∙ f.written)
reads_back bytes (Err (Refused g)) h cs f k = let z : ◌≡◌ {A = ℕ} 0 1 = never (file_fault bytes) g (written_clear h cs bytes f) k in absurd (omega arith)
reads_back bytes (Err NoMemory) h cs f k = refl
