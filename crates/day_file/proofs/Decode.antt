-- The call that a key and a body are the bytes of: there is one exactly if they have no fault.
use Rattle.std.proofs.Common.{◌≡◌, ℕ, zero, suc, ◌+◌, ◌*◌, ◌^◌, ◌<◌, List, [], length, get_or, ℤ, pos, lit<, None, sym, refl, ap, ◌∙◌, arith, w32, SFits}
use borrow.Author.Gap.{read_sfits}
use Rattle.std.specs.List.{All}
use Rattle.settlement.specs.declared.figures.Interval.{Interval}
use Rattle.settlement.specs.declared.figures.Limits.{Limits}
use Rattle.settlement.specs.declared.figures.Prices.{Prices}
use Rattle.settlement.specs.declared.figures.Schedule.{Schedule}
use Rattle.settlement.specs.declared.figures.SpinPrices.{SpinPrices}
use Rattle.book.specs.declared.calls.Change.{Change}
use Rattle.book.specs.declared.calls.Change.TheVariants.{Scheduled, Posted, Withdrawn, Read, Unread}
use Rattle.day_file.specs.Numbers.{words}
use Rattle.day_file.specs.Encode.{row_figures, record_figures, key, body}
use Rattle.day_file.specs.Refusals.{key_fault, body_fault}
use Rattle.day_file.specs.Valid.{Fit}
use Rattle.day_file.proofs.Bytes.{Small, all_small, value_at, value_back, word_back, two_back, Stand, none_stand, value_stand}
use Rattle.day_file.proofs.Bodies.{front_read}
use Rattle.day_file.proofs.Faultless.{kind_known, plain_key, slot_key, key_fit, schedule_body, posting_body, withdrawal_body, reading_body, unread_body}

abbrev prices_of : ℤ → ℤ → ℤ → Prices
prices_of a b c = record { energy = a; loss = b; congestion = c }

abbrev row_of : ℤ → ℤ → ℤ → Prices → Schedule
row_of a b c p = record { generation = a; transactions = b; spin = c; prices = p }

abbrev record_of : ℕ → ℕ → ℤ → Limits → ℤ → ℤ → Prices → SpinPrices → Interval
record_of s g a l t n p e = record { seconds = s; flags = g; average = a; limits = l; transactions = t; spin = n; prices = p; reserve = e }

abbrev limits_of : ℤ → ℤ → ℤ → Limits
limits_of a b c = record { rtd = a; agc = b; energy = c }

abbrev reserve_of : ℤ → ℤ → SpinPrices
reserve_of a b = record { east = a; west = b }

abbrev row_in : List ℕ → Schedule
row_in b = row_of (value_at b 0) (value_at b 4) (value_at b 8) (prices_of (value_at b 12) (value_at b 16) (value_at b 20))

abbrev record_in : List ℕ → Interval
record_in b =
    record_of (get_or b 0 0 * 256 + get_or b 1 0) (get_or b 2 0) (value_at b 4) (limits_of (value_at b 8) (value_at b 12) (value_at b 16)) (value_at b 20) (value_at b 24) (prices_of (value_at b 28) (value_at b 32) (value_at b 36))
    (reserve_of (value_at b 40) (value_at b 44))

abbrev of_kind : ℕ → List ℕ → List ℕ → Change
of_kind zero k b = Unread (get_or k 1 0)
of_kind (suc zero) k b = Scheduled (get_or k 1 0) (row_in b)
of_kind (suc (suc zero)) k b = Posted (get_or k 1 0) (get_or k 2 0) (record_in b)
of_kind (suc (suc (suc zero))) k b = Withdrawn (get_or k 1 0) (get_or k 2 0)
of_kind (suc (suc (suc (suc zero)))) k b = Read (get_or k 1 0) (value_at b 0)
of_kind (suc (suc (suc (suc (suc n))))) k b = Unread (get_or k 1 0)

abbrev pub call_of : List ℕ → List ℕ → Change
call_of k b = of_kind (get_or k 0 0) k b

same_prices : {a b c a' b' c' : ℤ} → a ≡ a' → b ≡ b' → c ≡ c' → prices_of a b c ≡ prices_of a' b' c'
same_prices p q r = cc

same_limits : {a b c a' b' c' : ℤ} → a ≡ a' → b ≡ b' → c ≡ c' → limits_of a b c ≡ limits_of a' b' c'
same_limits p q r = cc

same_reserve : {a b a' b' : ℤ} → a ≡ a' → b ≡ b' → reserve_of a b ≡ reserve_of a' b'
same_reserve p q = cc

same_row : {a b c a' b' c' : ℤ} {p p' : Prices} → a ≡ a' → b ≡ b' → c ≡ c' → p ≡ p' → row_of a b c p ≡ row_of a' b' c' p'
same_row x y z w = cc

same_record : {s s' g g' : ℕ} {a t n a' t' n' : ℤ} {l l' : Limits} {p p' : Prices} {e e' : SpinPrices} → s ≡ s' → g ≡ g' → a ≡ a' → l ≡ l' → t ≡ t' → n ≡ n' → p ≡ p' → e ≡ e' → record_of s g a l t n p e ≡ record_of s' g' a' l' t' n' p' e'
same_record x0 x1 x2 x3 x4 x5 x6 x7 = cc

row_back : (h : ℕ) (r : Schedule) → All (SFits w32) (row_figures r) → row_in (body (Scheduled h r)) ≡ r
unfolding body words
row_back h r f =
    same_row (word_back r.generation [] (f 0 (pos 0) (lit< tt))) (word_back r.transactions [] (f 1 (pos 0) (lit< tt))) (word_back r.spin [] (f 2 (pos 0) (lit< tt)))
    (same_prices (word_back r.prices.energy [] (f 3 (pos 0) (lit< tt))) (word_back r.prices.loss [] (f 4 (pos 0) (lit< tt))) (word_back r.prices.congestion [] (f 5 (pos 0) (lit< tt))))

record_back : (h s : ℕ) (v : Interval) → v.seconds < 2 ^ 16 → All (SFits w32) (record_figures v) → record_in (body (Posted h s v)) ≡ v
unfolding body words
record_back h s v n f =
    same_record (two_back v.seconds n) refl (word_back v.average [] (f 0 (pos 0) (lit< tt)))
    (same_limits (word_back v.limits.rtd [] (f 1 (pos 0) (lit< tt))) (word_back v.limits.agc [] (f 2 (pos 0) (lit< tt))) (word_back v.limits.energy [] (f 3 (pos 0) (lit< tt))))
    (word_back v.transactions [] (f 4 (pos 0) (lit< tt))) (word_back v.spin [] (f 5 (pos 0) (lit< tt)))
    (same_prices (word_back v.prices.energy [] (f 6 (pos 0) (lit< tt))) (word_back v.prices.loss [] (f 7 (pos 0) (lit< tt))) (word_back v.prices.congestion [] (f 8 (pos 0) (lit< tt))))
    (same_reserve (word_back v.reserve.east [] (f 9 (pos 0) (lit< tt))) (word_back v.reserve.west [] (f 10 (pos 0) (lit< tt))))

-- A call is the one that its bytes give.
pub call_back : (c : Change) → Fit c → call_of (key c) (body c) ≡ c
unfolding body words
call_back (Scheduled h r) f = ap (Scheduled h) (row_back h r f.1)
call_back (Posted h s v) f = ap (Posted h s) (record_back h s v f.1.0 f.1.2)
call_back (Withdrawn h s) f = refl
call_back (Read h z) f = ap (Read h) (word_back z [] f.1)
call_back (Unread h) f = refl

pub same_call : (c d : Change) → Fit c → Fit d → key c ≡ key d → body c ≡ body d → c ≡ d
same_call c d f g p q = sym (call_back c f) ∙ ap (λ k. call_of k (body c)) p ∙ ap (call_of (key d)) q ∙ call_back d g

-- What a key and a body with no fault give is written as them.
pub record Gives (k b : List ℕ) (c : Change) : Type 0 where
  pub keyed : key c ≡ k
  pub bodied : body c ≡ b
  pub fit : Fit c

module _ (p q : ℕ) (k b : List ℕ) (lk : length k ≡ 4) (lb : length b ≡ 48) (sk : Small k) (sb : Small b) (e : key_fault p k ≡ None) where
  row_stands : Stand b 0 6 (row_figures (row_in b))
  row_stands =
      value_stand sb (omega arith) (value_stand sb (omega arith) (value_stand sb (omega arith) (value_stand sb (omega arith) (value_stand sb (omega arith) (value_stand sb (omega arith) none_stand)))))

  record_stands : Stand b 4 11 (record_figures (record_in b))
  record_stands =
      value_stand sb (omega arith) (value_stand sb (omega arith) (value_stand sb (omega arith) (value_stand sb (omega arith) (value_stand sb (omega arith) (value_stand sb (omega arith) (value_stand sb (omega arith) (value_stand sb (omega arith)
      (value_stand sb (omega arith) (value_stand sb (omega arith) (value_stand sb (omega arith) none_stand))))))))))

  kind_gives : (n : ℕ) → get_or k 0 0 ≡ n → 0 < n → n < 6 → body_fault n q b ≡ None → Gives k b (of_kind n k b)
  kind_gives zero i l u f = absurd (omega arith)
  kind_gives (suc zero) i l u f =
      let x = plain_key p 1 k lk i refl e in
      record { keyed = x; bodied = schedule_body q (get_or k 1 0) (row_in b) b lb f row_stands.there; fit = (key_fit k _ (all_small k sk) x, row_stands.fit) }
  kind_gives (suc (suc zero)) i l u f =
      let x = slot_key p 2 k lk i refl e in
      record {
        keyed = x;
        bodied = posting_body q (get_or k 1 0) (get_or k 2 0) (record_in b) b lb f (front_read b _ sb lb refl) record_stands.there;
        fit = (key_fit k _ (all_small k sk) x, (let y = sb 0 in let z = sb 1 in omega arith, sb 2, record_stands.fit));
      }
  kind_gives (suc (suc (suc zero))) i l u f = let x = slot_key p 3 k lk i refl e in record { keyed = x; bodied = withdrawal_body q (get_or k 1 0) (get_or k 2 0) b lb f; fit = (key_fit k _ (all_small k sk) x, tt) }
  kind_gives (suc (suc (suc (suc zero)))) i l u f =
      let x = plain_key p 4 k lk i refl e in
      record { keyed = x; bodied = reading_body q (get_or k 1 0) (value_at b 0) b lb f (value_back b 0 sb (omega arith)); fit = (key_fit k _ (all_small k sk) x, read_sfits w32 _) }
  kind_gives (suc (suc (suc (suc (suc zero))))) i l u f = let x = plain_key p 5 k lk i refl e in record { keyed = x; bodied = unread_body q (get_or k 1 0) b lb f; fit = (key_fit k _ (all_small k sk) x, tt) }
  kind_gives (suc (suc (suc (suc (suc (suc n)))))) i l u f = absurd (omega arith)

  pub gives : body_fault (get_or k 0 0) q b ≡ None → Gives k b (call_of k b)
  gives f = let n = kind_known p k e in kind_gives (get_or k 0 0) refl n.0 n.1 f
