-- Where a rewrite costs nothing, what is spent is counted.
use Rattle.std.proofs.Common.{◌≡◌, ℕ, ◌+◌, ◌-◌, ◌<◌, ◌≤◌, Bool, true, false, cond, ◌&&◌, eqb, ◌≢◌, List, [], ◌∷◌, map, length, set, is_some, Some, None, sum_by, count_by, Option, sym, refl, ap, ◌∙◌, subst, arith}
use Rattle.std.specs.List.{range_with_len}
use Rattle.std.proofs.lemmas.List.FromFn.{sum_by-map-range_with_len_more}
use Rattle.std.proofs.lemmas.List.Sums.{sum_by-set, sum-map}
use Rattle.std.proofs.lemmas.Bool.{ne_eqb}
use Rattle.settlement.specs.declared.figures.Interval.{Interval}
use Rattle.record_store.specs.Meaning.{hour_records}
use Rattle.book.specs.declared.calls.Change.{Change}
use Rattle.book.specs.declared.calls.Call.{Call}
use Rattle.book.specs.declared.calls.Call.TheVariants.{Make, AskHour, AskInterval, AskDay}
use Rattle.book.specs.declared.calls.Change.TheVariants.{Scheduled, Posted, Withdrawn, Read, Unread}
use Rattle.book.specs.declared.faults.Fault.{Fault}
use Rattle.settlement.specs.Rulings.{changed}
use Rattle.book.specs.Outcome.{refusal}
use Rattle.book.specs.Book.{Opening, stands, spent_by, book, accepted}
use Rattle.book.specs.Gate.{count}
use Rattle.book.proofs.Rows as rows
use Rattle.book.proofs.Keeps.{record_is, slot_is, slot_below, hour_long, stood, sound}

abbrev one : Option Interval → ℕ
one o = cond (is_some o) 1 0

-- What is counted where what stands differs in one slot alone.
counted_hours : (n : ℕ) (f g : ℕ → ℕ) (h : ℕ) → h < n → ((k : ℕ) → k ≢ h → f k ≡ g k) → sum_by g (range_with_len 0 n) + f h ≡ sum_by f (range_with_len 0 n) + g h
counted_hours n f g h l same =
    let long = rows.long n f in
    let inside : h < length (map f (range_with_len 0 n)) = omega arith in
    omega (arith, sum_by-set (λ x. x) (map f (range_with_len 0 n)) h (g h) 0 inside, ap (sum_by (λ x. x)) (rows.written_at n f g h (g h) l refl same), rows.at n f h 0 l, sum-map f (range_with_len 0 n), sum-map g (range_with_len 0 n))

pub counted_more : (f : ℕ → ℕ) (n : ℕ) → sum_by f (range_with_len 0 (n + 1)) ≡ sum_by f (range_with_len 0 n) + f n
counted_more f n =
    sym (sum-map f (range_with_len 0 (n + 1))) ∙ sum_by-map-range_with_len_more (λ x. x) f 0 n n (omega arith) ∙ ap (λ m. m + f n) (sum-map f (range_with_len 0 n))

counted_slots : (f : ℕ → Option Interval) (s : ℕ) (x : Option Interval) → s < 24 → count_by is_some (set (hour_records f) s x) + one (f s) ≡ count_by is_some (hour_records f) + one x
counted_slots f s x l =
    let inside : s < length (hour_records f) = omega (arith, hour_long f) in
    omega (arith, sum_by-set one (hour_records f) s x None inside, ap one (record_is f s l))

pub counted : (log : List Change) (h s : ℕ) (x : Option Interval) → h < 25 → s < 24
    → count (λ k j. cond (eqb k h && eqb j s) x (stands log k j)) + one (stands log h s) ≡ count (stands log) + one x
unfolding count
counted log h s x l m =
    let all =
    counted_hours 25 (λ k. count_by is_some (hour_records (stands log k))) (λ k. count_by is_some (hour_records (λ j. cond (eqb k h && eqb j s) x (stands log k j)))) h l
    (λ k ne. ap (λ b. count_by is_some (hour_records (λ j. cond (b && eqb j s) x (stands log k j)))) (sym (ne_eqb k h ne))) in
    omega (arith, all, counted_slots (stands log h) s x m, ap (count_by is_some) (slot_is log h s x m))

none_counted : 0 ≡ count (stands [])
unfolding count hour_records
none_counted = refl

-- An accepted change keeps what is spent at what is counted.
abbrev Counts : Opening → List Change → Type 0
Counts o log = spent_by o log ≡ o.spent + count (stands log)

module _ (o : Opening) (fits : o.hours ≤ 25) (free : o.charge ≡ 0) where
  posted : (old : Bool) (spent before after : ℕ) → after + cond old 1 0 ≡ before + 1 → spent ≡ o.spent + before → spent + cond old o.charge 1 ≡ o.spent + after
  posted true spent before after c e = omega arith
  posted false spent before after c e = omega arith

  withdrawn : (spent before after : ℕ) → after + 1 ≡ before + 0 → spent ≡ o.spent + before → cond (eqb o.charge 0) (spent - 1) (spent + 1) ≡ o.spent + after
  withdrawn spent before after c e = ap (λ n. cond (eqb n 0) (spent - 1) (spent + 1)) free ∙ omega arith

  counts_more : (log : List Change) (c : Change) → refusal (book o log) c ≡ None → Counts o log → Counts o (c ∷ log)
  counts_more log (Scheduled h g) ok e = e
  counts_more log (Posted h s i) ok e =
      let p = sound o log (Posted h s i) ok in
      let l : h < 25 = omega (arith, p.inside, fits) in
      posted (is_some (stands log h s)) (spent_by o log) (count (stands log)) _ (counted log h s (Some i) l (slot_below s _ p.figures)) e
  counts_more log (Withdrawn h s) ok e =
      let p = sound o log (Withdrawn h s) ok in
      let l : h < 25 = omega (arith, p.inside, fits) in
      let less = counted log h s None l (slot_below s _ p.figures) in
      withdrawn (spent_by o log) (count (stands log)) _ (subst (λ b. count (stands (Withdrawn h s ∷ log)) + cond b 1 0 ≡ count (stands log) + 0) (stood log h s p.figures) less) e
  counts_more log (Read h m) ok e = e
  counts_more log (Unread h) ok e = e

  counts_all : (calls : List Call) (log : List Change) → Counts o log → Counts o (accepted o log calls)
  counts_all [] log e = e
  counts_all (Make c ∷ calls) log e = counts_all calls _ (ruling (refusal (book o log) c) (λ ok. counts_more log c ok e))
    where
      ruling : (q : Option Fault) → (q ≡ None → Counts o (c ∷ log)) → Counts o (changed q (c ∷ log) log)
      ruling None more = more refl
      ruling (Some f) more = e
  counts_all (AskHour h ∷ calls) log e = counts_all calls log e
  counts_all (AskInterval h s ∷ calls) log e = counts_all calls log e
  counts_all (AskDay ∷ calls) log e = counts_all calls log e

  pub spent_is_count : (calls : List Call) → Counts o (accepted o [] calls)
  spent_is_count calls = counts_all calls [] (omega (arith, none_counted))
