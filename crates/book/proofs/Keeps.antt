-- What a call comes to, at the day that the book gives, is what the book gives with the call.
use Rattle.std.proofs.Common.{◌≡◌, ℕ, ◌<◌, ◌≤◌, Bool, true, false, cond, not, ◌&&◌, eqb, ltb, ◌≢◌, List, ◌∷◌, length, get_or, set, is_some, Some, None, Option, sym, refl, ap, ◌∙◌, ⊎_elim, arith}
use Rattle.std.proofs.lemmas.Bool.{cases_Bool, ne_eqb, eq-eqb, ltb-true}
use Rattle.settlement.specs.declared.figures.Interval.{Interval}
use Rattle.settlement.specs.declared.limits.Refusal.{Refusal}
use Rattle.settlement.specs.declared.limits.Refusal.TheVariants.{Slot, Nothing}
use Rattle.settlement.specs.Changes.{withdraw_refusal}
use Rattle.settlement.specs.Formulas.{figures_at}
use Rattle.settlement.specs.Limits.{records_refusal}
use Rattle.settlement.specs.Rulings.{unless, first, ruled, changed}
use Rattle.settlement.proofs.Rulings.{passed, neither}
use Rattle.record_store.specs.Meaning.{hour_records, emptied}
use Rattle.book.specs.declared.calls.Answer.TheVariants.{Done, Line, Figures}
use Rattle.book.specs.declared.calls.Call.{Call}
use Rattle.book.specs.declared.calls.Call.TheVariants.{Make, AskHour, AskInterval, AskDay}
use Rattle.book.specs.declared.calls.Change.{Change}
use Rattle.book.specs.declared.calls.Change.TheVariants.{Scheduled, Posted, Withdrawn, Read, Unread}
use Rattle.book.specs.declared.faults.Fault.{Fault}
use Rattle.book.specs.declared.faults.Fault.TheVariants.{BadRecords, NoHour}
use Rattle.book.specs.declared.figures.Row.{Row}
use Rattle.book.specs.Lines.{row_of, rows_of, table_of, no_row}
use Rattle.book.specs.Outcome.{Account, hour_of, slot_of, with_change, stored, hour_refuses, store_refuses, placed, passed_on, outside, unfit, refusal, at_place, judged, as_answer, answer, view, standing, made, after}
use Rattle.book.specs.Book.{Opening, stands, scheduled, was_read, store_by, standing_by, row_by, book, accept}
use Rattle.book.proofs.Rows as rows

-- The day that the book gives.
abbrev pub account_by : Opening → List Change → Account
account_by o log = record { terms = o.terms; table = table_of o.hours o.region (rows_of (row_by o log)); store = store_by o log }

pub row_is : (f : ℕ → Row) (h : ℕ) → h < 25 → get_or (rows_of f) h no_row ≡ f h
unfolding rows_of
row_is f h l = rows.at 25 f h no_row l

row_rewritten : (f g : ℕ → Row) (h : ℕ) (r : Row) → h < 25 → r ≡ g h → ((k : ℕ) → k ≢ h → f k ≡ g k) → set (rows_of f) h r ≡ rows_of g
unfolding rows_of
row_rewritten = rows.written_at 25

pub hour_long : (f : ℕ → Option Interval) → length (hour_records f) ≡ 24
unfolding hour_records
hour_long f = rows.long 24 f

pub record_is : (f : ℕ → Option Interval) (s : ℕ) → s < 24 → get_or (hour_records f) s None ≡ f s
unfolding hour_records
record_is f s l = rows.at 24 f s None l

slot_rewritten : (f g : ℕ → Option Interval) (s : ℕ) (x : Option Interval) → s < 24 → x ≡ g s → ((k : ℕ) → k ≢ s → f k ≡ g k) → set (hour_records f) s x ≡ hour_records g
unfolding hour_records
slot_rewritten = rows.written_at 24

pub standing_is : (o : Opening) (log : List Change) (h : ℕ) → h < 25 → standing (account_by o log).table (store_by o log) h ≡ standing_by log h
standing_is o log h l =
    ap (λ (r : Row). record { schedule = r.schedule; reading = r.reading; records = hour_records (stands log h) }) (row_is (row_by o log) h l)

-- What is judged by an hour of the day is judged alike.
alike : {A B : Type 0} (n h : ℕ) (f : Bool → B → A) (x y : B) → n ≤ 25 → (h < 25 → x ≡ y) → f false x ≡ f false y → f (ltb h n) x ≡ f (ltb h n) y
alike n h f x y fits same out =
    ⊎_elim
    (λ yes_in. ap (f (ltb h n)) (same (omega (arith, ltb-true h n yes_in))))
    (λ not_in. ap (λ b. f b x) not_in ∙ out ∙ ap (λ b. f b y) (sym not_in))
    (cases_Bool (ltb h n))

pub refusal_is : (o : Opening) (log : List Change) (c : Change) → o.hours ≤ 25 → refusal (view (account_by o log)) c ≡ refusal (book o log) c
refusal_is o log c fits =
    alike o.hours (hour_of c)
    (λ b st. first (first (unless b (NoHour (hour_of c) (slot_of c)) None) (unless (not (is_some (records_refusal st))) (BadRecords (hour_of c) (slot_of c)) None))
    (first (placed (hour_of c) (slot_of c) (hour_refuses st c)) (passed_on (store_refuses (store_by o log) c))))
    (standing (account_by o log).table (store_by o log) (hour_of c)) (standing_by log (hour_of c)) fits (standing_is o log (hour_of c)) refl

pub answer_is : (o : Opening) (log : List Change) (call : Call) → o.hours ≤ 25 → answer (view (account_by o log)) call ≡ answer (book o log) call
answer_is o log (Make c) fits = ap (λ q. ruled q Done) (refusal_is o log c fits)
answer_is o log (AskHour h) fits =
    alike o.hours h (λ b (r : Row). ruled (unless b (NoHour h 0) None) (Line r.line)) (get_or (rows_of (row_by o log)) h no_row) (row_by o log h) fits (row_is (row_by o log) h) refl
answer_is o log (AskInterval h s) fits =
    alike o.hours h
    (λ b st. as_answer Figures (judged (first (unless b (NoHour h s) None) (unless (not (is_some (records_refusal st))) (BadRecords h s) None)) (at_place h s (figures_at o.terms o.region st s))))
    (standing (account_by o log).table (store_by o log) h) (standing_by log h) fits (standing_is o log h) refl
answer_is o log AskDay fits = refl

-- What stands for the hours, and in the store, once a change is made.
-- The records of an hour with one slot written again.
pub slot_is : (log : List Change) (h s : ℕ) (x : Option Interval) → s < 24 → set (hour_records (stands log h)) s x ≡ hour_records (λ k. cond (eqb h h && eqb k s) x (stands log h k))
slot_is log h s x l =
    slot_rewritten (stands log h) (λ k. cond (eqb h h && eqb k s) x (stands log h k)) s x l
    (rw (eq-eqb h h refl, eq-eqb s s refl) refl)
    (λ k ne. rw (eq-eqb h h refl, ne_eqb k s ne) refl)

-- A slot that is posted to or withdrawn from is one of the hour, and in the latter something stands.
pub slot_below : (s : ℕ) (rest : Option Refusal) → unless (ltb s 24) Slot rest ≡ None → s < 24
slot_below s rest ok = ltb-true s 24 (passed (ltb s 24) Slot rest ok).0

pub stood : (log : List Change) (h s : ℕ) → withdraw_refusal (standing_by log h) s ≡ None → is_some (stands log h s) ≡ true
stood log h s ok =
    ap is_some (sym (record_is (stands log h) s (slot_below s _ ok)))
    ∙ (passed (is_some (get_or (hour_records (stands log h)) s None)) Nothing None (passed (ltb s 24) Slot _ ok).1).0

pub with_is : (log : List Change) (c : Change) → hour_refuses (standing_by log (hour_of c)) c ≡ None → with_change (standing_by log (hour_of c)) c ≡ standing_by (c ∷ log) (hour_of c)
with_is log (Scheduled h row) ok =
    ap (λ b. record { schedule = cond b (Some row) (scheduled log h); reading = was_read log h; records = hour_records (stands log h) }) (sym (eq-eqb h h refl))
with_is log (Posted h s i) ok =
    ap (λ xs. record { schedule = scheduled log h; reading = was_read log h; records = xs }) (slot_is log h s (Some i) (slot_below s _ ok))
with_is log (Withdrawn h s) ok =
    ap (λ xs. record { schedule = scheduled log h; reading = was_read log h; records = xs }) (slot_is log h s None (slot_below s _ ok))
with_is log (Read h kwh) ok =
    ap (λ b. record { schedule = scheduled log h; reading = cond b (Some kwh) (was_read log h); records = hour_records (stands log h) }) (sym (eq-eqb h h refl))
with_is log (Unread h) ok =
    ap (λ b. record { schedule = scheduled log h; reading = cond b None (was_read log h); records = hour_records (stands log h) }) (sym (eq-eqb h h refl))

pub others_are : (log : List Change) (c : Change) (k : ℕ) → k ≢ hour_of c → standing_by log k ≡ standing_by (c ∷ log) k
others_are log (Scheduled h row) k ne =
    ap (λ b. record { schedule = cond b (Some row) (scheduled log k); reading = was_read log k; records = hour_records (stands log k) }) (sym (ne_eqb k h ne))
others_are log (Posted h s i) k ne =
    ap (λ b. record { schedule = scheduled log k; reading = was_read log k; records = hour_records (λ j. cond (b && eqb j s) (Some i) (stands log k j)) }) (sym (ne_eqb k h ne))
others_are log (Withdrawn h s) k ne =
    ap (λ b. record { schedule = scheduled log k; reading = was_read log k; records = hour_records (λ j. cond (b && eqb j s) None (stands log k j)) }) (sym (ne_eqb k h ne))
others_are log (Read h kwh) k ne =
    ap (λ b. record { schedule = scheduled log k; reading = cond b (Some kwh) (was_read log k); records = hour_records (stands log k) }) (sym (ne_eqb k h ne))
others_are log (Unread h) k ne =
    ap (λ b. record { schedule = scheduled log k; reading = cond b None (was_read log k); records = hour_records (stands log k) }) (sym (ne_eqb k h ne))

pub store_is : (o : Opening) (log : List Change) (c : Change) → hour_refuses (standing_by log (hour_of c)) c ≡ None → stored (store_by o log) c ≡ store_by o (c ∷ log)
store_is o log (Scheduled h row) ok = refl
store_is o log (Posted h s i) ok = refl
store_is o log (Withdrawn h s) ok =
    ap (λ b. cond b (emptied (store_by o log) h s) (store_by o log)) (stood log h s ok)
store_is o log (Read h kwh) ok = refl
store_is o log (Unread h) ok = refl

-- An accepted change is refused by nothing, its hour being one of the day.
pub record Sound (o : Opening) (log : List Change) (c : Change) : Type 0 where
  pub inside : hour_of c < o.hours
  pub figures : hour_refuses (standing_by log (hour_of c)) c ≡ None

placed_none : (h s : ℕ) (q : Option Refusal) → placed h s q ≡ None → q ≡ None
placed_none h s None e = refl
placed_none h s (Some r) e = let z : ◌≡◌ {A = ℕ} 0 1 = cc in absurd (omega arith)

pub sound : (o : Opening) (log : List Change) (c : Change) → refusal (book o log) c ≡ None → Sound o log c
sound o log c ok =
    let p = neither (unfit (book o log) (hour_of c) (slot_of c)) _ ok in
    let q = neither (outside (book o log) (hour_of c) (slot_of c)) _ p.0 in
    let r = neither (placed (hour_of c) (slot_of c) (hour_refuses (standing_by log (hour_of c)) c)) _ p.1 in
    record {
      inside = ltb-true (hour_of c) o.hours (passed (ltb (hour_of c) o.hours) _ None q.0).0;
      figures = placed_none (hour_of c) (slot_of c) _ r.0;
    }

pub made_is : (o : Opening) (log : List Change) (c : Change) → o.hours ≤ 25 → refusal (book o log) c ≡ None → made (account_by o log) c ≡ account_by o (c ∷ log)
made_is o log c fits ok =
    let s = sound o log c ok in
    let h = hour_of c in
    let l : h < 25 = omega (arith, s.inside, fits) in
    let row =
    ap (λ st. row_of o.terms o.region (with_change st c)) (standing_is o log h l)
    ∙ ap (row_of o.terms o.region) (with_is log c s.figures) in
    let all = row_rewritten (row_by o log) (row_by o (c ∷ log)) h _ l row (λ k ne. ap (row_of o.terms o.region) (others_are log c k ne)) in
    let kept = store_is o log c s.figures in
    λ i. record { terms = o.terms; table = table_of o.hours o.region (all i); store = kept i }

pub after_is : (o : Opening) (log : List Change) (call : Call) → o.hours ≤ 25 → after (account_by o log) call ≡ account_by o (accept o log call)
after_is o log (Make c) fits =
    ap (λ q. changed q (made (account_by o log) c) (account_by o log)) (refusal_is o log c fits) ∙ ruling (refusal (book o log) c) (made_is o log c fits)
  where
    ruling : (q : Option Fault) → (q ≡ None → made (account_by o log) c ≡ account_by o (c ∷ log)) → changed q (made (account_by o log) c) (account_by o log) ≡ account_by o (changed q (c ∷ log) log)
    ruling None e = e refl
    ruling (Some f) e = refl
after_is o log (AskHour h) fits = refl
after_is o log (AskInterval h s) fits = refl
after_is o log AskDay fits = refl
