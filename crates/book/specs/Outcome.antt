-- What each call comes to: why it is refused, what it is answered with, and what it leaves.
use Rattle.std.specs.Prelude.{◌≡◌, ℕ, not, List, [], ◌∷◌, is_some, Some, None, Ok, Err, Option, Result, nat_lt}
use Rattle.settlement.specs.declared.figures.HourLine.{HourLine}
use Rattle.settlement.specs.declared.figures.Region.{Region}
use Rattle.settlement.specs.declared.figures.Standing.{Standing}
use Rattle.settlement.specs.declared.limits.Refusal.{Refusal}
use Rattle.settlement.specs.Changes.{with_record, with_row, with_reading, post_refusal, withdraw_refusal, unread_refusal}
use Rattle.settlement.specs.Editions.{Terms}
use Rattle.settlement.specs.Formulas.{figures_at}
use Rattle.settlement.specs.Limits.{schedule_refusal, reading_refusal, records_refusal}
use Rattle.settlement.specs.Rulings.{unless, first, ruled, changed}
use Rattle.record_store.specs.declared.faults.StoreFault.{StoreFault}
use Rattle.record_store.specs.Meaning.{Meaning, hour_records, write_refused, take_refused, written, taken}
use Rattle.book.specs.declared.calls.Answer.{Answer}
use Rattle.book.specs.declared.calls.Answer.TheVariants.{Done, Line, Figures, Day}
use Rattle.book.specs.declared.calls.Call.{Call}
use Rattle.book.specs.declared.calls.Call.TheVariants.{Make, AskHour, AskInterval, AskDay}
use Rattle.book.specs.declared.calls.Change.{Change}
use Rattle.book.specs.declared.calls.Change.TheVariants.{Scheduled, Posted, Withdrawn, Read, Unread}
use Rattle.book.specs.declared.faults.Fault.{Fault}
use Rattle.book.specs.declared.faults.Fault.TheVariants.{BadRecords, NoHour, Refused, InStore}
use Rattle.book.specs.declared.figures.DayLine.{DayLine}
use Rattle.book.specs.declared.figures.Table.{Table}
use Rattle.book.specs.Lines.{row_of, row_at, rewritten}

-- What a call is judged by: the edition's terms, the region, the hours of the day, what stands for each hour, its line,
-- the day's line, and the store.
pub record View : Type 0 where
  pub terms : Terms
  pub region : Region
  pub hours : ℕ
  pub standing : ℕ → Standing
  pub line : ℕ → HourLine
  pub day : DayLine
  pub store : Meaning

-- The hour that a change names.
abbrev pub hour_of : Change → ℕ
hour_of (Scheduled hour row) = hour
hour_of (Posted hour slot interval) = hour
hour_of (Withdrawn hour slot) = hour
hour_of (Read hour kwh) = hour
hour_of (Unread hour) = hour

-- The slot that a change names; 0 where it names none.
abbrev pub slot_of : Change → ℕ
slot_of (Scheduled hour row) = 0
slot_of (Posted hour slot interval) = slot
slot_of (Withdrawn hour slot) = slot
slot_of (Read hour kwh) = 0
slot_of (Unread hour) = 0

-- What stands for the hour once the change is made.
abbrev pub with_change : Standing → Change → Standing
with_change h (Scheduled hour row) = with_row h row
with_change h (Posted hour slot interval) = with_record h slot (Some interval)
with_change h (Withdrawn hour slot) = with_record h slot None
with_change h (Read hour kwh) = with_reading h (Some kwh)
with_change h (Unread hour) = with_reading h None

-- The store once the change is made.
abbrev pub stored : Meaning → Change → Meaning
stored m (Scheduled hour row) = m
stored m (Posted hour slot interval) = written m hour slot interval
stored m (Withdrawn hour slot) = taken m hour slot
stored m (Read hour kwh) = m
stored m (Unread hour) = m

-- What refuses a change by the hour's own figures.
abbrev pub hour_refuses : Standing → Change → Option Refusal
hour_refuses h (Scheduled hour row) = schedule_refusal row
hour_refuses h (Posted hour slot interval) = post_refusal h slot interval
hour_refuses h (Withdrawn hour slot) = withdraw_refusal h slot
hour_refuses h (Read hour kwh) = reading_refusal kwh
hour_refuses h (Unread hour) = unread_refusal h

-- What refuses a change by the store.
abbrev pub store_refuses : Meaning → Change → Option StoreFault
store_refuses m (Scheduled hour row) = None
store_refuses m (Posted hour slot interval) = write_refused m hour slot
store_refuses m (Withdrawn hour slot) = take_refused m hour slot
store_refuses m (Read hour kwh) = None
store_refuses m (Unread hour) = None

-- The fault of a refusal by an hour.
abbrev pub placed : ℕ → ℕ → Option Refusal → Option Fault
placed hour slot None = None
placed hour slot (Some refusal) = Some (Refused refusal hour slot)

-- A store's fault, passed on whole.
abbrev pub passed_on : Option StoreFault → Option Fault
passed_on None = None
passed_on (Some fault) = Some (InStore fault)

-- An hour outside the day.
abbrev pub outside : View → ℕ → ℕ → Option Fault
outside v hour slot = unless (nat_lt hour v.hours) (NoHour hour slot) None

-- An hour outside the day, or one whose records break a limit.
abbrev pub unfit : View → ℕ → ℕ → Option Fault
unfit v hour slot = first (outside v hour slot) (unless (not (is_some (records_refusal (v.standing hour)))) (BadRecords hour slot) None)

-- What refuses a change, in this order: the hour, its records, its figures, the store.
abbrev pub refusal : View → Change → Option Fault
refusal v c =
    first (unfit v (hour_of c) (slot_of c))
    (first (placed (hour_of c) (slot_of c) (hour_refuses (v.standing (hour_of c)) c)) (passed_on (store_refuses v.store c)))

-- What an hour answers to a call, with the call's place in its fault.
abbrev pub at_place : {A : Type 0} → ℕ → ℕ → Result A Refusal → Result A Fault
at_place hour slot (Ok answer) = Ok answer
at_place hour slot (Err refusal) = Err (Refused refusal hour slot)

-- An answer that something may refuse before.
abbrev pub judged : {A : Type 0} → Option Fault → Result A Fault → Result A Fault
judged None answer = answer
judged (Some fault) answer = Err fault

-- What a call answers, as one of the answers.
abbrev pub as_answer : {A : Type 0} → (A → Answer) → Result A Fault → Result Answer Fault
as_answer answer (Ok a) = Ok (answer a)
as_answer answer (Err fault) = Err fault

-- The one answer of a call.
abbrev pub answer : View → Call → Result Answer Fault
answer v (Make c) = ruled (refusal v c) Done
answer v (AskHour hour) = ruled (outside v hour 0) (Line (v.line hour))
answer v (AskInterval hour slot) =
    as_answer Figures (judged (unfit v hour slot) (at_place hour slot (figures_at v.terms v.region (v.standing hour) slot)))
answer v AskDay = Ok (Day v.day)

-- A day as it is kept: by an edition, in a table and a store.
pub record Account : Type 0 where
  pub terms : Terms
  pub table : Table
  pub store : Meaning

-- What stands for an hour: its row has the schedule and the reading, the store the records.
abbrev pub standing : Table → Meaning → ℕ → Standing
standing t m hour = record { schedule = (row_at t hour).schedule; reading = (row_at t hour).reading; records = hour_records (m.standing hour) }

-- What a day is judged by, as it is kept.
abbrev pub view : Account → View
view a =
    record {
      terms = a.terms;
      region = a.table.region;
      hours = a.table.hours;
      standing = standing a.table a.store;
      line = λ hour. (row_at a.table hour).line;
      day = a.table.day;
      store = a.store;
    }

-- The day with a change made: one row is worked out again, and no other is touched.
abbrev pub made : Account → Change → Account
made a c =
    record {
      terms = a.terms;
      table = rewritten a.table (hour_of c) (row_of a.terms a.table.region (with_change (standing a.table a.store (hour_of c)) c));
      store = stored a.store c;
    }

-- The day after a call: as it was where the call is refused, and after a question.
abbrev pub after : Account → Call → Account
after a (Make c) = changed (refusal (view a) c) (made a c) a
after a (AskHour hour) = a
after a (AskInterval hour slot) = a
after a AskDay = a

-- A call goes by its one outcome: it is answered so, and leaves the day so.
pub record Goes (a : Account) (call : Call) (given : Result Answer Fault) (b : Account) : Type 0 where
  pub answer : given ≡ answer (view a) call
  pub after : b ≡ after a call

-- A list of calls, each from where the former left the day.
abbrev pub all_answers : Account → List Call → List (Result Answer Fault)
all_answers a [] = []
all_answers a (call ∷ calls) = answer (view a) call ∷ all_answers (after a call) calls

-- The day that they leave.
abbrev pub after_all : Account → List Call → Account
after_all a [] = a
after_all a (call ∷ calls) = after_all (after a call) calls

-- The result of a change.
abbrev pub done : Result (Unit {0}) Fault → Result Answer Fault
done r = as_answer (λ _. Done) r
