-- The plain book: everything is worked out afresh from the opening's figures and the changes accepted since, the latest
-- first.
use Rattle.std.specs.Prelude.{ℕ, ◌+◌, ◌-◌, cond, ◌&&◌, List, [], ◌∷◌, ℤ, is_some, Some, None, Option, Result, ◌==◌}
use Rattle.settlement.specs.declared.figures.Interval.{Interval}
use Rattle.settlement.specs.declared.figures.Region.{Region}
use Rattle.settlement.specs.declared.figures.Schedule.{Schedule}
use Rattle.settlement.specs.declared.figures.Standing.{Standing}
use Rattle.settlement.specs.Editions.{Terms}
use Rattle.settlement.specs.Rulings.{changed}
use Rattle.record_store.specs.Meaning.{Meaning, hour_records}
use Rattle.book.specs.declared.calls.Answer.{Answer}
use Rattle.book.specs.declared.calls.Call.{Call}
use Rattle.book.specs.declared.calls.Call.TheVariants.{Make, AskHour, AskInterval, AskDay}
use Rattle.book.specs.declared.calls.Change.{Change}
use Rattle.book.specs.declared.calls.Change.TheVariants.{Scheduled, Posted, Withdrawn, Read, Unread}
use Rattle.book.specs.declared.faults.Fault.{Fault}
use Rattle.book.specs.declared.figures.Row.{Row}
use Rattle.book.specs.Lines.{row_of, rows_of, day_of}
use Rattle.book.specs.Outcome.{View, refusal, answer}

-- What a day is opened with: the edition's terms, the hours and the region; and of the store its charge, its capacity
-- and what was spent then.
pub record Opening : Type 0 where
  pub terms : Terms
  pub hours : ℕ
  pub region : Region
  pub charge : ℕ
  pub capacity : ℕ
  pub spent : ℕ

-- The record last posted for a slot and not withdrawn since.
abbrev pub stands : List Change → ℕ → ℕ → Option Interval
stands [] h s = None
stands (Scheduled hour row ∷ log) h s = stands log h s
stands (Posted hour slot interval ∷ log) h s = cond (h == hour && s == slot) (Some interval) (stands log h s)
stands (Withdrawn hour slot ∷ log) h s = cond (h == hour && s == slot) None (stands log h s)
stands (Read hour kwh ∷ log) h s = stands log h s
stands (Unread hour ∷ log) h s = stands log h s

-- The row last scheduled for an hour.
abbrev pub scheduled : List Change → ℕ → Option Schedule
scheduled [] h = None
scheduled (Scheduled hour row ∷ log) h = cond (h == hour) (Some row) (scheduled log h)
scheduled (Posted hour slot interval ∷ log) h = scheduled log h
scheduled (Withdrawn hour slot ∷ log) h = scheduled log h
scheduled (Read hour kwh ∷ log) h = scheduled log h
scheduled (Unread hour ∷ log) h = scheduled log h

-- The last reading of an hour that was not withdrawn since.
abbrev pub was_read : List Change → ℕ → Option ℤ
was_read [] h = None
was_read (Scheduled hour row ∷ log) h = was_read log h
was_read (Posted hour slot interval ∷ log) h = was_read log h
was_read (Withdrawn hour slot ∷ log) h = was_read log h
was_read (Read hour kwh ∷ log) h = cond (h == hour) (Some kwh) (was_read log h)
was_read (Unread hour ∷ log) h = cond (h == hour) None (was_read log h)

-- What is spent: 1 for each new record and the charge for each rewritten one; a withdrawal gives 1 back at charge 0, and
-- else costs 1.
abbrev pub spent_by : Opening → List Change → ℕ
spent_by o [] = o.spent
spent_by o (Scheduled hour row ∷ log) = spent_by o log
spent_by o (Posted hour slot interval ∷ log) = spent_by o log + cond (is_some (stands log hour slot)) o.charge 1
spent_by o (Withdrawn hour slot ∷ log) = cond (o.charge == 0) (spent_by o log - 1) (spent_by o log + 1)
spent_by o (Read hour kwh ∷ log) = spent_by o log
spent_by o (Unread hour ∷ log) = spent_by o log

-- What stands for an hour.
abbrev pub standing_by : List Change → ℕ → Standing
standing_by log hour = record { schedule = scheduled log hour; reading = was_read log hour; records = hour_records (stands log hour) }

-- The store of the book.
abbrev pub store_by : Opening → List Change → Meaning
store_by o log = record { standing = stands log; spent = spent_by o log; capacity = o.capacity; charge = o.charge }

-- The row of an hour, worked out afresh.
abbrev pub row_by : Opening → List Change → ℕ → Row
row_by o log hour = row_of o.terms o.region (standing_by log hour)

-- The book, by which calls are judged.
abbrev pub book : Opening → List Change → View
book o log =
    record {
      terms = o.terms;
      region = o.region;
      hours = o.hours;
      standing = standing_by log;
      line = λ hour. (row_by o log hour).line;
      day = day_of (rows_of (row_by o log));
      store = store_by o log;
    }

-- The changes accepted once a call is answered: one more where a change is not refused.
abbrev pub accept : Opening → List Change → Call → List Change
accept o log (Make c) = changed (refusal (book o log) c) (c ∷ log) log
accept o log (AskHour hour) = log
accept o log (AskInterval hour slot) = log
accept o log AskDay = log

-- The changes accepted of a list of calls.
abbrev pub accepted : Opening → List Change → List Call → List Change
accepted o log [] = log
accepted o log (call ∷ calls) = accepted o (accept o log call) calls

-- The answers to the calls, in their order.
abbrev pub answers : Opening → List Change → List Call → List (Result Answer Fault)
answers o log [] = []
answers o log (call ∷ calls) = answer (book o log) call ∷ answers o (accept o log call) calls
