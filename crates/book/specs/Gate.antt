-- The law of the gate: a statement and its store keep the plain book, through every list of calls.
use Rattle.std.specs.Prelude.{◌≡◌, ℕ, zero, suc, ◌<◌, ◌&&◌, List, [], ◌∷◌, is_some, None, sum_by, count_by, Option, Result, ◌==◌, nat_le}
use Rattle.std.specs.List.{range_with_len}
use Rattle.settlement.specs.declared.figures.Interval.{Interval}
use Rattle.settlement.specs.declared.figures.Region.{Region}
use Rattle.settlement.specs.declared.figures.Region.TheVariants.{East, West}
use Rattle.settlement.specs.Editions.{Terms}
use Rattle.settlement.specs.Nearness.{NearWhereSettled, SharesReading}
use Rattle.settlement.specs.Rulings.{unless, first}
use Rattle.record_store.specs.Meaning.{Meaning, hour_records}
use Rattle.book.specs.declared.calls.Answer.{Answer}
use Rattle.book.specs.declared.calls.Call.{Call}
use Rattle.book.specs.declared.calls.Change.{Change}
use Rattle.book.specs.declared.faults.Fault.{Fault}
use Rattle.book.specs.declared.faults.Fault.TheVariants.{BadHours, BadRegion, Occupied}
use Rattle.book.specs.Lines.{row_at}
use Rattle.book.specs.Outcome.{Account, Goes, all_answers, after_all}
use Rattle.book.specs.Book.{Opening, stands, standing_by, row_by, spent_by, book, accepted, answers}

-- How many records stand, of those that may stand for the hours 0 to 24.
unfoldable pub count : (ℕ → ℕ → Option Interval) → ℕ
count standing = sum_by (λ hour. count_by is_some (hour_records (standing hour))) (range_with_len 0 25)

-- A day has 23, 24 or 25 hours.
abbrev pub hours_refusal : ℕ → Option Fault
hours_refusal hours = unless (nat_le 23 hours && nat_le hours 25) BadHours None

-- A region is 0 or 1.
abbrev pub region_refusal : ℕ → Option Fault
region_refusal region = unless (nat_le region 1) BadRegion None

-- What refuses an opening, in this order: the number of hours, the region, a record that stands in the store.
abbrev pub opening_refusal : ℕ → ℕ → Meaning → Option Fault
opening_refusal hours region m = first (hours_refusal hours) (first (region_refusal region) (unless (count m.standing == 0) Occupied None))

-- The region of a number.
abbrev pub region_of : ℕ → Region
region_of zero = East
region_of (suc n) = West

-- The opening's figures, of which those of the store are taken then.
abbrev pub opening : Terms → ℕ → ℕ → Meaning → Opening
opening e hours region m =
    record { terms = e; hours = hours; region = region_of region; charge = m.charge; capacity = m.capacity; spent = m.spent }

-- A day keeps the book of an opening and of the changes accepted since: its rows, its line, the standing records and the
-- number spent are the book's; and in every hour the amounts lie near the exact fractions and the shared kW add up.
pub record Kept (o : Opening) (log : List Change) (a : Account) : Type 0 where
  pub terms : a.terms ≡ o.terms
  pub hours : a.table.hours ≡ o.hours
  pub region : a.table.region ≡ o.region
  pub lines : (hour : ℕ) → hour < 25 → row_at a.table hour ≡ row_by o log hour
  pub day : a.table.day ≡ (book o log).day
  pub records : (hour slot : ℕ) → a.store.standing hour slot ≡ stands log hour slot
  pub spent : a.store.spent ≡ spent_by o log
  pub capacity : a.store.capacity ≡ o.capacity
  pub charge : a.store.charge ≡ o.charge
  pub near : (hour : ℕ) → hour < 25 → NearWhereSettled a.terms (standing_by log hour) (row_at a.table hour).line
  pub shared : (hour : ℕ) → SharesReading (standing_by log hour)

-- Calls are answered as the book answers them, and the day that they leave keeps the book.
pub record Gate (o : Opening) (log : List Change) (calls : List Call) (given : List (Result Answer Fault)) (a : Account) : Type 0 where
  pub answers : given ≡ answers o log calls
  pub kept : Kept o (accepted o log calls) a

-- A day that was opened over a store, and the calls since, go through the gate: all is told by the opening's figures and
-- the calls alone.
pub record Opened (e : Terms) (hours region : ℕ) (m : Meaning) (calls : List Call) (given : List (Result Answer Fault)) (a : Account) : Type 0 where
  pub accepted : opening_refusal hours region m ≡ None
  pub gate : Gate (opening e hours region m) [] calls given a

-- From a day that keeps the book, however it came to, a list of calls goes through the gate.
abbrev pub Law : Account → List Call → List (Result Answer Fault) → Account → Type 0
Law a calls given b = (o : Opening) (log : List Change) → Kept o log a → Gate o log calls given b

-- A call goes by its one outcome, and through the gate.
pub record Gated (a : Account) (call : Call) (given : Result Answer Fault) (b : Account) : Type 0 where
  pub goes : Goes a call given b
  pub law : Law a (call ∷ []) (given ∷ []) b

-- So does a list of calls, each from where the former left the day.
pub record GatedAll (a : Account) (calls : List Call) (given : List (Result Answer Fault)) (b : Account) : Type 0 where
  pub answers : given ≡ all_answers a calls
  pub after : b ≡ after_all a calls
  pub law : Law a calls given b
