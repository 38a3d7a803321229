-- What is printed for a day file.
use Rattle.std.specs.Prelude.{◌≡◌, ℕ, zero, suc, ◌+◌, ◌⊎◌, List, [], ◌∷◌, ◌++◌, map, Some, None, Ok, Err, Result}
use Rattle.settlement.specs.Editions.{Terms, newer, older}
use Rattle.record_store.specs.Meaning.{Meaning, fresh}
use Rattle.book.specs.declared.calls.Answer.{Answer}
use Rattle.book.specs.declared.calls.Call.{Call}
use Rattle.book.specs.declared.calls.Call.TheVariants.{Make}
use Rattle.book.specs.declared.calls.Change.{Change}
use Rattle.book.specs.declared.faults.Fault.{Fault}
use Rattle.book.specs.declared.figures.Table.{Table}
use Rattle.book.specs.Lines.{rows_of, table_of}
use Rattle.book.specs.Outcome.{Account}
use Rattle.book.specs.Book.{Opening, row_by, accepted, answers}
use Rattle.book.specs.Gate.{opening, opening_refusal, Opened}
use Rattle.day_file.specs.declared.day.Header.{Header}
use Rattle.day_file.specs.declared.day.ReadError.{ReadError}
use Rattle.day_file.specs.declared.day.ReadError.TheVariants.{Refused, NoMemory}
use Rattle.day_file.specs.declared.faults.FileFault.{FileFault}
use Rattle.day_file.specs.declared.faults.FileFault.TheVariants.{InStatement}
use Rattle.day_file.specs.Reading.{FileOf}
use Rattle.day_file.specs.Refusals.{opening_fault, file_fault}
use Rattle.listing.specs.Listing.{listing}
use Rattle.listing.specs.Refusals.{refused_line}

-- The terms of an edition by its number in a file's header: 0 the older, 1 the newer.
abbrev pub terms_of : ℕ → Terms
terms_of zero = older
terms_of (suc n) = newer

-- The calls that a file's entries make.
abbrev pub calls : List Change → List Call
calls changes = map Make changes

-- The line of an entry that is refused; none where it is accepted.
abbrev pub refusal : ℕ → Result Answer Fault → List ℕ
refusal entry (Ok answer) = []
refusal entry (Err fault) = refused_line entry (InStatement fault)

-- The lines of the refused entries, from an entry on.
unfoldable pub refusals : ℕ → List (Result Answer Fault) → List ℕ
refusals entry [] = []
refusals entry (given ∷ rest) = refusal entry given ++ refusals (entry + 1) rest

-- The table of the book: every row worked out afresh.
abbrev pub table_by : Opening → List Change → Table
table_by o log = table_of o.hours o.region (rows_of (row_by o log))

-- What the book prints: the entries that it refuses, and the listing of the lines that it comes to.
abbrev pub page_by : Opening → List Change → List ℕ
page_by o changes = refusals 0 (answers o [] (calls changes)) ++ listing (table_by o (accepted o [] (calls changes)))

-- What a day is opened with: the edition's terms, the header's hours and region, and the store.
abbrev pub opened_by : Terms → Header → Meaning → Opening
opened_by e h m = opening e h.hours h.region m

-- A page that is shown of a day, from its header and its changes, over a store before and after: the calls go through the
-- gate, and the page has their refusals and the lines that they leave; so it is the book's page, byte for byte.
pub record Shown (e : Terms) (h : Header) (before after : Meaning) (changes : List Change) (page : List ℕ) : Type 0 where
  pub given : List (Result Answer Fault)
  pub day : Account
  pub gate : Opened e h.hours h.region before (calls changes) given day
  pub store : day.store ≡ after
  pub shows : page ≡ refusals 0 given ++ listing day.table
  pub told : page ≡ page_by (opened_by e h before) changes

-- A day that the statement does not open over the store; its fault is handed up whole.
pub record Unopened (h : Header) (before : Meaning) (fault : FileFault) : Type 0 where
  pub found : Fault
  pub refused : opening_refusal h.hours h.region before ≡ Some found
  pub whole : fault ≡ InStatement found

-- Why no page is shown of a day. A refusal leaves the store as it was; and memory may lack.
abbrev pub NotShown : Header → Meaning → Meaning → ReadError → Type 0
NotShown h before after (Refused fault) = Unopened h before fault × (after ≡ before)
NotShown h before after NoMemory = Unit {0}

-- The page of a file, over a store before and after: the file is that of some day, and the page is shown of that day.
pub record PageOf (before after : Meaning) (bytes page : List ℕ) : Type 0 where
  pub header : Header
  pub changes : List Change
  pub file : FileOf header changes bytes
  pub shown : Shown (terms_of header.edition) header before after changes page

-- A file without a fault, whose day is not opened over the store.
pub record FileUnopened (before : Meaning) (bytes : List ℕ) (fault : FileFault) : Type 0 where
  pub header : Header
  pub changes : List Change
  pub file : FileOf header changes bytes
  pub unopened : Unopened header before fault

-- Why a file has no page. A refusal leaves the store as it was; memory can lack only for a file whose header and length
-- are right.
abbrev pub NoPage : Meaning → Meaning → List ℕ → ReadError → Type 0
NoPage before after bytes (Refused fault) = ((file_fault bytes ≡ Some fault) ⊎ FileUnopened before bytes fault) × (after ≡ before)
NoPage before after bytes NoMemory = opening_fault bytes ≡ None

-- The page of a file over a new store of some capacity and charge.
abbrev pub FirstPage : ℕ → ℕ → List ℕ → List ℕ → Type 0
FirstPage capacity charge bytes page = (after : Meaning) × PageOf (fresh capacity charge) after bytes page

-- Why there is none: nothing but the file is refused then, and memory may lack.
abbrev pub NoFirstPage : List ℕ → ReadError → Type 0
NoFirstPage bytes (Refused fault) = file_fault bytes ≡ Some fault
NoFirstPage bytes NoMemory = Unit {0}
