-- A page that has what was noted and the listing is shown of its day.
use Rattle.std.proofs.Common.{◌≡◌, ℕ, zero, suc, List, [], ◌++◌, length, None, Ok, Err, Result, refl, ap, ◌∙◌, subst, inr, ⊎_elim, arith, MatchResult}
use Rattle.std.proofs.lemmas.Bool.{le-leb}
use Rattle.settlement.specs.Editions.{Terms, newer}
use Rattle.settlement.proofs.Rulings.{neither}
use Rattle.record_store.specs.Meaning.{Meaning, fresh, hour_records}
use Rattle.book.specs.declared.calls.Change.{Change}
use Rattle.book.specs.declared.figures.Table.{Table}
use Rattle.book.specs.Outcome.{Account, all_answers}
use Rattle.book.specs.Book.{accepted}
use Rattle.book.specs.Gate.{count, opening_refusal, Opened}
use Rattle.book.proofs.Laws.{Formed, law_by, kept_is}
use Rattle.day_file.specs.declared.day.Header.{Header}
use Rattle.day_file.specs.declared.day.ReadError.{ReadError}
use Rattle.day_file.specs.declared.day.ReadError.TheVariants.{Refused, NoMemory}
use Rattle.day_file.specs.Reading.{FileOf, Exact}
use Rattle.day_file.specs.Refusals.{opening_fault}
use Rattle.day_file.specs.Valid.{Valid}
use Rattle.listing.specs.Listing.{listing}
use Rattle.day_run.specs.Pages.{terms_of, calls, refusals, opened_by, Shown, NotShown, PageOf, NoPage, FirstPage, NoFirstPage}
use Rattle.day_run.specs.Entries.{Ran}

pub shown : (e : Terms) (h : Header) (before : Meaning) (changes : List Change) (a b : Account) (front text page : List ℕ) (t : Table) → Opened e h.hours h.region before [] [] a → Formed a
    → length b.table.rows ≡ 25 → front ≡ [] → Ran a changes front b text → t ≡ b.table → page ≡ text ++ listing t → Shown e h before b.store changes page
shown e h before changes a b front text page t opened formed rows none ran same is =
    let o = opened_by e h before in
    let given = all_answers a (calls changes) in
    let gate = law_by a (calls changes) given b formed refl ran.left o [] opened.gate.kept in
    let shows : page ≡ refusals 0 given ++ listing b.table = is ∙ (λ i. ran.noted i ++ listing (same i)) ∙ ap (λ xs. (xs ++ refusals 0 given) ++ listing b.table) none in
    let whole = kept_is o (accepted o [] (calls changes)) b rows gate.kept in
    record {
      given = given;
      day = b;
      gate = record { accepted = opened.accepted; gate = gate };
      store = refl;
      shows = shows;
      told = shows ∙ (λ i. refusals 0 (gate.answers i) ++ listing (whole i).table);
    }

-- The edition that a number does not name as the older is the newer.
pub not_older : (n : ℕ) → (n ≡ 0 → ⊥) → newer ≡ terms_of n
not_older zero other = absurd (other refl)
not_older (suc n) other = refl

-- A page that is shown of the day of a file is the page of the file.
pub paged : {V : Type 0} (items : V → List ℕ) (e : Terms) (h : Header) (changes made : List Change) (bytes : List ℕ) (before after : Meaning) (r : Result V ReadError) → FileOf h changes bytes → Exact bytes
    → e ≡ terms_of h.edition → made ≡ changes → MatchResult r (λ v. Shown e h before after made (items v)) (NotShown h before after) → MatchResult r (λ v. PageOf before after bytes (items v)) (NoPage before after bytes)
paged items e h changes made bytes before after (Ok v) file exact terms same page =
    record { header = h; changes = changes; file = file; shown = subst (λ (cs : List Change). Shown (terms_of h.edition) h before after cs (items v)) same (subst (λ (t : Terms). Shown t h before after made (items v)) terms page) }
paged items e h changes made bytes before after (Err (Refused fault)) file exact terms same (unopened, left) =
    (inr (record { header = h; changes = changes; file = file; unopened = unopened }), left)
paged items e h changes made bytes before after (Err NoMemory) file exact terms same page = (neither (opening_fault bytes) _ (exact.complete h changes file)).0

-- Over a new store every day of a file is opened.
nothing_counted : count (λ h s. None) ≡ 0
unfolding count hour_records
nothing_counted = refl

opened_fresh : (h : Header) (changes : List Change) (capacity charge : ℕ) → Valid h changes → opening_refusal h.hours h.region (fresh capacity charge) ≡ None
opened_fresh h changes capacity charge v =
    rw (le-leb 23 h.hours v.shortest, le-leb h.hours 25 v.longest, le-leb h.region 1 v.regions, nothing_counted) refl

pub first_paged : {V : Type 0} (items : V → List ℕ) (capacity charge : ℕ) (bytes : List ℕ) (before after : Meaning) (r : Result V ReadError) → before ≡ fresh capacity charge
    → MatchResult r (λ v. PageOf before after bytes (items v)) (NoPage before after bytes) → MatchResult r (λ v. FirstPage capacity charge bytes (items v)) (NoFirstPage bytes)
first_paged items capacity charge bytes before after (Ok v) new page = (after, subst (λ (m : Meaning). PageOf m after bytes (items v)) new page)
first_paged items capacity charge bytes before after (Err (Refused fault)) new (why, same) =
    ⊎_elim (λ bad. bad)
    (λ u.
    let none = ap (λ (m : Meaning). opening_refusal u.header.hours u.header.region m) new ∙ opened_fresh u.header u.changes capacity charge u.file.valid in
    let told = u.unopened.refused in
    let z : ◌≡◌ {A = ℕ} 0 1 = cc in
    absurd (omega arith))
    why
first_paged items capacity charge bytes before after (Err NoMemory) new page = tt
