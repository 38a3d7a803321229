-- A day that keeps the book is the day that the book gives; so every list of calls goes through the gate.
use Rattle.std.proofs.Common.{◌≡◌, ℕ, ◌<◌, ◌≤◌, List, [], ◌∷◌, length, get_or, Result, sym, refl, ap, ◌∙◌, subst, arith}
use mathlib.Core.Path.{fun_ext}
use Rattle.settlement.specs.Editions.{Lawful}
use Rattle.settlement.specs.Nearness.{NearWhereSettled}
use Rattle.settlement.proofs.Nearness.{near_line, shares_reading}
use Rattle.book.specs.declared.calls.Answer.{Answer}
use Rattle.book.specs.declared.calls.Call.{Call}
use Rattle.book.specs.declared.calls.Change.{Change}
use Rattle.book.specs.declared.faults.Fault.{Fault}
use Rattle.book.specs.declared.figures.Row.{Row}
use Rattle.book.specs.Lines.{rows_of, no_row}
use Rattle.book.specs.Outcome.{Account, answer, after, Goes, all_answers, after_all}
use Rattle.book.specs.Book.{Opening, standing_by, row_by, book, accept, accepted, answers}
use Rattle.book.specs.Gate.{Kept, Law, Gated, GatedAll}
use Rattle.book.proofs.Rows as rows
use Rattle.book.proofs.Keeps.{account_by, row_is, answer_is, after_is}

-- What any statement has.
pub record Formed (a : Account) : Type 0 where
  pub rows : length a.table.rows ≡ 25
  pub hours : a.table.hours ≤ 25
  pub lawful : Lawful a.terms

all_rows : (xs : List Row) (f : ℕ → Row) → length xs ≡ 25 → ((h : ℕ) → h < 25 → get_or xs h no_row ≡ f h) → xs ≡ rows_of f
unfolding rows_of
all_rows xs f n each = rows.all_of 25 xs f no_row n each

pub kept_is : (o : Opening) (log : List Change) (a : Account) → length a.table.rows ≡ 25 → Kept o log a → a ≡ account_by o log
kept_is o log a n k =
    let all = all_rows a.table.rows (row_by o log) n k.lines in
    let records = fun_ext (λ h. fun_ext (λ s. k.records h s)) in
    λ i. record {
      terms = k.terms i;
      table = record { hours = k.hours i; region = k.region i; rows = all i; day = k.day i };
      store = record { standing = records i; spent = k.spent i; capacity = k.capacity i; charge = k.charge i };
    }

book_kept : (o : Opening) (log : List Change) → Lawful o.terms → Kept o log (account_by o log)
book_kept o log lawful =
    record {
      terms = refl;
      hours = refl;
      region = refl;
      lines = λ h l. row_is (row_by o log) h l;
      day = refl;
      records = λ h s. refl;
      spent = refl;
      capacity = refl;
      charge = refl;
      near = λ h l. subst (λ (r : Row). NearWhereSettled o.terms (standing_by log h) r.line) (sym (row_is (row_by o log) h l)) (near_line o.terms lawful o.region (standing_by log h));
      shared = λ h. shares_reading (standing_by log h);
    }

all_are : (o : Opening) (log : List Change) (calls : List Call) → o.hours ≤ 25
    → (all_answers (account_by o log) calls ≡ answers o log calls) × (after_all (account_by o log) calls ≡ account_by o (accepted o log calls))
all_are o log [] fits = (refl, refl)
all_are o log (call ∷ calls) fits =
    let here = after_is o log call fits in
    let rest = all_are o (accept o log call) calls fits in (
      ap (λ r. r ∷ all_answers (after (account_by o log) call) calls) (answer_is o log call fits)
          ∙ ap (λ (b : Account). answer (book o log) call ∷ all_answers b calls) here
          ∙ ap (λ rs. answer (book o log) call ∷ rs) rest.0,
      ap (λ (b : Account). after_all b calls) here ∙ rest.1,
    )

-- What goes by its one outcome goes through the gate.
pub law_by : (a : Account) (calls : List Call) (given : List (Result Answer Fault)) (b : Account) → Formed a → given ≡ all_answers a calls → b ≡ after_all a calls → Law a calls given b
law_by a calls given b formed eg eb o log k =
    let whole = kept_is o log a formed.rows k in
    let fits : o.hours ≤ 25 = omega (arith, formed.hours, k.hours) in
    let all = all_are o log calls fits in
    record {
      answers = eg ∙ ap (λ (x : Account). all_answers x calls) whole ∙ all.0;
      kept = subst (Kept o (accepted o log calls)) (sym (eb ∙ ap (λ (x : Account). after_all x calls) whole ∙ all.1)) (book_kept o (accepted o log calls) (subst Lawful k.terms formed.lawful));
    }

-- An opened day keeps the book of no change.
pub kept_by : (o : Opening) (a : Account) → Lawful o.terms → a ≡ account_by o [] → Kept o [] a
kept_by o a lawful e = subst (Kept o []) (sym e) (book_kept o [] lawful)

pub gated : (a : Account) (call : Call) (given : Result Answer Fault) (b : Account) → Formed a → Goes a call given b → Gated a call given b
gated a call given b formed goes = record { goes = goes; law = law_by a (call ∷ []) (given ∷ []) b formed (ap (λ r. r ∷ []) goes.answer) goes.after }

pub gated_all : (a : Account) (calls : List Call) (given : List (Result Answer Fault)) (b : Account) → Formed a → given ≡ all_answers a calls → b ≡ after_all a calls → GatedAll a calls given b
gated_all a calls given b formed eg eb = record { answers = eg; after = eb; law = law_by a calls given b formed eg eb }
