-- Entries that are run one after the other: what is noted, with what is left to do, is what the whole file asks.
use Rattle.std.proofs.Common.{◌≡◌, ℕ, ◌+◌, ◌<◌, ◌≤◌, cond, List, [], ◌∷◌, ◌++◌, length, get_or, drop, is_ok, IfOk, Ok, Err, Result, sym, refl, ap, ◌∙◌, arith}
use Rattle.std.specs.declared.alloc.AllocError.{AllocError}
use Rattle.std.proofs.lemmas.List.{append-nil, append_assoc, drop_all, drop_more}
use Rattle.book.specs.declared.calls.Answer.{Answer}
use Rattle.book.specs.declared.calls.Call.TheVariants.{Make}
use Rattle.book.specs.declared.calls.Change.{Change}
use Rattle.book.specs.declared.faults.Fault.{Fault}
use Rattle.book.specs.Outcome.{Account, view, answer, after, all_answers, after_all}
use Rattle.day_file.specs.declared.faults.FileFault.{FileFault}
use Rattle.day_file.specs.declared.faults.FileFault.TheVariants.{InStatement}
use Rattle.listing.specs.Listing.{Laid}
use Rattle.listing.specs.Refusals.{refused_line}
use Rattle.day_run.specs.Pages.{calls, refusal, refusals}
use Rattle.day_run.specs.Entries.{handed_up, Ran}

pub record Noting (a₀ : Account) (page₀ : List ℕ) (changes : List Change) (a : Account) (page : List ℕ) (i : ℕ) : Type 0 where
  pub noted : page ++ refusals i (all_answers a (calls (drop i changes))) ≡ page₀ ++ refusals 0 (all_answers a₀ (calls changes))
  pub left : after_all a (calls (drop i changes)) ≡ after_all a₀ (calls changes)

pub noting_none : (a : Account) (page : List ℕ) (changes : List Change) → Noting a page changes a page 0
noting_none a page changes = record { noted = refl; left = refl }

module _ (a₀ : Account) (page₀ : List ℕ) (changes : List Change) where
  pub noting_more : (a : Account) (page : List ℕ) (i : ℕ) (d : Change) (b : Account) (new : List ℕ) → i < length changes
      → b ≡ after a (Make (get_or changes i d)) → new ≡ page ++ refusal i (answer (view a) (Make (get_or changes i d)))
      → Noting a₀ page₀ changes a page i → Noting a₀ page₀ changes b new (i + 1)
  unfolding refusals
  noting_more a page i d b new l left noted n =
      let c = Make (get_or changes i d) in
      let rest = calls (drop (i + 1) changes) in
      let here : calls (drop i changes) ≡ c ∷ rest = ap calls (drop_more changes i d l) in
      record {
        noted =
            (λ k. noted k ++ refusals (i + 1) (all_answers (left k) rest))
            ∙ append_assoc page (refusal i (answer (view a) c)) (refusals (i + 1) (all_answers (after a c) rest))
            ∙ ap (λ cs. page ++ refusals i (all_answers a cs)) (sym here)
            ∙ n.noted;
        left = ap (λ (x : Account). after_all x rest) left ∙ ap (after_all a) (sym here) ∙ n.left;
      }

  pub noting_all : (a : Account) (page : List ℕ) (i : ℕ) → length changes ≤ i → Noting a₀ page₀ changes a page i → Ran a₀ changes page₀ a page
  unfolding refusals
  noting_all a page i l n =
      let none = drop_all i changes l in
      record {
        left = ap (λ (rest : List Change). after_all a (calls rest)) (sym none) ∙ n.left;
        noted = sym (append-nil page) ∙ ap (λ (rest : List Change). page ++ refusals i (all_answers a (calls rest))) (sym none) ∙ n.noted;
      }

-- What is written of one entry, by its answer as it was handed up.
pub none_written : (entry : ℕ) (r : Result Answer Fault) (x : Unit {0}) → Ok x ≡ handed_up r → [] ≡ refusal entry r
none_written entry (Ok a) x e = refl
none_written entry (Err f) x e = let z : ◌≡◌ {A = ℕ} 0 1 = cc in absurd (omega arith)

line_written : (entry : ℕ) (r : Result Answer Fault) (f : FileFault) → Err f ≡ handed_up r → refused_line entry f ≡ refusal entry r
line_written entry (Ok a) f e = let z : ◌≡◌ {A = ℕ} 0 1 = cc in absurd (omega arith)
line_written entry (Err g) f e = ap (refused_line entry) (let w : f ≡ InStatement g = cc in w)

pub extended : (done : Result (Unit {0}) AllocError) (old new more text : List ℕ) → new ≡ cond (is_ok done) (old ++ more) old → more ≡ text → IfOk done (λ _. new ≡ old ++ text)
extended (Ok x) old new more text e is = e ∙ ap (λ t. old ++ t) is
extended (Err y) old new more text e is = tt

pub refusal_written : (done : Result (Unit {0}) AllocError) (old new more : List ℕ) (entry : ℕ) (r : Result Answer Fault) (f : FileFault) → Err f ≡ handed_up r → more ≡ refused_line entry f
    → new ≡ cond (is_ok done) (old ++ more) old → IfOk done (λ _. new ≡ old ++ refusal entry r)
refusal_written done old new more entry r f up is e = extended done old new more (refusal entry r) e (is ∙ line_written entry r f up)

-- A text that fills its memory is written whole.
filled : (text before after : List ℕ) (r : Result ℕ FileFault) → length before ≡ length text → Laid text before r after → after ≡ text
filled text before after (Ok n) e (fits, long, is) = is ∙ ap (λ rest. text ++ rest) (drop_all (length text) before (omega arith)) ∙ append-nil text
filled text before after (Err f) e (short, told, same) = absurd (omega arith)

pub listed : (done : Result (Unit {0}) AllocError) (old new more text before after : List ℕ) (r : Result ℕ FileFault) → length before ≡ length text → Laid text before r after → more ≡ after
    → new ≡ cond (is_ok done) (old ++ more) old → IfOk done (λ _. new ≡ old ++ text)
listed done old new more text before after r long laid is e = extended done old new more text e (is ∙ filled text before after r long laid)
