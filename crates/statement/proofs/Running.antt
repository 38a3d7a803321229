-- A log that is run, entry after entry: what is answered with what is left to do is what the whole log asks.
use Rattle.std.proofs.Common.{◌≡◌, ℕ, ◌+◌, ◌<◌, ◌≤◌, List, [], ◌∷◌, ◌++◌, length, get_or, take, drop, set, Result, sym, refl, ap, ◌∙◌, arith}
use Rattle.std.proofs.lemmas.List.{append-nil, append_assoc, take_all, drop_all, take_more_set, drop-set-lt, drop_more, map_push, map-set, set-get_or, get_or-map}
use Rattle.book.specs.declared.calls.Answer.{Answer}
use Rattle.book.specs.declared.calls.Entry.{Entry}
use Rattle.book.specs.declared.faults.Fault.{Fault}
use Rattle.book.specs.Outcome.{Account, Goes, all_answers, after_all}
use Rattle.statement.specs.Logs.{calls, answers}

pub record Running (a₀ : Account) (log₀ : List Entry) (a : Account) (log : List Entry) (i : ℕ) : Type 0 where
  pub same : calls log ≡ calls log₀
  pub answered : answers (take i log) ++ all_answers a (calls (drop i log)) ≡ all_answers a₀ (calls log₀)
  pub left : after_all a (calls (drop i log)) ≡ after_all a₀ (calls log₀)

pub run_none : (a : Account) (log : List Entry) → Running a log a log 0
run_none a log = record { same = refl; answered = refl; left = refl }

pub run_more : (a₀ : Account) (log₀ : List Entry) (a : Account) (log : List Entry) (i : ℕ) (d : Entry) (r : Result Answer Fault) (b : Account) → i < length log
    → Goes a (get_or log i d).call r b → Running a₀ log₀ a log i → Running a₀ log₀ b (set log i (record { call = (get_or log i d).call; answer = r })) (i + 1)
run_more a₀ log₀ a log i d r b l goes run =
    let call = (get_or log i d).call in
    let new : Entry = record { call = call; answer = r } in
    let rest = drop (i + 1) log in
    let here : calls (drop i log) ≡ call ∷ calls rest = ap calls (drop_more log i d l) in
    let ahead : calls (drop (i + 1) (set log i new)) ≡ calls rest = ap calls (drop-set-lt (i + 1) log i new (omega arith)) in
    let done : answers (take (i + 1) (set log i new)) ≡ answers (take i log) ++ r ∷ [] = ap answers (take_more_set log i new l) ∙ map_push (λ (e : Entry). e.answer) (take i log) new in
    let one : r ∷ all_answers b (calls rest) ≡ all_answers a (calls (drop i log)) =
    (λ k. goes.answer k ∷ all_answers (goes.after k) (calls rest)) ∙ ap (all_answers a) (sym here) in
    record {
      same = map-set (λ (e : Entry). e.call) log i new ∙ ap (set (calls log) i) (sym (get_or-map (λ (e : Entry). e.call) log i d d.call l)) ∙ set-get_or (calls log) i d.call ∙ run.same;
      answered =
          (λ k. done k ++ all_answers b (ahead k))
          ∙ append_assoc (answers (take i log)) (r ∷ []) (all_answers b (calls rest))
          ∙ ap (λ rs. answers (take i log) ++ rs) one
          ∙ run.answered;
      left = ap (after_all b) ahead ∙ ap (λ (b : Account). after_all b (calls rest)) goes.after ∙ ap (after_all a) (sym here) ∙ run.left;
    }

pub run_all : (a₀ : Account) (log₀ : List Entry) (a : Account) (log : List Entry) (i : ℕ) → length log ≤ i → Running a₀ log₀ a log i
    → (answers log ≡ all_answers a₀ (calls log₀)) × (a ≡ after_all a₀ (calls log₀))
run_all a₀ log₀ a log i l run =
    let none = drop_all i log l in (
      sym ((λ k. answers (take_all i log l k) ++ all_answers a (calls (none k))) ∙ append-nil (answers log)) ∙ run.answered,
      ap (λ rest. after_all a (calls rest)) (sym none) ∙ run.left,
    )
