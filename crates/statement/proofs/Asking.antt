-- The answers to questions.
use Rattle.std.proofs.Common.{◌≡◌, ℕ, ◌<◌, IsErrAnd, Some, None, Err, Result, sym, refl, ap, ◌∙◌}
use Rattle.std.proofs.lemmas.Result.{err_from_is_err_and}
use Rattle.settlement.specs.declared.figures.IntervalFigures.{IntervalFigures}
use Rattle.settlement.specs.declared.figures.Standing.{Standing}
use Rattle.settlement.specs.declared.limits.Refusal.{Refusal}
use Rattle.settlement.specs.declared.editions.Edition.{Ghosts as EditionGhosts}
use Rattle.settlement.specs.Editions.{Lawful}
use Rattle.settlement.specs.Formulas.{figures_at}
use Rattle.record_store.specs.Meaning.{Meaning}
use Rattle.book.specs.declared.calls.Answer.{Answer}
use Rattle.book.specs.declared.calls.Answer.TheVariants.{Figures}
use Rattle.book.specs.declared.calls.Call.TheVariants.{AskInterval}
use Rattle.book.specs.declared.faults.Fault.{Fault}
use Rattle.book.specs.Outcome.{Account, answer, unfit, judged, at_place, as_answer, view, standing}
use Rattle.book.specs.Gate.{Gated}
use Rattle.book.proofs.Laws.{gated}
use Rattle.statement.specs.declared.statement.Statement.{Statement}
use Rattle.statement.specs.Accounts.{kept_in}
use Rattle.statement.proofs.Forming.{formed}

module _ {E : Type 0} (edition : EditionGhosts E) (lawful : (e : E) → Lawful (edition.terms e)) (statement : Statement E) (m : Meaning) (hour slot : ℕ) where
  abbrev a : Account
  a = kept_in edition statement m

  abbrev told : Result IntervalFigures Fault
  told = at_place hour slot (figures_at a.terms a.table.region (standing a.table a.store hour) slot)

  gives : (r : Result Answer Fault) → r ≡ answer (view a) (AskInterval hour slot) → Gated a (AskInterval hour slot) r a
  gives r is = gated a (AskInterval hour slot) r a (formed edition statement m (lawful statement.edition)) (record { answer = is; after = refl })

  pub figures_stop : (r : Result IntervalFigures Fault) {f : Fault} → IsErrAnd r (λ y. y ≡ f) → unfit (view a) hour slot ≡ Some f → Gated a (AskInterval hour slot) (as_answer Figures r) a
  figures_stop r by e =
      let q = err_from_is_err_and r by in
      gives _ (ap (as_answer Figures) q.1 ∙ ap Err q.2 ∙ ap (λ o. as_answer Figures (judged o told)) (sym e))

  pub figures_told : {r : Result IntervalFigures Fault} {p : Result IntervalFigures Refusal} {st : Standing} → (unfit (view a) hour slot ≡ None) × (st ≡ standing a.table a.store hour) × (hour < 25)
      → p ≡ figures_at a.terms a.table.region st slot → r ≡ at_place hour slot p → Gated a (AskInterval hour slot) (as_answer Figures r) a
  figures_told loaded e placed =
      gives _
      (ap (as_answer Figures) (placed ∙ ap (at_place hour slot) (e ∙ ap (λ (st : Standing). figures_at a.terms a.table.region st slot) loaded.1))
      ∙ ap (λ o. as_answer Figures (judged o told)) (sym loaded.0))
