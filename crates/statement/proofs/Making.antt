-- A change that is refused, at each of the places where it can be, and one that is made.
use Rattle.std.proofs.Common.{◌≡◌, ℕ, ◌<◌, IsErrAnd, Some, None, Ok, Err, Option, Result, sym, refl, ap, ◌∙◌, arith}
use Rattle.std.proofs.lemmas.Result.{err_from_is_err_and}
use Rattle.settlement.specs.declared.figures.Standing.{Standing}
use Rattle.settlement.specs.declared.limits.Refusal.{Refusal}
use Rattle.settlement.specs.declared.editions.Edition.{Ghosts as EditionGhosts}
use Rattle.settlement.specs.Editions.{Lawful}
use Rattle.settlement.specs.Rulings.{first, ruled, changed}
use Rattle.settlement.proofs.Rulings.{ruled_ok, ruled_err}
use Rattle.record_store.specs.declared.faults.StoreFault.{StoreFault}
use Rattle.record_store.specs.Meaning.{Meaning}
use Rattle.book.specs.declared.calls.Answer.{Answer}
use Rattle.book.specs.declared.calls.Answer.TheVariants.{Done}
use Rattle.book.specs.declared.calls.Call.TheVariants.{Make}
use Rattle.book.specs.declared.calls.Change.{Change}
use Rattle.book.specs.declared.faults.Fault.{Fault}
use Rattle.book.specs.declared.faults.Fault.TheVariants.{InStore}
use Rattle.book.specs.declared.figures.Table.{Table}
use Rattle.book.specs.Lines.{row_of, rewritten}
use Rattle.book.specs.Outcome.{Account, Goes, hour_of, slot_of, with_change, stored, hour_refuses, store_refuses, placed, passed_on, unfit, refusal, at_place, view, standing, made, done}
use Rattle.book.specs.Gate.{Gated}
use Rattle.book.proofs.Laws.{gated}
use Rattle.statement.specs.declared.statement.Statement.{Statement}
use Rattle.statement.specs.Accounts.{kept_in}
use Rattle.statement.proofs.Forming.{formed}

module _ {E : Type 0} (edition : EditionGhosts E) (lawful : (e : E) → Lawful (edition.terms e)) (statement : Statement E) (m : Meaning) (c : Change) where
  abbrev a : Account
  a = kept_in edition statement m

  abbrev before : Standing
  before = standing a.table a.store (hour_of c)

  ends : (r : Result Answer Fault) (b : Account) → Goes a (Make c) r b → Gated a (Make c) r b
  ends r b goes = gated a (Make c) r b (formed edition statement m (lawful statement.edition)) goes

  stops : (r : Result (Unit {0}) Fault) {f : Fault} {b : Account} → IsErrAnd r (λ y. y ≡ f) → refusal (view a) c ≡ Some f → b ≡ a → Gated a (Make c) (done r) b
  stops r {f} {b} by e same =
      let q = err_from_is_err_and r by in
      ends (done r) b
      (record { answer = ap done q.1 ∙ ap Err q.2 ∙ ap (λ o. ruled o Done) (sym e); after = same ∙ ap (λ o. changed o (made a c) a) (sym e) })

  -- The hour, or its records.
  pub stops_unfit : (r : Result (Unit {0}) Fault) {f : Fault} → IsErrAnd r (λ y. y ≡ f) → unfit (view a) (hour_of c) (slot_of c) ≡ Some f → Gated a (Make c) (done r) a
  stops_unfit r by e =
      stops r by (ap (λ q. first q (first (placed (hour_of c) (slot_of c) (hour_refuses before c)) (passed_on (store_refuses a.store c)))) e) refl

  -- What the hour answered, as it stood.
  module _ {st : Standing} (loaded : (unfit (view a) (hour_of c) (slot_of c) ≡ None) × (st ≡ before) × (hour_of c < 25)) {p : Result (Unit {0}) Refusal} (told : p ≡ ruled (hour_refuses st c) tt) where
    rest : refusal (view a) c ≡ first (placed (hour_of c) (slot_of c) (hour_refuses st c)) (passed_on (store_refuses a.store c))
    rest =
        ap (λ q. first q (first (placed (hour_of c) (slot_of c) (hour_refuses before c)) (passed_on (store_refuses a.store c)))) loaded.0
        ∙ ap (λ (st : Standing). first (placed (hour_of c) (slot_of c) (hour_refuses st c)) (passed_on (store_refuses a.store c))) (sym loaded.1)

    pub stops_hour : (r : Result (Unit {0}) Fault) {f : Fault} → IsErrAnd r (λ y. y ≡ f) → Err f ≡ at_place (hour_of c) (slot_of c) p → Gated a (Make c) (done r) a
    stops_hour r {f} by bad =
        let e = found (hour_of c) (slot_of c) (hour_refuses st c) f (bad ∙ ap (at_place (hour_of c) (slot_of c)) told) in
        stops r by (rest ∙ ap (λ q. first q (passed_on (store_refuses a.store c))) e) refl
      where
        found : (h s : ℕ) (q : Option Refusal) (f : Fault) → Err f ≡ at_place {A = Unit {0}} h s (ruled q tt) → placed h s q ≡ Some f
        found h s None f e = let z : ◌≡◌ {A = ℕ} 0 1 = cc in absurd (omega arith)
        found h s (Some r) f e = cc

    module _ {x : Unit {0}} (good : Ok x ≡ at_place (hour_of c) (slot_of c) p) where
      none : hour_refuses st c ≡ None
      none = passed (hour_of c) (slot_of c) (hour_refuses st c) (good ∙ ap (at_place (hour_of c) (slot_of c)) told)
        where
          passed : (h s : ℕ) (q : Option Refusal) → Ok x ≡ at_place {A = Unit {0}} h s (ruled q tt) → q ≡ None
          passed h s None e = refl
          passed h s (Some r) e = let z : ◌≡◌ {A = ℕ} 0 1 = cc in absurd (omega arith)

      then : refusal (view a) c ≡ passed_on (store_refuses a.store c)
      then = rest ∙ ap (λ q. first (placed (hour_of c) (slot_of c) q) (passed_on (store_refuses a.store c))) none

      -- The store.
      pub stops_store : (r : Result (Unit {0}) Fault) {f : StoreFault} {left : Meaning} → IsErrAnd r (λ y. y ≡ InStore f) → Err f ≡ ruled {A = Unit {0}} (store_refuses a.store c) tt
          → left ≡ changed (store_refuses a.store c) (stored a.store c) a.store → Gated a (Make c) (done r) (kept_in edition statement left)
      stops_store r {f} by full kept =
          let e = ruled_err (store_refuses a.store c) tt f full in
          stops r by (then ∙ ap passed_on e) (ap (kept_in edition statement) (kept ∙ ap (λ q. changed q (stored a.store c) a.store) e))

      -- Nothing.
      pub goes_through : {new : Standing} {y : Unit {0}} {left : Meaning} {e : E} {table : Table} → new ≡ changed (hour_refuses st c) (with_change st c) st
          → Ok y ≡ ruled (store_refuses a.store c) tt → left ≡ changed (store_refuses a.store c) (stored a.store c) a.store
          → e ≡ statement.edition → table ≡ rewritten a.table (hour_of c) (row_of a.terms a.table.region new)
          → Gated a (Make c) (Ok Done) (record { terms = edition.terms e; table = table; store = left })
      goes_through {y = y} changes room kept same rewrites =
          let none_full = (ruled_ok (store_refuses a.store c) tt y room).0 in
          let q = then ∙ ap passed_on none_full in
          let stands = changes ∙ ap (λ q. changed q (with_change st c) st) none ∙ ap (λ (st : Standing). with_change st c) loaded.1 in
          let row = rewrites ∙ ap (λ (st : Standing). rewritten a.table (hour_of c) (row_of a.terms a.table.region st)) stands in
          let put = kept ∙ ap (λ q. changed q (stored a.store c) a.store) none_full in
          ends (Ok Done) _
          (record { answer = ap (λ q. ruled q Done) (sym q); after = (λ i. record { terms = edition.terms (same i); table = row i; store = put i }) ∙ ap (λ q. changed q (made a c) a) (sym q) })
