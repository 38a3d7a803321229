-- What is told of an entry.
use Rattle.std.proofs.Common.{◌≡◌, ℕ, List, get_or, IsErrAnd, Some, None, Ok, Err, Option, Result, sym, ap, ◌∙◌, MatchResult}
use Rattle.std.specs.Result.{result_and}
use Rattle.settlement.specs.Rulings.{first, ruled}
use Rattle.settlement.proofs.Rulings.{neither, ruled_ok, ruled_err}
use Rattle.day_file.specs.declared.faults.FileFault.{FileFault}
use Rattle.day_file.specs.declared.kind.Kind.{Kind}
use Rattle.day_file.specs.Kinds.{kind_byte}
use Rattle.day_file.specs.Refusals.{key_zeros, key_fault, body_fault}
use Rattle.day_file.proofs.Faultless.{key_of_kind}

-- A refusal that is passed on.
pub answered : {T : Type 0} (r : Result T FileFault) (P : T → Type 0) (o : Option FileFault) (f : FileFault) → IsErrAnd r (λ y. y ≡ f) → o ≡ Some f → MatchResult r P (λ y. o ≡ Some y)
answered (Ok x) P o f by e = absurd by
answered (Err y) P o f by e = e ∙ ap Some (sym by)

-- Two checks, one after the other.
pub both_ruled : (a b : Option FileFault) (p q r : Result (Unit {0}) FileFault) → r ≡ result_and p q → p ≡ ruled a (tt {0}) → q ≡ ruled b (tt {0}) → r ≡ ruled (first a b) (tt {0})
both_ruled None b p q r e f g = e ∙ ap (λ x. result_and x q) f ∙ g
both_ruled (Some x) b p q r e f g = e ∙ ap (λ y. result_and y q) f

-- What the checks of a key and of a body tell of the whole entry.
module _ (kind : Kind) (key body : List ℕ) (k b : ℕ) (is : kind_byte kind ≡ get_or key 0 0) (p q r : Result (Unit {0}) FileFault) (e : r ≡ result_and p q) (keyed : p ≡ ruled (key_zeros (kind_byte kind) k key) (tt {0})) (bodied : q ≡ ruled (body_fault (kind_byte kind) b body) (tt {0})) where
  both : r ≡ ruled (first (key_zeros (kind_byte kind) k key) (body_fault (kind_byte kind) b body)) (tt {0})
  both = both_ruled (key_zeros (kind_byte kind) k key) (body_fault (kind_byte kind) b body) p q r e keyed bodied

  pub entry_told : (f : FileFault) → r ≡ Err f → first (key_fault k key) (body_fault (get_or key 0 0) b body) ≡ Some f
  entry_told f w =
      ap (λ x. first x (body_fault (get_or key 0 0) b body)) (key_of_kind kind k key is) ∙ ap (λ x. first (key_zeros (kind_byte kind) k key) (body_fault x b body)) (sym is)
      ∙ ruled_err _ tt f (sym w ∙ both)

  clear : r ≡ Ok (tt {0}) → (key_zeros (kind_byte kind) k key ≡ None) × (body_fault (kind_byte kind) b body ≡ None)
  clear w = neither _ _ (ruled_ok _ tt tt (sym w ∙ both)).0

  pub key_clear : r ≡ Ok (tt {0}) → key_fault k key ≡ None
  key_clear w = key_of_kind kind k key is ∙ (clear w).0

  pub body_clear : r ≡ Ok (tt {0}) → body_fault (kind_byte kind) b body ≡ None
  body_clear w = (clear w).1
