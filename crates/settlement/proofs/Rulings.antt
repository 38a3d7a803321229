-- What a ruling tells.
use Rattle.std.proofs.Common.{◌≡◌, ℕ, Bool, true, false, is_some, Some, None, Ok, Err, Option, refl, ap, arith}
use Rattle.settlement.specs.Rulings.{unless, first, ruled}

-- A test that refuses nothing was passed.
pub passed : {F : Type 0} (t : Bool) (r : F) (rest : Option F) → unless t r rest ≡ None → (t ≡ true) × (rest ≡ None)
passed true r rest e = (refl, e)
passed false r rest e = let z : ◌≡◌ {A = ℕ} 0 1 = cc in absurd (omega arith)

-- Where the first of two refuses nothing, neither does.
pub neither : {F : Type 0} (a b : Option F) → first a b ≡ None → (a ≡ None) × (b ≡ None)
neither None b e = (refl, e)
neither (Some r) b e = let z : ◌≡◌ {A = ℕ} 0 1 = cc in absurd (omega arith)

pub first_none : {F : Type 0} (a b : Option F) → a ≡ None → first a b ≡ b
first_none a b e = ap (λ r. first r b) e

pub first_assoc : {F : Type 0} (a b c : Option F) → first a (first b c) ≡ first (first a b) c
first_assoc None b c = refl
first_assoc (Some r) b c = refl

pub none : {F : Type 0} (o : Option F) → is_some o ≡ false → o ≡ None
none None e = refl
none (Some r) e = let z : ◌≡◌ {A = ℕ} 0 1 = cc in absurd (omega arith)

-- What can't be refused is not.
pub not_refused : {F : Type 0} (o : Option F) → ((o ≡ None → ⊥) → ⊥) → o ≡ None
not_refused None n = refl
not_refused (Some r) n = absurd (n (λ e. let z : ◌≡◌ {A = ℕ} 0 1 = cc in absurd (omega arith)))

-- What an answer tells of the ruling.
pub ruled_ok : {A F : Type 0} (o : Option F) (a x : A) → Ok x ≡ ruled o a → (o ≡ None) × (x ≡ a)
ruled_ok None a x e = (refl, cc)
ruled_ok (Some r) a x e = let z : ◌≡◌ {A = ℕ} 0 1 = cc in absurd (omega arith)

pub ruled_err : {A F : Type 0} (o : Option F) (a : A) (r : F) → Err r ≡ ruled o a → o ≡ Some r
ruled_err None a r e = let z : ◌≡◌ {A = ℕ} 0 1 = cc in absurd (omega arith)
ruled_err (Some q) a r e = cc
