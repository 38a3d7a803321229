-- Bytes that must be zero.
use Rattle.std.proofs.Common.{◌≡◌, ℕ, ◌+◌, true, false, not, cond, eqb, List, [], ◌∷◌, length, replicate, Some, None, Option, sym, refl, ap, ◌∙◌, arith}
use Rattle.std.specs.List.{position, position_from}
use Rattle.std.specs.Option.{option_map}
use Rattle.std.proofs.lemmas.Iterator.Adapters.{position_from-zero}
use Rattle.std.proofs.lemmas.Bool.{eqb-true}
use Rattle.settlement.proofs.Rulings.{passed}
use Rattle.day_file.specs.declared.faults.FileFault.TheVariants.{NotZero}
use Rattle.day_file.specs.Refusals.{not_zero}

-- The first byte that is not zero, counted from a place on.
not_zero_from : (at i : ℕ) (bs : List ℕ) → not_zero (at + i) bs ≡ option_map (λ k. NotZero (at + k)) (position_from (λ b. not (eqb b 0)) i bs)
not_zero_from at i [] = refl
not_zero_from at i (b ∷ bs) =
    let more : not_zero (at + i + 1) bs ≡ option_map (λ k. NotZero (at + k)) (position_from (λ b. not (eqb b 0)) (i + 1) bs) = ap (λ n. not_zero n bs) (omega arith) ∙ not_zero_from at (i + 1) bs in
    elim (eqb b 0) as (λ z. cond z (not_zero (at + i + 1) bs) (Some (NotZero (at + i))) ≡ option_map (λ k. NotZero (at + k)) (cond (not z) (Some i) (position_from (λ b. not (eqb b 0)) (i + 1) bs))) [ true ↦ more | false ↦ refl ]

pub not_zero_position : (at : ℕ) (bs : List ℕ) (o : Option ℕ) → position (λ b. not (eqb b 0)) bs ≡ o → not_zero at bs ≡ option_map (λ k. NotZero (at + k)) o
not_zero_position at bs o e = ap (λ n. not_zero n bs) (omega arith) ∙ not_zero_from at 0 bs ∙ ap (option_map (λ k. NotZero (at + k))) (sym (position_from-zero (λ b. not (eqb b 0)) bs) ∙ e)

pub zeros_from : (at : ℕ) (bs : List ℕ) → not_zero at bs ≡ None → bs ≡ replicate (length bs) 0
zeros_from at [] e = refl
zeros_from at (b ∷ bs) e =
    let p = passed (eqb b 0) _ _ e in
    let z : b ≡ 0 = eqb-true b 0 p.0 in
    let r = zeros_from (at + 1) bs p.1 in
    cc
