use Rattle.std.proofs.Common.{◌≡◌, ◌^◌, ◌≤◌, ℤ, pos, ◌-ℤ◌, neg_ℤ, nat_abs, ap, ◌∙◌, arith, lit<, w32, w64, SFits, to_z, of_z, rules}
use borrow.Author.Differences.{ints}
use Rattle.std.proofs.lemmas.Int.{to_z-of_z}
use Rattle.arithmetic.proofs.Machine.{Holds, holds, back, held}
use Rattle.arithmetic.proofs.Sizes.{abs_neg}
use Rattle.settlement.specs.declared.figures.Schedule.{Schedule}
use Rattle.settlement.specs.declared.editions.Sign.TheVariants.{Minus}
use Rattle.settlement.specs.Formulas.{sold, amounts}
use Rattle.settlement.proofs.figures.Schedule.day_ahead.Goals as goal

-- What a row comes to at a price, as the code holds it.
sold_held : (row : Schedule) (r price : ℤ) → SFits w32 price → r ≡ sold row (to_z w32 (of_z w32 price)) → nat_abs r ≤ 2 ^ 56 → Holds (to_z w64 (of_z w64 r)) (sold row price) (2 ^ 56)
sold_held row r price f e h = back w64 (held (e ∙ ap (sold row) (to_z-of_z w32 price f)) h) (lit< tt)

negated : {u z : ℤ} → Holds u z (2 ^ 56) → Holds (to_z w64 (of_z w64 (pos 0 -ℤ u))) (neg_ℤ z) (2 ^ 56)
negated {u} {z} h = back w64 (holds (zero_less u ∙ ap neg_ℤ h.is) (omega (arith, abs_neg z, h.size))) (lit< tt)
  where
    zero_less : (u : ℤ) → pos 0 -ℤ u ≡ neg_ℤ u
    zero_less u = omega (arith, ints)

pub returns : goal.returns
returns c =
    let row = c.args.self.now in
    let e = sold_held row _ row.prices.energy (search rules) c.sold.ensures.value c.sold.ensures.bound in
    let l = sold_held row _ row.prices.loss (search rules) c.sold-2.ensures.value c.sold-2.ensures.bound in
    let g = negated (sold_held row _ row.prices.congestion (search rules) c.sold-3.ensures.value c.sold-3.ensures.bound) in
    c.new.ensures ∙ (λ k. amounts Minus (e.is k) (l.is k) (g.is k))
