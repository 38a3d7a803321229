use Rattle.std.proofs.Common.{ℕ, ◌≤◌, ℤ, pos, ◌*ℤ◌, nat_abs, ap, ◌∙◌, lit<, w32, w64, to_z, of_z}
use Rattle.arithmetic.specs.Rounding.{nearest}
use Rattle.arithmetic.proofs.Machine.{Holds, holds, natural, fits, back, figure, wide, times, sized}
use Rattle.arithmetic.proofs.Rounding.{nearest_bounded}
use Rattle.settlement.proofs.amounts.amount.Goals as goal

-- The product, step by step.
module _ (kw price : ℤ) (seconds : ℕ) (k : nat_abs kw ≤ 1206000000) (p : nat_abs price ≤ 1000000) (s : seconds ≤ 3600) where
  first : Holds (to_z w64 (of_z w64 kw) *ℤ wide price) (kw *ℤ price) 1206000000000000
  first = times (figure w64 kw k (lit< tt)) (back w64 (figure w32 price p (lit< tt)) (lit< tt))

  second : Holds (to_z w64 (of_z w64 (to_z w64 (of_z w64 kw) *ℤ wide price)) *ℤ to_z w64 seconds) (kw *ℤ price *ℤ pos seconds) 4341600000000000000
  second = times (back w64 first (lit< tt)) (natural w64 seconds 3600 s (lit< tt))

pub overflow_mul-kw-2 : goal.overflow_mul-kw-2
overflow_mul-kw-2 c = fits w64 (second c.args.kw c.args.price c.args.seconds c.requires.kw c.requires.price c.requires.seconds) (lit< tt)

pub returns : goal.returns
returns c =
    let n = back w64 (second c.args.kw c.args.price c.args.seconds c.requires.kw c.requires.price c.requires.seconds) (lit< tt) in
    let small = nearest_bounded (c.args.kw *ℤ c.args.price *ℤ pos c.args.seconds) 3600000 1206000000000 (lit< tt) n.size in
    let r = back w64 (holds (c.nearest.ensures.value ∙ ap (λ z. nearest z 3600000) n.is) small) (lit< tt) in
    record { value = r.is; bound = sized r }
