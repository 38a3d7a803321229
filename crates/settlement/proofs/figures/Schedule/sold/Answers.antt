use Rattle.std.proofs.Common.{◌-◌, ◌*◌, ◌^◌, ℤ, ◌-ℤ◌, ◌*ℤ◌, ap, ◌∙◌, arith, lit<, lit≤, w32, w64, SFits, to_z, of_z, rules}
use borrow.Author.Differences.{ints}
use Rattle.arithmetic.specs.Rounding.{nearest}
use Rattle.arithmetic.proofs.Machine.{Holds, holds, read, fits, back, wide, minus, times, wider, sized}
use Rattle.arithmetic.proofs.Rounding.{nearest_bounded}
use Rattle.settlement.proofs.figures.Schedule.sold.Goals as goal

module _ (sold bought price : ℤ) (f : SFits w32 sold) (g : SFits w32 bought) (h : SFits w32 price) where
  read_held : (x : ℤ) → SFits w32 x → Holds (wide x) x (2 ^ 31)
  read_held x f = back w64 (read w32 x f) (lit< tt)

  -- No two figures of 32 bits are farther apart than this.
  net : Holds (wide sold -ℤ wide bought) (sold -ℤ bought) (2 ^ 32 - 1)
  net = holds (minus (read_held sold f) (read_held bought g)).is (omega (arith, ints))

  product : Holds (to_z w64 (of_z w64 (wide sold -ℤ wide bought)) *ℤ wide price) ((sold -ℤ bought) *ℤ price) ((2 ^ 32 - 1) * 2 ^ 31)
  product = times (back w64 net (lit< tt)) (read_held price h)

pub overflow_mul-self : goal.overflow_mul-self
overflow_mul-self c =
    let row = c.args.self.now in
    fits w64 (product row.generation row.transactions c.args.price (search rules) (search rules) c.ranges.price) (lit< tt)

pub returns : goal.returns
returns c =
    let row = c.args.self.now in
    let n = back w64 (product row.generation row.transactions c.args.price (search rules) (search rules) c.ranges.price) (lit< tt) in
    let small = nearest_bounded ((row.generation -ℤ row.transactions) *ℤ c.args.price) 1000 (2 ^ 56) (lit< tt) (wider n (lit≤ tt)).size in
    let r = back w64 (holds (c.nearest.ensures.value ∙ ap (λ z. nearest z 1000) n.is) small) (lit< tt) in
    record { value = r.is; bound = sized r }
