use Rattle.std.proofs.Common.{arith}
use Rattle.arithmetic.proofs.Rounding.{half_up_cut, half_up_le}
use Rattle.arithmetic.proofs.half_up.Goals as goal

pub returns : goal.returns
returns c =
    let d = c.args.d in
    let cut = half_up_cut c.args.n d.value d.above_zero in
    record { value = cut; bound = omega (arith, cut, half_up_le c.args.n d.value d.above_zero) }
