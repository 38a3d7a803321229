-- The sign with which an amount is shown.
use Rattle.std.proofs.Common.{◌≡◌, ℤ, nat_abs, arith}
use Rattle.arithmetic.proofs.Sizes.{abs_neg}
use Rattle.settlement.specs.declared.editions.Sign.{Sign}
use Rattle.settlement.specs.declared.editions.Sign.TheVariants.{Plus, Minus}
use Rattle.settlement.specs.Formulas.{shown}

-- A number is as large with the other sign.
pub shown_size : (sign : Sign) (z : ℤ) → nat_abs (shown sign z) ≡ nat_abs z
shown_size Plus z = omega arith
shown_size Minus z = abs_neg z
