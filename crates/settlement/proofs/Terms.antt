-- The code's terms of figures within their limits.
use Rattle.std.proofs.Common.{◌≤◌, ℤ, nat_abs, lit<, w32, w64, to_z, of_z}
use Rattle.arithmetic.proofs.Machine.{Holds, back, figure, wide}

pub power_held : (x : ℤ) → nat_abs x ≤ 2000000 → Holds (wide x) x 2000000
power_held x h = back w64 (figure w32 x h (lit< tt)) (lit< tt)

pub price_held : (x : ℤ) → nat_abs x ≤ 1000000 → Holds (to_z w32 (of_z w32 x)) x 1000000
price_held x h = figure w32 x h (lit< tt)
