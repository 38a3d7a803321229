-- Rounding a quotient of whole numbers.
use Rattle.std.specs.Prelude.{ℕ, suc, ◌+◌, ◌*◌, ◌/◌, ◌≤◌, ℤ, pos, negsuc, ◌-ℤ◌, ◌*ℤ◌, neg_ℤ, unsigned_abs}

-- n / d to the nearest whole number, a half up.
unfoldable pub half_up : ℕ → ℕ → ℕ
half_up n d = (2 * n + d) / (2 * d)

-- n / d to the nearest whole number, a half away from zero.
abbrev pub nearest : ℤ → ℕ → ℤ
nearest (pos n) d = pos (half_up n d)
nearest (negsuc n) d = neg_ℤ (pos (half_up (suc n) d))

-- r is at most a half away from n / d: twice the distance of n from d times r is at most d.
abbrev pub WithinHalf : ℤ → ℕ → ℤ → Type 0
WithinHalf n d r = 2 * unsigned_abs (n -ℤ pos d *ℤ r) ≤ d
