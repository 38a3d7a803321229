-- The editions: the basis of an interval and the sign of congestion, and the laws that every edition keeps.
use Rattle.std.specs.Prelude.{◌≡◌, ℕ, ◌≤◌, max, Bool, cond, not, ◌&&◌, ◌||◌, ℤ, pos, ◌+ℤ◌, ◌-ℤ◌, ◌*ℤ◌, unsigned_abs}
use Rattle.std.specs.Int.{int_min, int_max}
use Rattle.settlement.specs.declared.figures.Limits.{Limits}
use Rattle.settlement.specs.declared.editions.Scenario.{Scenario}
use Rattle.settlement.specs.declared.editions.Scenario.TheVariants.{Free, Intervention, Regulating, Limited}
use Rattle.settlement.specs.declared.editions.Sign.{Sign}
use Rattle.settlement.specs.declared.editions.Sign.TheVariants.{Plus, Minus}
use Rattle.settlement.specs.Limits.{has_flag}

-- A rule for the basis: from the flags, the adjusted energy and the three limits, over all whole numbers.
abbrev pub Rule : Type 0
Rule = ℕ → ℤ → Limits → ℤ

-- What an edition settles by.
pub record Terms : Type 0 where
  pub rule : Rule
  pub sign : Sign

-- The three limits, each k times as large.
abbrev pub scaled : ℕ → Limits → Limits
scaled k l = record { rtd = pos k *ℤ l.rtd; agc = pos k *ℤ l.agc; energy = pos k *ℤ l.energy }

-- The size of the largest of the adjusted energy and the three limits.
abbrev pub largest : ℤ → Limits → ℕ
largest a l = max (unsigned_abs a) (max (unsigned_abs l.rtd) (max (unsigned_abs l.agc) (unsigned_abs l.energy)))

-- The laws of an edition: it scales; it moves no more than the adjusted energy does; it exceeds none of its figures.
pub record Lawful (e : Terms) : Type 0 where
  pub scales : (f k : ℕ) (a : ℤ) (l : Limits) → 1 ≤ k → e.rule f (pos k *ℤ a) (scaled k l) ≡ pos k *ℤ e.rule f a l
  pub steady : (f : ℕ) (a d : ℤ) (l : Limits) → unsigned_abs (e.rule f (a +ℤ d) l -ℤ e.rule f a l) ≤ unsigned_abs d
  pub bounded : (f : ℕ) (a : ℤ) (l : Limits) → unsigned_abs (e.rule f a l) ≤ largest a l

-- A large event reserve pickup (1), fixed under PURPA (2), out of merit for reliability (4), or wind (8) whose output is
-- not limited (16).
abbrev pub is_free : ℕ → Bool
is_free f = has_flag f 1 || has_flag f 2 || has_flag f 4 || (has_flag f 8 && not (has_flag f 16))

-- The first scenario that applies: free, operator intervention (32), regulating (64), or all others.
abbrev pub scenario : ℕ → Limits → Scenario
scenario f l =
    cond (is_free f) Free
    (cond (has_flag f 32) (Intervention l.rtd)
    (cond (has_flag f 64) (Regulating l.agc) (Limited l.energy)))

-- The adjusted energy, or the scenario's limit where that is smaller.
abbrev pub held : Scenario → ℤ → ℤ
held Free a = a
held (Intervention limit) a = int_min a limit
held (Regulating limit) a = int_min a limit
held (Limited limit) a = int_min a limit

-- The newer edition.
abbrev pub newer : Terms
newer = record { rule = λ f a l. held (scenario f l) a; sign = Minus }

-- The older edition raises a negative basis to zero.
abbrev pub older : Terms
older = record { rule = λ f a l. int_max (pos 0) (held (scenario f l) a); sign = Plus }
