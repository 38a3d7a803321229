-- The two editions keep the laws of an edition.
use Rattle.std.specs.Prelude.{◌≡◌, ℕ, ◌≤◌, max, Bool, true, false, cond, ℤ, pos, ◌+ℤ◌, ◌-ℤ◌, ◌*ℤ◌, int_lt, unsigned_abs, refl}
use Rattle.std.proofs.Common.{sym, ap, ◌∙◌, arith, mul-le-mul_left}
use Rattle.std.proofs.Math.Nat.{mul-lt-mul_of_pos_left}
use borrow.Author.Differences.{ints, lt_out, le_out, product_is, true_is_lt, false_is_lt}
use Rattle.std.proofs.lemmas.Int.{by_lt_z, clamps}
use Rattle.std.specs.Int.{int_min, int_max}
use Rattle.settlement.specs.declared.figures.Limits.{Limits}
use Rattle.settlement.specs.declared.editions.Scenario.TheVariants.{Free, Intervention, Regulating, Limited}
use Rattle.settlement.specs.Limits.{has_flag}
use Rattle.settlement.specs.Editions.{Lawful, scaled, largest, held, is_free, newer, older}

-- Numbers k times as large are in the same order, so the smaller and the larger of two scale.
order_scales : (k : ℕ) (a b : ℤ) → 1 ≤ k → int_lt (pos k *ℤ a) (pos k *ℤ b) ≡ int_lt a b
order_scales k a b h =
    let x = product_is (pos k) a in
    let y = product_is (pos k) b in
    by_lt_z a b
    (λ l. sym (true_is_lt (pos k *ℤ a) (pos k *ℤ b) (omega (arith, x, y, mul-lt-mul_of_pos_left (lt_out a b l) h))) ∙ true_is_lt a b (lt_out a b l))
    (λ l. sym (false_is_lt (pos k *ℤ a) (pos k *ℤ b) (omega (arith, x, y, mul-le-mul_left k (le_out b a l)))) ∙ false_is_lt a b (le_out b a l))

-- A choice between two numbers scales, whichever is chosen.
choice_scales : (k : ℕ) (t : Bool) (a b : ℤ) → cond t (pos k *ℤ a) (pos k *ℤ b) ≡ pos k *ℤ cond t a b
choice_scales k true a b = refl
choice_scales k false a b = refl

-- So does the smaller of two.
min_scales : (k : ℕ) (a b : ℤ) → 1 ≤ k → int_min (pos k *ℤ a) (pos k *ℤ b) ≡ pos k *ℤ int_min a b
min_scales k a b h = ap (λ t. cond t (pos k *ℤ b) (pos k *ℤ a)) (order_scales k b a h) ∙ choice_scales k (int_lt b a) b a

-- So does a number that is raised to zero.
floor_scales : (k : ℕ) (a : ℤ) → 1 ≤ k → int_max (pos 0) (pos k *ℤ a) ≡ pos k *ℤ int_max (pos 0) a
floor_scales k a h =
    let zero_scales : pos 0 ≡ pos k *ℤ pos 0 = omega (arith, ints) in
    ap (λ z. int_max z (pos k *ℤ a)) zero_scales ∙ ap (λ t. cond t (pos k *ℤ pos 0) (pos k *ℤ a)) (order_scales k a (pos 0) h)
    ∙ choice_scales k (int_lt a (pos 0)) (pos 0) a

-- The basis by the three tests that choose the scenario.
abbrev chosen : Bool → Bool → Bool → ℤ → Limits → ℤ
chosen free intervention regulating a l =
    held (cond free Free (cond intervention (Intervention l.rtd) (cond regulating (Regulating l.agc) (Limited l.energy)))) a

-- The basis scales with the adjusted energy and the limits, whatever the tests say.
chosen_scales : (u v w : Bool) (k : ℕ) (a : ℤ) (l : Limits) → 1 ≤ k → chosen u v w (pos k *ℤ a) (scaled k l) ≡ pos k *ℤ chosen u v w a l
chosen_scales true v w k a l h = refl
chosen_scales false true w k a l h = min_scales k a l.rtd h
chosen_scales false false true k a l h = min_scales k a l.agc h
chosen_scales false false false k a l h = min_scales k a l.energy h

-- Where one of two numbers moves, the smaller of them moves by no more.
min_steady : (a d l : ℤ) → unsigned_abs (int_min (a +ℤ d) l -ℤ int_min a l) ≤ unsigned_abs d
min_steady a d l = omega (arith, ints, clamps)

-- Where the adjusted energy moves, the basis moves by no more.
chosen_steady : (u v w : Bool) (a d : ℤ) (l : Limits) → unsigned_abs (chosen u v w (a +ℤ d) l -ℤ chosen u v w a l) ≤ unsigned_abs d
chosen_steady true v w a d l = omega (arith, ints)
chosen_steady false true w a d l = min_steady a d l.rtd
chosen_steady false false true a d l = min_steady a d l.agc
chosen_steady false false false a d l = min_steady a d l.energy

-- The smaller of two numbers is no larger in size than one of them.
min_bounded : (a l : ℤ) → unsigned_abs (int_min a l) ≤ max (unsigned_abs a) (unsigned_abs l)
min_bounded a l = omega (arith, ints, clamps)

-- The basis is no larger in size than the largest of the adjusted energy and the limits.
chosen_bounded : (u v w : Bool) (a : ℤ) (l : Limits) → unsigned_abs (chosen u v w a l) ≤ largest a l
chosen_bounded true v w a l = omega arith
chosen_bounded false true w a l = omega (arith, min_bounded a l.rtd)
chosen_bounded false false true a l = omega (arith, min_bounded a l.agc)
chosen_bounded false false false a l = omega (arith, min_bounded a l.energy)

-- The newer edition keeps the laws.
pub newer_lawful : Lawful newer
newer_lawful =
    record {
      scales = λ f k a l h. chosen_scales (is_free f) (has_flag f 32) (has_flag f 64) k a l h;
      steady = λ f a d l. chosen_steady (is_free f) (has_flag f 32) (has_flag f 64) a d l;
      bounded = λ f a l. chosen_bounded (is_free f) (has_flag f 32) (has_flag f 64) a l;
    }

-- Two numbers that are raised to zero lie no further apart than before.
floor_steady : (a b : ℤ) → unsigned_abs (int_max (pos 0) a -ℤ int_max (pos 0) b) ≤ unsigned_abs (a -ℤ b)
floor_steady a b = omega (arith, ints, clamps)

-- A number that is raised to zero is no larger in size.
floor_bounded : (a : ℤ) → unsigned_abs (int_max (pos 0) a) ≤ unsigned_abs a
floor_bounded a = omega (arith, ints, clamps)

-- The older edition keeps the laws, since raising to zero does.
pub older_lawful : Lawful older
older_lawful =
    let basis = newer.rule in
    let laws = newer_lawful in
    record {
      scales = λ f k a l h. ap (int_max (pos 0)) (laws.scales f k a l h) ∙ floor_scales k (basis f a l) h;
      steady = λ f a d l. omega (arith, floor_steady (basis f (a +ℤ d) l) (basis f a l), laws.steady f a d l);
      bounded = λ f a l. omega (arith, floor_bounded (basis f a l), laws.bounded f a l);
    }
