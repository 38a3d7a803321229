-- The amounts of a settled hour lie near the exact fractions, its shared kW add up to the reading, and its balancing total
-- does not depend on the sign shown.
use Rattle.std.proofs.Common.{◌≡◌, ℕ, ◌+◌, ◌*◌, ◌<◌, ◌≤◌, Bool, true, false, cond, eqb, List, ℤ, pos, ◌+ℤ◌, ◌-ℤ◌, ◌*ℤ◌, neg_ℤ, nat_abs, Some, None, sum_by, Option, sym, refl, ap, ◌∙◌, subst, ⊎_elim, arith, lit<}
use lib.IntN.{neg_ℤ-neg_ℤ}
use lib.Signed.{lt_z}
use borrow.Author.Differences.{ints, lt-true}
use Rattle.std.proofs.lemmas.Bool.{cases_Bool, eqb-true}
use Rattle.arithmetic.specs.Rounding.{nearest, WithinHalf}
use Rattle.arithmetic.specs.Sums.{sum_ℤ}
use Rattle.arithmetic.proofs.Distance.{assoc, distance, share_near, whole_near}
use Rattle.arithmetic.proofs.Ring.{int, nat, neg, ◌:*◌, ring}
use Rattle.arithmetic.proofs.Rounding.{nearest_near, nearest-neg}
use Rattle.arithmetic.proofs.Sizes.{abs_product, abs_flip}
use Rattle.arithmetic.proofs.Sums.{sum_ℤ_near, sum_ℤ_scale, sum_ℤ_naturals, sum_ℤ-neg, sum_by_scale}
use Rattle.settlement.specs.declared.figures.Interval.{Interval}
use Rattle.settlement.specs.declared.figures.Region.{Region}
use Rattle.settlement.specs.declared.figures.Schedule.{Schedule}
use Rattle.settlement.specs.declared.figures.Standing.{Standing}
use Rattle.settlement.specs.declared.editions.Sign.{Sign}
use Rattle.settlement.specs.declared.editions.Sign.TheVariants.{Plus, Minus}
use Rattle.settlement.specs.Editions.{Terms, Lawful, scaled}
use Rattle.settlement.specs.Standing.{intervals, seconds, volume}
use Rattle.settlement.specs.Formulas.{settled_by, share, adjusted, basis, balance, amount, shown, sums, settled_sums, hour_line}
use Rattle.settlement.specs.Nearness.{by_averages, divisor, metered, exact_basis, exact, tolerance, Near, NearWhereSettled, SharesReading, SignFree}

-- A basis, k times, is as near to the rule on other figures k times as large as the adjusted energy is to those.
rule_near : (e : Terms) → Lawful e → (f k : ℕ) (a x : ℤ) (l : _) → 1 ≤ k → WithinHalf x k a → WithinHalf (e.rule f x (scaled k l)) k (e.rule f a l)
rule_near e lawful f k a x l h near =
    let d = pos k *ℤ a -ℤ x in
    let there : x +ℤ d ≡ pos k *ℤ a = omega (arith, ints) in
    let moved = subst (λ (z : ℤ). nat_abs (z -ℤ e.rule f x (scaled k l)) ≤ nat_abs d) (ap (λ (z : ℤ). e.rule f z (scaled k l)) there ∙ lawful.scales f k a l h) (lawful.steady f x d (scaled k l)) in
    omega (arith, moved, near, abs_flip (pos k *ℤ a) x, abs_flip (pos k *ℤ e.rule f a l) (e.rule f x (scaled k l)))

above_zero : (s : ℤ) → lt_z (pos 0) s ≡ true → 0 < nat_abs s
above_zero s h = let l = lt-true (pos 0) s h in omega (arith, ints)

itself : (b : ℤ) → WithinHalf b 1 b
itself b = omega (arith, ints)

-- The basis of an interval is within a half of its exact basis, divided out.
basis_near : (e : Terms) → Lawful e → (h : Standing) (i : Interval) → WithinHalf (exact_basis e h i) (divisor h) (basis e h i)
basis_near e lawful h i = by_reading h.reading (volume h)
  where
    shared : ℤ → ℤ
    shared m = pos 3600 *ℤ i.average *ℤ m

    by_volume : (m s : ℤ) (t : Bool) → lt_z (pos 0) s ≡ t
        → WithinHalf (cond t (e.rule i.flags (pos 3600 *ℤ i.average *ℤ m) (scaled (nat_abs s) i.limits)) (e.rule i.flags (cond t (nearest (pos 3600 *ℤ i.average *ℤ m) (nat_abs s)) m) i.limits))
        (cond t (nat_abs s) 1) (e.rule i.flags (cond t (nearest (pos 3600 *ℤ i.average *ℤ m) (nat_abs s)) m) i.limits)
    by_volume m s true h =
        rule_near e lawful i.flags (nat_abs s) _ (pos 3600 *ℤ i.average *ℤ m) i.limits (above_zero s h) (nearest_near (pos 3600 *ℤ i.average *ℤ m) (nat_abs s) (above_zero s h))
    by_volume m s false h = itself (e.rule i.flags m i.limits)

    by_reading : (o : Option ℤ) (s : ℤ)
        → WithinHalf (cond (by_averages o s) (e.rule i.flags (pos 3600 *ℤ i.average *ℤ metered o) (scaled (nat_abs s) i.limits)) (e.rule i.flags (share o s i.average) i.limits))
        (cond (by_averages o s) (nat_abs s) 1) (e.rule i.flags (share o s i.average) i.limits)
    by_reading None s = itself (e.rule i.flags i.average i.limits)
    by_reading (Some m) s = by_volume m s (lt_z (pos 0) s) refl

-- One interval's amount, at any price.
amount_near : (e : Terms) → Lawful e → (g : Schedule) (h : Standing) (price : Interval → ℤ) (i : Interval)
    → nat_abs (pos (7200000 * divisor h) *ℤ amount (balance e g h i) (price i) i.seconds -ℤ exact e g h price i) ≤ tolerance h price i
amount_near e lawful g h price i =
    let q = price i *ℤ pos i.seconds in
    let off = g.generation +ℤ (i.transactions -ℤ g.transactions) in
    let due : balance e g h i ≡ basis e h i -ℤ off = omega (arith, ints) in
    let product : balance e g h i *ℤ price i *ℤ pos i.seconds ≡ (basis e h i -ℤ off) *ℤ q = assoc (balance e g h i) (price i) (pos i.seconds) ∙ ap (λ z. z *ℤ q) due in
    let rounded = subst (λ (z : ℤ). WithinHalf z 3600000 (amount (balance e g h i) (price i) i.seconds)) product (nearest_near (balance e g h i *ℤ price i *ℤ pos i.seconds) 3600000 (lit< tt)) in
    let near = distance 3600000 (divisor h) (amount (balance e g h i) (price i) i.seconds) (basis e h i) off (exact_basis e h i) q rounded (basis_near e lawful h i) in
    subst (λ (z : ℕ). nat_abs (pos (7200000 * divisor h) *ℤ amount (balance e g h i) (price i) i.seconds -ℤ exact e g h price i) ≤ divisor h * (3600000 + z)) (abs_product (price i) (pos i.seconds)) near

-- A sum of amounts at a price.
sum_near : (e : Terms) → Lawful e → (g : Schedule) (h : Standing) (price f : Interval → ℤ) → ((i : Interval) → amount (balance e g h i) (price i) i.seconds ≡ f i) → Near e g h price (sum_ℤ f (intervals h))
sum_near e lawful g h price f is =
    sum_ℤ_near (7200000 * divisor h) f (exact e g h price) (tolerance h price)
    (λ i. subst (λ (z : ℤ). nat_abs (pos (7200000 * divisor h) *ℤ z -ℤ exact e g h price i) ≤ tolerance h price i) (is i) (amount_near e lawful g h price i)) (intervals h)

-- Negating a price negates the amount.
amount_shown : (sign : Sign) (kw price : ℤ) (s : ℕ) → amount kw (shown sign price) s ≡ shown sign (amount kw price s)
amount_shown Plus kw price s = refl
amount_shown Minus kw price s = ap (λ z. nearest z 3600000) (ring (int kw :* neg (int price) :* nat s) (neg (int kw :* int price :* nat s)) (omega arith)) ∙ nearest-neg (kw *ℤ price *ℤ pos s) 3600000

pub near_line : (e : Terms) → Lawful e → (r : Region) (h : Standing) → NearWhereSettled e h (hour_line e r h)
near_line e lawful r h g settled =
    record {
      energy = subst (λ o. Near e g h (λ i. i.prices.energy) (settled_sums e r h o).energy) (sym settled) (sum_near e lawful g h (λ i. i.prices.energy) _ (λ i. refl));
      loss = subst (λ o. Near e g h (λ i. i.prices.loss) (settled_sums e r h o).loss) (sym settled) (sum_near e lawful g h (λ i. i.prices.loss) _ (λ i. refl));
      congestion =
          subst (λ o. Near e g h (λ i. shown e.sign i.prices.congestion) (settled_sums e r h o).congestion) (sym settled)
          (sum_near e lawful g h (λ i. shown e.sign i.prices.congestion) _ (λ i. amount_shown e.sign (balance e g h i) i.prices.congestion i.seconds));
    }

-- The kW of an interval, over its seconds.
abbrev drawn : Standing → Interval → ℤ
drawn h i = adjusted h i *ℤ pos i.seconds

-- What is shared where a reading is shared by the averages.
share_is : (h : Standing) (m : ℤ) (t : Bool) (i : Interval) → h.reading ≡ Some m → lt_z (pos 0) (volume h) ≡ t
    → cond t (nearest (pos 3600 *ℤ i.average *ℤ m) (nat_abs (volume h))) m ≡ adjusted h i
share_is h m t i read e =
    ap (λ t. cond t (nearest (pos 3600 *ℤ i.average *ℤ m) (nat_abs (volume h))) m) (sym e) ∙ ap (λ o. share o (volume h) i.average) (sym read)

shared_by_averages : (h : Standing) (m : ℤ) → h.reading ≡ Some m → seconds h ≡ 3600 → lt_z (pos 0) (volume h) ≡ true → nat_abs (sum_ℤ (drawn h) (intervals h) -ℤ pos 3600 *ℤ m) ≤ 1800
shared_by_averages h m read full some =
    let k = nat_abs (volume h) in
    let above = above_zero (volume h) some in
    let each = λ (i : Interval). subst (λ (z : ℤ). nat_abs (pos (2 * k) *ℤ (z *ℤ pos i.seconds) -ℤ pos 7200 *ℤ m *ℤ (i.average *ℤ pos i.seconds)) ≤ k * i.seconds) (share_is h m true i read some)
    (share_near k i.average m _ i.seconds (nearest_near (pos 3600 *ℤ i.average *ℤ m) k above)) in
    let near = sum_ℤ_near (2 * k) (drawn h) (λ i. pos 7200 *ℤ m *ℤ (i.average *ℤ pos i.seconds)) (λ i. k * i.seconds) each (intervals h) in
    let scaled_sum = sum_ℤ_scale (pos 7200 *ℤ m) (λ (i : Interval). i.average *ℤ pos i.seconds) (intervals h) in
    let scaled_seconds = sum_by_scale k (λ (i : Interval). i.seconds) (intervals h) ∙ ap (λ n. k * n) full in
    let moved = subst (λ (n : ℕ). nat_abs (pos (2 * k) *ℤ sum_ℤ (drawn h) (intervals h) -ℤ pos 7200 *ℤ m *ℤ volume h) ≤ n) scaled_seconds
    (subst (λ (z : ℤ). nat_abs (pos (2 * k) *ℤ sum_ℤ (drawn h) (intervals h) -ℤ z) ≤ sum_by (λ i. k * i.seconds) (intervals h)) scaled_sum near) in
    whole_near k (sum_ℤ (drawn h) (intervals h)) m (volume h) above (positive (volume h) some) moved
  where
    positive : (v : ℤ) → lt_z (pos 0) v ≡ true → v ≡ pos (nat_abs v)
    positive v h = let l = lt-true (pos 0) v h in omega (arith, ints)

shared_alike : (h : Standing) (m : ℤ) → h.reading ≡ Some m → seconds h ≡ 3600 → lt_z (pos 0) (volume h) ≡ false → nat_abs (sum_ℤ (drawn h) (intervals h) -ℤ pos 3600 *ℤ m) ≤ 1800
shared_alike h m read full none =
    let alike : sum_ℤ (drawn h) (intervals h) ≡ sum_ℤ (λ i. m *ℤ pos i.seconds) (intervals h) = λ k. sum_ℤ (λ i. sym (share_is h m false i read none) k *ℤ pos i.seconds) (intervals h) in
    let all = alike ∙ sum_ℤ_scale m (λ (i : Interval). pos i.seconds) (intervals h) ∙ ap (λ z. m *ℤ z) (sum_ℤ_naturals (λ (i : Interval). i.seconds) (intervals h) ∙ ap pos full) in
    exact_to (sum_ℤ (drawn h) (intervals h)) m all
  where
    exact_to : (x m : ℤ) → x ≡ m *ℤ pos 3600 → nat_abs (x -ℤ pos 3600 *ℤ m) ≤ 1800
    exact_to x m e = omega (arith, ints)

pub shares_reading : (h : Standing) → SharesReading h
shares_reading h g m settled read =
    let full = filled (eqb (seconds h) 3600) h.schedule g settled in
    ⊎_elim (shared_by_averages h m read (eqb-true (seconds h) 3600 full)) (shared_alike h m read (eqb-true (seconds h) 3600 full)) (cases_Bool (lt_z (pos 0) (volume h)))
  where
    filled : (t : Bool) (o : Option Schedule) (g : Schedule) → cond t o None ≡ Some g → t ≡ true
    filled true o g e = refl
    filled false o g e = let z : ◌≡◌ {A = ℕ} 0 1 = cc in absurd (omega arith)

-- ---- the sign
shown_twice : (sign : Sign) (f : Interval → ℤ) (is : List Interval) → shown sign (sum_ℤ (λ i. shown sign (f i)) is) ≡ sum_ℤ f is
shown_twice Plus f is = refl
shown_twice Minus f is = ap neg_ℤ (sum_ℤ-neg f is) ∙ neg_ℤ-neg_ℤ (sum_ℤ f is)

-- The balancing total, from the congestion before it is given a sign.
total_is : (e : Terms) (r : Region) (h : Standing) (o : Option Schedule)
    → (settled_sums e r h o).energy +ℤ (settled_sums e r h o).loss -ℤ shown e.sign (settled_sums e r h o).congestion
    ≡ (settled_sums (record { rule = e.rule; sign = Plus }) r h o).energy +ℤ (settled_sums (record { rule = e.rule; sign = Plus }) r h o).loss -ℤ (settled_sums (record { rule = e.rule; sign = Plus }) r h o).congestion
total_is e r h None = none e.sign
  where
    none : (sign : Sign) → pos 0 +ℤ pos 0 -ℤ shown sign (pos 0) ≡ pos 0
    none Plus = refl
    none Minus = refl
total_is e r h (Some g) =
    ap (λ z. (sums e r g h (intervals h)).energy +ℤ (sums e r g h (intervals h)).loss -ℤ z)
    (shown_twice e.sign (λ i. amount (balance e g h i) i.prices.congestion i.seconds) (intervals h))

pub sign_free : (e : Terms) (r : Region) (h : Standing) → SignFree e r h (hour_line e r h)
sign_free e r h sign = total_is (record { rule = e.rule; sign = sign }) r h (settled_by h) ∙ sym (total_is e r h (settled_by h))
