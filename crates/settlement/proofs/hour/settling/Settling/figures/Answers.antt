use Rattle.std.proofs.Common.{◌≡◌, ℕ, ◌≤◌, ℤ, ◌-ℤ◌, nat_abs, ap, ◌∙◌, arith, lit<, w32, w64, to_z, of_z}
use Rattle.arithmetic.proofs.Machine.{Holds, holds, back, figure, held, sized}
use Rattle.settlement.specs.declared.figures.Limits.{Limits}
use Rattle.settlement.specs.declared.editions.Sign.{Sign}
use Rattle.settlement.specs.Editions.{Terms, Lawful}
use Rattle.settlement.specs.Formulas.{amount, shown}
use Rattle.settlement.proofs.Ranges.{Limiting}
use Rattle.settlement.proofs.Signs.{shown_size}
use Rattle.settlement.proofs.Terms.{price_held}
use Rattle.settlement.proofs.Settling.{settling}
use Rattle.settlement.proofs.hour.settling.Settling.figures.Goals as goal

-- A basis of an adjusted energy within its bound is within it too.
basis_held : (e : Terms) → Lawful e → (f : ℕ) (a b z : ℤ) (l : Limits) → Limiting l → a ≡ z → nat_abs a ≤ 1200000000 → b ≡ e.rule f (to_z w64 (of_z w64 a)) l
    → Holds (to_z w64 (of_z w64 b)) (e.rule f z l) 1200000000
basis_held e lawful f a b z l s q h v =
    let small : nat_abs z ≤ 1200000000 = omega (arith, ap nat_abs q, h) in
    let held = back w64 (holds q small) (lit< tt) in
    back w64 (holds (v ∙ ap (λ a. e.rule f a l) held.is) (omega (arith, lawful.bounded f z l, held.size, s.rtd, s.agc, s.energy))) (lit< tt)

shown_held : (sign sign' : Sign) (u z r : ℤ) → sign ≡ sign' → Holds u z 1206000000000 → r ≡ shown sign u → Holds (to_z w64 (of_z w64 r)) (shown sign' z) 1206000000000
shown_held sign sign' u z r q h e =
    let small : nat_abs (shown sign' z) ≤ 1206000000000 = omega (arith, shown_size sign' z, h.size) in
    back w64 (holds (e ∙ (λ k. shown (q k) (h.is k))) small) (lit< tt)

amount_held : (b z p : ℤ) (s : ℕ) (r : ℤ) → Holds (to_z w64 (of_z w64 b)) z 1206000000 → nat_abs p ≤ 1000000 → r ≡ amount (to_z w64 (of_z w64 b)) (to_z w32 (of_z w32 p)) s
    → nat_abs r ≤ 1206000000000 → Holds (to_z w64 (of_z w64 r)) (amount z p s) 1206000000000
amount_held b z p s r h k e l =
    let v : r ≡ amount z p s = e ∙ (λ n. amount (h.is n) ((price_held p k).is n) s) in
    back w64 (held v l) (lit< tt)

kw_small : (b : ℤ) → nat_abs b ≤ 1206000000 → nat_abs (to_z w64 (of_z w64 b)) ≤ 1206000000
kw_small b h = sized (figure w64 b h (lit< tt))

pub balance-balance-requires : goal.balance-balance-requires
balance-balance-requires g c =
    let s = c.args.self.now in
    let i = s.interval.now in
    let t = settling s in
    let e = s.edition.now in
    sized (basis_held (g.E.Edition.terms e) (g.met.E.Edition.lawful e) i.flags _ _ _ i.limits t.interval.limits c.adjusted-adjusted.ensures.value c.adjusted-adjusted.ensures.bound c.basis-basis.ensures)

pub amount-requires : goal.amount-requires
amount-requires _ c =
    let s = c.args.self.now in
    let sound = (settling s).interval in
    record { kw = kw_small c.balance-balance.result c.balance-balance.ensures.bound; price = sized (price_held s.interval.now.prices.energy sound.prices.energy); seconds = sound.most }

pub amount-requires-2 : goal.amount-requires-2
amount-requires-2 _ c =
    let s = c.args.self.now in
    let sound = (settling s).interval in
    record { kw = kw_small c.balance-balance.result c.balance-balance.ensures.bound; price = sized (price_held s.interval.now.prices.loss sound.prices.loss); seconds = sound.most }

pub amount-requires-3 : goal.amount-requires-3
amount-requires-3 _ c =
    let s = c.args.self.now in
    let sound = (settling s).interval in
    record { kw = kw_small c.balance-balance.result c.balance-balance.ensures.bound; price = sized (price_held s.interval.now.prices.congestion sound.prices.congestion); seconds = sound.most }

pub returns : goal.returns
returns g c =
    let s = c.args.self.now in
    let i = s.interval.now in
    let row = s.row.now in
    let e = s.edition.now in
    let t = g.E.Edition.terms e in
    let sound = (settling s).interval in
    let a = back w64 (held c.adjusted-adjusted.ensures.value c.adjusted-adjusted.ensures.bound) (lit< tt) in
    let b = basis_held t (g.met.E.Edition.lawful e) i.flags _ _ _ i.limits sound.limits c.adjusted-adjusted.ensures.value c.adjusted-adjusted.ensures.bound c.basis-basis.ensures in
    let due = back w64 (held (c.balance-balance.ensures.value ∙ ap (λ z. z -ℤ row.generation -ℤ (i.transactions -ℤ row.transactions)) b.is) c.balance-balance.ensures.bound) (lit< tt) in
    let energy = amount_held c.balance-balance.result _ _ _ _ due sound.prices.energy c.amount.ensures.value c.amount.ensures.bound in
    let loss = amount_held c.balance-balance.result _ _ _ _ due sound.prices.loss c.amount-2.ensures.value c.amount-2.ensures.bound in
    let raw = amount_held c.balance-balance.result _ _ _ _ due sound.prices.congestion c.amount-3.ensures.value c.amount-3.ensures.bound in
    let congestion = shown_held _ _ _ _ _ c.sign.ensures raw c.shown.ensures in
    let spin = back w64 (held c.spin.ensures.value c.spin.ensures.bound) (lit< tt) in
    record {
      value = λ k. record { adjusted = a.is k; basis = b.is k; balance = due.is k; energy = energy.is k; loss = loss.is k; congestion = congestion.is k; spin = spin.is k };
      within = record { balance = sized due; energy = sized energy; loss = sized loss; congestion = sized congestion; spin = sized spin };
    }
