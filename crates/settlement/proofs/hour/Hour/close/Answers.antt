use Rattle.std.proofs.Common.{◌≡◌, ◌+◌, ◌*◌, ◌≤◌, true, length, ◌+ℤ◌, ap, ◌∙◌, arith, lit<, lit≤, w64, to_z, of_z}
use Rattle.std.proofs.lemmas.Bool.{and_from, le-leb}
use Rattle.arithmetic.proofs.Sums.{standing_length}
use Rattle.arithmetic.proofs.Machine.{Holds, holds, fits, back, figure, plus}
use Rattle.settlement.specs.declared.figures.Amounts.{Amounts}
use Rattle.settlement.specs.declared.figures.Standing.{Standing}
use Rattle.settlement.specs.declared.figures.Sums.{Sums}
use Rattle.settlement.specs.declared.figures.Tally.{Tally}
use Rattle.settlement.specs.declared.editions.Sign.{Sign}
use Rattle.settlement.specs.Standing.{intervals, seconds}
use Rattle.settlement.specs.Bounds.{SumsWithin, is_small_line, is_short_line}
use Rattle.settlement.specs.Formulas.{state, settled_by, ahead, amounts, line_of}
use Rattle.settlement.proofs.Ranges.{sold}
use Rattle.settlement.proofs.Sizing.{Sized, amounts_sized, ahead_sized, small, small_amounts}
use Rattle.settlement.proofs.Within.{Within, within, row_fair}
use Rattle.settlement.proofs.hour.Hour.close.Goals as goal
use Rattle.settlement.proofs.hour.Hour.close.Goals.{in-Some, in-None}

-- What was sold the day before, what is balanced, and the total, as the code holds them.
module _ (h : Standing) (s : Sums) (sign : Sign) (w : Within h) (few : SumsWithin 24 s) (a b : Amounts) (ea : a ≡ ahead h.schedule)
    (eb : b ≡ amounts sign (to_z w64 (of_z w64 s.energy)) (to_z w64 (of_z w64 s.loss)) (to_z w64 (of_z w64 s.congestion))) where
  before : Sized (ahead h.schedule) 4000000000
  before = ahead_sized h.schedule (λ g q. sold g (row_fair h g w q))

  balanced_is : b ≡ amounts sign s.energy s.loss s.congestion
  balanced_is = eb ∙ (λ k. amounts sign ((figure w64 s.energy few.energy (lit< tt)).is k) ((figure w64 s.loss few.loss (lit< tt)).is k) ((figure w64 s.congestion few.congestion (lit< tt)).is k))

  balanced : Sized (amounts sign s.energy s.loss s.congestion) (24 * 1206000000000)
  balanced = amounts_sized sign s.energy s.loss s.congestion (24 * 1206000000000) few.energy few.loss few.congestion

  both : Holds (to_z w64 (of_z w64 a.total) +ℤ to_z w64 (of_z w64 b.total)) ((ahead h.schedule).total +ℤ (amounts sign s.energy s.loss s.congestion).total) (3 * 4000000000 + 3 * (24 * 1206000000000))
  both = plus (back w64 (holds (ap (λ (a : Amounts). a.total) ea) before.total) (lit< tt)) (back w64 (holds (ap (λ (b : Amounts). b.total) balanced_is) balanced.total) (lit< tt))

  all : Holds (to_z w64 (of_z w64 (to_z w64 (of_z w64 a.total) +ℤ to_z w64 (of_z w64 b.total))) +ℤ to_z w64 (of_z w64 s.spin))
      ((ahead h.schedule).total +ℤ (amounts sign s.energy s.loss s.congestion).total +ℤ s.spin) (3 * 4000000000 + 4 * (24 * 1206000000000))
  all = plus (back w64 both (lit< tt)) (figure w64 s.spin few.spin (lit< tt))

  line_small : is_small_line (line_of sign h s) ≡ true
  line_small =
      let e = small_amounts (ahead h.schedule) 4000000000 before (lit≤ tt) in
      let g = small_amounts (amounts sign s.energy s.loss s.congestion) (24 * 1206000000000) balanced (lit≤ tt) in
      and_from _ _ (and_from _ _ (and_from _ _ (and_from _ _ e (small s.balance (omega (arith, few.balance)))) g) (small s.spin (omega (arith, few.spin)))) (small (line_of sign h s).total (omega (arith, all.size)))

-- No more intervals than slots, in no more seconds than an hour has.
line_short : (h : Standing) (s : Sums) (sign : Sign) → Within h → length h.records ≡ 24 → is_short_line (line_of sign h s) ≡ true
line_short h s sign w slots =
    and_from _ _ (le-leb (length (intervals h)) 24 (omega (arith, standing_length h.records, slots))) (le-leb (seconds h) 3600 w.short)

pub overflow_add-result : goal.overflow_add-result
overflow_add-result c =
    fits w64 (both c.args.self.now.standing c.args.sums.now c.args.sign (within _ c.args.self.now.within) c.requires.within
    c.ahead-ahead.result c.new-balancing.result c.ahead-ahead.ensures c.new-balancing.ensures) (lit< tt)

pub overflow_add-result-2 : goal.overflow_add-result-2
overflow_add-result-2 c =
    fits w64 (all c.args.self.now.standing c.args.sums.now c.args.sign (within _ c.args.self.now.within) c.requires.within
    c.ahead-ahead.result c.new-balancing.result c.ahead-ahead.ensures c.new-balancing.ensures) (lit< tt)

pub overflow_cast-result : goal.overflow_cast-result
overflow_cast-result c =
    let h = c.args.self.now in
    let e = ap (λ (t : Tally). t.seconds) h.tallied in
    let l : h.counted.seconds ≤ 3600 = omega (arith, e, (within h.standing h.within).short) in
    omega arith

pub returns : goal.returns
returns c =
    let few = c.requires.within in
    let hour = c.args.self.now in
    let h = hour.standing in
    let s = c.args.sums.now in
    let w = within h hour.within in
    let a = c.ahead-ahead.ensures in
    let b = balanced_is h s c.args.sign w few c.ahead-ahead.result c.new-balancing.result a c.new-balancing.ensures in
    let t = back w64 (all h s c.args.sign w few c.ahead-ahead.result c.new-balancing.result a c.new-balancing.ensures) (lit< tt) in
    let settled : c.match-settled_by.state ≡ state (settled_by h) =
    elim c.match-settled_by.branch [
      | in-Some v ↦ v.state-is ∙ ap state v.in-Some.ensures
      | in-None v ↦ v.state-is ∙ ap state v.in-None.ensures
    ] in
    let due = figure w64 s.balance few.balance (lit< tt) in
    let reserve = figure w64 s.spin few.spin (lit< tt) in
    let counted = hour.tallied in
    let v : _ ≡ line_of c.args.sign h s =
    λ k. record { state = settled k; intervals = (counted k).intervals; seconds = (counted k).seconds; ahead = a k; balance = due.is k; balancing = b k; spin = reserve.is k; total = t.is k } in
    record {
      value = v;
      small = ap is_small_line v ∙ line_small h s c.args.sign w few c.ahead-ahead.result c.new-balancing.result a c.new-balancing.ensures;
      short = ap is_short_line v ∙ line_short h s c.args.sign w hour.slots;
    }
