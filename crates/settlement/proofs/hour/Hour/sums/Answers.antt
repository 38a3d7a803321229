use Rattle.std.proofs.Common.{◌≡◌, ◌+◌, ◌<◌, length, sym, subst, arith}
use Rattle.arithmetic.proofs.Sums.{standing_has}
use Rattle.settlement.specs.Formulas.{no_sums}
use Rattle.settlement.proofs.Summing.{Summed, summed_none, summed_empty, summed_more, summed_all, summed_within}
use Rattle.settlement.proofs.Within.{within, sound_one}
use Rattle.settlement.proofs.hour.Hour.sums.Goals as goal
use Rattle.settlement.proofs.hour.Hour.sums.Goals.{in-Some, in_default}

pub loop-record-init : goal.loop-record-init
loop-record-init g c =
    let z = c.default-sums.ensures in
    let zero : c.default-sums.result ≡ no_sums = λ k. record { balance = z.0 k; energy = z.1.0 k; loss = z.1.1.0 k; congestion = z.1.1.1.0 k; spin = z.1.1.1.1 k } in
    summed_none (g.E.Edition.terms c.args.edition.now) c.args.region c.args.row.now c.args.self.now.standing _ zero

pub invariant_of-settling : goal.invariant_of-settling
invariant_of-settling g c =
    record { sold = c.requires; stands = ∣ standing_has c.args.self.now.standing.records c.loop-record.record-index c.in-Some.interval (omega arith) c.in-Some.is ∣₁ }

pub add-requires : goal.add-requires
add-requires g c =
    let h = c.args.self.now.standing in
    let one = standing_has h.records c.loop-record.record-index c.in-Some.interval (omega arith) c.in-Some.is in
    let s = sound_one h c.in-Some.interval (within h c.args.self.now.within) ∣ one ∣₁ in
    record { seconds = s.most; room = summed_within _ _ _ h _ 23 _ (omega arith) c.loop-record.invariant; figures = c.figures.ensures.within }

pub loop-record-preserved : goal.loop-record-preserved
loop-record-preserved g c =
    let e = g.E.Edition.terms c.args.edition.now in
    let h = c.args.self.now.standing in
    let row = c.args.row.now in
    let k = c.loop-record.record-index in
    let l : k < length h.records = omega arith in
    elim c.match-record.branch [
      | in-Some w ↦
          let i = w.in-Some.interval in
          let one = standing_has h.records k i l w.in-Some.is in
          let s = sound_one h i (within h c.args.self.now.within) ∣ one ∣₁ in
          subst (Summed e c.args.region row h (k + 1)) (sym w.sums-is)
          (summed_more e c.args.region row h k c.loop-record.sums w.add.new.self i w.figures.result c.loop-record.invariant l w.in-Some.is s.most w.figures.ensures.value w.figures.ensures.within w.add.ensures)
      | in_default w ↦ summed_empty e c.args.region row h k _ (subst (Summed e c.args.region row h k) (sym w.sums-is) c.loop-record.invariant) l w.in_default.is
    ]

pub returns : goal.returns
returns g c =
    let inv = c.loop-record.invariant in
    record {
      value = summed_all _ _ _ c.args.self.now.standing c.loop-record.record-index _ (omega arith) inv;
      within = summed_within _ _ _ c.args.self.now.standing _ 24 _ (omega arith) inv;
    }
