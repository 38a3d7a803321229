use Rattle.std.proofs.Common.{◌≡◌, ◌+◌, ◌*◌, ◌≤◌, length, mul-add, arith, rules, subst, ◌∙◌}
use Rattle.std.proofs.Math.Nat.{mul-le-mul_left}
use Rattle.std.proofs.lemmas.List.Elements.{All-more}
use Rattle.day_file.proofs.Parts.{laid_more}
use Rattle.day_file.proofs.laying.lay.Goals as goal

pub loop-i-preserved : goal.loop-i-preserved
loop-i-preserved g c =
    let x = c.index-items-i.result in
    let n : length c.copy_from_slice.new.self ≡ g.row.N = search rules in
    let i : c.loop-i.i ≤ length c.args.items.now = omega arith in
    record {
      laid = laid_more g.T.Laid.laid c.args.items.now x c.loop-i.i (g.row.N * c.loop-i.i) _ (g.row.N * (c.loop-i.i + 1)) c.loop-i.out c.copy_from_slice.new.self c.loop-i-test.true c.index-items-i.is
          (c.copy_from_slice.ensures.after ∙ c.bytes.ensures.laid) (omega (arith, mul-add g.row.N c.loop-i.i 1)) (omega (arith, mul-le-mul_left g.row.N i)) c.loop-i.invariant.laid;
      fit = All-more g.T.Laid.Fits c.args.items.now c.loop-i.i x c.loop-i-test.true c.loop-i.invariant.fit (subst g.T.Laid.Fits c.index-items-i.is c.bytes.ensures.fit);
    }
