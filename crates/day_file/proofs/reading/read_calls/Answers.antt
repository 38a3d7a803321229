use Rattle.std.proofs.Common.{◌≡◌, [], ◌∷◌, ◌++◌, vec_items, sym, ◌∙◌, subst, arith}
use Rattle.day_file.proofs.Files.{SoFar, so_far_more, SoFar_stop, entries_decide, all_read, told_fault, pushed}
use Rattle.day_file.proofs.reading.read_calls.Goals as goal

pub returns-in_err-call : goal.returns-in_err-call
returns-in_err-call c =
    told_fault c.from_residual-in_err-call.result _ c.args.bytes.now _ c.from_residual-in_err-call.ensures.1
    (entries_decide c.args.bytes.now c.args.entries c.requires.count c.requires.opened ∙ SoFar_stop c.args.bytes.now c.args.entries c.loop-i.i (vec_items c.loop-i.calls) c.requires.long c.loop-i-test.true c.loop-i.invariant _ c.in_err-call.ensures)

pub loop-i-preserved : goal.loop-i-preserved
loop-i-preserved c =
    let h = c.in_ok-call.ensures in
    let it : vec_items c.push.new.self ≡ vec_items c.loop-i.calls ++ c.in_ok-call.call ∷ [] = pushed (vec_items c.loop-i.calls) c.in_ok-call.call c.push.result tt c.push.ensures.items c.in_ok-push.was in
    subst (SoFar c.args.bytes.now c.args.entries _) (sym it)
    (so_far_more c.args.bytes.now c.args.entries c.loop-i.i (vec_items c.loop-i.calls) c.requires.long c.loop-i-test.true c.loop-i.invariant c.in_ok-call.call h.0 h.1 h.2)

pub returns : goal.returns
returns c =
    let e : c.loop-i.i ≡ c.args.entries = omega arith in
    all_read c.args.bytes.now c.args.entries c.requires.count c.requires.opened (vec_items c.loop-i.calls) (λ i. (c.type_inv.bytes i).fits) (subst (λ m. SoFar c.args.bytes.now c.args.entries m (vec_items c.loop-i.calls)) e c.loop-i.invariant)
