use Rattle.std.proofs.Common.{◌≡◌, replicate, refl, ap, ◌∙◌, rules}
use Rattle.day_file.specs.Numbers.{words}
use Rattle.day_file.specs.Encode.{record_figures}
use Rattle.day_file.proofs.Bytes.{listed}
use Rattle.day_file.proofs.Bodies.{record_put}
use Rattle.day_file.proofs.writing.record_body.Goals as goal

pub returns-clause-laid : goal.returns-clause-laid
unfolding words
returns-clause-laid c =
    let p : c.lay.new.out ≡ words (record_figures c.args.v.now) = c.lay.ensures.laid ∙ ap words (listed (record_figures c.args.v.now) 11 refl (search rules)) in
    record_put c.args.v.now c.copy_from_slice.new.self c.lay.new.out (replicate 48 0) 44 (c.copy_from_slice.ensures.after ∙ c.front.ensures.bytes) p refl refl
