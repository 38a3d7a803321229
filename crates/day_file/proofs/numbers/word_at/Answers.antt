use Rattle.std.proofs.Common.{◌≡◌, length, drop, sym, ap, ◌∙◌, subst, arith}
use Rattle.std.proofs.lemmas.List.{take_all, length-take, length-drop}
use Rattle.day_file.specs.Numbers.{word}
use Rattle.day_file.proofs.Bytes.{Small, small_part, value_back, handed}
use Rattle.day_file.proofs.numbers.word_at.Goals as goal

pub returns : goal.returns
returns c =
    let part = c.part_at.result.now in
    let l : length part ≡ 4 = ap length c.part_at.ensures ∙ length-take 4 (drop c.args.at c.args.bytes.now) ∙ (let d = length-drop c.args.at c.args.bytes.now in omega arith) in
    let s : Small part = subst Small (sym c.part_at.ensures) (small_part 4 c.args.at c.args.bytes.now (λ i. (c.type_inv.bytes i).fits)) in
    ap word (handed c.from_be_bytes.type_inv ∙ c.from_be_bytes.ensures) ∙ value_back part 0 s (omega arith) ∙ take_all 4 part (omega arith) ∙ c.part_at.ensures
