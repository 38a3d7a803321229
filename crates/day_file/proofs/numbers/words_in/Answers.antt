use Rattle.std.proofs.Common.{pos, w32, SFits, ◌+◌, ◌*◌, ◌<◌, length, take, ap, ◌∙◌, sym, refl, rules, arith}
use borrow.Author.Gap.{read_sfits}
use Rattle.std.proofs.lemmas.List.Elements.{All-replicate, All-set}
use Rattle.std.proofs.lemmas.List.{length-set, length-replicate, take_all, take_more_set}
use Rattle.day_file.specs.Numbers.{word, words}
use Rattle.day_file.proofs.Bytes.{read_word}
use Rattle.day_file.proofs.Parts.{read_more}
use Rattle.day_file.proofs.numbers.words_in.Goals as goal

pub loop-k-init : goal.loop-k-init
unfolding words
loop-k-init g c = record { size = length-replicate g.row.N (pos 0); read = refl; fit = All-replicate (SFits w32) g.row.N (pos 0) (search rules) }

pub loop-k-preserved : goal.loop-k-preserved
unfolding words
loop-k-preserved g c =
    let lt : c.loop-k.k < length c.loop-k.number-items = omega arith in
    record {
      size = length-set c.loop-k.number-items c.loop-k.k _ ∙ c.loop-k.invariant.size;
      read = ap words (take_more_set c.loop-k.number-items c.loop-k.k _ lt)
          ∙ read_more word (take c.loop-k.k c.loop-k.number-items) _ (4 * c.loop-k.k) 4 (4 * (c.loop-k.k + 1)) c.args.bytes.now c.loop-k.invariant.read (read_word c.word_at.result c.word_at.type_inv c.word_at.ensures) (omega arith);
      fit = All-set (SFits w32) c.loop-k.number-items c.loop-k.k _ (read_sfits w32 _) c.loop-k.invariant.fit;
    }

pub returns-clause-bytes : goal.returns-clause-bytes
returns-clause-bytes g c =
    sym (ap words (take_all c.loop-k.k c.loop-k.number-items (omega arith))) ∙ c.loop-k.invariant.read ∙ take_all (4 * c.loop-k.k) c.args.bytes.now (omega arith)
