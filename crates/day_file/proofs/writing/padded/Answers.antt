use Rattle.day_file.specs.Numbers.{words}
use Rattle.day_file.proofs.Bytes.{pad_is}
use Rattle.day_file.proofs.writing.padded.Goals as goal

pub returns-clause-laid : goal.returns-clause-laid
unfolding words
returns-clause-laid c = pad_is c.args.numbers.now c.lay.new.out c.lay.ensures.laid
