use Rattle.day_file.proofs.Exactly.{exactly, reads_back}
use Rattle.day_file.proofs.reading.read.Goals as goal

pub returns-clause-back : goal.returns-clause-back
returns-clause-back c = λ h cs f. reads_back c.args.bytes.now c.read_day.result h cs f c.read_day.ensures

pub returns-clause-exact : goal.returns-clause-exact
returns-clause-exact c = exactly c.args.bytes.now (λ i. (c.type_inv.bytes i).fits)
