use Rattle.std.proofs.Common.{◌≡◌, length, ap, ◌∙◌, rules}
use Rattle.day_file.specs.Numbers.{words}
use Rattle.day_file.proofs.Bytes.{listed}
use Rattle.day_file.proofs.entry.row_of.Goals as goal

pub returns-clause-bytes : goal.returns-clause-bytes
returns-clause-bytes c =
    let n : length c.words_in.result ≡ 6 = search rules in
    ap words (listed c.words_in.result 6 n c.words_in.ensures.fit) ∙ c.words_in.ensures.bytes
