use Rattle.std.proofs.Common.{◌≡◌, length, ap, ◌∙◌, w32, SFits, rules}
use Rattle.std.proofs.lemmas.List.Elements.{All-same}
use Rattle.day_file.specs.Numbers.{words}
use Rattle.day_file.proofs.Bytes.{listed}
use Rattle.day_file.proofs.entry.record_of.Goals as goal

pub returns-clause-figures : goal.returns-clause-figures
returns-clause-figures c =
    let n : length c.words_in.result ≡ 11 = search rules in
    ap words (listed c.words_in.result 11 n c.words_in.ensures.fit) ∙ c.words_in.ensures.bytes

pub returns-clause-fit : goal.returns-clause-fit
returns-clause-fit c =
    let n : length c.words_in.result ≡ 11 = search rules in
    (search rules, c.fits-body 2, All-same (SFits w32) _ c.words_in.result (listed c.words_in.result 11 n c.words_in.ensures.fit) c.words_in.ensures.fit)
