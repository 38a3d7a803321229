use Rattle.std.proofs.Common.{◌≡◌, eqb, not, tests, sym, ap, ◌∙◌, rules}
use Rattle.std.specs.List.{position}
use Rattle.std.proofs.lemmas.Iterator.{YieldsList-from_slice}
use Rattle.std.proofs.lemmas.Iterator.Search.{position_from_yields_List}
use Rattle.settlement.specs.Rulings.{ruled}
use Rattle.day_file.proofs.Zeros.{not_zero_position}
use Rattle.day_file.proofs.numbers.check_zero.Goals as goal

pub returns-in-Some : goal.returns-in-Some
returns-in-Some c =
    let p : c.position.result ≡ position (λ b. not (eqb b 0)) c.args.bytes.now =
    position_from_yields_List _ _ _ c.position.result c.position.ensures.ran (YieldsList-from_slice c.args.bytes.now cc) (λ x b q k. search (rules, tests)) in
    ap (λ o. ruled o tt) (sym (not_zero_position c.args.place c.args.bytes.now _ (sym p ∙ c.in-Some.is)))

pub returns-in-None : goal.returns-in-None
returns-in-None c =
    let p : c.position.result ≡ position (λ b. not (eqb b 0)) c.args.bytes.now =
    position_from_yields_List _ _ _ c.position.result c.position.ensures.ran (YieldsList-from_slice c.args.bytes.now cc) (λ x b q k. search (rules, tests)) in
    ap (λ o. ruled o tt) (sym (not_zero_position c.args.place c.args.bytes.now _ (sym p ∙ c.in-None.is)))
