use Rattle.std.proofs.Common.{◌≤◌, sym, ap, ◌∙◌, arith, rules}
use Rattle.std.proofs.lemmas.Bool.Decides.{nat_tests}
use Rattle.settlement.specs.declared.figures.Region.{Region}
use Rattle.book.specs.Lines.{rows_of, table_of, no_row}
use Rattle.book.proofs.Opening.{opens}
use Rattle.statement.proofs.Blank.{region_named}
use Rattle.statement.proofs.statement.Statement.open.Goals as goal

pub returns : goal.returns
returns g c =
    let m = g.S.Store.means c.args.store.now in
    let low : 23 ≤ c.args.hours = search rules in
    let high : c.args.hours ≤ 25 = search rules in
    let region = region_named c.args.region c.in_ok-region.region c.in_ok-region.ensures in
    opens (g.E.Edition.terms c.args.edition) c.args.hours c.args.region m _ (g.met.E.Edition.lawful _) (g.S.Store.lawful c.args.store.now) low high region.0
    (grind (arith, nat_tests)) (c.blank.ensures ∙ ap (λ (r : Region). table_of c.args.hours r (rows_of (λ _. no_row))) (sym region.1))
