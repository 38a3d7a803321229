use Rattle.std.proofs.Common.{◌≡◌, ℕ, List, [], ◌∷◌, ◌++◌, Some, decimal, Option, sym, ap, ◌∙◌, w64, SFits, rules}
use Rattle.std.proofs.lemmas.Int.{to_z-of_z}
use Rattle.settlement.specs.declared.figures.Schedule.{Schedule}
use Rattle.listing.specs.Columns.{columns, figures}
use Rattle.listing.specs.Fields.{line_of}
use Rattle.listing.specs.Rows.{state_letter, where_sold}
use Rattle.listing.specs.Texts.{text}
use Rattle.listing.proofs.Lines.{figures_line}
use Rattle.listing.proofs.rows.hour_row.Goals as goal

listed : (o : Option Schedule) (schedule : Schedule) (all row : List ℕ) → o ≡ Some schedule → all ≡ row → all ≡ where_sold o row
listed o schedule all row p q = q ∙ ap (λ x. where_sold x row) (sym p)

pub returns : goal.returns
returns c =
    let hour = c.args.hour in
    let line = c.args.row.now.line in
    let state : List ℕ = state_letter line.state ∷ [] in
    let one = text c.headed-line.result in
    let all = columns line.ahead line.balancing line.spin line.total in
    let spin : SFits w64 line.spin = search rules in
    let total : SFits w64 line.total = search rules in
    let e : c.columns.result ≡ columns line.ahead line.balancing line.spin line.total = simp to_z-of_z at c.columns.ensures in
    listed c.args.row.now.schedule c.in-Some.field-0 (text c.end_with.new.self) (line_of (decimal hour ∷ state ∷ figures all)) c.in-Some.is
    (figures_line (decimal hour) one (text c.then_letter.new.self) (text c.end_with.new.self) state c.columns.result all
    (c.headed-line.ensures ∙ c.as_bytes.ensures.value ∙ c.format.ensures.text)
    (c.then_letter.ensures.text ∙ ap (λ x. one ++ (44 ∷ x ∷ [])) c.letter.ensures)
    c.end_with.ensures
    e)
