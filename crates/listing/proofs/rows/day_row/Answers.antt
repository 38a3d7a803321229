use Rattle.std.proofs.Common.{◌≡◌, codes, decimal, w64, SFits, rules}
use Rattle.std.proofs.lemmas.Int.{to_z-of_z}
use Rattle.listing.specs.Columns.{columns}
use Rattle.listing.specs.Texts.{text}
use Rattle.listing.proofs.Lines.{figures_line}
use Rattle.listing.proofs.rows.day_row.Goals as goal

pub returns : goal.returns
returns c =
    let day = c.args.day.now in
    let spin : SFits w64 day.spin = search rules in
    let total : SFits w64 day.total = search rules in
    let e : c.columns.result ≡ columns day.ahead day.balancing day.spin day.total = simp to_z-of_z at c.columns.ensures in
    figures_line (codes "DAY") (text c.headed-line.result) (text c.then_number.new.self) (text c.end_with.new.self) (decimal day.settled) c.columns.result (columns day.ahead day.balancing day.spin day.total) c.headed-line.ensures c.then_number.ensures.text c.end_with.ensures e
