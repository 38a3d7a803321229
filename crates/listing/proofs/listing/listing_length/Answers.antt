use Rattle.std.proofs.Common.{◌≡◌, ◌+◌, length, rules, sym, ap, ◌∙◌, arith}
use Rattle.book.proofs.RowsRead.{row_read}
use Rattle.listing.specs.Rows.{hour_row}
use Rattle.listing.specs.Listing.{listing}
use Rattle.listing.specs.Texts.{text}
use Rattle.listing.proofs.Whole.{far_none, length_far_more, length-heading, length-listing}
use Rattle.listing.proofs.listing.listing_length.Goals as goal

pub loop-hour-init : goal.loop-hour-init
loop-hour-init c =
    let l = ap length c.heading-needed.ensures in
    (l ∙ ap length (sym (far_none c.table-table.result.now)), omega (arith, length-heading))

pub loop-hour-preserved : goal.loop-hour-preserved
loop-hour-preserved c =
    let t = c.table-table.result.now in
    let n : length t.rows ≡ 25 = search rules in
    let row = c.hour_row.ensures ∙ ap (hour_row c.loop-hour.hour) (row_read t.rows c.loop-hour.hour (omega arith)) in
    let m = length_far_more t c.loop-hour.hour c.loop-hour.needed (text c.hour_row.result) c.loop-hour.invariant.0 row in
    (ap (λ n. c.loop-hour.needed + n) c.len-needed.ensures.value ∙ m, omega (arith, c.loop-hour.invariant.1))

pub returns : goal.returns
returns c =
    let t = c.table-table.result.now in
    ap (λ n. c.loop-hour.needed + n) c.len.ensures.value ∙ length-listing t c.loop-hour.hour c.loop-hour.needed (text c.day_row.result) (omega arith) c.loop-hour.invariant.0 c.day_row.ensures
    ∙ ap (λ x. length (listing x)) c.table-table.ensures
