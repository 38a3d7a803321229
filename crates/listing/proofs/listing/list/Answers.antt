use Rattle.std.proofs.Common.{◌≡◌, ◌+◌, ◌++◌, length, sym, ap, ◌∙◌, arith, rules}
use Rattle.book.proofs.RowsRead.{row_read}
use Rattle.listing.specs.Rows.{hour_row}
use Rattle.listing.specs.Listing.{heading, listing, laid}
use Rattle.listing.proofs.Whole.{as_far, far_none, far_more, far_within, length_far_more, length-listing, listing_far, laid_first, laid_more, laid_over, laid_listing}
use Rattle.listing.proofs.listing.list.Goals as goal

pub lay-at-requires : goal.lay-at-requires
lay-at-requires c =
    let t = c.args.statement.now.sheet.table in
    omega (arith, c.listing_length-needed.ensures, c.if-out-needed.false, far_within t 0 (omega arith), ap length (far_none t), ap length c.heading.ensures)

pub loop-hour-init : goal.loop-hour-init
loop-hour-init c =
    let t = c.table-table.result.now in
    let out = c.args.out.now in
    let l : heading ≡ as_far t 0 = sym (far_none t) in
    let e = laid_first out c.lay-at.new.out c.heading.result.now c.heading.ensures c.lay-at.ensures.after in
    let k = ap length (c.heading.ensures ∙ l) in
    (omega (arith, c.lay-at.ensures.place, k), e ∙ sym (laid_over heading heading out (omega arith)) ∙ ap (laid heading) (sym e) ∙ ap (λ x. laid x c.lay-at.new.out) l)

pub lay-at-requires-in-loop-hour : goal.lay-at-requires-in-loop-hour
lay-at-requires-in-loop-hour c =
    let t = c.table-table.result.now in
    let n : length t.rows ≡ 25 = search rules in
    let row = c.as_bytes.ensures ∙ c.hour_row.ensures ∙ ap (hour_row c.loop-hour.hour) (row_read t.rows c.loop-hour.hour (omega arith)) in
    let m = length_far_more t c.loop-hour.hour c.loop-hour.at c.as_bytes.result.now c.loop-hour.invariant.0 row in
    omega (arith, far_within t (c.loop-hour.hour + 1) (omega arith), ap (λ x. length (listing x)) c.table-table.ensures, c.listing_length-needed.ensures, c.if-out-needed.false, c.lay-at.auto.out, c.loop-hour.auto.out)

pub loop-hour-preserved : goal.loop-hour-preserved
loop-hour-preserved c =
    let t = c.table-table.result.now in
    let so_far = as_far t c.loop-hour.hour in
    let bytes = c.as_bytes.result.now in
    let n : length t.rows ≡ 25 = search rules in
    let row = c.as_bytes.ensures ∙ c.hour_row.ensures ∙ ap (hour_row c.loop-hour.hour) (row_read t.rows c.loop-hour.hour (omega arith)) in
    let m = length_far_more t c.loop-hour.hour c.loop-hour.at bytes c.loop-hour.invariant.0 row in (
      c.lay-at-in-loop-hour.ensures.place ∙ m,
      laid_more c.loop-hour.out c.lay-at.new.out c.lay-at-in-loop-hour.new.out bytes so_far c.loop-hour.at c.loop-hour.invariant.0 c.loop-hour.invariant.1 c.lay-at-in-loop-hour.ensures.after
          ∙ ap (λ x. laid x c.lay-at.new.out) (ap (λ x. so_far ++ x) row ∙ sym (far_more t c.loop-hour.hour)),
    )

pub lay-requires : goal.lay-requires
lay-requires c =
    let t = c.table-table.result.now in
    let m = length-listing t c.loop-hour.hour c.loop-hour.at c.as_bytes-2.result.now (omega arith) c.loop-hour.invariant.0 (c.as_bytes-2.ensures ∙ c.day_row.ensures) in
    omega (arith, ap (λ x. length (listing x)) c.table-table.ensures, c.listing_length-needed.ensures, c.if-out-needed.false, c.lay-at.auto.out, c.loop-hour.auto.out)

pub returns : goal.returns
returns c =
    let t = c.table-table.result.now in
    let table = c.table-table.ensures in
    let bytes = c.as_bytes-2.result.now in
    let row = c.as_bytes-2.ensures ∙ c.day_row.ensures in
    let end : c.loop-hour.hour ≡ 25 = omega arith in
    let m = length-listing t c.loop-hour.hour c.loop-hour.at bytes end c.loop-hour.invariant.0 row in
    let e = laid_first c.args.out.now c.lay-at.new.out c.heading.result.now c.heading.ensures c.lay-at.ensures.after in
    let last =
    laid_more c.loop-hour.out c.lay-at.new.out c.lay.new.out bytes (as_far t c.loop-hour.hour) c.loop-hour.at c.loop-hour.invariant.0 c.loop-hour.invariant.1 c.lay.ensures.after
    ∙ ap (λ x. laid x c.lay-at.new.out) (listing_far t c.loop-hour.hour bytes end row)
    in (
      omega (arith, c.listing_length-needed.ensures, c.if-out-needed.false),
      c.lay.ensures.place ∙ m ∙ ap (λ x. length (listing x)) table,
      laid_listing t c.args.out.now c.lay-at.new.out c.lay.new.out e last ∙ ap (λ x. laid (listing x) c.args.out.now) table,
    )
