use Rattle.std.proofs.Common.{vec_items, sym, ap, arith}
use Rattle.settlement.specs.Editions.{newer, older}
use Rattle.day_run.specs.Pages.{terms_of}
use Rattle.day_run.proofs.Showing.{paged, not_older}
use Rattle.day_run.proofs.pages.day_page.Goals as goal

pub returns-in-0 : goal.returns-in-0
returns-in-0 g c =
    let day = c.in_ok-day.day in
    let read = c.in_ok-day.ensures in
    paged vec_items older day.header (vec_items day.calls) _ c.args.bytes.now _ _ c.page_under.result read.cases read.exact (sym (ap terms_of c.in-0.is)) c.as_slice.ensures.value c.page_under.ensures

pub returns : goal.returns
returns g c =
    let day = c.in_ok-day.day in
    let read = c.in_ok-day.ensures in
    paged vec_items newer day.header (vec_items day.calls) _ c.args.bytes.now _ _ c.page_under-in_default.result read.cases read.exact (not_older day.header.edition (λ older. omega arith)) c.as_slice-in_default.ensures.value c.page_under-in_default.ensures
