use Rattle.std.proofs.Common.{vec_items, ap, ◌∙◌}
use Rattle.record_store.specs.Meaning.{fresh}
use Rattle.record_store.specs.Places.{capacity_of}
use Rattle.day_run.proofs.Showing.{first_paged}
use Rattle.day_run.proofs.days.journal_page.Goals as goal

pub returns : goal.returns
returns c =
    first_paged vec_items 1000 1 c.args.bytes.now _ _ c.day_page.result (c.over.ensures.means ∙ ap (λ n. fresh (capacity_of n) 1) (c.as_mut_slice.ensures.len ∙ c.in_ok-places.ensures.len)) c.day_page.ensures
