use Rattle.std.proofs.Common.{◌∙◌}
use Rattle.std.proofs.lemmas.List.{with_items_is}
use Rattle.day_run.proofs.Noting.{listed}
use Rattle.day_run.proofs.pages.list_onto.Goals as goal

pub returns : goal.returns
returns c =
    let long = c.as_mut_slice.ensures.len in
    listed c.extend_from_slice.result _ _ _ _ _ _ c.list.result (long ∙ c.in_ok-text.ensures.len ∙ c.listing_length.ensures) c.list.ensures
    (c.as_slice.ensures.value ∙ with_items_is c.in_ok-text.text c.list.new.out (c.list.auto.out ∙ long)) c.extend_from_slice.ensures.items
