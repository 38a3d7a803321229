-- The table of a day for which nothing stands.
use Rattle.statement.proofs.Blank.{blank_tame, blank_made, blank_facts}
use Rattle.statement.proofs.sheet.Sheet.blank.Goals as goal

pub added_up-requires : goal.added_up-requires
added_up-requires c = blank_tame _ c.blank_rows-rows.ensures

pub invariant_of-result : goal.invariant_of-result
invariant_of-result c =
    let b = blank_facts _ c.args.hours c.args.region (blank_made c.args.hours c.args.region _ _ c.blank_rows-rows.ensures c.added_up.ensures) in
    record { fit = c.requires; rows = b.rows; within = b.within; short = b.short; small = b.small; added = b.added }

pub returns : goal.returns
returns c = blank_made c.args.hours c.args.region _ _ c.blank_rows-rows.ensures c.added_up.ensures
