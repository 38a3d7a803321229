-- What a journal means.
use Rattle.std.specs.Prelude.{◌≤◌, cond, length, None, Option}
use Rattle.std.proofs.Common.{ap, lit≤}
use Rattle.std.specs.Option.{unwrap_or}
use Rattle.settlement.specs.declared.figures.Interval.{Interval}
use Rattle.record_store.specs.Meaning.{Meaning, Lawful, bounded}
use Rattle.record_store.specs.Shelves.{Contents, held}

-- What a slot's latest entry has stands, each entry is spent, there is room for as many as there are places, and a
-- rewrite costs one.
abbrev pub journal_means : Contents (Option Interval) → Meaning
journal_means c = record { standing = λ h s. unwrap_or (bounded (held c) h s) None; spent = c.used; capacity = length c.places; charge = 1 }

-- A journal is lawful where no more places are in use than there are.
pub journal_lawful : (c : Contents (Option Interval)) → c.used ≤ length c.places → Lawful (journal_means c)
journal_lawful c within = record { beyond = λ h s e. ap (λ b. unwrap_or (cond b (held c h s) None) None) e; within = within; charges = lit≤ tt }
