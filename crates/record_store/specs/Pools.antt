-- What a pool means.
use Rattle.std.specs.Prelude.{◌≤◌, cond, length, None}
use Rattle.std.proofs.Common.{ap, lit≤}
use Rattle.settlement.specs.declared.figures.Interval.{Interval}
use Rattle.record_store.specs.Meaning.{Meaning, Lawful, bounded}
use Rattle.record_store.specs.Shelves.{Contents, held}

-- The records in use stand, as many are spent as are in use, there is room for as many as there are places, and a
-- rewrite is free.
abbrev pub pool_means : Contents Interval → Meaning
pool_means c = record { standing = bounded (held c); spent = c.used; capacity = length c.places; charge = 0 }

-- A pool is lawful where no more places are in use than there are.
pub pool_lawful : (c : Contents Interval) → c.used ≤ length c.places → Lawful (pool_means c)
pool_lawful c within = record { beyond = λ h s e. ap (λ b. cond b (held c h s) None) e; within = within; charges = lit≤ tt }
