use Rattle.std.proofs.Common.{◌≡◌, ℕ, ◌<◌, length, get_or, None}
use Rattle.record_store.proofs.store.Store.hour.Given as goal

-- The slots so far are read.
abbrev pub invariant-loop-slot : goal.invariant-loop-slot
invariant-loop-slot g l =
    (length l.record-items ≡ 24) × ((k : ℕ) → k < l.slot → get_or l.record-items k None ≡ (g.Self.Store.means l.self).standing l.hour k)
