use Rattle.std.proofs.Common.{◌≡◌, is_some, sum_by, count_by}
use Rattle.std.specs.List.{range_with_len}
use Rattle.record_store.specs.Meaning.{hour_records}
use Rattle.statement.proofs.statement.opening.is_occupied.Given as goal

-- Nothing stands for the hours so far.
abbrev pub invariant-loop-hour : goal.invariant-loop-hour
invariant-loop-hour g l = sum_by (λ hour. count_by is_some (hour_records ((g.S.Store.means l.store).standing hour))) (range_with_len 0 l.hour) ≡ 0
