use Rattle.std.proofs.Common.{sym, ap, ◌∙◌, subst, arith}
use Rattle.arithmetic.specs.Sums.{sum_ℤ}
use Rattle.std.proofs.lemmas.List.{take_all}
use Rattle.book.specs.Lines.{day_of}
use Rattle.book.proofs.RowsRead.{row_read}
use Rattle.statement.proofs.Summing.{Tame, rows_room, day_more}
use Rattle.statement.proofs.day.added_up.Goals as goal

pub loop-row-init : goal.loop-row-init
unfolding sum_ℤ
loop-row-init c =
    let z = c.default-day.ensures in
    λ i. record {
      settled = z.0 i;
      intervals = z.1.0 i;
      seconds = z.1.1.0 i;
      ahead = record { energy = z.1.1.1.0.0 i; loss = z.1.1.1.0.1.0 i; congestion = z.1.1.1.0.1.1.0 i; total = z.1.1.1.0.1.1.1 i };
      balance = z.1.1.1.1.0 i;
      balancing = record { energy = z.1.1.1.1.1.0.0 i; loss = z.1.1.1.1.1.0.1.0 i; congestion = z.1.1.1.1.1.0.1.1.0 i; total = z.1.1.1.1.1.0.1.1.1 i };
      spin = z.1.1.1.1.1.1.0 i;
      total = z.1.1.1.1.1.1.1 i;
    }

pub plus_line-day-requires : goal.plus_line-day-requires
plus_line-day-requires c =
    record {
      day = rows_room c.args.rows.now c.loop-row.row-index c.loop-row.day (omega arith) (omega arith) c.requires c.loop-row.invariant;
      line = subst Tame (sym (row_read c.args.rows.now c.loop-row.row-index (omega arith))) (c.requires c.loop-row.row-index);
    }

pub loop-row-preserved : goal.loop-row-preserved
loop-row-preserved c = c.plus_line-day.ensures ∙ day_more c.args.rows.now c.loop-row.row-index c.loop-row.day (omega arith) c.loop-row.invariant

pub returns : goal.returns
returns c = c.loop-row.invariant ∙ ap day_of (take_all c.loop-row.row-index c.args.rows.now (omega arith))
