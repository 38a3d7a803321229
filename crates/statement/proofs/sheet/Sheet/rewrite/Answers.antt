use Rattle.std.proofs.Common.{◌≡◌, ◌<◌, ◌≤◌, false, length, set, is_some, ap, ◌∙◌, arith, length-set}
use Rattle.book.specs.declared.figures.DayLine.{DayLine}
use Rattle.book.specs.Lines.{row_refusal}
use Rattle.statement.proofs.Settling.{each_row}
use Rattle.statement.proofs.Summing.{Tame, small_line}
use Rattle.statement.proofs.sheet.Sheet.rewrite.Goals as goal

pub added_up-self-requires : goal.added_up-self-requires
added_up-self-requires c =
    let s = c.args.self.now in
    let l : c.args.hour < length s.table.rows = omega (arith, s.rows, c.requires.hour) in
    each_row Tame s.table.rows c.args.hour c.args.row l c.requires.small s.small

pub invariant_of-self : goal.invariant_of-self
invariant_of-self c =
    let s = c.args.self.now in
    let row = c.args.row in
    let l : c.args.hour < length s.table.rows = omega (arith, s.rows, c.requires.hour) in
    record {
      fit = s.fit;
      rows = length-set s.table.rows c.args.hour row ∙ s.rows;
      within = each_row (λ r. is_some (row_refusal r) ≡ false) s.table.rows c.args.hour row l c.requires.within s.within;
      short = each_row (λ r. r.line.seconds ≤ 3600) s.table.rows c.args.hour row l (small_line row.line c.requires.small).seconds s.short;
      small = each_row Tame s.table.rows c.args.hour row l c.requires.small s.small;
      added = ap (λ (d : DayLine). record { hours = s.table.hours; region = s.table.region; rows = set s.table.rows c.args.hour row; day = d }) c.added_up-self.ensures;
    }
