-- A row as the code reads it from a table.
use Rattle.std.proofs.Common.{◌≡◌, ℕ, ◌<◌, List, length, get_or, pos, None}
use Rattle.std.proofs.lemmas.List.{get_or_default}
use Rattle.settlement.specs.declared.figures.State.TheVariants.{Settled}
use Rattle.book.specs.declared.figures.Row.{Row}
use Rattle.book.specs.Lines.{no_row}

-- What a read past the end would give: zeros, and the first of the states.
abbrev pub zero_row : Row
zero_row =
    record {
      schedule = None;
      reading = None;
      line =
          record {
            state = Settled;
            intervals = 0;
            seconds = 0;
            ahead = record { energy = pos 0; loss = pos 0; congestion = pos 0; total = pos 0 };
            balance = pos 0;
            balancing = record { energy = pos 0; loss = pos 0; congestion = pos 0; total = pos 0 };
            spin = pos 0;
            total = pos 0;
          };
    }

-- Inside the table it is the row of the hour.
pub row_read : (rows : List Row) (k : ℕ) → k < length rows → get_or rows k zero_row ≡ get_or rows k no_row
row_read rows k l = get_or_default rows k zero_row no_row l
