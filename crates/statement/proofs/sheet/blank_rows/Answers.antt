-- Rows of which each is the default.
use Rattle.std.proofs.Common.{◌≡◌}
use Rattle.book.specs.Lines.{no_row}
use Rattle.statement.proofs.Blank.{blank_rows}
use Rattle.statement.proofs.sheet.blank_rows.Goals as goal

pub returns : goal.returns
returns c =
    let z = c.default.ensures in
    let e : c.default.result ≡ no_row = λ i. record {
      schedule = z.0 i;
      reading = z.1.0 i;
      line = record {
        state = z.1.1.0 i;
        intervals = z.1.1.1.0 i;
        seconds = z.1.1.1.1.0 i;
        ahead = record { energy = z.1.1.1.1.1.0.0 i; loss = z.1.1.1.1.1.0.1.0 i; congestion = z.1.1.1.1.1.0.1.1.0 i; total = z.1.1.1.1.1.0.1.1.1 i };
        balance = z.1.1.1.1.1.1.0 i;
        balancing = record { energy = z.1.1.1.1.1.1.1.0.0 i; loss = z.1.1.1.1.1.1.1.0.1.0 i; congestion = z.1.1.1.1.1.1.1.0.1.1.0 i; total = z.1.1.1.1.1.1.1.0.1.1.1 i };
        spin = z.1.1.1.1.1.1.1.1.0 i;
        total = z.1.1.1.1.1.1.1.1.1 i;
      };
    } in
    blank_rows c.default.result e
