use Rattle.std.proofs.Common.{◌≡◌, ◌+◌, ◌*◌, ◌≤◌, ◌++◌, length, take}
use Rattle.listing.specs.Columns.{figures}
use Rattle.listing.specs.Fields.{further}
use Rattle.listing.specs.Texts.{text}
use Rattle.listing.proofs.line.Line.end_with.Given as goal

-- The first figures are written, and each took at most 21 bytes.
abbrev pub invariant-loop-figure : goal.invariant-loop-figure
invariant-loop-figure l = record {
  written : text l.self ≡ text l.initial.self ++ further (figures (take l.figure-index l.columns));
  room : length (text l.self) ≤ length (text l.initial.self) + 21 * l.figure-index;
}
