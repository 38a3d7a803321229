use Rattle.std.proofs.Common.{◌≡◌, ◌+◌, refl, ap, ◌∙◌}
use Rattle.settlement.specs.declared.figures.State.{State}
use Rattle.settlement.specs.declared.figures.State.TheVariants.{Unsettled, Settled}
use Rattle.book.specs.Lines.{settled_one}
use mir.Val.{bool_byte}
use denote.Enum.Bare.{sameb}
use Rattle.settlement.specs.contracts.figures.State.{the_type}
use Rattle.arithmetic.proofs.Machine.{sized}
use Rattle.statement.proofs.Summing.{small_line, summed, figure, plus_is}
use Rattle.statement.proofs.day.plus_line.Goals as goal

pub plus_amounts-requires : goal.plus_amounts-requires
plus_amounts-requires c = record { sum = c.requires.day.ahead; amounts = (small_line c.args.line.now c.requires.line).ahead }

pub plus-requires : goal.plus-requires
plus-requires c =
    record { sum = sized (summed c.args.day.now.balance c.requires.day.balance); figure = sized (figure c.args.line.now.balance (small_line c.args.line.now c.requires.line).balance) }

pub plus_amounts-requires-2 : goal.plus_amounts-requires-2
plus_amounts-requires-2 c = record { sum = c.requires.day.balancing; amounts = (small_line c.args.line.now c.requires.line).balancing }

pub plus-requires-2 : goal.plus-requires-2
plus-requires-2 c =
    record { sum = sized (summed c.args.day.now.spin c.requires.day.spin); figure = sized (figure c.args.line.now.spin (small_line c.args.line.now c.requires.line).spin) }

pub plus-requires-3 : goal.plus-requires-3
plus-requires-3 c =
    record { sum = sized (summed c.args.day.now.total c.requires.day.total); figure = sized (figure c.args.line.now.total (small_line c.args.line.now c.requires.line).total) }

-- The test of a state, as a number.
counted : (s : State) → bool_byte (sameb the_type s Settled) ≡ settled_one s
counted Unsettled = refl
counted Settled = refl

pub returns : goal.returns
returns c =
    let d = c.args.day.now in
    let l = c.args.line.now in
    let small = small_line l c.requires.line in
    let settled : c.from.result ≡ settled_one l.state = c.from.ensures ∙ ap bool_byte c.eq.ensures ∙ counted l.state in
    let ahead = c.plus_amounts.ensures in
    let balance = plus_is c.plus.result d.balance l.balance c.requires.day.balance small.balance c.plus.ensures in
    let balancing = c.plus_amounts-2.ensures in
    let spin = plus_is c.plus-2.result d.spin l.spin c.requires.day.spin small.spin c.plus-2.ensures in
    let total = plus_is c.plus-3.result d.total l.total c.requires.day.total small.total c.plus-3.ensures in
    λ i. record {
      settled = d.settled + settled i;
      intervals = d.intervals + l.intervals;
      seconds = d.seconds + l.seconds;
      ahead = ahead i;
      balance = balance i;
      balancing = balancing i;
      spin = spin i;
      total = total i;
    }
