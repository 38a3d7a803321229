use Rattle.arithmetic.proofs.Machine.{sized}
use Rattle.statement.proofs.Summing.{small_amounts, summed, figure, plus_is}
use Rattle.statement.proofs.day.plus_amounts.Goals as goal

pub plus-requires : goal.plus-requires
plus-requires c =
    record { sum = sized (summed c.args.sum.now.energy c.requires.sum.energy); figure = sized (figure c.args.amounts.now.energy (small_amounts c.args.amounts.now c.requires.amounts).energy) }

pub plus-requires-2 : goal.plus-requires-2
plus-requires-2 c =
    record { sum = sized (summed c.args.sum.now.loss c.requires.sum.loss); figure = sized (figure c.args.amounts.now.loss (small_amounts c.args.amounts.now c.requires.amounts).loss) }

pub plus-requires-3 : goal.plus-requires-3
plus-requires-3 c =
    record {
      sum = sized (summed c.args.sum.now.congestion c.requires.sum.congestion);
      figure = sized (figure c.args.amounts.now.congestion (small_amounts c.args.amounts.now c.requires.amounts).congestion);
    }

pub plus-requires-4 : goal.plus-requires-4
plus-requires-4 c =
    record { sum = sized (summed c.args.sum.now.total c.requires.sum.total); figure = sized (figure c.args.amounts.now.total (small_amounts c.args.amounts.now c.requires.amounts).total) }

pub returns : goal.returns
returns c =
    let s = c.args.sum.now in
    let a = c.args.amounts.now in
    let room = c.requires.sum in
    let small = small_amounts a c.requires.amounts in
    let energy = plus_is c.plus.result s.energy a.energy room.energy small.energy c.plus.ensures in
    let loss = plus_is c.plus-2.result s.loss a.loss room.loss small.loss c.plus-2.ensures in
    let congestion = plus_is c.plus-3.result s.congestion a.congestion room.congestion small.congestion c.plus-3.ensures in
    let total = plus_is c.plus-4.result s.total a.total room.total small.total c.plus-4.ensures in
    λ i. record { energy = energy i; loss = loss i; congestion = congestion i; total = total i }
