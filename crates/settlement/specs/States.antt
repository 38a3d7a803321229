-- The states of an hour by name.
use Rattle.std.specs.Prelude.{ℕ, List, codes}
use Rattle.settlement.specs.declared.figures.State.{State}
use Rattle.settlement.specs.declared.figures.State.TheVariants.{Settled, Unsettled}

-- The word for a state.
abbrev pub state_name : State → List ℕ
state_name Settled = codes "settled"
state_name Unsettled = codes "unsettled"
