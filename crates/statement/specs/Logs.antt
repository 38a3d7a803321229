-- The calls of a log, and their answers.
use Rattle.std.specs.Prelude.{List, map, Result}
use Rattle.book.specs.declared.calls.Answer.{Answer}
use Rattle.book.specs.declared.calls.Call.{Call}
use Rattle.book.specs.declared.calls.Entry.{Entry}
use Rattle.book.specs.declared.faults.Fault.{Fault}

-- The calls of a log, in their order.
abbrev pub calls : List Entry → List Call
calls log = map (λ e. e.call) log

-- The answers that it has noted.
abbrev pub answers : List Entry → List (Result Answer Fault)
answers log = map (λ e. e.answer) log
