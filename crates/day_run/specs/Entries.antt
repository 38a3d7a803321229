-- The entries of a file, as the statement answers them.
use Rattle.std.specs.Prelude.{◌≡◌, ℕ, List, ◌++◌, Ok, Err, Result}
use Rattle.book.specs.declared.calls.Answer.{Answer}
use Rattle.book.specs.declared.calls.Change.{Change}
use Rattle.book.specs.declared.faults.Fault.{Fault}
use Rattle.book.specs.Outcome.{Account, all_answers, after_all}
use Rattle.day_file.specs.declared.faults.FileFault.{FileFault}
use Rattle.day_file.specs.declared.faults.FileFault.TheVariants.{InStatement}
use Rattle.day_run.specs.Pages.{calls, refusals}

-- An answer as the file's layer hands it up: the statement's fault is passed on whole.
abbrev pub handed_up : Result Answer Fault → Result (Unit {0}) FileFault
handed_up (Ok answer) = Ok tt
handed_up (Err fault) = Err (InStatement fault)

-- Changes made one after the other, each from where the former left the day, with the refused ones written at the end of
-- the page.
pub record Ran (a : Account) (changes : List Change) (before : List ℕ) (b : Account) (page : List ℕ) : Type 0 where
  pub left : b ≡ after_all a (calls changes)
  pub noted : page ≡ before ++ refusals 0 (all_answers a (calls changes))
