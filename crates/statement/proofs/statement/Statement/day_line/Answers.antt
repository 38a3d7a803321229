use Rattle.std.proofs.Common.{Ok, refl}
use Rattle.book.specs.declared.calls.Answer.TheVariants.{Day}
use Rattle.book.specs.declared.calls.Call.TheVariants.{AskDay}
use Rattle.book.proofs.Laws.{gated}
use Rattle.statement.specs.Accounts.{kept_in}
use Rattle.statement.proofs.Forming.{formed}
use Rattle.statement.proofs.statement.Statement.day_line.Goals as goal

pub returns : goal.returns
returns g c m =
    let st = c.args.self.now in
    let a = kept_in g.E.Edition st m in
    gated a AskDay (Ok (Day st.sheet.table.day)) a (formed g.E.Edition st m (g.met.E.Edition.lawful _)) (record { answer = refl; after = refl })
