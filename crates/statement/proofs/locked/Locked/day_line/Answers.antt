use Rattle.std.proofs.Common.{Ok, refl}
use Rattle.book.specs.declared.calls.Answer.TheVariants.{Day}
use Rattle.book.specs.declared.calls.Call.TheVariants.{AskDay}
use Rattle.book.proofs.Laws.{gated}
use Rattle.statement.specs.Accounts.{closed}
use Rattle.statement.proofs.Forming.{formed_closed}
use Rattle.statement.proofs.locked.Locked.day_line.Goals as goal

pub returns : goal.returns
returns c e m lawful =
    let a = closed e c.args.self.now m in
    gated a AskDay (Ok (Day a.table.day)) a (formed_closed e c.args.self.now m lawful) (record { answer = refl; after = refl })
