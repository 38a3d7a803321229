use Rattle.std.proofs.Common.{◌++◌, vec_items, sym, ap, ◌∙◌}
use Rattle.std.proofs.lemmas.List.{append-nil}
use Rattle.day_run.proofs.Noting.{none_written, refusal_written}
use Rattle.day_run.proofs.entries.note.Goals as goal

pub returns-in-Ok : goal.returns-in-Ok
returns-in-Ok g c =
    let page = vec_items c.args.page.now in
    record { after = c.enter.ensures.after; page = sym (append-nil page) ∙ ap (λ text. page ++ text) (none_written c.args.entry _ _ c.in-Ok.ensures.answer) }

pub returns-in-Err : goal.returns-in-Err
returns-in-Err g c =
    record {
      after = c.enter.ensures.after;
      page = refusal_written _ _ _ _ c.args.entry _ _ c.in-Err.ensures.answer (c.as_bytes.ensures ∙ c.refused_line.ensures) c.extend_from_slice.ensures.items;
    }
