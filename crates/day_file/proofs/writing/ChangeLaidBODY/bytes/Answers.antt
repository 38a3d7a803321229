use Rattle.std.proofs.Common.{inl, inr, [], ◌∷◌, sym, refl, ap, ◌∙◌, rules}
use Rattle.day_file.specs.Encode.{body, padded}
use Rattle.day_file.proofs.Bytes.{listed}
use Rattle.day_file.proofs.writing.ChangeLaidBODY.bytes.Goals as goal

pub returns-in-Scheduled-clause-laid : goal.returns-in-Scheduled-clause-laid
unfolding body
returns-in-Scheduled-clause-laid c = c.row_body.ensures.laid ∙ sym (ap body c.in-Scheduled.is)

pub returns-in-Posted-clause-laid : goal.returns-in-Posted-clause-laid
unfolding body
returns-in-Posted-clause-laid c = c.record_body.ensures.laid ∙ sym (ap body c.in-Posted.is)

pub returns-in-Read-clause-laid : goal.returns-in-Read-clause-laid
unfolding body
returns-in-Read-clause-laid c = c.padded.ensures.laid ∙ ap padded (listed (c.in-Read.kwh ∷ []) 1 refl (search rules)) ∙ sym (ap body c.in-Read.is)

pub returns-in-Withdrawn-clause-laid : goal.returns-in-Withdrawn-clause-laid
unfolding body
returns-in-Withdrawn-clause-laid c =
    elim c.in-Withdrawn.is [
      | inl w ↦ c.padded-in-Withdrawn.ensures.laid ∙ sym (ap body w.2)
      | inr w ↦ c.padded-in-Withdrawn.ensures.laid ∙ sym (ap body w.1)
    ]
