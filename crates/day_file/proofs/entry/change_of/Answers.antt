use Rattle.std.proofs.Common.{◌≡◌, get_or, None, sym, ap, ◌∙◌, refl, subst, w32, SFits}
use Rattle.day_file.specs.Kinds.{kind_byte}
use Rattle.day_file.specs.Refusals.{body_fault}
use Rattle.day_file.proofs.Bytes.{all_small, handed, read_word}
use Rattle.day_file.proofs.Faultless.{plain_key, slot_key, key_fit, schedule_body, posting_body, withdrawal_body, reading_body, unread_body}
use Rattle.day_file.proofs.Places.{answered, entry_told, key_clear, body_clear}
use Rattle.day_file.proofs.entry.change_of.Goals as goal

pub returns-in_err-and : goal.returns-in_err-and
returns-in_err-and c =
    answered c.from_residual.result _ _ _ c.from_residual.ensures.1
    (entry_told c.in-Ok.kind c.args.key.now c.args.body.now c.args.key_at c.args.body_at c.in-Ok.ensures _ _ _ c.and.ensures c.check_key.ensures c.check_body.ensures _ c.in_err-and.was)

pub returns-in-Schedule : goal.returns-in-Schedule
returns-in-Schedule c =
    let k : get_or c.args.key.now 0 0 ≡ 1 = sym c.in-Ok.ensures ∙ ap kind_byte c.in-Schedule.is in
    let b : body_fault 1 c.args.body_at c.args.body.now ≡ None =
    ap (λ x. body_fault (kind_byte x) c.args.body_at c.args.body.now) (sym c.in-Schedule.is) ∙ body_clear c.in-Ok.kind c.args.key.now c.args.body.now c.args.key_at c.args.body_at c.in-Ok.ensures _ _ _ c.and.ensures c.check_key.ensures c.check_body.ensures c.in_ok-and.was in
    let e = plain_key c.args.key_at 1 c.args.key.now c.told-key k refl (key_clear c.in-Ok.kind c.args.key.now c.args.body.now c.args.key_at c.args.body_at c.in-Ok.ensures _ _ _ c.and.ensures c.check_key.ensures c.check_body.ensures c.in_ok-and.was) in
    (e, schedule_body c.args.body_at _ c.row_of.result c.args.body.now c.told-body b c.row_of.ensures.bytes, (key_fit c.args.key.now _ (all_small c.args.key.now c.fits-key) e, c.row_of.ensures.fit))

pub returns-in-Posting : goal.returns-in-Posting
returns-in-Posting c =
    let k : get_or c.args.key.now 0 0 ≡ 2 = sym c.in-Ok.ensures ∙ ap kind_byte c.in-Posting.is in
    let b : body_fault 2 c.args.body_at c.args.body.now ≡ None =
    ap (λ x. body_fault (kind_byte x) c.args.body_at c.args.body.now) (sym c.in-Posting.is) ∙ body_clear c.in-Ok.kind c.args.key.now c.args.body.now c.args.key_at c.args.body_at c.in-Ok.ensures _ _ _ c.and.ensures c.check_key.ensures c.check_body.ensures c.in_ok-and.was in
    let e = slot_key c.args.key_at 2 c.args.key.now c.told-key k refl (key_clear c.in-Ok.kind c.args.key.now c.args.body.now c.args.key_at c.args.body_at c.in-Ok.ensures _ _ _ c.and.ensures c.check_key.ensures c.check_body.ensures c.in_ok-and.was) in
    (e, posting_body c.args.body_at _ _ c.record_of.result c.args.body.now c.told-body b c.record_of.ensures.front c.record_of.ensures.figures, (key_fit c.args.key.now _ (all_small c.args.key.now c.fits-key) e, c.record_of.ensures.fit))

pub returns-in-Withdrawal : goal.returns-in-Withdrawal
returns-in-Withdrawal c =
    let k : get_or c.args.key.now 0 0 ≡ 3 = sym c.in-Ok.ensures ∙ ap kind_byte c.in-Withdrawal.is in
    let b : body_fault 3 c.args.body_at c.args.body.now ≡ None =
    ap (λ x. body_fault (kind_byte x) c.args.body_at c.args.body.now) (sym c.in-Withdrawal.is) ∙ body_clear c.in-Ok.kind c.args.key.now c.args.body.now c.args.key_at c.args.body_at c.in-Ok.ensures _ _ _ c.and.ensures c.check_key.ensures c.check_body.ensures c.in_ok-and.was in
    let e = slot_key c.args.key_at 3 c.args.key.now c.told-key k refl (key_clear c.in-Ok.kind c.args.key.now c.args.body.now c.args.key_at c.args.body_at c.in-Ok.ensures _ _ _ c.and.ensures c.check_key.ensures c.check_body.ensures c.in_ok-and.was) in
    (e, withdrawal_body c.args.body_at _ _ c.args.body.now c.told-body b, (key_fit c.args.key.now _ (all_small c.args.key.now c.fits-key) e, tt))

pub returns-in-Reading : goal.returns-in-Reading
returns-in-Reading c =
    let k : get_or c.args.key.now 0 0 ≡ 4 = sym c.in-Ok.ensures ∙ ap kind_byte c.in-Reading.is in
    let b : body_fault 4 c.args.body_at c.args.body.now ≡ None =
    ap (λ x. body_fault (kind_byte x) c.args.body_at c.args.body.now) (sym c.in-Reading.is) ∙ body_clear c.in-Ok.kind c.args.key.now c.args.body.now c.args.key_at c.args.body_at c.in-Ok.ensures _ _ _ c.and.ensures c.check_key.ensures c.check_body.ensures c.in_ok-and.was in
    let e = plain_key c.args.key_at 4 c.args.key.now c.told-key k refl (key_clear c.in-Ok.kind c.args.key.now c.args.body.now c.args.key_at c.args.body_at c.in-Ok.ensures _ _ _ c.and.ensures c.check_key.ensures c.check_body.ensures c.in_ok-and.was) in
    (e, reading_body c.args.body_at _ _ c.args.body.now c.told-body b (read_word c.word_at.result c.word_at.type_inv c.word_at.ensures), (key_fit c.args.key.now _ (all_small c.args.key.now c.fits-key) e, subst (SFits w32) (sym (handed {z = c.word_at.result} c.word_at.type_inv)) (record { sfits = c.word_at.type_inv })))

pub returns-in-ReadingWithdrawn : goal.returns-in-ReadingWithdrawn
returns-in-ReadingWithdrawn c =
    let k : get_or c.args.key.now 0 0 ≡ 5 = sym c.in-Ok.ensures ∙ ap kind_byte c.in-ReadingWithdrawn.is in
    let b : body_fault 5 c.args.body_at c.args.body.now ≡ None =
    ap (λ x. body_fault (kind_byte x) c.args.body_at c.args.body.now) (sym c.in-ReadingWithdrawn.is) ∙ body_clear c.in-Ok.kind c.args.key.now c.args.body.now c.args.key_at c.args.body_at c.in-Ok.ensures _ _ _ c.and.ensures c.check_key.ensures c.check_body.ensures c.in_ok-and.was in
    let e = plain_key c.args.key_at 5 c.args.key.now c.told-key k refl (key_clear c.in-Ok.kind c.args.key.now c.args.body.now c.args.key_at c.args.body_at c.in-Ok.ensures _ _ _ c.and.ensures c.check_key.ensures c.check_body.ensures c.in_ok-and.was) in
    (e, unread_body c.args.body_at _ c.args.body.now c.told-body b, (key_fit c.args.key.now _ (all_small c.args.key.now c.fits-key) e, tt))
