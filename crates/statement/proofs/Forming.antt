-- What any statement has.
use Rattle.settlement.specs.declared.editions.Edition.{Ghosts as EditionGhosts}
use Rattle.settlement.specs.Editions.{Terms, Lawful}
use Rattle.record_store.specs.Meaning.{Meaning}
use Rattle.book.proofs.Laws.{Formed}
use Rattle.statement.specs.declared.locked.Locked.{Locked}
use Rattle.statement.specs.declared.statement.Statement.{Statement}
use Rattle.statement.specs.Accounts.{kept_in, closed}

pub formed : {E : Type 0} (edition : EditionGhosts E) (st : Statement E) (m : Meaning) → Lawful (edition.terms st.edition) → Formed (kept_in edition st m)
formed edition st m lawful = record { rows = st.sheet.rows; hours = st.sheet.fit; lawful = lawful }

pub formed_closed : (e : Terms) (st : Locked) (m : Meaning) → Lawful e → Formed (closed e st m)
formed_closed e st m lawful = record { rows = st.sheet.rows; hours = st.sheet.fit; lawful = lawful }
