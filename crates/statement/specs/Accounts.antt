-- A statement and its store as an account of the day.
use Rattle.settlement.specs.Editions.{Terms}
use Rattle.settlement.specs.declared.editions.Edition.{Ghosts as EditionGhosts}
use Rattle.record_store.specs.declared.store.Store.{Ghosts as StoreGhosts}
use Rattle.record_store.specs.Meaning.{Meaning}
use Rattle.book.specs.Outcome.{Account}
use Rattle.statement.specs.declared.locked.Locked.{Locked}
use Rattle.statement.specs.declared.statement.Statement.{Statement}

-- A statement over a store that means so.
abbrev pub kept_in : {E : Type 0} → EditionGhosts E → Statement E → Meaning → Account
kept_in edition statement meaning = record { terms = edition.terms statement.edition; table = statement.sheet.table; store = meaning }

-- A statement over its store.
abbrev pub account : {E S : Type 0} → EditionGhosts E → StoreGhosts S → Statement E → S → Account
account edition storage statement store = kept_in edition statement (storage.means store)

-- A locked statement, by any terms and over any store.
abbrev pub closed : Terms → Locked → Meaning → Account
closed e statement meaning = record { terms = e; table = statement.sheet.table; store = meaning }
