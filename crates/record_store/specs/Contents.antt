-- The contents of a shelf.
use Rattle.record_store.specs.declared.shelf.Shelf.{Shelf}
use Rattle.record_store.specs.Shelves.{Contents}

-- What a shelf holds, wherever its memory is.
abbrev pub contents : {T : Type 0} → Shelf T → Contents T
contents s = record { index = s.index; places = s.places.now; used = s.used }
