-- How a refusal rules over an answer and over what is left: the first reason that applies is the answer, and nothing
-- changes. The reasons may be of any kind.
use Rattle.std.specs.Prelude.{Bool, cond, Some, None, Ok, Err, Option, Result}

-- A test that fails refuses; else what comes after it decides.
abbrev pub unless : {F : Type 0} → Bool → F → Option F → Option F
unless ok refusal rest = cond ok rest (Some refusal)

-- The first refusal of two.
abbrev pub first : {F : Type 0} → Option F → Option F → Option F
first None next = next
first (Some refusal) next = Some refusal

-- What refuses a figure that may be absent.
abbrev pub optional : {A F : Type 0} → (A → Option F) → Option A → Option F
optional f None = None
optional f (Some x) = f x

-- An answer, unless something refuses it.
abbrev pub ruled : {A F : Type 0} → Option F → A → Result A F
ruled None answer = Ok answer
ruled (Some refusal) answer = Err refusal

-- What is left: the new where nothing refuses it, else the old.
abbrev pub changed : {A F : Type 0} → Option F → A → A → A
changed None new old = new
changed (Some refusal) new old = old
