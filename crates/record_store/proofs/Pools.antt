-- A pool: one record rewritten, one more, and one less.
use Rattle.std.proofs.Common.{◌≡◌, ℕ, ◌+◌, ◌-◌, ◌<◌, cond, ◌&&◌, eqb, length, pos, Some, None, Option, Ok, Err, Result, MatchResult, sym, refl, ap, ◌∙◌, subst, arith}
use mathlib.Core.Path.{fun_ext}
use mathlib.Core.HLevel.{is_prop→PathP}
use Rattle.std.proofs.Math.Nat.{ℕ_set}
use Rattle.record_store.specs.declared.shelf.Shelf.{Shelf}
use Rattle.std.specs.Result.{OnErr}
use Rattle.std.proofs.lemmas.List.{length-set}
use Rattle.std.proofs.lemmas.Bool.{lt-ltb, le-ltb}
use Rattle.settlement.specs.Rulings.{ruled, changed}
use Rattle.record_store.specs.declared.faults.StoreFault.{StoreFault}
use Rattle.settlement.specs.declared.figures.Interval.{Interval}
use Rattle.record_store.specs.declared.places.Place.{Place}
use Rattle.record_store.specs.declared.key.Key.{Key}
use Rattle.record_store.specs.declared.pool.Pool.{Pool}
use Rattle.record_store.specs.Meaning.{Meaning, bounded, full_refused, rewritten}
use Rattle.record_store.specs.Contents.{contents}
use Rattle.record_store.specs.Shelves.{Contents, held, key, named, laid, pushed, Pushed, Unpushed, removed, Once}
use Rattle.record_store.specs.Pools.{pool_means}
use Rattle.record_store.proofs.Shelves.{Sound, Suits, laid_to, laid_held, suits_next, suits_again, sound_of, one_place, no_place}
use Rattle.record_store.proofs.Removing.{Indexed, once, indexed, laid_indexed, same_removed, left_once, left_held}

-- Some place.
pub some_place : Place Interval
some_place =
    record {
      hour = 0;
      slot = 0;
      content = record {
        seconds = 0;
        flags = 0;
        average = pos 0;
        limits = record { rtd = pos 0; agc = pos 0; energy = pos 0 };
        transactions = pos 0;
        spin = pos 0;
        prices = record { energy = pos 0; loss = pos 0; congestion = pos 0 };
        reserve = record { east = pos 0; west = pos 0 };
      };
    }

-- A pool's shelf after a change: no slot stands twice, and it means what it should.
pub record Becomes (c : Contents Interval) (m : Meaning) : Type 0 where
  pub once : (d : Place Interval) → Once d c
  pub means : pool_means c ≡ m

-- So it is by whatever name the shelf goes.
pub becomes : (c c' : Contents Interval) (m : Meaning) → c' ≡ c → Becomes c m → Becomes c' m
becomes c c' m e b = subst (λ x. Becomes x m) (sym e) b

-- What is held for each slot tells what a pool means.
means_by : (c : Contents Interval) (m : Meaning) (hour slot : ℕ) (new : Option Interval)
    → ((h s : ℕ) → bounded (held c) h s ≡ cond (eqb h hour && eqb s slot) new (m.standing h s)) → length c.places ≡ m.capacity → 0 ≡ m.charge
    → pool_means c ≡ rewritten m hour slot new c.used
means_by c m hour slot new at a b k = record { standing = fun_ext (λ h. fun_ext (λ s. at h s)) k; spent = c.used; capacity = a k; charge = b k }

-- A record in a place.
abbrev entry : Key → Interval → Place Interval
entry k i = record { hour = k.hour; slot = k.slot; content = i }

module _ (p : Pool) (k : Key) where
  abbrev before : Contents Interval
  before = contents p.shelf

  sound : (d : Place Interval) → Sound d before
  sound d = sound_of p.shelf d

  all : (d : Place Interval) → Indexed d before
  all d = indexed d before (sound d) (p.once d)

  laid_becomes : (at n : ℕ) (i : Interval) → Suits before at (entry k i) n → ((q : ℕ) → named before (key k.hour k.slot) ≡ Some q → q ≡ at)
      → Becomes (laid_to before at (entry k i) n) (rewritten (pool_means before) k.hour k.slot (Some i) n)
  laid_becomes at n i suits alone =
      record {
        once = λ d. once d (laid_to before at (entry k i) n) (laid_indexed d before (sound d) (all d) at n (entry k i) suits alone);
        means = means_by (laid_to before at (entry k i) n) (pool_means before) k.hour k.slot (Some i) (laid_held (entry k i) before (sound (entry k i)) at n (entry k i) suits) (length-set p.shelf.places.now at (entry k i)) refl;
      }

  -- A record in the place of the one that stands in its slot.
  pub replaced : (at : ℕ) (i : Interval) → named before (key k.hour k.slot) ≡ Some at → Becomes (laid before at (entry k i)) (rewritten (pool_means before) k.hour k.slot (Some i) p.shelf.used)
  replaced at i f =
      laid_becomes at p.shelf.used i (suits_again (entry k i) before (sound (entry k i)) (entry k i) at k.hours k.slots f) (λ q e. one_place q at (sym e ∙ f))

  -- A record more, in a slot where none stands.
  pub added : (i : Interval) → named before (key k.hour k.slot) ≡ None → p.shelf.used < length p.shelf.places.now → Becomes (pushed before (entry k i)) (rewritten (pool_means before) k.hour k.slot (Some i) (p.shelf.used + 1))
  added i f l =
      laid_becomes p.shelf.used (p.shelf.used + 1) i (suits_next (entry k i) before (sound (entry k i)) (entry k i) k.hours k.slots l) (λ q e. absurd (no_place q (sym f ∙ e)))

  -- So it is where there is room; and where there is none, the store is full and as it was.
  pub record Adds (i : Interval) (r : Result (Unit {0}) StoreFault) (after : Contents Interval) : Type 0 where
    pub once : (d : Place Interval) → Once d after
    pub answer : r ≡ ruled (full_refused (pool_means before) k.hour k.slot) tt
    pub means : pool_means after ≡ changed (full_refused (pool_means before) k.hour k.slot) (rewritten (pool_means before) k.hour k.slot (Some i) (p.shelf.used + 1)) (pool_means before)

  pub adds : (i : Interval) (r : Result (Unit {0}) StoreFault) (after : Contents Interval) → named before (key k.hour k.slot) ≡ None
      → MatchResult r (Pushed before (entry k i) after) (Unpushed before k.hour k.slot after) → Adds i r after
  adds i (Ok done) after f (room, is) =
      let b = becomes (pushed before (entry k i)) after _ is (added i f room) in
      let fits = le-ltb (length p.shelf.places.now) (p.shelf.used + 1) (omega arith) in
      record { once = b.once; answer = rw fits refl; means = rw fits b.means }
  adds i (Err fault) after f (full, told, is) =
      let over = lt-ltb (length p.shelf.places.now) (p.shelf.used + 1) (omega arith) in
      record { once = subst (λ c. (d : Place Interval) → Once d c) (sym is) p.once; answer = rw over (ap Err told); means = rw over (ap pool_means is) }

  -- A record less, with the last one in its place.
  pub reduced : (d : Place Interval) (at : ℕ) → named before (key k.hour k.slot) ≡ Some at → Becomes (removed d before at k.hour k.slot) (rewritten (pool_means before) k.hour k.slot None (p.shelf.used - 1))
  reduced d at f =
      record {
        once = λ x.
            subst (Once x) (same_removed before x d at k.hour k.slot (p.shelf.in_use (key k.hour k.slot) at f) p.shelf.within) (left_once x before (sound x) (all x) k.hour k.slot at k.hours k.slots f);
        means = means_by (removed d before at k.hour k.slot) (pool_means before) k.hour k.slot None (left_held d before (sound d) (all d) k.hour k.slot at k.hours k.slots f) (length-set p.shelf.places.now at _) refl;
      }

-- A pool is the same where its shelf is the same: that no slot stands twice has one proof.
pub same : (p : Pool) (s : Shelf Interval) (o : (d : Place Interval) → Once d (contents s)) → s ≡ p.shelf → record { shelf = s; once = o } ≡ p
same p s o is = λ i. record { shelf = is i; once = is_prop→PathP (λ j. (d : Place Interval) → Once d (contents (is j))) (λ j. once_prop (contents (is j))) o p.once i }
  where
    once_prop : (c : Contents Interval) → IsProp ((d : Place Interval) → Once d c)
    once_prop c = hlevel ℕ_set

-- A shelf that refused is the one that it was, and so is its pool.
pub same_refused : (p : Pool) (s : Shelf Interval) (o : (d : Place Interval) → Once d (contents s)) (r : Result (Unit {0}) StoreFault) → OnErr r (s ≡ p.shelf) → OnErr r (record { shelf = s; once = o } ≡ p)
same_refused p s o (Ok done) is = tt
same_refused p s o (Err fault) is = same p s o is
