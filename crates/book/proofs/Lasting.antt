-- What was last put, and not taken away since, by what each change does.
use Rattle.std.proofs.Common.{◌≡◌, ℕ, Bool, true, false, cond, ◌&&◌, eqb, List, [], ◌∷◌, ◌++◌, ℤ, Some, None, Option, sym, refl, ap, ◌∙◌, subst, inl, inr, arith}
use Rattle.std.specs.List.{All}
use Rattle.std.proofs.lemmas.List.Elements.{All-nil, All-cons, All-head, All-tail}
use Rattle.std.proofs.lemmas.Bool.{and_parts, and_from, eqb-true, eq-eqb}
use Rattle.settlement.specs.declared.figures.Interval.{Interval}
use Rattle.settlement.specs.declared.figures.Schedule.{Schedule}
use Rattle.book.specs.declared.calls.Change.{Change}
use Rattle.book.specs.declared.calls.Change.TheVariants.{Scheduled, Posted, Withdrawn, Read, Unread}
use Rattle.book.specs.Book.{stands, scheduled, was_read}
use Rattle.book.specs.Words.{ToSlot, ToSchedule, ToReading, Last, Exactly}

-- Something that is kept: a change of a kind says what it is then, if anything, and others leave it as it was.
abbrev next : {X W : Type 0} → (W → Option X) → Option W → Option X → Option X
next says None old = old
next says (Some w) old = says w

module _ {X W : Type 0} (kept : List Change → Option X) (says : W → Option X) (made : W → Change) (told : Change → Option W) where
  pub record Tells : Type 0 where
    pub none : kept [] ≡ None
    pub more : (c : Change) (log : List Change) → kept (c ∷ log) ≡ next says (told c) (kept log)
    pub is : (c : Change) (w : W) → told c ≡ Some w → c ≡ made w
    pub made_is : (w : W) → told (made w) ≡ Some w

  -- What was last put is kept; where what puts x is the change c, and the kind is what the changes are that say anything.
  module _ (t : Tells) (Kind : Change → Type 0) (of_kind : (w : W) → Kind (made w)) (is_kind : (c : Change) → Kind c → (w : W) × (c ≡ made w))
      (x : X) (p : W) (put : says p ≡ Some x) (only : (w : W) → says w ≡ Some x → w ≡ p) where
    untold : (c : Change) → told c ≡ None → Kind c → ⊥
    untold c e kind = let w = is_kind c kind in let m = t.made_is w.0 in let at = ap told w.1 in let z : ◌≡◌ {A = ℕ} 0 1 = cc in omega arith

    to : (log : List Change) → kept log ≡ Some x → Last Kind (made p) log
    to [] e = let n = t.none in let z : ◌≡◌ {A = ℕ} 0 1 = cc in absurd (omega arith)
    to (c ∷ log) e = by (told c) refl (sym (t.more c log) ∙ e) (to log)
      where
        by : (o : Option W) → told c ≡ o → next says o (kept log) ≡ Some x → (kept log ≡ Some x → Last Kind (made p) log) → Last Kind (made p) (c ∷ log)
        by None at e before =
            let earlier = before e in
            (c ∷ earlier.0, earlier.1, ap (λ l. c ∷ l) earlier.2, All-cons (λ d. Kind d → ⊥) c earlier.0 (untold c at) earlier.3)
        by (Some w) at e before = ([], log, ap (λ d. d ∷ log) (t.is c w at ∙ ap made (only w e)), All-nil (λ d. Kind d → ⊥))

    from : (newer older : List Change) → All (λ d. Kind d → ⊥) newer → kept (newer ++ made p ∷ older) ≡ Some x
    from [] older all = t.more (made p) older ∙ ap (λ o. next says o (kept older)) (t.made_is p) ∙ put
    from (c ∷ newer) older all =
        t.more c (newer ++ made p ∷ older) ∙ ap (λ o. next says o (kept (newer ++ made p ∷ older))) (idle (told c) refl) ∙ from newer older (All-tail (λ d. Kind d → ⊥) c newer all)
      where
        idle : (o : Option W) → told c ≡ o → told c ≡ None
        idle None at = at
        idle (Some w) at = absurd (All-head (λ d. Kind d → ⊥) c newer all (subst Kind (sym (t.is c w at)) (of_kind w)))

    pub last_is : (log : List Change) → Exactly (kept log ≡ Some x) (Last Kind (made p) log)
    last_is log = (to log, λ l. ap kept l.2 ∙ from l.0 l.1 l.3)

-- Where a test decides.
met : {W : Type 0} (b : Bool) (v w : W) → cond b (Some v) None ≡ Some w → (b ≡ true) × (v ≡ w)
met true v w e = (refl, cc)
met false v w e = let z : ◌≡◌ {A = ℕ} 0 1 = cc in absurd (omega arith)

chosen : {X W : Type 0} (says : W → Option X) (b : Bool) (w : W) (old : Option X) → cond b (says w) old ≡ next says (cond b (Some w) None) old
chosen says true w old = refl
chosen says false w old = refl

never : {W A : Type 0} (w : W) → None ≡ Some w → A
never w e = let z : ◌≡◌ {A = ℕ} 0 1 = cc in absurd (omega arith)

-- Records.
module _ (h s : ℕ) where
  abbrev slot_change : Option Interval → Change
  slot_change None = Withdrawn h s
  slot_change (Some i) = Posted h s i

  abbrev to_slot : Change → Option (Option Interval)
  to_slot (Scheduled k g) = None
  to_slot (Posted k j i) = cond (eqb h k && eqb s j) (Some (Some i)) None
  to_slot (Withdrawn k j) = cond (eqb h k && eqb s j) (Some None) None
  to_slot (Read k m) = None
  to_slot (Unread k) = None

  here : (k j : ℕ) → (eqb h k && eqb s j) ≡ true → (k ≡ h) × (j ≡ s)
  here k j e = let p = and_parts (eqb h k) (eqb s j) e in (sym (eqb-true h k p.0), sym (eqb-true s j p.1))

  slot_tells : Tells (λ log. stands log h s) (λ o. o) slot_change to_slot
  slot_tells = record { none = refl; more = more; is = is; made_is = made_is }
    where
      more : (c : Change) (log : List Change) → stands (c ∷ log) h s ≡ next (λ o. o) (to_slot c) (stands log h s)
      more (Scheduled k g) log = refl
      more (Posted k j i) log = chosen (λ o. o) (eqb h k && eqb s j) (Some i) (stands log h s)
      more (Withdrawn k j) log = chosen (λ o. o) (eqb h k && eqb s j) None (stands log h s)
      more (Read k m) log = refl
      more (Unread k) log = refl

      is : (c : Change) (w : Option Interval) → to_slot c ≡ Some w → c ≡ slot_change w
      is (Scheduled k g) w e = never w e
      is (Posted k j i) w e =
          let p = met (eqb h k && eqb s j) (Some i) w e in
          let at = here k j p.0 in
          ap (λ n. Posted n j i) at.0 ∙ ap (λ n. Posted h n i) at.1 ∙ ap slot_change p.1
      is (Withdrawn k j) w e =
          let p = met (eqb h k && eqb s j) None w e in
          let at = here k j p.0 in
          ap (λ n. Withdrawn n j) at.0 ∙ ap (λ n. Withdrawn h n) at.1 ∙ ap slot_change p.1
      is (Read k m) w e = never w e
      is (Unread k) w e = never w e

      there : (eqb h h && eqb s s) ≡ true
      there = and_from (eqb h h) (eqb s s) (eq-eqb h h refl) (eq-eqb s s refl)

      made_is : (w : Option Interval) → to_slot (slot_change w) ≡ Some w
      made_is None = ap (λ b. cond b (Some None) None) there
      made_is (Some i) = ap (λ b. cond b (Some (Some i)) None) there

  pub stands_is_last : (log : List Change) (i : Interval) → Exactly (stands log h s ≡ Some i) (Last (ToSlot h s) (Posted h s i) log)
  stands_is_last log i = last_is (λ log. stands log h s) (λ o. o) slot_change to_slot slot_tells (ToSlot h s) of_kind is_kind i (Some i) refl (λ w e. e) log
    where
      of_kind : (w : Option Interval) → ToSlot h s (slot_change w)
      of_kind None = inr refl
      of_kind (Some i) = inl (i, refl)

      is_kind : (c : Change) → ToSlot h s c → (w : Option Interval) × (c ≡ slot_change w)
      is_kind c (inl (i, e)) = (Some i, e)
      is_kind c (inr e) = (None, e)

-- Schedule rows and readings.
module _ (h : ℕ) where
  abbrev to_schedule : Change → Option Schedule
  to_schedule (Scheduled k g) = cond (eqb h k) (Some g) None
  to_schedule (Posted k j i) = None
  to_schedule (Withdrawn k j) = None
  to_schedule (Read k m) = None
  to_schedule (Unread k) = None

  schedule_tells : Tells (λ log. scheduled log h) (λ g. Some g) (Scheduled h) to_schedule
  schedule_tells = record { none = refl; more = more; is = is; made_is = λ g. ap (λ b. cond b (Some g) None) (eq-eqb h h refl) }
    where
      more : (c : Change) (log : List Change) → scheduled (c ∷ log) h ≡ next (λ g. Some g) (to_schedule c) (scheduled log h)
      more (Scheduled k g) log = chosen (λ g. Some g) (eqb h k) g (scheduled log h)
      more (Posted k j i) log = refl
      more (Withdrawn k j) log = refl
      more (Read k m) log = refl
      more (Unread k) log = refl

      is : (c : Change) (w : Schedule) → to_schedule c ≡ Some w → c ≡ Scheduled h w
      is (Scheduled k g) w e = let p = met (eqb h k) g w e in ap (λ n. Scheduled n g) (sym (eqb-true h k p.0)) ∙ ap (Scheduled h) p.1
      is (Posted k j i) w e = never w e
      is (Withdrawn k j) w e = never w e
      is (Read k m) w e = never w e
      is (Unread k) w e = never w e

  pub scheduled_is_last : (log : List Change) (g : Schedule) → Exactly (scheduled log h ≡ Some g) (Last (ToSchedule h) (Scheduled h g) log)
  scheduled_is_last log g =
      last_is (λ log. scheduled log h) (λ g. Some g) (Scheduled h) to_schedule schedule_tells (ToSchedule h) (λ w. (w, refl)) (λ c kind. kind) g g refl (λ w e. cc) log

  abbrev reading_change : Option ℤ → Change
  reading_change None = Unread h
  reading_change (Some m) = Read h m

  abbrev to_reading : Change → Option (Option ℤ)
  to_reading (Scheduled k g) = None
  to_reading (Posted k j i) = None
  to_reading (Withdrawn k j) = None
  to_reading (Read k m) = cond (eqb h k) (Some (Some m)) None
  to_reading (Unread k) = cond (eqb h k) (Some None) None

  reading_tells : Tells (λ log. was_read log h) (λ o. o) reading_change to_reading
  reading_tells = record { none = refl; more = more; is = is; made_is = made_is }
    where
      more : (c : Change) (log : List Change) → was_read (c ∷ log) h ≡ next (λ o. o) (to_reading c) (was_read log h)
      more (Scheduled k g) log = refl
      more (Posted k j i) log = refl
      more (Withdrawn k j) log = refl
      more (Read k m) log = chosen (λ o. o) (eqb h k) (Some m) (was_read log h)
      more (Unread k) log = chosen (λ o. o) (eqb h k) None (was_read log h)

      is : (c : Change) (w : Option ℤ) → to_reading c ≡ Some w → c ≡ reading_change w
      is (Scheduled k g) w e = never w e
      is (Posted k j i) w e = never w e
      is (Withdrawn k j) w e = never w e
      is (Read k m) w e = let p = met (eqb h k) (Some m) w e in ap (λ n. Read n m) (sym (eqb-true h k p.0)) ∙ ap reading_change p.1
      is (Unread k) w e = let p = met (eqb h k) None w e in ap Unread (sym (eqb-true h k p.0)) ∙ ap reading_change p.1

      made_is : (w : Option ℤ) → to_reading (reading_change w) ≡ Some w
      made_is None = ap (λ b. cond b (Some None) None) (eq-eqb h h refl)
      made_is (Some m) = ap (λ b. cond b (Some (Some m)) None) (eq-eqb h h refl)

  pub read_is_last : (log : List Change) (m : ℤ) → Exactly (was_read log h ≡ Some m) (Last (ToReading h) (Read h m) log)
  read_is_last log m = last_is (λ log. was_read log h) (λ o. o) reading_change to_reading reading_tells (ToReading h) of_kind is_kind m (Some m) refl (λ w e. e) log
    where
      of_kind : (w : Option ℤ) → ToReading h (reading_change w)
      of_kind None = inr refl
      of_kind (Some m) = inl (m, refl)

      is_kind : (c : Change) → ToReading h c → (w : Option ℤ) × (c ≡ reading_change w)
      is_kind c (inl (m, e)) = (Some m, e)
      is_kind c (inr e) = (None, e)
