-- The slots of machines as parts of the protocol, over moves of one slot, and of a machine's slots
-- one after the other.
use Rattle.std.proofs.Common.{◌≡◌, ◌≢◌, ◌⊎◌, inl, inr, ℕ, zero, suc, ◌+◌, Bool, true, false, List, [], ◌∷◌, ◌++◌, map, Some, slice_get, slice_set, refl, sym, ◌∙◌, ap, subst, arith}
use Rattle.std.proofs.lemmas.List.{map-append}
use Rattle.std.proofs.lemmas.Option.{none-some, same_Some}
use Rattle.claim_id.specs.declared.numbers.SlotId.{SlotId}
use Rattle.pool_view.specs.AbstractPool.{IsIn}
use Rattle.pool_view.specs.Numbers.{same_slot}
use Rattle.pool_view.specs.Safe.{Safe}
use Rattle.pool_view.proofs.Sameness.{same_slot-true}
use Rattle.pool_view.specs.Facts.{Facts}
use Rattle.pool_view.specs.Protocol.{Protocol}
use Rattle.pool_view.specs.ProtocolMove.{ProtocolMove, MayAll, protocol_after_all}
use Rattle.pool_view.specs.SlotPart.{SlotPart, IsPart, part_after, part_after_all}
use Rattle.pool_view.proofs.Whole.{part_on_all}
use Rattle.startd_slot.specs.declared.slot.Slot.{Slot}
use Rattle.startd_slot.specs.SlotMoves.{part_of}
use Rattle.startd_core.specs.Sound.{IsSlotAt, IsSound}
use Rattle.startd_core.specs.Startds.{StartdValue}
use Rattle.pool_rules.specs.PoolParts.{machine_parts, pool_parts}
use Rattle.pool_rules.specs.StartdEvents.{moves_of_all}
use Rattle.pool_rules.proofs.Going.{all_good, may_append}
use Rattle.pool_rules.proofs.Owned.{AreOwn, far_moves}

-- ---- lists
pub in_place : {A : Type 0} (x : A) (xs : List A) → IsIn x xs → (place : ℕ) × (slice_get xs place ≡ Some x)
in_place x [] there = absurd there
in_place x (y ∷ ys) (inl same) = (zero, ap (λ z. Some z) (sym same))
in_place x (y ∷ ys) (inr there) = let found = in_place x ys there in (suc found.0, found.1)

pub at_place : {A : Type 0} (x : A) (xs : List A) (place : ℕ) → slice_get xs place ≡ Some x → IsIn x xs
at_place x [] place is = absurd (none-some x is)
at_place x (y ∷ ys) zero is = inl (sym (same_Some y x is))
at_place x (y ∷ ys) (suc place) is = inr (at_place x ys place is)

-- what stands at a place of a list of which one place was put anew
pub put_cases : {A : Type 0} (xs : List A) (i place : ℕ) (new x : A) → slice_get (slice_set xs i new) place ≡ Some x → ((place ≡ i) × (x ≡ new)) ⊎ ((place ≢ i) × (slice_get xs place ≡ Some x))
put_cases [] i place new x is = absurd (none-some x is)
put_cases (y ∷ ys) zero zero new x is = inl (refl, sym (same_Some new x is))
put_cases (y ∷ ys) zero (suc place) new x is = inr ((λ e. cc), is)
put_cases (y ∷ ys) (suc i) zero new x is = inr ((λ e. cc), is)
put_cases (y ∷ ys) (suc i) (suc place) new x is = later (put_cases ys i place new x is)
  where
    later : ((place ≡ i) × (x ≡ new)) ⊎ ((place ≢ i) × (slice_get ys place ≡ Some x)) → ((suc place ≡ suc i) × (x ≡ new)) ⊎ ((suc place ≢ suc i) × (slice_get ys place ≡ Some x))
    later (inl here) = inl (ap suc here.0, here.1)
    later (inr other) = inr ((λ e. other.0 (let same : place ≡ i = omega (arith, e) in same)), other.1)

-- a change of each thing that is the putting anew of one place
pub changed_at : {A B : Type 0} (g : A → B) (f : B → B) (xs : List A) (i : ℕ) (x y : A) → slice_get xs i ≡ Some x → f (g x) ≡ g y → ((k : ℕ) (z : A) → slice_get xs k ≡ Some z → k ≢ i → f (g z) ≡ g z)
    → map f (map g xs) ≡ map g (slice_set xs i y)
changed_at g f [] i x y is new others = absurd (none-some x is)
changed_at g f (z ∷ zs) zero x y is new others =
    let here : f (g z) ≡ g y = ap (λ w. f (g w)) (same_Some z x is) ∙ new in
    ap (λ w. w ∷ map f (map g zs)) here ∙ ap (λ ws. g y ∷ ws) (unchanged_all g f zs (λ k w at. others (suc k) w at (λ e. cc)))
  where
    unchanged_all : {A B : Type 0} (g : A → B) (f : B → B) (xs : List A) → ((k : ℕ) (z : A) → slice_get xs k ≡ Some z → f (g z) ≡ g z) → map f (map g xs) ≡ map g xs
    unchanged_all g f [] same = refl
    unchanged_all g f (w ∷ ws) same = ap (λ u. u ∷ map f (map g ws)) (same zero w refl) ∙ ap (λ us. g w ∷ us) (unchanged_all g f ws (λ k u at. same (suc k) u at))
changed_at g f (z ∷ zs) (suc i) x y is new others =
    ap (λ w. w ∷ map f (map g zs)) (others zero z refl (λ e. cc))
    ∙ ap (λ ws. g z ∷ ws) (changed_at g f zs i x y is new (λ k w at other. others (suc k) w at (λ e. other (let same : k ≡ i = omega (arith, e) in same))))

pub unchanged : {A B : Type 0} (g : A → B) (f : B → B) (xs : List A) → ((z : A) → IsIn z xs → f (g z) ≡ g z) → map f (map g xs) ≡ map g xs
unchanged g f [] same = refl
unchanged g f (w ∷ ws) same = ap (λ u. u ∷ map f (map g ws)) (same w (inl refl)) ∙ ap (λ us. g w ∷ us) (unchanged g f ws (λ u there. same u (inr there)))

-- ---- all machines, of which one has changed
rest_same : (f : SlotPart → SlotPart) (vs : List StartdValue) → ((k : ℕ) (u : StartdValue) → slice_get vs k ≡ Some u → map f (machine_parts u) ≡ machine_parts u) → map f (pool_parts vs) ≡ pool_parts vs
rest_same f [] same = refl
rest_same f (u ∷ us) same =
    map-append f (machine_parts u) (pool_parts us)
    ∙ (ap (λ xs. xs ++ map f (pool_parts us)) (same zero u refl) ∙ ap (λ xs. machine_parts u ++ xs) (rest_same f us (λ k x at. same (suc k) x at)))

pub pool_changed : (f : SlotPart → SlotPart) (vs : List StartdValue) (i : ℕ) (v w : StartdValue) → slice_get vs i ≡ Some v → map f (machine_parts v) ≡ machine_parts w
    → ((k : ℕ) (u : StartdValue) → slice_get vs k ≡ Some u → k ≢ i → map f (machine_parts u) ≡ machine_parts u) → map f (pool_parts vs) ≡ pool_parts (slice_set vs i w)
pool_changed f [] i v w is new others = absurd (none-some v is)
pool_changed f (u ∷ us) zero v w is new others =
    map-append f (machine_parts u) (pool_parts us)
    ∙ (ap (λ xs. xs ++ map f (pool_parts us)) (ap (λ x. map f (machine_parts x)) (same_Some u v is) ∙ new)
    ∙ ap (λ xs. machine_parts w ++ xs) (rest_same f us (λ k x at. others (suc k) x at (λ e. cc))))
pool_changed f (u ∷ us) (suc i) v w is new others =
    map-append f (machine_parts u) (pool_parts us)
    ∙ (ap (λ xs. xs ++ map f (pool_parts us)) (others zero u refl (λ e. cc))
    ∙ ap (λ xs. machine_parts u ++ xs) (pool_changed f us i v w is new (λ k x at other. others (suc k) x at (λ e. other (let same : k ≡ i = omega (arith, e) in same)))))

-- ---- slots apart
pub apart : (a b : SlotId) → a ≢ b → same_slot a b ≡ false
apart a b other = by (same_slot a b) refl
  where
    by : (b2 : Bool) → same_slot a b ≡ b2 → b2 ≡ false
    by true is = absurd (other (same_slot-true a b is))
    by false is = refl

-- slots of different machines
pub other_machine : (a b : SlotId) → a.machine ≢ b.machine → same_slot a b ≡ false
other_machine a b other = apart a b (λ e. other (ap (λ (x : SlotId). x.machine) e))

-- slots of different places
pub other_place : (m : _) (k j : ℕ) (s t : Slot) → IsSlotAt m k s → IsSlotAt m j t → k ≢ j → same_slot s.id t.id ≡ false
other_place m k j s t here there other = apart s.id t.id (λ e.
    other (let number : k + 1 ≡ j + 1 = sym (ap (λ (x : SlotId). x.slot) here.numbered) ∙ (ap (λ (x : SlotId). x.slot) e ∙ ap (λ (x : SlotId). x.slot) there.numbered) in
    let same : k ≡ j = omega (arith, number) in same))

-- moves that change no slot but those of a machine
abbrev pub AreFarFrom : ℕ → List ProtocolMove → Type 0
AreFarFrom machine ms = (s : SlotPart) → s.slot.machine ≢ machine → part_after_all ms s ≡ s

pub own_far : (slot : SlotId) (machine : ℕ) (ms : List ProtocolMove) → slot.machine ≡ machine → AreOwn slot ms → AreFarFrom machine ms
own_far slot machine ms is own s other = far_moves slot ms s own (other_machine s.slot slot (λ e. other (e ∙ is)))

-- the slots of another machine stay
pub machine_same : (ms : List ProtocolMove) (machine k : ℕ) (u : StartdValue) → AreFarFrom machine ms → IsSound u → u.machine.number ≡ k → k ≢ machine → map (part_after_all ms) (machine_parts u) ≡ machine_parts u
machine_same ms machine k u far sound number other = unchanged (part_of u.machine.boot) (part_after_all ms) u.slots (λ s there. far (part_of u.machine.boot s) (λ e.
    (let found = in_place s u.slots there in
    let its = (sound.slots found.0 s found.1).numbered in
    other (sym number ∙ (sym (ap (λ (x : SlotId). x.machine) its) ∙ e)))))

-- ---- one slot of a machine
pub slot_changed : (v : StartdValue) (place : ℕ) (slot new : Slot) (ms : List ProtocolMove) → IsSound v → slice_get v.slots place ≡ Some slot → AreOwn slot.id ms
    → part_after_all ms (part_of v.machine.boot slot) ≡ part_of v.machine.boot new
    → map (part_after_all ms) (machine_parts v) ≡ map (part_of v.machine.boot) (slice_set v.slots place new)
slot_changed v place slot new ms sound at own changed =
    changed_at (part_of v.machine.boot) (part_after_all ms) v.slots place slot new at changed
    (λ k s there other. far_moves slot.id ms (part_of v.machine.boot s) own (other_place v.machine k place s slot (sound.slots k s there) (sound.slots place slot at) other))

-- ---- the slots of a machine, one after the other
abbrev pub AreApart : List Slot → Type 0
AreApart [] = Unit {0}
AreApart (s ∷ ss) = ((t : Slot) → IsIn t ss → same_slot t.id s.id ≡ false) × AreApart ss

-- slots from a place on are apart
apart_from : (m : _) (from : ℕ) (slots : List Slot) → ((k : ℕ) (s : Slot) → slice_get slots k ≡ Some s → IsSlotAt m (from + k) s) → AreApart slots
apart_from m from [] sound = tt
apart_from m from (s ∷ ss) sound = (
  λ t there. (let found = in_place t ss there in
      let other : from + suc found.0 ≢ from + zero = (λ e. omega (arith, e)) in
      other_place m (from + suc found.0) (from + zero) t s (sound (suc found.0) t found.1) (sound zero s refl) other),
  apart_from m (from + 1) ss (λ k t at. (let e : from + suc k ≡ from + 1 + k = omega arith in subst (λ n. IsSlotAt m n t) e (sound (suc k) t at))),
)

pub sound_apart : (v : StartdValue) → IsSound v → AreApart v.slots
sound_apart v sound = apart_from v.machine 0 v.slots (λ k s at. (let e : k ≡ 0 + k = omega arith in subst (λ n. IsSlotAt v.machine n s) e (sound.slots k s at)))

far_apart : (a b : SlotId) → same_slot a b ≡ false → same_slot b a ≡ false
far_apart a b far = apart b a (λ e. (let clash : same_slot a b ≡ true = ap (same_slot a) e ∙ same_slot-self a in cc))
  where
    same_slot-self : (a : SlotId) → same_slot a a ≡ true
    same_slot-self a = Rattle.pool_view.proofs.Sameness.same_slot-same a

module _ (boot : ℕ) (moves : Slot → List ProtocolMove) where
  append_parts : (ms ns : List ProtocolMove) (s : SlotPart) → part_after_all (ms ++ ns) s ≡ part_after_all ns (part_after_all ms s)
  append_parts [] ns s = refl
  append_parts (m ∷ ms) ns s = append_parts ms ns (part_after m s)

  -- a slot that is none of them stays
  all_far : (slots : List Slot) (s : SlotPart) → ((t : Slot) → IsIn t slots → AreOwn t.id (moves t)) → ((t : Slot) → IsIn t slots → same_slot s.slot t.id ≡ false) → part_after_all (moves_of_all moves slots) s ≡ s
  all_far [] s own far = refl
  all_far (t ∷ ts) s own far =
      append_parts (moves t) (moves_of_all moves ts) s
      ∙ (ap (part_after_all (moves_of_all moves ts)) (far_moves t.id (moves t) s (own t (inl refl)) (far t (inl refl)))
      ∙ all_far ts s (λ u there. own u (inr there)) (λ u there. far u (inr there)))

  pub all_far_from : (machine : ℕ) (slots : List Slot) → ((t : Slot) → IsIn t slots → AreOwn t.id (moves t) × (t.id.machine ≡ machine)) → AreFarFrom machine (moves_of_all moves slots)
  all_far_from machine slots own s other = all_far slots s (λ t there. (own t there).0) (λ t there. other_machine s.slot t.id (λ e. other (e ∙ (own t there).1)))

  -- each of them changes by its own moves
  pub all_changed : (slots : List Slot) (after : Slot → SlotPart) → AreApart slots → ((t : Slot) → IsIn t slots → AreOwn t.id (moves t))
      → ((t : Slot) → IsIn t slots → (part_after_all (moves t) (part_of boot t) ≡ after t) × ((after t).slot ≡ t.id))
      → map (part_after_all (moves_of_all moves slots)) (map (part_of boot) slots) ≡ map after slots
  all_changed slots after distinct own changed = each slots (λ t there. at slots t distinct own changed there)
    where
      each : (xs : List Slot) → ((t : Slot) → IsIn t xs → part_after_all (moves_of_all moves slots) (part_of boot t) ≡ after t) → map (part_after_all (moves_of_all moves slots)) (map (part_of boot) xs) ≡ map after xs
      each [] same = refl
      each (x ∷ xs) same = ap (λ u. u ∷ map (part_after_all (moves_of_all moves slots)) (map (part_of boot) xs)) (same x (inl refl)) ∙ ap (λ us. after x ∷ us) (each xs (λ t there. same t (inr there)))

      at : (xs : List Slot) (t : Slot) → AreApart xs → ((u : Slot) → IsIn u xs → AreOwn u.id (moves u)) → ((u : Slot) → IsIn u xs → (part_after_all (moves u) (part_of boot u) ≡ after u) × ((after u).slot ≡ u.id)) → IsIn t xs → part_after_all (moves_of_all moves xs) (part_of boot t) ≡ after t
      at [] t distinct own changed there = absurd there
      at (x ∷ xs) t distinct own changed (inl same) =
          append_parts (moves x) (moves_of_all moves xs) (part_of boot t)
          ∙ (ap (λ y. part_after_all (moves_of_all moves xs) (part_after_all (moves x) (part_of boot y))) same
          ∙ (ap (part_after_all (moves_of_all moves xs)) (changed x (inl refl)).0
          ∙ (all_far xs (after x) (λ u there. own u (inr there)) (λ u there. ap (λ q. same_slot q u.id) (changed x (inl refl)).1 ∙ far_apart u.id x.id (distinct.0 u there))
          ∙ ap after (sym same))))
      at (x ∷ xs) t distinct own changed (inr there) =
          append_parts (moves x) (moves_of_all moves xs) (part_of boot t)
          ∙ (ap (part_after_all (moves_of_all moves xs)) (far_moves x.id (moves x) (part_of boot t) (own x (inl refl)) (distinct.0 t there))
          ∙ at xs t distinct.1 (λ u h. own u (inr h)) (λ u h. changed u (inr h)) there)

  -- they may all be made
  pub all_may : (p : Protocol) (slots : List Slot) → Facts p → Safe p.pool → AreApart slots → ((t : Slot) → IsIn t slots → AreOwn t.id (moves t)) → ((t : Slot) → IsIn t slots → IsPart p (part_of boot t))
      → ((q : Protocol) (t : Slot) → IsIn t slots → Facts q → Safe q.pool → IsPart q (part_of boot t) → MayAll q (moves t)) → MayAll p (moves_of_all moves slots)
  all_may p [] facts safe distinct own parts may = tt
  all_may p (t ∷ ts) facts safe distinct own parts may =
      let first : MayAll p (moves t) = may p t (inl refl) facts safe (parts t (inl refl)) in
      let next = all_good p (moves t) first facts safe in
      may_append p (moves t) (moves_of_all moves ts) first
      (all_may (protocol_after_all p (moves t)) ts next.0 next.1 distinct.1 (λ u there. own u (inr there))
      (λ u there. subst (IsPart (protocol_after_all p (moves t))) (far_moves t.id (moves t) (part_of boot u) (own t (inl refl)) (distinct.0 u there))
      (part_on_all p (moves t) (part_of boot u) facts safe first (parts u (inr there))))
      (λ q u there. may q u (inr there)))
