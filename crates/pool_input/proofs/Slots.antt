-- The slots of a configuration: each once, each of a machine that is there, and at least one.
use Rattle.std.proofs.Common.{◌≡◌, ◌≢◌, ◌∙◌, ℕ, zero, suc, ◌+◌, ◌<◌, ◌≤◌, List, [], ◌∷◌, ◌++◌, length, map, Bool, true, false, Some, None, refl, sym, ap, arith, if◌then◌else◌}
use Rattle.std.proofs.lemmas.List.{map-append}
use Rattle.pool_config.specs.Configuration.{Configuration, ConfiguredMachine, HaveSlots, IsWithinLimits}
use Rattle.pool_config.specs.Slots.{configured_slot, slots_upto, slots_from}
use Rattle.claim_id.specs.declared.numbers.SlotId.{SlotId}
use Rattle.pool_view.specs.Numbers.{same_slot}
use Rattle.pool_view.proofs.Sameness.{same_slot-true}
use Rattle.thin_pool.specs.declared.slot.PoolSlot.{PoolSlot}
use Rattle.thin_pool.specs.PoolValue.{AreNumberedOnce, slot_at}
use Rattle.pool_input.specs.Input.{pool_slot, pool_slots, ArePlaced}

-- ---- of any slots

-- what is so of each slot's number
abbrev Each : (SlotId → Type 0) → List PoolSlot → Type 0
Each P [] = Unit {0}
Each P (s ∷ ss) = P s.slot × Each P ss

each_both : (P : SlotId → Type 0) (xs ys : List PoolSlot) → Each P xs → Each P ys → Each P (xs ++ ys)
each_both P [] ys one other = other
each_both P (x ∷ xs) ys one other = (one.0, each_both P xs ys one.1 other)

each_more : (P Q : SlotId → Type 0) (xs : List PoolSlot) → ((id : SlotId) → P id → Q id) → Each P xs → Each Q xs
each_more P Q [] more each = tt
each_more P Q (x ∷ xs) more each = (more x.slot each.0, each_more P Q xs more each.1)

-- a number that differs from each isn't there
not_there : (id : SlotId) (xs : List PoolSlot) → Each (λ q. same_slot id q ≡ false) xs → slot_at id xs ≡ None
not_there id [] each = refl
not_there id (x ∷ xs) each = ap (λ (b : Bool). if b then Some x else slot_at id xs) each.0 ∙ not_there id xs each.1

not_in_both : (id : SlotId) (xs ys : List PoolSlot) → slot_at id xs ≡ None → slot_at id ys ≡ None → slot_at id (xs ++ ys) ≡ None
not_in_both id [] ys one other = other
not_in_both id (x ∷ xs) ys one other = by (same_slot id x.slot) one (λ rest. not_in_both id xs ys rest other)
  where
    by : (b : Bool) → (if b then Some x else slot_at id xs) ≡ None → (slot_at id xs ≡ None → slot_at id (xs ++ ys) ≡ None) → (if b then Some x else slot_at id (xs ++ ys)) ≡ None
    by true is more = cc
    by false is more = more is

once_both : (xs ys : List PoolSlot) → AreNumberedOnce xs → AreNumberedOnce ys → Each (λ id. slot_at id ys ≡ None) xs → AreNumberedOnce (xs ++ ys)
once_both [] ys one other apart = other
once_both (x ∷ xs) ys one other apart = (not_in_both x.slot xs ys one.0 apart.0, once_both xs ys one.1 other apart.1)

-- ---- of those of a configuration

abbrev of_machine : ℕ → ConfiguredMachine → ℕ → PoolSlot
of_machine place m n = pool_slot (configured_slot m (record { machine = place; slot = n }))

upto : ℕ → ConfiguredMachine → ℕ → List PoolSlot
upto place m n = map pool_slot (slots_upto place m n)

upto-suc : (place : ℕ) (m : ConfiguredMachine) (n : ℕ) → upto place m (suc n) ≡ upto place m n ++ of_machine place m (n + 1) ∷ []
unfolding upto slots_upto
upto-suc place m n = map-append pool_slot (slots_upto place m n) (configured_slot m (record { machine = place; slot = n + 1 }) ∷ [])

upto-zero : (place : ℕ) (m : ConfiguredMachine) → upto place m zero ≡ []
unfolding upto slots_upto
upto-zero place m = refl

-- each is of the machine, and numbered up to that one
abbrev IsUpto : ℕ → ℕ → SlotId → Type 0
IsUpto place n id = (id.machine ≡ place) × (id.slot ≤ n)

each_upto : (place : ℕ) (m : ConfiguredMachine) (n : ℕ) → Each (IsUpto place n) (upto place m n)
each_upto place m zero = rw upto-zero tt
each_upto place m (suc n) =
    rw upto-suc
    (each_both (IsUpto place (suc n)) (upto place m n) (of_machine place m (n + 1) ∷ [])
    (each_more (IsUpto place n) (IsUpto place (suc n)) (upto place m n) (λ id is. (is.0, let below = is.1 in omega arith)) (each_upto place m n))
    ((refl, omega arith), tt))

-- a number that is told apart from the last one
apart_from : (place : ℕ) (m : ConfiguredMachine) (n : ℕ) (id : SlotId) → IsUpto place n id → slot_at id (of_machine place m (n + 1) ∷ []) ≡ None
apart_from place m n id is = by (same_slot id (of_machine place m (n + 1)).slot) refl
  where
    by : (b : Bool) → same_slot id (of_machine place m (n + 1)).slot ≡ b → (if b then Some (of_machine place m (n + 1)) else None) ≡ None
    by true same = let its : id.slot ≡ n + 1 = ap (λ (q : SlotId). q.slot) (same_slot-true id (of_machine place m (n + 1)).slot same) in let below = is.1 in absurd (omega arith)
    by false same = refl

once_upto : (place : ℕ) (m : ConfiguredMachine) (n : ℕ) → AreNumberedOnce (upto place m n)
once_upto place m zero = rw upto-zero tt
once_upto place m (suc n) = rw upto-suc (once_both (upto place m n) (of_machine place m (n + 1) ∷ []) (once_upto place m n) (refl, tt) (each_more (IsUpto place n) (λ id. slot_at id (of_machine place m (n + 1) ∷ []) ≡ None) (upto place m n) (apart_from place m n) (each_upto place m n)))

all_from : ℕ → List ConfiguredMachine → List PoolSlot
all_from place ms = map pool_slot (slots_from place ms)

all_from-nil : (place : ℕ) → all_from place [] ≡ []
unfolding all_from slots_from
all_from-nil place = refl

all_from-cons : (place : ℕ) (m : ConfiguredMachine) (ms : List ConfiguredMachine) → all_from place (m ∷ ms) ≡ upto place m m.slots ++ all_from (place + 1) ms
unfolding all_from upto slots_from
all_from-cons place m ms = map-append pool_slot (slots_upto place m m.slots) (slots_from (place + 1) ms)

abbrev IsFrom : ℕ → ℕ → SlotId → Type 0
IsFrom place end id = (place ≤ id.machine) × (id.machine < end)

each_from : (place : ℕ) (ms : List ConfiguredMachine) → Each (IsFrom place (place + length ms)) (all_from place ms)
each_from place [] = rw all_from-nil tt
each_from place (m ∷ ms) =
    rw all_from-cons
    (each_both (IsFrom place (place + length (m ∷ ms))) (upto place m m.slots) (all_from (place + 1) ms)
    (each_more (IsUpto place m.slots) (IsFrom place (place + length (m ∷ ms))) (upto place m m.slots) (λ id is. let own = is.0 in (omega arith, omega arith)) (each_upto place m m.slots))
    (each_more (IsFrom (place + 1) ((place + 1) + length ms)) (IsFrom place (place + length (m ∷ ms))) (all_from (place + 1) ms) (λ id is. let low = is.0 in let high = is.1 in (omega arith, omega arith)) (each_from (place + 1) ms)))

-- the slots of later machines have other numbers
other_machine : (place end : ℕ) (id : SlotId) (xs : List PoolSlot) → id.machine ≡ place → Each (IsFrom (place + 1) end) xs → slot_at id xs ≡ None
other_machine place end id xs own each = not_there id xs (each_more (IsFrom (place + 1) end) (λ q. same_slot id q ≡ false) xs (λ q is. by q is (same_slot id q) refl) each)
  where
    by : (q : SlotId) → IsFrom (place + 1) end q → (b : Bool) → same_slot id q ≡ b → same_slot id q ≡ false
    by q is true same = let its : id.machine ≡ q.machine = ap (λ (x : SlotId). x.machine) (same_slot-true id q same) in let low = is.0 in absurd (omega arith)
    by q is false same = same

once_from : (place : ℕ) (ms : List ConfiguredMachine) → AreNumberedOnce (all_from place ms)
once_from place [] = rw all_from-nil tt
once_from place (m ∷ ms) =
    rw all_from-cons
    (once_both (upto place m m.slots) (all_from (place + 1) ms) (once_upto place m m.slots) (once_from (place + 1) ms)
    (each_more (IsUpto place m.slots) (λ id. slot_at id (all_from (place + 1) ms) ≡ None) (upto place m m.slots) (λ id is. other_machine place ((place + 1) + length ms) id (all_from (place + 1) ms) is.0 (each_from (place + 1) ms)) (each_upto place m m.slots)))

all_of : (end : ℕ) (xs : List PoolSlot) → Each (IsFrom 0 end) xs → ArePlaced xs end
all_of end [] each k d below = absurd (omega arith)
all_of end (x ∷ xs) each zero d below = each.0.1
all_of end (x ∷ xs) each (suc k) d below = all_of end xs each.1 k d (omega arith)

more_places : (m n : ℕ) (xs : List PoolSlot) → m ≤ n → ArePlaced xs m → ArePlaced xs n
more_places m n xs more placed k d below = let is = placed k d below in omega arith

pub slots_once : (c : Configuration) → AreNumberedOnce (pool_slots c)
unfolding all_from
slots_once c = once_from 0 c.machines

pub slots_placed : (c : Configuration) → IsWithinLimits c → ArePlaced (pool_slots c) 64
unfolding all_from
slots_placed c within = more_places (0 + length c.machines) 64 (pool_slots c) (let few = within.machines in omega arith) (all_of (0 + length c.machines) (pool_slots c) (each_from 0 c.machines))

no_snoc : {A : Type 0} (xs : List A) (x : A) (ys : List A) → (xs ++ x ∷ []) ++ ys ≡ [] → ⊥
no_snoc [] x ys e = cc
no_snoc (y ∷ xs) x ys e = cc

some_upto : (place : ℕ) (m : ConfiguredMachine) (n : ℕ) (ys : List PoolSlot) → 0 < n → upto place m n ++ ys ≡ [] → ⊥
some_upto place m zero ys some e = absurd (omega arith)
some_upto place m (suc n) ys some e = no_snoc (upto place m n) (of_machine place m (n + 1)) ys (ap (λ (l : List PoolSlot). l ++ ys) (sym (upto-suc place m n)) ∙ e)

some_from : (place : ℕ) (ms : List ConfiguredMachine) → 0 < length ms → HaveSlots ms → all_from place ms ≢ []
some_from place [] some each e = absurd (omega arith)
some_from place (m ∷ ms) some each e = some_upto place m m.slots (all_from (place + 1) ms) each.0 (sym (all_from-cons place m ms) ∙ e)

pub slots_some : (c : Configuration) → IsWithinLimits c → HaveSlots c.machines → pool_slots c ≢ []
unfolding all_from
slots_some c within each = some_from 0 c.machines within.some each
