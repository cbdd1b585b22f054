-- A pool that opens has a startd for each machine of which there is a mark.
use Rattle.std.proofs.Common.{◌≡◌, ◌⊎◌, inl, inr, ℕ, zero, suc, ◌+◌, ◌*◌, ◌^◌, ◌<◌, ◌≤◌, ◌==◌, Bool, true, false, ◌&&◌, List, [], ◌∷◌, length, Some, None, is_some, slice_get, if◌then◌else◌, refl, sym, ◌∙◌, ap, subst, arith}
use Rattle.std.proofs.lemmas.Bool.{eqb-false, eqb-true, or_cases}
use Rattle.std.proofs.lemmas.List.{length_push}
use Rattle.std.proofs.lemmas.Option.{none-some, same_Some, slice_get-get_or}
use Rattle.claim_id.specs.declared.numbers.SlotId.{SlotId}
use Rattle.pool_mail.specs.declared.slot_ad.SlotAd.{SlotAd}
use Rattle.pool_outer.specs.declared.gate.Daemon.{Daemon}
use Rattle.pool_outer.specs.declared.gate.Daemon.TheVariants.{Schedd, Startd}
use Rattle.pool_state.specs.declared.opening.Opening.{Opening}
use Rattle.pool_state.specs.declared.state.PoolState.{PoolState}
use Rattle.pool_state.specs.Openings.{CanOpen, IsOpenedBy, is_next_slot, machinery_of, machines_after, new_startd, opening_startds, startds_from}
use Rattle.pool_tables.specs.DaemonTables.{DaemonsValue, first_startds, first_state, daemon_state}
use Rattle.pool_view.proofs.Sameness.{both_true}
use Rattle.startd_core.specs.Startds.{StartdValue, with_slot}

-- ---- the startds of slots
next_machine : (machines slots : ℕ) (id : SlotId) → is_next_slot machines slots id ≡ true → (id.machine ≡ machines) ⊎ (id.machine + 1 ≡ machines)
next_machine machines slots id test = by (or_cases ((id.machine == machines) && (id.slot == 1)) ((id.machine + 1 == machines) && (id.slot == slots + 1)) test)
  where
    by : (((id.machine == machines) && (id.slot == 1)) ≡ true) ⊎ (((id.machine + 1 == machines) && (id.slot == slots + 1)) ≡ true) → (id.machine ≡ machines) ⊎ (id.machine + 1 ≡ machines)
    by (inl new) = inl (eqb-true id.machine machines (both_true (id.machine == machines) (id.slot == 1) new).0)
    by (inr old) = inr (eqb-true (id.machine + 1) machines (both_true (id.machine + 1 == machines) (id.slot == slots + 1) old).0)

-- the machine after one, or at the very beginning the first
abbrev IsAfter : ℕ → ℕ → Type 0
IsAfter machines first = (machines ≡ first + 1) ⊎ ((machines ≡ 0) × (first ≡ 0))

last_machine : (machines first count : ℕ) → IsAfter machines first → machines ≡ count → count ≤ first + 1
last_machine machines first count (inl after) is = omega (arith, after, is)
last_machine machines first count (inr start) is = let none = start.0 in omega (arith, none, is)

other_machine : (machines first machine : ℕ) → IsAfter machines first → (machine ≡ machines) ⊎ (machine + 1 ≡ machines) → (machine ≡ first → ⊥) → machine ≡ first + 1
other_machine machines first machine (inl after) (inl is) not = is ∙ after
other_machine machines first machine (inl after) (inr is) not = absurd (not (same machine first (is ∙ after)))
  where
    same : (a b : ℕ) → a + 1 ≡ b + 1 → a ≡ b
    same a b e = omega (arith, e)
other_machine machines first machine (inr start) (inl is) not = absurd (not (is ∙ (start.0 ∙ sym start.1)))
other_machine machines first machine (inr start) (inr is) not = absurd (never machine (is ∙ start.0))
  where
    never : (a : ℕ) → a + 1 ≡ 0 → ⊥
    never a e = omega (arith, e)

abbrev Follows : Opening → SlotAd → List SlotAd → ℕ → Type 0
Follows o s ss count = (u : StartdValue) (k : ℕ) → u.machine.number ≡ k → s.slot.machine + 1 ≡ k + 1 → machines_after (s.slot.machine + 1) s.slot.slot ss ≡ Some count → count ≤ k + length (startds_from (machinery_of o) u ss)

count_from : (o : Opening) (v : StartdValue) (ss : List SlotAd) (first machines slots count : ℕ) → v.machine.number ≡ first → IsAfter machines first → machines_after machines slots ss ≡ Some count → count ≤ first + length (startds_from (machinery_of o) v ss)
count_from o v [] first machines slots count number after is = last_machine machines first count after (same_Some machines count is)
count_from o v (s ∷ ss) first machines slots count number after is = by_next (is_next_slot machines slots s.slot) refl is
    (λ u k fresh at. count_from o u ss k (s.slot.machine + 1) s.slot.slot count fresh (inl at))
  where
    by_machine : (b : Bool) → (s.slot.machine == v.machine.number) ≡ b → (s.slot.machine ≡ machines) ⊎ (s.slot.machine + 1 ≡ machines) → machines_after (s.slot.machine + 1) s.slot.slot ss ≡ Some count → Follows o s ss count
        → count ≤ first + length (if b then startds_from (machinery_of o) (with_slot s.name s.ad v) ss else v ∷ startds_from (machinery_of o) (with_slot s.name s.ad (new_startd (machinery_of o) s.slot.machine)) ss)
    by_machine true test next is rest = rest (with_slot s.name s.ad v) first number (ap (λ n. n + 1) (eqb-true s.slot.machine v.machine.number test ∙ number)) is
    by_machine false test next is rest =
        let at : s.slot.machine ≡ first + 1 = other_machine machines first s.slot.machine after next (λ same. eqb-false s.slot.machine v.machine.number test (same ∙ sym number)) in
        one_more first (length (startds_from (machinery_of o) (with_slot s.name s.ad (new_startd (machinery_of o) s.slot.machine)) ss)) (rest (with_slot s.name s.ad (new_startd (machinery_of o) s.slot.machine)) (first + 1) at (ap (λ n. n + 1) at) is)
      where
        one_more : (n k : ℕ) → count ≤ (n + 1) + k → count ≤ n + suc k
        one_more n k small = omega (arith, small)

    by_next : (b : Bool) → is_next_slot machines slots s.slot ≡ b → (if b then machines_after (s.slot.machine + 1) s.slot.slot ss else None) ≡ Some count → Follows o s ss count
        → count ≤ first + length (if s.slot.machine == v.machine.number then startds_from (machinery_of o) (with_slot s.name s.ad v) ss else v ∷ startds_from (machinery_of o) (with_slot s.name s.ad (new_startd (machinery_of o) s.slot.machine)) ss)
    by_next false test is rest = absurd (none-some count is)
    by_next true test is rest = by_machine (s.slot.machine == v.machine.number) refl (next_machine machines slots s.slot test) is rest

machines_there : (o : Opening) (machine : ℕ) → CanOpen o → machine < length o.end_marks.items → machine < length (opening_startds o)
machines_there o machine can small =
    let all = count_from o (new_startd (machinery_of o) 0) o.slots 0 0 0 can.machines refl (inr (refl, refl)) can.slots_are in
    let marks = can.marks in
    omega (arith, all, marks, small)

-- ---- the daemons
so_many : (n boot : ℕ) (crashes : List Daemon) → length (first_startds n boot crashes) ≡ n
so_many zero boot crashes = refl
so_many (suc n) boot crashes = length_push (first_startds n boot crashes) (first_state boot (Startd n) crashes) ∙ more (length (first_startds n boot crashes)) n (so_many n boot crashes)
  where
    more : (k n : ℕ) → k ≡ n → k + 1 ≡ suc n
    more k n e = omega (arith, e)

first_there : (n boot : ℕ) (crashes : List Daemon) (machine : ℕ) → machine < n → is_some (slice_get (first_startds n boot crashes) machine) ≡ true
first_there n boot crashes machine small =
    let many = so_many n boot crashes in
    let within : machine < length (first_startds n boot crashes) = omega (arith, many, small) in
    ap is_some (slice_get-get_or (first_startds n boot crashes) machine (first_state boot Schedd crashes) within)

pub startds_there : (o : Opening) (s : PoolState) (machine : ℕ) → CanOpen o → IsOpenedBy o s → machine < length o.end_marks.items → is_some (daemon_state (Startd machine) s.daemons) ≡ true
startds_there o s machine can opened small =
    subst (λ (d : DaemonsValue). is_some (daemon_state (Startd machine) d) ≡ true) (sym opened.daemons)
    (first_there (length (opening_startds o)) (o.pool_boot * 2 ^ 32) o.allow.crashes machine (machines_there o machine can small))
