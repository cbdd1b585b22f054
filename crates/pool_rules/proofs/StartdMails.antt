-- A startd that receives a mail, or in which a run ends, keeps the links.
use Rattle.std.proofs.Common.{◌≡◌, ◌≢◌, ◌⊎◌, inl, inr, ℕ, zero, suc, ◌+◌, ◌-◌, ◌<◌, ◌==◌, nat_lt, nat_le, Bool, true, false, ◌&&◌, List, [], ◌∷◌, ◌++◌, length, map, Option, Some, None, IsSome, IfSome, slice_get, slice_set, refl, sym, ◌∙◌, ap, subst, arith, if◌then◌else◌}
use Rattle.std.proofs.lemmas.Bool.{eqb-true, ltb-true}
use Rattle.std.proofs.lemmas.Option.{none-some, same_Some}
use Rattle.ad_eval.specs.Judgement.{Judgement}
use Rattle.claim_id.specs.declared.numbers.ClaimNo.{ClaimNo}
use Rattle.claim_id.specs.declared.numbers.RunNo.{RunNo}
use Rattle.claim_id.specs.declared.numbers.SlotId.{SlotId}
use Rattle.pool_mail.specs.Mails.{receivers_of}
use Rattle.pool_mail.specs.declared.mail.Mail.{Mail}
use Rattle.pool_mail.specs.declared.mail.Mail.TheVariants.{Update, Matched, Ask, Granted, Denied, Activate, Alive, Seen, Stop, Release, Gone, Ended, Remove, Hold, Resume}
use Rattle.pool_outer.specs.declared.gate.Daemon.{Daemon}
use Rattle.pool_outer.specs.declared.gate.Daemon.TheVariants.{Schedd, Startd, Matchmaker}
use Rattle.pool_view.specs.AbstractPool.{IsIn}
use Rattle.pool_view.specs.declared.mark.SlotMark.{SlotMark}
use Rattle.pool_view.specs.declared.run.EndReport.{EndReport}
use Rattle.pool_view.proofs.Sameness.{both_true}
use Rattle.pool_view.specs.Protocol.{Protocol}
use Rattle.pool_view.specs.ProtocolMove.{ProtocolMove, MayAll, protocol_after_all}
use Rattle.pool_view.specs.SlotPart.{SlotPart, part_after_all, part_at}
use Rattle.pool_view.proofs.Whole.{part_found}
use Rattle.startd_slot.specs.declared.reaction.Reaction.{Reaction}
use Rattle.startd_slot.specs.declared.slot.Slot.{Slot}
use Rattle.startd_slot.specs.declared.slot.SlotState.{SlotState}
use Rattle.startd_slot.specs.Mails.{asked_claim, reaction_to}
use Rattle.startd_slot.specs.SlotMoves.{IsJudgedHere, IsTold, moves_of_mail, part_of}
use Rattle.startd_slot.proofs.MoveMails.{mail_changes, mail_may}
use Rattle.startd_core.specs.declared.answer.StartdStep.{StartdStep}
use Rattle.startd_core.specs.Offers.{Settled, settled, settled_open, has_changed}
use Rattle.startd_core.specs.Sound.{IsSlotAt, IsSound}
use Rattle.startd_core.specs.Startds.{StartdValue, after_mail, after_made, concluded, made_by, nothing_done, nowhere, place_of, put_at, put_in, received_at, received_in, received_of, slot_in, slot_of, slot_of_claim, stranger_step, told, with_conclusion}
use Rattle.startd_core.proofs.Places.{slot_there}
use Rattle.startd_core.proofs.Stays.{mail_put}
use Rattle.startd_core.proofs.Telling.{concluded_part}
use Rattle.pool_rules.specs.Linked.{IsPlaced, IsBorneOut, AreBorneOut, IsEndReported, IsLinked, IsStartdAt, StayLinked, ended_of}
use Rattle.pool_rules.specs.PoolParts.{PoolParts, machine_parts, pool_parts, slot_in_pool, slot_of_startd}
use Rattle.pool_rules.specs.StartdEvents.{moves_in_slot, moves_of_startd_mail, parts_with_startd}
use Rattle.pool_rules.proofs.Going.{GoesOn, goes_on, reported_on}
use Rattle.pool_rules.proofs.Kept.{in_first, in_second, in_both, startd_event}
use Rattle.pool_rules.proofs.Machines.{at_place, in_place, own_far, put_cases, slot_changed, unchanged}
use Rattle.pool_rules.proofs.Owned.{AreOwn, own_are_startd, said_by_all}
use Rattle.pool_rules.proofs.SlotRows.{KeepsEnd, mail_facts, none_borne, one_borne}

-- ---- a slot of the pool
-- the number of a place
pub place_is : (v : StartdValue) (id : SlotId) (place : ℕ) → place_of v id ≡ Some place → id ≡ record { machine = v.machine.number; slot = place + 1 }
place_is v id place is = by ((id.machine == v.machine.number) && nat_lt 0 id.slot && nat_le id.slot (length v.slots)) refl is
  where
    numbered : (machine slot : ℕ) → id.machine ≡ machine → id.slot ≡ slot → id ≡ record { machine = machine; slot = slot }
    numbered machine slot m s = λ i. record { machine = m i; slot = s i }

    by : (b : Bool) → ((id.machine == v.machine.number) && nat_lt 0 id.slot && nat_le id.slot (length v.slots)) ≡ b → (if b then Some (id.slot - 1) else None) ≡ Some place → id ≡ record { machine = v.machine.number; slot = place + 1 }
    by true test now =
        let first = both_true ((id.machine == v.machine.number) && nat_lt 0 id.slot) (nat_le id.slot (length v.slots)) test in
        let both = both_true (id.machine == v.machine.number) (nat_lt 0 id.slot) first.0 in
        let machine : id.machine ≡ v.machine.number = eqb-true id.machine v.machine.number both.0 in
        let above : 0 < id.slot = ltb-true 0 id.slot both.1 in
        let number : id.slot - 1 ≡ place = same_Some (id.slot - 1) place now in
        let slot : id.slot ≡ place + 1 = omega (arith, above, number) in
        numbered v.machine.number (place + 1) machine slot
    by false test now = absurd (none-some place now)

in_mapped : (f : Slot → SlotPart) (x : Slot) (xs : List Slot) → IsIn x xs → IsIn (f x) (map f xs)
in_mapped f x [] there = absurd there
in_mapped f x (y ∷ ys) (inl same) = inl (ap f same)
in_mapped f x (y ∷ ys) (inr there) = inr (in_mapped f x ys there)

mapped_in : (f : Slot → SlotPart) (xs : List Slot) (y : SlotPart) → IsIn y (map f xs) → (x : Slot) × IsIn x xs × (y ≡ f x)
mapped_in f [] y there = absurd there
mapped_in f (x ∷ xs) y (inl same) = (x, inl refl, same)
mapped_in f (x ∷ xs) y (inr there) = let found = mapped_in f xs y there in (found.0, inr found.1, found.2)

pub in_pool : (vs : List StartdValue) (machine : ℕ) (v : StartdValue) (slot : Slot) → slice_get vs machine ≡ Some v → IsIn slot v.slots → IsIn (part_of v.machine.boot slot) (pool_parts vs)
in_pool [] machine v slot at there = absurd (none-some v at)
in_pool (u ∷ us) zero v slot at there = in_first (part_of v.machine.boot slot) (machine_parts u) (pool_parts us)
    (subst (λ w. IsIn (part_of v.machine.boot slot) (machine_parts w)) (sym (same_Some u v at)) (in_mapped (part_of v.machine.boot) slot v.slots there))
in_pool (u ∷ us) (suc machine) v slot at there = in_second (part_of v.machine.boot slot) (machine_parts u) (pool_parts us) (in_pool us machine v slot at there)

-- a part of the pool is a slot of a machine
pub record InMachine (vs : List StartdValue) (s : SlotPart) : Type 0 where
  pub machine : ℕ
  pub startd : StartdValue
  pub at : slice_get vs machine ≡ Some startd
  pub slot : Slot
  pub there : IsIn slot startd.slots
  pub is : s ≡ part_of startd.machine.boot slot

pub of_pool : (vs : List StartdValue) (s : SlotPart) → IsIn s (pool_parts vs) → InMachine vs s
of_pool [] s there = absurd there
of_pool (u ∷ us) s there = by (in_both s (machine_parts u) (pool_parts us) there) (of_pool us s)
  where
    by : IsIn s (machine_parts u) ⊎ IsIn s (pool_parts us) → (IsIn s (pool_parts us) → InMachine us s) → InMachine (u ∷ us) s
    by (inl here) rest = let found = mapped_in (part_of u.machine.boot) u.slots s here in record { machine = zero; startd = u; at = refl; slot = found.0; there = found.1; is = found.2 }
    by (inr later) rest = let found = rest later in record { machine = suc found.machine; startd = found.startd; at = found.at; slot = found.slot; there = found.there; is = found.is }

-- a slot of the pool that is of the machine is one of its startd's
pub placed_slot : (p : Protocol) (a : PoolParts) (machine : ℕ) (v : StartdValue) (id : SlotId) → IsLinked p a → slice_get a.startds machine ≡ Some v → id.machine ≡ machine → IsSome (p.pool.marks id) → place_of v id ≡ None → ⊥
placed_slot p a machine v id linked at is marked none = by (part_at id (pool_parts a.startds)) refl
  where
    no_mark : (o : Option SlotMark) → o ≡ None → IsSome o → ⊥
    no_mark None is some = cc
    no_mark (Some m) is some = cc

    same_startd : (k : ℕ) (u : StartdValue) → slice_get a.startds k ≡ Some u → k ≡ machine → u ≡ v
    same_startd k u there same = same_Some u v (sym there ∙ (ap (slice_get a.startds) same ∙ at))

    in_machine : (s : SlotPart) → s.slot ≡ id → InMachine a.startds s → ⊥
    in_machine s its found =
        let l = linked.startds found.machine found.startd found.at in
        let place = in_place found.slot found.startd.slots found.there in
        let numbered = l.sound.slots place.0 found.slot place.1 in
        let slot_is : found.slot.id ≡ id = sym (ap (λ (x : SlotPart). x.slot) found.is) ∙ its in
        let number : found.machine ≡ machine = sym l.numbered ∙ (sym (ap (λ (x : SlotId). x.machine) numbered.numbered) ∙ (ap (λ (x : SlotId). x.machine) slot_is ∙ is)) in
        let same : found.startd ≡ v = same_startd found.machine found.startd found.at number in
        let here : slot_of found.startd id ≡ Some found.slot = ap (slot_of found.startd) (sym slot_is) ∙ slot_there found.startd place.0 found.slot place.1 numbered in
        let nowhere : slot_of v id ≡ None = ap (slot_in v) none in
        none-some found.slot (sym nowhere ∙ (ap (λ w. slot_of w id) (sym same) ∙ here))

    by : (o : Option SlotPart) → part_at id (pool_parts a.startds) ≡ o → ⊥
    by None e = no_mark (p.pool.marks id) (linked.slots.others id e).0 marked
    by (Some s) e = let found = part_found id (pool_parts a.startds) s e in in_machine s found.1 (of_pool a.startds s found.0)

-- a slot of a machine is one of the pool
pub found_placed : (p : Protocol) (a : PoolParts) (id : SlotId) (slot : Slot) → IsLinked p a → slot_in_pool a.startds id ≡ Some slot → IsSome (p.pool.marks id)
found_placed p a id slot linked is = by_startd (slice_get a.startds id.machine) refl is
  where
    by_place : (v : StartdValue) → slice_get a.startds id.machine ≡ Some v → (o : Option ℕ) → place_of v id ≡ o → slot_in v o ≡ Some slot → IsSome (p.pool.marks id)
    by_place v at None place found = absurd (none-some slot found)
    by_place v at (Some place) number found =
        let its = (linked.startds id.machine v at).sound.slots place slot found in
        let same : slot.id ≡ id = its.numbered ∙ sym (place_is v id place number) in
        let part = linked.slots.each (part_of v.machine.boot slot) (in_pool a.startds id.machine v slot at (at_place slot v.slots place found)) in
        subst (λ k. IsSome (p.pool.marks k)) same (subst (λ (o : Option SlotMark). IsSome o) (sym part.mark) refl)

    by_startd : (o : Option StartdValue) → slice_get a.startds id.machine ≡ o → slot_of_startd o id ≡ Some slot → IsSome (p.pool.marks id)
    by_startd None at found = absurd (none-some slot found)
    by_startd (Some v) at found = by_place v at (place_of v id) refl found

-- ---- a startd that stays
pub stays : (p : Protocol) (a : PoolParts) (machine : ℕ) (v : StartdValue) (step : StartdStep) → IsLinked p a → slice_get a.startds machine ≡ Some v → AreBorneOut p step.mails
    → StayLinked p [] (parts_with_startd machine (record { startd = v; step = step }) [] a)
stays p a machine v step linked at borne =
    startd_event p a machine v (record { startd = v; step = step }) [] [] linked at tt tt (λ s other. refl) (unchanged (part_of v.machine.boot) (part_after_all []) v.slots (λ s there. refl)) refl
    (linked.startds machine v at).sound (linked.startds machine v at).ends borne refl

-- ---- what a reaction comes to
pub settled_held : (m : _) (slot : SlotId) (s : SlotState) (offers : ℕ) → (settled m slot s offers).state.held ≡ s.held
settled_held m slot s offers = by (Rattle.startd_slot.specs.SlotStates.is_open s.pair) s.offer
  where
    by : (b : Bool) (o : Option Rattle.claim_id.specs.declared.numbers.ClaimId.ClaimId) → (let x : Settled = (if b then settled_open m slot o s offers else record { state = record s { offer = None }; offers = offers }) in x.state.held) ≡ s.held
    by true None = refl
    by true (Some claim) = refl
    by false o = refl

pub told_held : (slot : Slot) (s : Settled) (mails : List Mail) (tells : Bool) (reading : ℕ) → (told slot s mails tells reading).state.held ≡ s.state.held
told_held slot s mails true reading = refl
told_held slot s mails false reading = refl

pub concluded_held : (m : _) (slot : Slot) (offers : ℕ) (r : Reaction) (reading : ℕ) → (concluded m slot offers r reading).state.held ≡ r.state.held
concluded_held m slot offers r reading =
    told_held slot (settled m slot.id r.state offers) r.mails (has_changed slot.state (settled m slot.id r.state offers).state) reading ∙ settled_held m slot.id r.state offers

pub told_borne : (q : Protocol) (slot : Slot) (s : Settled) (mails : List Mail) (tells : Bool) (reading : ℕ) → AreBorneOut q mails → AreBorneOut q (told slot s mails tells reading).mails
told_borne q slot s mails true reading borne = both
  where
    both : AreBorneOut q (mails ++ Rattle.startd_core.specs.Offers.update_of slot (Rattle.startd_core.specs.Offers.with_told reading s.state) reading ∷ [])
    both m there = by (in_both m mails _ there)
      where
        by : IsIn m mails ⊎ IsIn m (Rattle.startd_core.specs.Offers.update_of slot (Rattle.startd_core.specs.Offers.with_told reading s.state) reading ∷ []) → IsBorneOut q m
        by (inl h) = borne m h
        by (inr (inl same)) = subst (IsBorneOut q) (sym same) tt
        by (inr (inr h)) = absurd h
told_borne q slot s mails false reading borne = borne

-- ---- a slot changes
-- one slot of the machine stands anew, by its own moves
pub slot_event : (p : Protocol) (a : PoolParts) (machine place : ℕ) (v : StartdValue) (slot : Slot) (r : Reaction) (answer : Rattle.startd_core.specs.declared.answer.StartdAnswer.StartdAnswer) (reading : ℕ) (reports : List EndReport) (ms : List ProtocolMove)
    → IsLinked p a → slice_get a.startds machine ≡ Some v → slice_get v.slots place ≡ Some slot → MayAll p ms → AreOwn slot.id ms → said_by_all ms ≡ reports
    → part_after_all ms (part_of v.machine.boot slot) ≡ part_of v.machine.boot (record slot { state = r.state })
    → IsSound (with_conclusion v place slot (concluded v.machine slot v.offers r reading))
    → IsEndReported (protocol_after_all p ms) (ended_of r.state.held) → AreBorneOut (protocol_after_all p ms) r.mails
    → StayLinked p ms (parts_with_startd machine (record { startd = with_conclusion v place slot (concluded v.machine slot v.offers r reading); step = record { mails = (concluded v.machine slot v.offers r reading).mails; answer = answer } }) reports a)
slot_event p a machine place v slot r answer reading reports ms linked at there may own says changed sound ended borne =
    startd_event p a machine v (record { startd = with_conclusion v place slot (concluded v.machine slot v.offers r reading); step = record { mails = (concluded v.machine slot v.offers r reading).mails; answer = answer } }) reports ms linked at may (own_are_startd slot.id ms own)
    (own_far slot.id machine ms (ap (λ (x : SlotId). x.machine) its.numbered ∙ (linked.startds machine v at).numbered) own)
    (slot_changed v place slot (record slot { state = (concluded v.machine slot v.offers r reading).state }) ms (linked.startds machine v at).sound there own (changed ∙ sym (concluded_part v.machine slot v.offers r reading)))
    refl sound
    (λ s h. ends s (in_place s (slice_set v.slots place (record slot { state = (concluded v.machine slot v.offers r reading).state })) h))
    (told_borne q slot (settled v.machine slot.id r.state v.offers) r.mails (has_changed slot.state (settled v.machine slot.id r.state v.offers).state) reading borne)
    says
  where
    q : Protocol
    q = protocol_after_all p ms

    its : IsSlotAt v.machine place slot
    its = (linked.startds machine v at).sound.slots place slot there

    on : GoesOn p q
    on = goes_on p ms may linked.facts linked.safe

    at_slot : (s : Slot) (k : ℕ) → ((k ≡ place) × (s ≡ record slot { state = (concluded v.machine slot v.offers r reading).state })) ⊎ ((k ≢ place) × (slice_get v.slots k ≡ Some s)) → IsEndReported q (ended_of s.state.held)
    at_slot s k (inl here) = subst (λ (x : Slot). IsEndReported q (ended_of x.state.held)) (sym here.1) (subst (λ h. IsEndReported q (ended_of h)) (sym (concluded_held v.machine slot v.offers r reading)) ended)
    at_slot s k (inr other) = reported_on p q (ended_of s.state.held) on ((linked.startds machine v at).ends s (at_place s v.slots k other.1))

    ends : (s : Slot) → ((k : ℕ) × (slice_get (slice_set v.slots place (record slot { state = (concluded v.machine slot v.offers r reading).state })) k ≡ Some s)) → IsEndReported q (ended_of s.state.held)
    ends s found = at_slot s found.0 (put_cases v.slots place found.0 (record slot { state = (concluded v.machine slot v.offers r reading).state }) s found.1)

-- ---- mails
told_of : (p : Protocol) (mail : Mail) → IsBorneOut p mail → IsTold p mail
told_of p (Activate run job ad until) h = h
told_of p (Alive run until) h = h
told_of p (Stop run) h = tt
told_of p (Ask claim job ad by_priority) h = tt
told_of p (Release claim) h = tt
told_of p (Matched found) h = tt
told_of p (Update s) h = tt
told_of p (Granted claim job) h = tt
told_of p (Denied claim run job why) h = tt
told_of p (Seen run until) h = tt
told_of p (Gone run kept) h = tt
told_of p (Ended run how) h = tt
told_of p (Remove job) h = tt
told_of p (Hold job) h = tt
told_of p (Resume job) h = tt

ended_then : (p q : Protocol) (s t : SlotState) → GoesOn p q → IsEndReported p (ended_of s.held) → KeepsEnd s t → IsEndReported q (ended_of t.held)
ended_then p q s t on was (inl same) = subst (IsEndReported q) (sym same) (reported_on p q (ended_of s.held) on was)
ended_then p q s t on was (inr none) = subst (IsEndReported q) (sym none) tt

-- the machine of a mail's claim
startd_number : (a b : ℕ) → Startd a ≡ Startd b → a ≡ b
startd_number a b e = ap number e
  where
    number : Daemon → ℕ
    number (Startd n) = n
    number Schedd = a
    number Matchmaker = a

of_machine : (machine : ℕ) (mail : Mail) (claim : ClaimNo) → IsIn (Startd machine) (receivers_of mail) → asked_claim mail ≡ Some claim → claim.slot.machine ≡ machine
of_machine machine (Matched found) claim (inl same) asked = cc
of_machine machine (Matched found) claim (inr (inl same)) asked = sym (startd_number machine claim.slot.machine (same ∙ ap (λ (c : ClaimNo). Startd c.slot.machine) (same_Some found.claim.no claim asked)))
of_machine machine (Matched found) claim (inr (inr h)) asked = absurd h
of_machine machine (Ask c job ad by_priority) claim (inl same) asked = sym (startd_number machine claim.slot.machine (same ∙ ap (λ (c : ClaimNo). Startd c.slot.machine) (same_Some c.no claim asked)))
of_machine machine (Ask c job ad by_priority) claim (inr h) asked = absurd h
of_machine machine (Activate run job ad until) claim (inl same) asked = sym (startd_number machine claim.slot.machine (same ∙ ap (λ (c : ClaimNo). Startd c.slot.machine) (same_Some run.claim claim asked)))
of_machine machine (Activate run job ad until) claim (inr h) asked = absurd h
of_machine machine (Alive run until) claim (inl same) asked = sym (startd_number machine claim.slot.machine (same ∙ ap (λ (c : ClaimNo). Startd c.slot.machine) (same_Some run.claim claim asked)))
of_machine machine (Alive run until) claim (inr h) asked = absurd h
of_machine machine (Stop run) claim (inl same) asked = sym (startd_number machine claim.slot.machine (same ∙ ap (λ (c : ClaimNo). Startd c.slot.machine) (same_Some run.claim claim asked)))
of_machine machine (Stop run) claim (inr h) asked = absurd h
of_machine machine (Release c) claim (inl same) asked = sym (startd_number machine claim.slot.machine (same ∙ ap (λ (c : ClaimNo). Startd c.slot.machine) (same_Some c claim asked)))
of_machine machine (Release c) claim (inr h) asked = absurd h
of_machine machine (Update s) claim there asked = absurd (none-some claim asked)
of_machine machine (Granted c job) claim there asked = absurd (none-some claim asked)
of_machine machine (Denied c run job why) claim there asked = absurd (none-some claim asked)
of_machine machine (Seen run until) claim there asked = absurd (none-some claim asked)
of_machine machine (Gone run kept) claim there asked = absurd (none-some claim asked)
of_machine machine (Ended run how) claim there asked = absurd (none-some claim asked)
of_machine machine (Remove job) claim there asked = absurd (none-some claim asked)
of_machine machine (Hold job) claim there asked = absurd (none-some claim asked)
of_machine machine (Resume job) claim there asked = absurd (none-some claim asked)

-- the slot of a run that was granted is of the pool
granted_placed : (p : Protocol) (a : PoolParts) (run : RunNo) → IsLinked p a → Rattle.pool_rules.specs.Linked.IsGranted p run → IsPlaced p run.claim
granted_placed p a run linked (job, there) = linked.granted _ there

leased_placed : (p : Protocol) (a : PoolParts) (run : RunNo) → IsLinked p a → ((l : Rattle.pool_view.specs.Protocol.Lease) × IsIn l p.leases × (l.run ≡ run)) → IsPlaced p run.claim
leased_placed p a run linked (l, there, same) = subst (λ (r : RunNo). IsPlaced p r.claim) same (linked.granted _ (linked.facts.leases.granted l there))

-- of a slot that the machine lacks nothing is said but that it has no such claim
stranger_borne : (p : Protocol) (a : PoolParts) (m : _) (mail : Mail) (reading : ℕ) → IsLinked p a → IsBorneOut p mail → ((run : RunNo) → asked_claim mail ≡ Some run.claim → IsPlaced p run.claim → ⊥)
    → AreBorneOut p (reaction_to m.boot (nowhere m reading) mail None reading).mails
unfolding reaction_to
stranger_borne p a m (Activate run job ad until) reading linked borne never = absurd (never run refl (leased_placed p a run linked (borne.0, borne.1, borne.2)))
stranger_borne p a m (Alive run until) reading linked borne never = absurd (never run refl (leased_placed p a run linked (borne.0, borne.1, borne.2)))
stranger_borne p a m (Stop run) reading linked borne never = absurd (never run refl (granted_placed p a run linked borne))
stranger_borne p a m (Ask claim job ad by_priority) reading linked borne never = one_borne p _ [] tt (none_borne p)
stranger_borne p a m (Matched found) reading linked borne never = none_borne p
stranger_borne p a m (Release claim) reading linked borne never = none_borne p
stranger_borne p a m (Update s) reading linked borne never = none_borne p
stranger_borne p a m (Granted claim job) reading linked borne never = none_borne p
stranger_borne p a m (Denied claim run job why) reading linked borne never = none_borne p
stranger_borne p a m (Seen run until) reading linked borne never = none_borne p
stranger_borne p a m (Gone run kept) reading linked borne never = none_borne p
stranger_borne p a m (Ended run how) reading linked borne never = none_borne p
stranger_borne p a m (Remove job) reading linked borne never = none_borne p
stranger_borne p a m (Hold job) reading linked borne never = none_borne p
stranger_borne p a m (Resume job) reading linked borne never = none_borne p

pub mail_linked : (p : Protocol) (a : PoolParts) (machine : ℕ) (v : StartdValue) (mail : Mail) (judged : Option Judgement) (reading : ℕ)
    → IsLinked p a → slice_get a.startds machine ≡ Some v → IsIn mail a.mails → IsIn (Startd machine) (receivers_of mail)
    → ((slot : Slot) → slot_of_claim v (asked_claim mail) ≡ Some slot → IfSome judged (IsJudgedHere slot mail))
    → StayLinked p (moves_of_startd_mail v mail judged reading) (parts_with_startd machine (after_mail v mail judged reading) [] a)
unfolding put_at made_by
mail_linked p a machine v mail judged reading linked at sent to fits = by_claim (asked_claim mail) refl
  where
    l : IsStartdAt p machine v
    l = linked.startds machine v at

    at_slot : (place : ℕ) (slot : Slot) (claim : ClaimNo) → asked_claim mail ≡ Some claim → place_of v claim.slot ≡ Some place → slice_get v.slots place ≡ Some slot
        → StayLinked p (moves_of_mail v.machine.boot slot mail judged reading) (parts_with_startd machine (after_made v place (made_by v.machine v.offers slot (reaction_to v.machine.boot slot mail judged reading) reading)) [] a)
    at_slot place slot claim asked is there =
        let r : Reaction = reaction_to v.machine.boot slot mail judged reading in
        let ms : List ProtocolMove = moves_of_mail v.machine.boot slot mail judged reading in
        let its = l.sound.slots place slot there in
        let of_slot : claim.slot ≡ slot.id = place_is v claim.slot place is ∙ sym its.numbered in
        let asks : IfSome (asked_claim mail) (λ c. c.slot ≡ slot.id) = subst (λ o. IfSome o (λ (c : ClaimNo). c.slot ≡ slot.id)) (sym asked) of_slot in
        let slot_is : slot_of_claim v (asked_claim mail) ≡ Some slot = ap (slot_of_claim v) asked ∙ (ap (slot_in v) is ∙ there) in
        let may : MayAll p ms = mail_may p v.machine.boot slot mail judged reading its.consistent asks linked.facts
        (linked.slots.each (part_of v.machine.boot slot) (in_pool a.startds machine v slot at (at_place slot v.slots place there)))
        (told_of p mail (linked.mails mail sent)) (fits slot slot_is) in
        let was = l.ends slot (at_place slot v.slots place there) in
        let facts = mail_facts p v.machine.boot slot its.consistent mail judged reading asks was in
        subst (λ o. StayLinked p ms (parts_with_startd machine (record { startd = put_in v place o (concluded v.machine slot v.offers r reading); step = record { mails = (concluded v.machine slot v.offers r reading).mails; answer = Rattle.startd_core.specs.Startds.answer_of r.task } }) [] a)) (sym there)
        (slot_event p a machine place v slot r (Rattle.startd_core.specs.Startds.answer_of r.task) reading [] ms linked at there may facts.quiet.0 facts.quiet.1
        (mail_changes v.machine.boot slot mail judged reading its.consistent asks)
        (subst (λ o. IsSound (put_in v place o (concluded v.machine slot v.offers r reading))) there (mail_put v place slot mail judged reading there l.sound))
        (ended_then p (protocol_after_all p ms) slot.state r.state (goes_on p ms may linked.facts linked.safe) was facts.ends)
        facts.borne)

    by_slot : (place : ℕ) (o : Option Slot) (claim : ClaimNo) → asked_claim mail ≡ Some claim → place_of v claim.slot ≡ Some place → slice_get v.slots place ≡ o
        → StayLinked p (moves_in_slot v.machine.boot o mail judged reading) (parts_with_startd machine (received_at v place o mail judged reading) [] a)
    by_slot place None claim asked is there = stays p a machine v nothing_done linked at (none_borne p)
    by_slot place (Some slot) claim asked is there = at_slot place slot claim asked is there

    by_place : (o : Option ℕ) (claim : ClaimNo) → asked_claim mail ≡ Some claim → place_of v claim.slot ≡ o
        → StayLinked p (moves_in_slot v.machine.boot (slot_in v o) mail judged reading) (parts_with_startd machine (received_in v o mail judged reading) [] a)
    by_place None claim asked is = stays p a machine v (stranger_step v.machine mail reading) linked at (stranger_borne p a v.machine mail reading linked (linked.mails mail sent)
        (λ run its placed. (let same : claim ≡ run.claim = same_Some claim run.claim (sym asked ∙ its) in
        placed_slot p a machine v claim.slot linked at (of_machine machine mail claim to asked) (subst (λ (c : ClaimNo). IsPlaced p c) (sym same) placed) is)))
    by_place (Some place) claim asked is = by_slot place (slice_get v.slots place) claim asked is refl

    by_claim : (o : Option ClaimNo) → asked_claim mail ≡ o → StayLinked p (moves_in_slot v.machine.boot (slot_of_claim v o) mail judged reading) (parts_with_startd machine (received_of v o mail judged reading) [] a)
    by_claim None asked = stays p a machine v nothing_done linked at (none_borne p)
    by_claim (Some claim) asked = by_place (place_of v claim.slot) claim asked refl
