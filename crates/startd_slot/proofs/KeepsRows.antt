-- What each row makes of a slot keeps it consistent.
use Rattle.std.proofs.Common.{◌≡◌, ℕ, ℤ, ◌<◌, Bool, true, false, List, Option, Some, None, IfSome, IsSome, IsSomeAnd, IsTrue, is_some, true≢false, refl, sym, ◌∙◌, ap, subst, arith, if◌then◌else◌}
use Rattle.claim_id.specs.declared.numbers.ClaimId.{ClaimId}
use Rattle.claim_id.specs.declared.numbers.RunNo.{RunNo}
use Rattle.claim_id.specs.declared.numbers.SlotId.{SlotId}
use Rattle.pool_mail.specs.declared.end.Ending.{Ending}
use Rattle.pool_mail.specs.declared.end.How.{How}
use Rattle.pool_mail.specs.declared.mail.Mail.{Mail}
use Rattle.pool_mail.specs.declared.mail.Mail.TheVariants.{Ended}
use Rattle.pool_view.specs.Numbers.{same_claim}
use Rattle.claim_id.specs.declared.pair.Pair.{Pair}
use Rattle.claim_id.specs.declared.pair.Pair.TheVariants.{OwnerIdle, UnclaimedIdle, MatchedIdle, ClaimedIdle, ClaimedBusy, ClaimedRetiring, PreemptingVacating, PreemptingKilling}
use Rattle.claim_id.specs.declared.pair.Cue.TheVariants.{Grant, Handover, Retire, Begin, Finish}
use Rattle.claim_id.specs.SlotTable.{next_of}
use Rattle.claim_id.specs.States.{has_claim, has_run}
use Rattle.startd_slot.specs.declared.held.Held.{Held}
use Rattle.startd_slot.specs.declared.held.Rival.{Rival}
use Rattle.startd_slot.specs.declared.held.Running.{Running}
use Rattle.startd_slot.specs.declared.slot.SlotState.{SlotState}
use Rattle.startd_slot.specs.Consistent.{IsConsistent, IsNextClaim, IsOwnRun, IsSettled, is_leaving}
use Rattle.startd_slot.specs.EndingTable.{after_last_run, after_run}
use Rattle.startd_slot.specs.ReleaseTable.{is_busy}
use Rattle.startd_slot.specs.SlotStates.{is_open, in_pair, after_cue, held_in, held_of, running_in, running_of, is_run, runs_on, with_claim, without_claim, with_number, claim_with_number, with_run, without_run}
use Rattle.startd_slot.proofs.Keeps.{pair_kept}
use Rattle.startd_slot.proofs.SameNumbers.{same_claim-true, same_run-true}

-- ---- what is not there
none_waits : (o : Option Rival) (P Q : Rival → Type 0) (leaves : Bool) → leaves ≡ false → IfSome o (λ r. P r × IsTrue leaves) → IfSome o Q
none_waits None P Q leaves stays h = tt
none_waits (Some r) P Q leaves stays h = absurd (true≢false (sym h.1 ∙ stays))

nobody : (v : Option Rival) (Q : Rival → Type 0) → IfSome v (λ r. ⊥) → IfSome v Q
nobody None Q none = tt
nobody (Some r) Q none = absurd none

none_offered : (o : Option ClaimId) (Q : ClaimId → Type 0) → is_some o ≡ false → IfSome o Q
none_offered None Q is = tt
none_offered (Some c) Q is = absurd (true≢false is)

offered_is : (boot : ℕ) (slot : SlotId) (s : SlotState) (claim : ClaimId) → s.offer ≡ Some claim → IsConsistent boot slot s → IsNextClaim boot slot s claim.no
offered_is boot slot s claim is c = subst (λ o. IfSome o (λ x. IsNextClaim boot slot s x.no)) is c.offer

-- ---- a claim is granted
granted_from : (boot : ℕ) (slot : SlotId) (s : SlotState) (claim : ClaimId) (user : List ℕ) (rank : ℤ) (reading : ℕ) (to : Pair)
    → s.offer ≡ Some claim → is_leaving s.pair ≡ false → has_claim to ≡ true → has_run to ≡ false → IsConsistent boot slot s
    → IsConsistent boot slot (in_pair (Some to) reading (with_claim claim user rank reading (record s { offer = None })))
granted_from boot slot s claim user rank reading to offer stays claims idle c = record {
  claimed = sym claims;
  busy = sym idle;
  counted = c.counted;
  held = ((offered_is boot slot s claim offer c).0, (tt, tt, tt));
  offer = tt;
  rival = none_waits s.rival (λ r. IsNextClaim boot slot s r.claim.no) _ (is_leaving s.pair) stays c.rival;
}

pub granted_kept : (boot : ℕ) (slot : SlotId) (s : SlotState) (claim : ClaimId) (user : List ℕ) (rank : ℤ) (reading : ℕ)
    → s.offer ≡ Some claim → s.held ≡ None → IsConsistent boot slot s → IsSettled s
    → IsConsistent boot slot (after_cue Grant reading (with_claim claim user rank reading (record s { offer = None })))
granted_kept boot slot s claim user rank reading offer none c settled = by_pair s.pair c settled
  where
    by_pair : (p : Pair) → IsConsistent boot slot (record s { pair = p }) → is_some s.offer ≡ is_open p
        → IsConsistent boot slot (in_pair (next_of p Grant) reading (with_claim claim user rank reading (record s { pair = p; offer = None })))
    by_pair UnclaimedIdle c settled = granted_from boot slot (record s { pair = UnclaimedIdle }) claim user rank reading ClaimedIdle offer refl refl refl c
    by_pair MatchedIdle c settled = granted_from boot slot (record s { pair = MatchedIdle }) claim user rank reading ClaimedIdle offer refl refl refl c
    by_pair OwnerIdle c settled = absurd (true≢false (sym (ap is_some offer) ∙ settled))
    by_pair ClaimedIdle c settled = absurd (true≢false (sym c.claimed ∙ ap is_some none))
    by_pair ClaimedBusy c settled = absurd (true≢false (sym c.claimed ∙ ap is_some none))
    by_pair ClaimedRetiring c settled = absurd (true≢false (sym c.claimed ∙ ap is_some none))
    by_pair PreemptingVacating c settled = absurd (true≢false (sym c.claimed ∙ ap is_some none))
    by_pair PreemptingKilling c settled = absurd (true≢false (sym c.claimed ∙ ap is_some none))

-- ---- a claim ends, and the next one is held
pub next_held : (boot : ℕ) (slot : SlotId) (s : SlotState) (h : Held) (claim : ClaimId) (user : List ℕ) (rank : ℤ) (reading : ℕ) (v : Option Rival)
    → IsNextClaim boot slot (record s { held = Some h }) claim.no → IfSome v (λ r. ⊥) → IsConsistent boot slot (record s { held = Some h })
    → IsConsistent boot slot (in_pair (Some ClaimedIdle) reading (with_claim claim user rank reading (record (without_claim (record s { held = Some h })) { offer = None; rival = v })))
next_held boot slot s h claim user rank reading v next none c = record {
  claimed = refl;
  busy = refl;
  counted = omega (arith, c.counted, c.held.0.3);
  held = ((next.0.0, next.0.1, omega (arith, next.0.2, next.1), next.0.3), (tt, tt, tt));
  offer = tt;
  rival = nobody v _ none;
}

pub handover_kept : (boot : ℕ) (slot : SlotId) (s : SlotState) (claim : ClaimId) (user : List ℕ) (rank : ℤ) (reading : ℕ)
    → s.offer ≡ Some claim → s.pair ≡ ClaimedIdle → IsSome s.held → IsConsistent boot slot s
    → IsConsistent boot slot (after_cue Handover reading (with_claim claim user rank reading (record (without_claim s) { offer = None })))
handover_kept boot slot s claim user rank reading offer at held c =
    subst (λ p. IsConsistent boot slot (in_pair (next_of p Handover) reading (with_claim claim user rank reading (record (without_claim s) { pair = p; offer = None }))))
    (sym at) (by_held s.held held (subst (λ p. IsConsistent boot slot (record s { pair = p })) at c))
  where
    by_held : (o : Option Held) → IsSome o → IsConsistent boot slot (record s { pair = ClaimedIdle; held = o })
        → IsConsistent boot slot (in_pair (Some ClaimedIdle) reading (with_claim claim user rank reading (record (without_claim (record s { pair = ClaimedIdle; held = o })) { offer = None })))
    by_held None held c = absurd (true≢false (sym held))
    by_held (Some h) held c = next_held boot slot (record s { pair = ClaimedIdle }) h claim user rank reading s.rival
        (offered_is boot slot (record s { pair = ClaimedIdle; held = Some h }) claim offer c)
        (none_waits s.rival (λ r. IsNextClaim boot slot (record s { pair = ClaimedIdle; held = Some h }) r.claim.no) (λ r. ⊥) false refl c.rival) c

-- ---- a claim waits for the slot
pub rival_made : (boot : ℕ) (slot : SlotId) (s : SlotState) (r : Rival) (reading : ℕ)
    → s.offer ≡ Some r.claim → ((s.pair ≡ ClaimedIdle) → ⊥) → IsSome s.held → IsConsistent boot slot s → IsSettled s
    → IsConsistent boot slot (after_cue Retire reading (record s { rival = Some r; offer = None }))
rival_made boot slot s r reading offer busy held c settled = by_pair s.pair refl c settled
  where
    by_pair : (p : Pair) → s.pair ≡ p → IsConsistent boot slot (record s { pair = p }) → is_some s.offer ≡ is_open p
        → IsConsistent boot slot (in_pair (next_of p Retire) reading (record s { pair = p; rival = Some r; offer = None }))
    by_pair ClaimedBusy at c settled = record {
      claimed = c.claimed;
      busy = c.busy;
      counted = c.counted;
      held = c.held;
      offer = tt;
      rival = (offered_is boot slot (record s { pair = ClaimedBusy }) r.claim offer c, refl);
    }
    by_pair ClaimedIdle at c settled = absurd (busy at)
    by_pair OwnerIdle at c settled = absurd (true≢false (sym held ∙ c.claimed))
    by_pair UnclaimedIdle at c settled = absurd (true≢false (sym held ∙ c.claimed))
    by_pair MatchedIdle at c settled = absurd (true≢false (sym held ∙ c.claimed))
    by_pair ClaimedRetiring at c settled = absurd (true≢false (sym (ap is_some offer) ∙ settled))
    by_pair PreemptingVacating at c settled = absurd (true≢false (sym (ap is_some offer) ∙ settled))
    by_pair PreemptingKilling at c settled = absurd (true≢false (sym (ap is_some offer) ∙ settled))

-- ---- a claim ends, and nobody has the slot
passed_offer : (boot : ℕ) (slot : SlotId) (s : SlotState) (h : Held) (o : Option ClaimId)
    → IfSome o (λ c. IsNextClaim boot slot (record s { held = Some h }) c.no)
    → IfSome o (λ c. IsNextClaim boot slot (without_claim (record s { held = Some h })) c.no)
passed_offer boot slot s h None own = tt
passed_offer boot slot s h (Some c) own = ((own.0.0, own.0.1, omega (arith, own.0.2, own.1), own.0.3), tt)

pub finished : (boot : ℕ) (slot : SlotId) (s : SlotState) (h : Held) (reading : ℕ)
    → IfSome s.rival (λ r. ⊥) → IsConsistent boot slot (record s { held = Some h })
    → IsConsistent boot slot (in_pair (Some OwnerIdle) reading (without_claim (record s { held = Some h })))
finished boot slot s h reading none c = record {
  claimed = refl;
  busy = refl;
  counted = omega (arith, c.counted, c.held.0.3);
  held = tt;
  offer = passed_offer boot slot s h s.offer c.offer;
  rival = nobody s.rival _ none;
}

pub finish_kept : (boot : ℕ) (slot : SlotId) (s : SlotState) (reading : ℕ)
    → IsSome s.held → running_of s ≡ None → IsConsistent boot slot s
    → IsConsistent boot slot (after_cue Finish reading (without_claim s))
finish_kept boot slot s reading held none c = by_pair s.pair s.held held none c
  where
    by_pair : (p : Pair) (o : Option Held) → IsSome o → running_in o ≡ None → IsConsistent boot slot (record s { pair = p; held = o })
        → IsConsistent boot slot (in_pair (next_of p Finish) reading (without_claim (record s { pair = p; held = o })))
    by_pair p None held none c = absurd (true≢false (sym held))
    by_pair ClaimedIdle (Some h) held none c = finished boot slot (record s { pair = ClaimedIdle }) h reading
        (none_waits s.rival (λ r. IsNextClaim boot slot (record s { pair = ClaimedIdle; held = Some h }) r.claim.no) (λ r. ⊥) false refl c.rival) c
    by_pair OwnerIdle (Some h) held none c = absurd (true≢false c.claimed)
    by_pair UnclaimedIdle (Some h) held none c = absurd (true≢false c.claimed)
    by_pair MatchedIdle (Some h) held none c = absurd (true≢false c.claimed)
    by_pair ClaimedBusy (Some h) held none c = absurd (true≢false (sym c.busy ∙ ap is_some none))
    by_pair ClaimedRetiring (Some h) held none c = absurd (true≢false (sym c.busy ∙ ap is_some none))
    by_pair PreemptingVacating (Some h) held none c = absurd (true≢false (sym c.busy ∙ ap is_some none))
    by_pair PreemptingKilling (Some h) held none c = absurd (true≢false (sym c.busy ∙ ap is_some none))

-- ---- a claim begins to retire
pub retire_kept : (boot : ℕ) (slot : SlotId) (s : SlotState) (reading : ℕ) → is_busy s.pair ≡ true → IsConsistent boot slot s
    → IsConsistent boot slot (after_cue Retire reading s)
retire_kept boot slot s reading busy c = by_pair s.pair busy c
  where
    by_pair : (p : Pair) → is_busy p ≡ true → IsConsistent boot slot (record s { pair = p })
        → IsConsistent boot slot (in_pair (next_of p Retire) reading (record s { pair = p }))
    by_pair ClaimedBusy busy c = pair_kept boot slot (record s { pair = ClaimedBusy }) ClaimedRetiring reading refl refl (λ never. refl) c
    by_pair ClaimedIdle busy c = absurd (true≢false (sym busy))
    by_pair OwnerIdle busy c = absurd (true≢false (sym busy))
    by_pair UnclaimedIdle busy c = absurd (true≢false (sym busy))
    by_pair MatchedIdle busy c = absurd (true≢false (sym busy))
    by_pair ClaimedRetiring busy c = absurd (true≢false (sym busy))
    by_pair PreemptingVacating busy c = absurd (true≢false (sym busy))
    by_pair PreemptingKilling busy c = absurd (true≢false (sym busy))

-- ---- a run starts
begun_from : (boot : ℕ) (slot : SlotId) (s : SlotState) (h : Held) (r : Running) (reading : ℕ)
    → r.run.claim ≡ h.claim.no → h.last < r.run.number → IsConsistent boot slot (record s { pair = ClaimedIdle; held = Some h })
    → IsConsistent boot slot (in_pair (Some ClaimedBusy) reading (with_run r (with_number r.run.number (record s { pair = ClaimedIdle; held = Some h }))))
begun_from boot slot s h r reading claim above c = record {
  claimed = refl;
  busy = refl;
  counted = c.counted;
  held = (c.held.0, ((claim, omega arith), ended h.ended c.held.1.1, before h.ended c.held.1.1));
  offer = c.offer;
  rival = none_waits s.rival (λ r. IsNextClaim boot slot (record s { pair = ClaimedIdle; held = Some h }) r.claim.no) _ false refl c.rival;
}
  where
    ended : (o : Option (RunNo × How)) → IfSome o (λ e. IsOwnRun h e.0) → IfSome o (λ e. IsOwnRun (claim_with_number r.run.number h) e.0)
    ended None own = tt
    ended (Some e) own = (own.0, omega (arith, own.1))

    before : (o : Option (RunNo × How)) → IfSome o (λ e. IsOwnRun h e.0) → IfSome o (λ e. e.0.number < r.run.number)
    before None own = tt
    before (Some e) own = omega (arith, own.1, above)

pub begun_kept : (boot : ℕ) (slot : SlotId) (s : SlotState) (r : Running) (reading : ℕ)
    → IsSomeAnd (held_of s r.run.claim) (λ h. (h.last < r.run.number) × (h.running ≡ None)) → IsConsistent boot slot s
    → IsConsistent boot slot (after_cue Begin reading (with_run r (with_number r.run.number s)))
begun_kept boot slot s r reading ready c = by_held s.held ready c
  where
    by_pair : (p : Pair) (h : Held) → r.run.claim ≡ h.claim.no → h.last < r.run.number → h.running ≡ None → IsConsistent boot slot (record s { pair = p; held = Some h })
        → IsConsistent boot slot (in_pair (next_of p Begin) reading (with_run r (with_number r.run.number (record s { pair = p; held = Some h }))))
    by_pair ClaimedIdle h claim above none c = begun_from boot slot s h r reading claim above c
    by_pair OwnerIdle h claim above none c = absurd (true≢false c.claimed)
    by_pair UnclaimedIdle h claim above none c = absurd (true≢false c.claimed)
    by_pair MatchedIdle h claim above none c = absurd (true≢false c.claimed)
    by_pair ClaimedBusy h claim above none c = absurd (true≢false (sym c.busy ∙ ap is_some none))
    by_pair ClaimedRetiring h claim above none c = absurd (true≢false (sym c.busy ∙ ap is_some none))
    by_pair PreemptingVacating h claim above none c = absurd (true≢false (sym c.busy ∙ ap is_some none))
    by_pair PreemptingKilling h claim above none c = absurd (true≢false (sym c.busy ∙ ap is_some none))

    by_same : (h : Held) (same : Bool) → same_claim h.claim.no r.run.claim ≡ same → IsSomeAnd (if same then Some h else None) (λ h. (h.last < r.run.number) × (h.running ≡ None)) → IsConsistent boot slot (record s { held = Some h })
        → IsConsistent boot slot (after_cue Begin reading (with_run r (with_number r.run.number (record s { held = Some h }))))
    by_same h true is ready c = by_pair s.pair h (sym (same_claim-true h.claim.no r.run.claim is)) ready.0 ready.1 c
    by_same h false is ready c = absurd ready

    by_held : (o : Option Held) → IsSomeAnd (held_in o r.run.claim) (λ h. (h.last < r.run.number) × (h.running ≡ None)) → IsConsistent boot slot (record s { held = o })
        → IsConsistent boot slot (after_cue Begin reading (with_run r (with_number r.run.number (record s { held = o }))))
    by_held None ready c = absurd ready
    by_held (Some h) ready c = by_same h (same_claim h.claim.no r.run.claim) refl ready c

-- ---- a run ends
-- the claim stays
rested : (boot : ℕ) (slot : SlotId) (s : SlotState) (h : Held) (r : Running) (run : RunNo) (how : How) (reading : ℕ)
    → h.running ≡ Some r → r.run ≡ run → IsConsistent boot slot (record s { pair = ClaimedBusy; held = Some h })
    → IsConsistent boot slot (in_pair (Some ClaimedIdle) reading (without_run run how reading (record s { pair = ClaimedBusy; held = Some h })))
rested boot slot s h r run how reading is same c = record {
  claimed = refl;
  busy = refl;
  counted = c.counted;
  held = (c.held.0, (tt, own, tt));
  offer = c.offer;
  rival = none_waits s.rival (λ r. IsNextClaim boot slot (record s { pair = ClaimedBusy; held = Some h }) r.claim.no) _ false refl c.rival;
}
  where
    its : IfSome (Some r) (λ r. IsOwnRun h r.run)
    its = subst (λ o. IfSome o (λ r. IsOwnRun h r.run)) is c.held.1.0

    own : IsOwnRun h run
    own = subst (IsOwnRun h) same its

-- the claim ends: it goes to the rival
handed_kept : (boot : ℕ) (slot : SlotId) (s : SlotState) (h : Held) (v : Rival) (run : RunNo) (how : How) (reading : ℕ)
    → s.offer ≡ None → IsConsistent boot slot (record s { rival = Some v; held = Some h })
    → IsConsistent boot slot (in_pair (Some ClaimedIdle) reading (with_claim v.claim v.user v.rank reading (record (without_claim (without_run run how reading (record s { held = Some h }))) { rival = None })))
handed_kept boot slot s h v run how reading none c = record {
  claimed = refl;
  busy = refl;
  counted = omega (arith, c.counted, c.held.0.3);
  held = ((c.rival.0.0.0, c.rival.0.0.1, omega (arith, c.rival.0.0.2, c.rival.0.1), c.rival.0.0.3), (tt, tt, tt));
  offer = none_offered s.offer _ (ap is_some none);
  rival = tt;
}

-- nobody has the slot
ended_kept : (boot : ℕ) (slot : SlotId) (s : SlotState) (h : Held) (run : RunNo) (how : How) (reading : ℕ)
    → s.offer ≡ None → IsConsistent boot slot (record s { rival = None; held = Some h })
    → IsConsistent boot slot (in_pair (Some OwnerIdle) reading (without_claim (without_run run how reading (record s { rival = None; held = Some h }))))
ended_kept boot slot s h run how reading none c = record {
  claimed = refl;
  busy = refl;
  counted = omega (arith, c.counted, c.held.0.3);
  held = tt;
  offer = none_offered s.offer _ (ap is_some none);
  rival = tt;
}

-- from a pair in which the claim is leaving
left_kept : (boot : ℕ) (slot : SlotId) (s : SlotState) (p : Pair) (h : Held) (o : Option Rival) (run : RunNo) (how : How) (told : Mail) (reading : ℕ)
    → next_of p Finish ≡ Some OwnerIdle → next_of p Handover ≡ Some ClaimedIdle → s.offer ≡ None
    → IsConsistent boot slot (record s { pair = p; rival = o; held = Some h })
    → IsConsistent boot slot (after_last_run o told reading (without_claim (without_run run how reading (record s { pair = p; rival = o; held = Some h })))).state
left_kept boot slot s p h None run how told reading finish handover none c =
    subst (λ to. IsConsistent boot slot (in_pair to reading (without_claim (without_run run how reading (record s { pair = p; rival = None; held = Some h }))))) (sym finish)
    (ended_kept boot slot (record s { pair = p }) h run how reading none c)
left_kept boot slot s p h (Some v) run how told reading finish handover none c =
    subst (λ to. IsConsistent boot slot (in_pair to reading (with_claim v.claim v.user v.rank reading (record (without_claim (without_run run how reading (record s { pair = p; rival = Some v; held = Some h }))) { rival = None })))) (sym handover)
    (handed_kept boot slot (record s { pair = p; rival = Some v }) h v run how reading none c)

none_is : (o : Option ClaimId) → is_some o ≡ false → o ≡ None
none_is None is = refl
none_is (Some c) is = absurd (true≢false is)

pub run_ended : (boot : ℕ) (slot : SlotId) (s : SlotState) (ending : Ending) (how : How) (reading : ℕ)
    → runs_on s ending.run ≡ true → IsConsistent boot slot s → IsSettled s
    → IsConsistent boot slot (after_run ending how reading s).state
run_ended boot slot s ending how reading here c settled = by_held s.pair s.held here c settled
  where
    by_pair : (p : Pair) (h : Held) (r : Running) → h.running ≡ Some r → r.run ≡ ending.run → IsConsistent boot slot (record s { pair = p; held = Some h }) → is_some s.offer ≡ is_open p
        → IsConsistent boot slot (after_run ending how reading (record s { pair = p; held = Some h })).state
    by_pair ClaimedBusy h r is same c settled = rested boot slot s h r ending.run how reading is same c
    by_pair ClaimedRetiring h r is same c settled = left_kept boot slot s ClaimedRetiring h s.rival ending.run how (Ended ending.run how) reading refl refl (none_is s.offer settled) c
    by_pair PreemptingVacating h r is same c settled = left_kept boot slot s PreemptingVacating h s.rival ending.run how (Ended ending.run how) reading refl refl (none_is s.offer settled) c
    by_pair PreemptingKilling h r is same c settled = left_kept boot slot s PreemptingKilling h s.rival ending.run how (Ended ending.run how) reading refl refl (none_is s.offer settled) c
    by_pair OwnerIdle h r is same c settled = absurd (true≢false c.claimed)
    by_pair UnclaimedIdle h r is same c settled = absurd (true≢false c.claimed)
    by_pair MatchedIdle h r is same c settled = absurd (true≢false c.claimed)
    by_pair ClaimedIdle h r is same c settled = absurd (true≢false (sym (ap is_some is) ∙ c.busy))

    by_running : (p : Pair) (h : Held) (o : Option Running) → h.running ≡ o → is_run o ending.run ≡ true → IsConsistent boot slot (record s { pair = p; held = Some h }) → is_some s.offer ≡ is_open p
        → IsConsistent boot slot (after_run ending how reading (record s { pair = p; held = Some h })).state
    by_running p h None is here c settled = absurd (true≢false (sym here))
    by_running p h (Some r) is here c settled = by_pair p h r is (same_run-true r.run ending.run here) c settled

    by_held : (p : Pair) (o : Option Held) → is_run (running_in o) ending.run ≡ true → IsConsistent boot slot (record s { pair = p; held = o }) → is_some s.offer ≡ is_open p
        → IsConsistent boot slot (after_run ending how reading (record s { pair = p; held = o })).state
    by_held p None here c settled = absurd (true≢false (sym here))
    by_held p (Some h) here c settled = by_running p h h.running refl here c settled
