-- A slot whose offer is settled, which tells how it stands, over which time passes, and which boots, stays consistent.
use Rattle.std.proofs.Common.{◌≡◌, ℕ, ◌+◌, ◌<◌, ◌⊎◌, inl, inr, Bool, true, false, not, Option, Some, None, IfSome, IsTrue, is_some, true≢false, refl, sym, ◌∙◌, ap, subst, arith, if◌then◌else◌}
use Rattle.claim_id.specs.declared.numbers.ClaimId.{ClaimId}
use Rattle.claim_id.specs.declared.numbers.SlotId.{SlotId}
use Rattle.pool_mail.specs.declared.settings.Settings.{Settings}
use Rattle.claim_id.specs.declared.pair.Pair.{Pair}
use Rattle.claim_id.specs.declared.pair.Pair.TheVariants.{OwnerIdle, UnclaimedIdle, MatchedIdle, ClaimedIdle, ClaimedBusy, ClaimedRetiring, PreemptingVacating, PreemptingKilling}
use Rattle.claim_id.specs.declared.pair.Cue.{Cue}
use Rattle.claim_id.specs.declared.pair.Cue.TheVariants as cue
use Rattle.claim_id.specs.SlotTable.{next_of}
use Rattle.claim_id.specs.States.{has_claim, has_run}
use Rattle.startd_slot.specs.declared.held.Held.{Held}
use Rattle.startd_slot.specs.declared.held.Rival.{Rival}
use Rattle.startd_slot.specs.declared.held.Running.{Running}
use Rattle.startd_slot.specs.declared.slot.SlotState.{SlotState}
use Rattle.startd_slot.specs.Consistent.{IsConsistent, IsNextClaim, IsOwnClaim, HasOwnRuns, IsSettled, is_leaving}
use Rattle.startd_slot.specs.SlotStates.{is_open, in_pair, after_cue, running_of, evicted, slot_after_boot, with_running}
use Rattle.startd_slot.proofs.Keeps.{pair_kept, offer_kept, running_kept}
use Rattle.startd_slot.proofs.KeepsRows.{finish_kept}
use Rattle.startd_core.specs.declared.offers.Machine.{Machine}
use Rattle.startd_core.specs.declared.tick.TickRow.{TickRow}
use Rattle.startd_core.specs.declared.tick.TickRow.TheVariants as row
use Rattle.startd_core.specs.Offers.{next_offer, with_offer, settled_open, settled, with_told}
use Rattle.startd_core.specs.TickTable.{is_after, is_unheard, is_lease_past, row_in, after_tick_row}

-- ---- the offer
counted_claim : (boot : ℕ) (slot : SlotId) (s : SlotState) (o : Option Held) (claim : ClaimId) → IfSome o (λ h. IsOwnClaim boot slot s h.claim.no × HasOwnRuns h) → IfSome o (λ h. IsOwnClaim boot slot (with_offer claim s) h.claim.no × HasOwnRuns h)
counted_claim boot slot s None claim own = tt
counted_claim boot slot s (Some h) claim own = ((own.0.0, own.0.1, own.0.2, omega (arith, own.0.3)), own.1)

counted_rival : (boot : ℕ) (slot : SlotId) (s : SlotState) (o : Option Rival) (claim : ClaimId) → IfSome o (λ r. IsNextClaim boot slot s r.claim.no × IsTrue (is_leaving s.pair)) → IfSome o (λ r. IsNextClaim boot slot (with_offer claim s) r.claim.no × IsTrue (is_leaving s.pair))
counted_rival boot slot s None claim own = tt
counted_rival boot slot s (Some r) claim own = (((own.0.0.0, own.0.0.1, own.0.0.2, omega (arith, own.0.0.3)), own.0.1), own.1)

after_all : (boot : ℕ) (slot : SlotId) (s : SlotState) (o : Option Held) → IfSome o (λ h. IsOwnClaim boot slot s h.claim.no × HasOwnRuns h) → IfSome o (λ h. h.claim.no.seq < s.issued + 1)
after_all boot slot s None own = tt
after_all boot slot s (Some h) own = omega (arith, own.0.3)

offered : (m : Machine) (slot : SlotId) (s : SlotState) (offers : ℕ) → IsConsistent m.boot slot s → IsConsistent m.boot slot (with_offer (next_offer m slot s offers) s)
offered m slot s offers c = record {
  claimed = c.claimed;
  busy = c.busy;
  counted = omega (arith, c.counted);
  held = counted_claim m.boot slot s s.held (next_offer m slot s offers) c.held;
  offer = ((refl, refl, omega (arith, c.counted), omega arith), after_all m.boot slot s s.held c.held);
  rival = counted_rival m.boot slot s s.rival (next_offer m slot s offers) c.rival;
}

open_settled : (m : Machine) (slot : SlotId) (s : SlotState) (o : Option ClaimId) (offers : ℕ) → s.offer ≡ o → is_open s.pair ≡ true → IsConsistent m.boot slot s
    → IsConsistent m.boot slot (settled_open m slot o s offers).state × IsSettled (settled_open m slot o s offers).state
open_settled m slot s (Some claim) offers is opens c = (c, ap is_some is ∙ sym opens)
open_settled m slot s None offers is opens c = (offered m slot s offers c, sym opens)

pub settled_kept : (m : Machine) (slot : SlotId) (s : SlotState) (offers : ℕ) → IsConsistent m.boot slot s
    → IsConsistent m.boot slot (settled m slot s offers).state × IsSettled (settled m slot s offers).state
settled_kept m slot s offers c = by_open (is_open s.pair) refl
  where
    by_open : (opens : Bool) → is_open s.pair ≡ opens → IsConsistent m.boot slot (if opens then settled_open m slot s.offer s offers else record { state = record s { offer = None }; offers = offers }).state
        × IsSettled (if opens then settled_open m slot s.offer s offers else record { state = record s { offer = None }; offers = offers }).state
    by_open true opens = open_settled m slot s s.offer offers refl opens c
    by_open false opens = (offer_kept m.boot slot s c, sym opens)

-- ---- what is told
pub told_kept : (boot : ℕ) (slot : SlotId) (s : SlotState) (reading : ℕ) → IsConsistent boot slot s → IsConsistent boot slot (with_told reading s)
told_kept boot slot s reading c = record {
  claimed = c.claimed;
  busy = c.busy;
  counted = c.counted;
  held = c.held;
  offer = c.offer;
  rival = c.rival;
}

-- ---- a boot
pub booted_kept : (boot : ℕ) (slot : SlotId) (reading : ℕ) → IsConsistent boot slot (slot_after_boot reading)
booted_kept boot slot reading = record {
  claimed = refl;
  busy = refl;
  counted = omega arith;
  held = tt;
  offer = tt;
  rival = tt;
}

-- ---- time
-- the pairs in which a row fits
abbrev pub TickKnown : Pair → TickRow → Type 0
TickKnown p row.StartOn = p ≡ OwnerIdle
TickKnown p row.StartOff = (p ≡ UnclaimedIdle) ⊎ (p ≡ MatchedIdle)
TickKnown p row.Lapse = p ≡ MatchedIdle
TickKnown p row.Finish = p ≡ ClaimedIdle
TickKnown p row.KillPast = (p ≡ ClaimedBusy) ⊎ ((p ≡ ClaimedRetiring) ⊎ (p ≡ PreemptingVacating))
TickKnown p row.Vacate = p ≡ ClaimedRetiring
TickKnown p row.KillVacating = p ≡ PreemptingVacating
TickKnown p row.Nothing = Unit {0}

if_known : (p : Pair) (b : Bool) (r q : TickRow) → TickKnown p r → TickKnown p q → TickKnown p (if b then r else q)
if_known p true r q fits rest = fits
if_known p false r q fits rest = rest

pub row_known : (p : Pair) (s : SlotState) (set : Settings) (start : Bool) (reading : ℕ) → TickKnown p (row_in p s set start reading)
row_known OwnerIdle s set start reading = if_known OwnerIdle start row.StartOn row.Nothing refl tt
row_known UnclaimedIdle s set start reading = if_known UnclaimedIdle (not start) row.StartOff row.Nothing (inl refl) tt
row_known MatchedIdle s set start reading = if_known MatchedIdle (not start) row.StartOff _ (inr refl) (if_known MatchedIdle (is_after s.entered set.match_timeout reading) row.Lapse row.Nothing refl tt)
row_known ClaimedIdle s set start reading = if_known ClaimedIdle (is_unheard s.held set.claim_lease reading) row.Finish row.Nothing refl tt
row_known ClaimedBusy s set start reading = if_known ClaimedBusy (is_lease_past s reading) row.KillPast row.Nothing (inl refl) tt
row_known ClaimedRetiring s set start reading = if_known ClaimedRetiring (is_lease_past s reading) row.KillPast _ (inr (inl refl)) (if_known ClaimedRetiring (is_after s.entered set.retirement reading) row.Vacate row.Nothing refl tt)
row_known PreemptingVacating s set start reading = if_known PreemptingVacating (is_lease_past s reading) row.KillPast _ (inr (inr refl)) (if_known PreemptingVacating (is_after s.entered set.vacate reading) row.KillVacating row.Nothing refl tt)
row_known PreemptingKilling s set start reading = tt

-- a cue that only changes the pair
moved_kept : (boot : ℕ) (slot : SlotId) (s : SlotState) (p : Pair) (o : Option Pair) (to : Pair) (reading : ℕ) → s.pair ≡ p → o ≡ Some to
    → has_claim p ≡ has_claim to → has_run p ≡ has_run to → (is_leaving p ≡ true → is_leaving to ≡ true) → IsConsistent boot slot s → IsConsistent boot slot (in_pair o reading s)
moved_kept boot slot s p o to reading at is claim run leaves c =
    subst (λ x. IsConsistent boot slot (in_pair x reading s)) (sym is)
    (pair_kept boot slot s to reading (ap has_claim at ∙ claim) (ap has_run at ∙ run) (λ l. leaves (sym (ap is_leaving at) ∙ l)) c)

cue_to : (s : SlotState) (p : Pair) (by : Cue) (o : Option Pair) → s.pair ≡ p → next_of p by ≡ o → next_of s.pair by ≡ o
cue_to s p by o at is = ap (λ q. next_of q by) at ∙ is

never : (b : Bool) → false ≡ true → b ≡ true
never b is = absurd (true≢false (sym is))

killed_kept : (boot : ℕ) (slot : SlotId) (s : SlotState) (p : Pair) (reading : ℕ) → s.pair ≡ p → next_of p cue.Kill ≡ Some PreemptingKilling → has_claim p ≡ true → has_run p ≡ true → IsConsistent boot slot s
    → IsConsistent boot slot (after_cue cue.Kill reading (with_running evicted s))
killed_kept boot slot s p reading at is claim run c =
    moved_kept boot slot (with_running evicted s) p (next_of s.pair cue.Kill) PreemptingKilling reading at (cue_to s p cue.Kill (Some PreemptingKilling) at is) claim run (λ l. refl)
    (running_kept boot slot s evicted (λ r. refl) c)

none_running : (o : Option Running) → is_some o ≡ false → o ≡ None
none_running None is = refl
none_running (Some r) is = absurd (true≢false is)

pub ticked_kept : (boot : ℕ) (slot : SlotId) (s : SlotState) (r : TickRow) (reading : ℕ) → TickKnown s.pair r → IsConsistent boot slot s → IsConsistent boot slot (after_tick_row r reading s)
ticked_kept boot slot s row.StartOn reading at c = moved_kept boot slot s OwnerIdle (next_of s.pair cue.StartOn) UnclaimedIdle reading at (cue_to s OwnerIdle cue.StartOn _ at refl) refl refl (never _) c
ticked_kept boot slot s row.StartOff reading (inl at) c = moved_kept boot slot s UnclaimedIdle (next_of s.pair cue.StartOff) OwnerIdle reading at (cue_to s UnclaimedIdle cue.StartOff _ at refl) refl refl (never _) c
ticked_kept boot slot s row.StartOff reading (inr at) c = moved_kept boot slot s MatchedIdle (next_of s.pair cue.StartOff) OwnerIdle reading at (cue_to s MatchedIdle cue.StartOff _ at refl) refl refl (never _) c
ticked_kept boot slot s row.Lapse reading at c = moved_kept boot slot s MatchedIdle (next_of s.pair cue.Lapse) OwnerIdle reading at (cue_to s MatchedIdle cue.Lapse _ at refl) refl refl (never _) c
ticked_kept boot slot s row.Finish reading at c =
    finish_kept boot slot s reading (c.claimed ∙ ap has_claim at) (none_running (running_of s) (c.busy ∙ ap has_run at)) c
ticked_kept boot slot s row.KillPast reading (inl at) c = killed_kept boot slot s ClaimedBusy reading at refl refl refl c
ticked_kept boot slot s row.KillPast reading (inr (inl at)) c = killed_kept boot slot s ClaimedRetiring reading at refl refl refl c
ticked_kept boot slot s row.KillPast reading (inr (inr at)) c = killed_kept boot slot s PreemptingVacating reading at refl refl refl c
ticked_kept boot slot s row.Vacate reading at c = moved_kept boot slot s ClaimedRetiring (next_of s.pair cue.Vacate) PreemptingVacating reading at (cue_to s ClaimedRetiring cue.Vacate _ at refl) refl refl (λ l. refl) c
ticked_kept boot slot s row.KillVacating reading at c = killed_kept boot slot s PreemptingVacating reading at refl refl refl c
ticked_kept boot slot s row.Nothing reading at c = c
