-- What is known of a slot in each row that fits.
use Rattle.std.proofs.Common.{◌≡◌, ℕ, ℤ, ◌<◌, Bool, true, false, not, Option, Some, None, IsSome, IsSomeAnd, is_some, nat_le, refl, sym, ap, subst, inl, inr, if◌then◌else◌}
use Rattle.std.proofs.lemmas.Bool.Decides.{leb_tells}
use Rattle.claim_id.specs.declared.numbers.ClaimId.{ClaimId}
use Rattle.claim_id.specs.declared.numbers.ClaimNo.{ClaimNo}
use Rattle.claim_id.specs.declared.numbers.RunNo.{RunNo}
use Rattle.pool_mail.specs.declared.end.How.{How}
use Rattle.pool_view.specs.Numbers.{same_run}
use Rattle.claim_id.specs.declared.pair.Pair.{Pair}
use Rattle.claim_id.specs.declared.pair.Pair.TheVariants.{OwnerIdle, UnclaimedIdle, MatchedIdle, ClaimedIdle, ClaimedBusy, ClaimedRetiring, PreemptingVacating, PreemptingKilling}
use Rattle.startd_slot.specs.declared.ask.AskRow.{AskRow}
use Rattle.startd_slot.specs.declared.ask.AskRow.TheVariants as asked_row
use Rattle.startd_slot.specs.declared.ask.Asked.{Asked}
use Rattle.startd_slot.specs.declared.ask.ReleaseRow.{ReleaseRow}
use Rattle.startd_slot.specs.declared.ask.ReleaseRow.TheVariants as release
use Rattle.startd_slot.specs.declared.held.Held.{Held}
use Rattle.startd_slot.specs.declared.held.Running.{Running}
use Rattle.startd_slot.specs.declared.run_mails.Activation.{Activation}
use Rattle.startd_slot.specs.declared.run_mails.ActivateRow.{ActivateRow}
use Rattle.startd_slot.specs.declared.run_mails.ActivateRow.TheVariants as row
use Rattle.startd_slot.specs.declared.run_mails.KnownRun.{KnownRun}
use Rattle.startd_slot.specs.declared.run_mails.KnownRun.TheVariants as known
use Rattle.startd_slot.specs.declared.slot.SlotState.{SlotState}
use Rattle.startd_slot.specs.ActivateTable.{new_row, claim_row, activate_row}
use Rattle.startd_slot.specs.AskTable.{contested_row, is_rank_too_low, offered_row, ask_row}
use Rattle.startd_slot.specs.ReleaseTable.{is_busy, held_row, release_row}
use Rattle.startd_slot.specs.RunTable.{ended_or_other, unheld_run, known_by_claim, known_run}
use Rattle.startd_slot.specs.SlotStates.{is_claim, offers_claim, held_of, holds_claim, has_rival, running_of, runs_on, is_spent}
use Rattle.startd_slot.proofs.SameNumbers.{same_claim_id-true, same_run-true}

-- ---- an Ask
abbrev pub AskKnown : SlotState → ClaimId → AskRow → Type 0
AskKnown s claim asked_row.NotOffered = Unit {0}
AskKnown s claim asked_row.NotMatched = Unit {0}
AskKnown s claim asked_row.Granted = (s.offer ≡ Some claim) × (s.held ≡ None)
AskKnown s claim (asked_row.RankTooLow old new) = Unit {0}
AskKnown s claim asked_row.HandedOver = (s.offer ≡ Some claim) × (s.pair ≡ ClaimedIdle) × IsSome s.held
AskKnown s claim asked_row.MadeRival = (s.offer ≡ Some claim) × ((s.pair ≡ ClaimedIdle) → ⊥) × IsSome s.held

offer_is : (o : Option ClaimId) (claim : ClaimId) → is_claim o claim ≡ true → o ≡ Some claim
offer_is None claim is = cc
offer_is (Some c) claim is = ap (λ (x : ClaimId). Some x) (same_claim_id-true c claim is)

contested_known : (s : SlotState) (claim : ClaimId) (p : Pair) → s.pair ≡ p → s.offer ≡ Some claim → IsSome s.held → AskKnown s claim (contested_row p)
contested_known s claim ClaimedIdle at offer held = (offer, at, held)
contested_known s claim OwnerIdle at offer held = (offer, (λ other. cc), held)
contested_known s claim UnclaimedIdle at offer held = (offer, (λ other. cc), held)
contested_known s claim MatchedIdle at offer held = (offer, (λ other. cc), held)
contested_known s claim ClaimedBusy at offer held = (offer, (λ other. cc), held)
contested_known s claim ClaimedRetiring at offer held = (offer, (λ other. cc), held)
contested_known s claim PreemptingVacating at offer held = (offer, (λ other. cc), held)
contested_known s claim PreemptingKilling at offer held = (offer, (λ other. cc), held)

ranked_known : (s : SlotState) (claim : ClaimId) (low : Bool) (old new : ℤ) → s.offer ≡ Some claim → IsSome s.held → AskKnown s claim (if low then asked_row.RankTooLow old new else contested_row s.pair)
ranked_known s claim true old new offer held = tt
ranked_known s claim false old new offer held = contested_known s claim s.pair refl offer held

offered_known : (s : SlotState) (claim : ClaimId) (h : Option Held) (by_priority : Bool) (rank : ℤ) → s.held ≡ h → s.offer ≡ Some claim → AskKnown s claim (offered_row h s.pair by_priority rank)
offered_known s claim None by_priority rank none offer = (offer, none)
offered_known s claim (Some h) by_priority rank is offer = ranked_known s claim (is_rank_too_low h.rank by_priority rank) h.rank rank offer (ap is_some is)

matched_known : (s : SlotState) (asked : Asked) (matched : Bool) (rank : ℤ) → s.offer ≡ Some asked.claim → AskKnown s asked.claim (if not matched then asked_row.NotMatched else offered_row s.held s.pair asked.by_priority rank)
matched_known s asked false rank offer = tt
matched_known s asked true rank offer = offered_known s asked.claim s.held asked.by_priority rank refl offer

asked_known : (s : SlotState) (asked : Asked) (matched : Bool) (rank : ℤ) (b : Bool) → offers_claim s asked.claim ≡ b
    → AskKnown s asked.claim (if not b then asked_row.NotOffered else (if not matched then asked_row.NotMatched else offered_row s.held s.pair asked.by_priority rank))
asked_known s asked matched rank false is = tt
asked_known s asked matched rank true is = matched_known s asked matched rank (offer_is s.offer asked.claim is)

pub ask_known : (s : SlotState) (asked : Asked) (matched : Bool) (rank : ℤ) → AskKnown s asked.claim (ask_row s asked matched rank)
ask_known s asked matched rank = asked_known s asked matched rank (offers_claim s asked.claim) refl

-- ---- an Activate
-- the slot holds the run's claim, which has used only numbers below the run's
abbrev pub IsNewOf : SlotState → RunNo → Type 0
IsNewOf s run = IsSomeAnd (held_of s run.claim) (λ h. h.last < run.number)

abbrev pub ActivateKnown : SlotState → ℕ → RunNo → ActivateRow → Type 0
ActivateKnown s boot run (row.NotHeld spent) = (is_spent s boot run ≡ spent) × (held_of s run.claim ≡ None)
ActivateKnown s boot run (row.Spent last) = Unit {0}
ActivateKnown s boot run (row.Occupied other) = IsNewOf s run
ActivateKnown s boot run row.Past = IsNewOf s run
ActivateKnown s boot run row.NotMatched = IsNewOf s run
ActivateKnown s boot run row.Starts = IsNewOf s run

free_known : (s : SlotState) (boot : ℕ) (run : RunNo) (late matched : Bool) → IsNewOf s run → ActivateKnown s boot run (if late then row.Past else (if not matched then row.NotMatched else row.Starts))
free_known s boot run true matched new = new
free_known s boot run false true new = new
free_known s boot run false false new = new

new_known : (s : SlotState) (boot : ℕ) (r : Option Running) (a : Activation) (matched : Bool) (reading : ℕ) → IsNewOf s a.run → ActivateKnown s boot a.run (new_row r a matched reading)
new_known s boot (Some r) a matched reading new = new
new_known s boot None a matched reading new = free_known s boot a.run (nat_le a.until reading) matched new

used_known : (s : SlotState) (boot : ℕ) (h : Held) (a : Activation) (matched : Bool) (reading : ℕ) (used : Bool) → nat_le a.run.number h.last ≡ used → held_of s a.run.claim ≡ Some h
    → ActivateKnown s boot a.run (if used then row.Spent h.last else new_row h.running a matched reading)
used_known s boot h a matched reading true is at = tt
used_known s boot h a matched reading false is at = new_known s boot h.running a matched reading (is_new (held_of s a.run.claim) at)
  where
    above : h.last < a.run.number
    above = elim (leb_tells a.run.number h.last) [ inl t ↦ cc | inr f ↦ f.1 ]

    is_new : (o : Option Held) → o ≡ Some h → IsSomeAnd o (λ h. h.last < a.run.number)
    is_new None at = cc
    is_new (Some k) at = (let same : k ≡ h = cc in subst (λ (x : Held). x.last < a.run.number) (sym same) above)

claim_known : (s : SlotState) (boot : ℕ) (o : Option Held) (spent : Bool) (a : Activation) (matched : Bool) (reading : ℕ) → held_of s a.run.claim ≡ o → is_spent s boot a.run ≡ spent
    → ActivateKnown s boot a.run (claim_row o spent a matched reading)
claim_known s boot None spent a matched reading at is = (is, at)
claim_known s boot (Some h) spent a matched reading at is = used_known s boot h a matched reading _ refl at

pub activate_known : (s : SlotState) (boot : ℕ) (a : Activation) (matched : Bool) (reading : ℕ) → ActivateKnown s boot a.run (activate_row s boot a matched reading)
activate_known s boot a matched reading = claim_known s boot (held_of s a.run.claim) (is_spent s boot a.run) a matched reading refl refl

-- ---- an Alive, and a Stop
abbrev pub RunKnown : SlotState → ℕ → RunNo → KnownRun → Type 0
RunKnown s boot run known.Running = runs_on s run ≡ true
RunKnown s boot run (known.Ended how) = IsSomeAnd (held_of s run.claim) (λ h. h.ended ≡ Some (run, how)) × (runs_on s run ≡ false)
RunKnown s boot run known.OfHeldClaim = IsSome (held_of s run.claim) × (runs_on s run ≡ false)
RunKnown s boot run known.Spent = (is_spent s boot run ≡ true) × (held_of s run.claim ≡ None) × (runs_on s run ≡ false)
RunKnown s boot run known.Unknown = Unit {0}

last_known : (s : SlotState) (boot : ℕ) (run last : RunNo) (how : How) (h : Held) (same : Bool) → same_run last run ≡ same → held_of s run.claim ≡ Some h → h.ended ≡ Some (last, how) → runs_on s run ≡ false
    → RunKnown s boot run (if same then known.Ended how else known.OfHeldClaim)
last_known s boot run last how h true is at ended off = (is_last (held_of s run.claim) at, off)
  where
    is_last : (o : Option Held) → o ≡ Some h → IsSomeAnd o (λ h. h.ended ≡ Some (run, how))
    is_last None at = cc
    is_last (Some k) at = (let one : k ≡ h = cc in let same : last ≡ run = same_run-true last run is in cc)
last_known s boot run last how h false is at ended off = (ap is_some at, off)

ended_known : (s : SlotState) (boot : ℕ) (run : RunNo) (h : Held) (o : Option (RunNo × How)) → held_of s run.claim ≡ Some h → h.ended ≡ o → runs_on s run ≡ false → RunKnown s boot run (ended_or_other o run)
ended_known s boot run h None at is off = (ap is_some at, off)
ended_known s boot run h (Some e) at is off = last_known s boot run e.0 e.1 h (same_run e.0 run) refl at is off

unheld_known : (s : SlotState) (boot : ℕ) (run : RunNo) (spent : Bool) → is_spent s boot run ≡ spent → held_of s run.claim ≡ None → runs_on s run ≡ false → RunKnown s boot run (unheld_run spent)
unheld_known s boot run true is at off = (is, at, off)
unheld_known s boot run false is at off = tt

by_claim_known : (s : SlotState) (boot : ℕ) (run : RunNo) (o : Option Held) (spent : Bool) → held_of s run.claim ≡ o → is_spent s boot run ≡ spent → runs_on s run ≡ false → RunKnown s boot run (known_by_claim o spent run)
by_claim_known s boot run None spent at is off = unheld_known s boot run spent is at off
by_claim_known s boot run (Some h) spent at is off = ended_known s boot run h h.ended at refl off

here_known : (s : SlotState) (boot : ℕ) (run : RunNo) (here : Bool) → runs_on s run ≡ here → RunKnown s boot run (if here then known.Running else known_by_claim (held_of s run.claim) (is_spent s boot run) run)
here_known s boot run true is = is
here_known s boot run false is = by_claim_known s boot run (held_of s run.claim) (is_spent s boot run) refl refl is

pub run_known : (s : SlotState) (boot : ℕ) (run : RunNo) → RunKnown s boot run (known_run s boot run)
run_known s boot run = here_known s boot run (runs_on s run) refl

-- ---- a Release
abbrev pub ReleaseKnown : SlotState → ClaimNo → ReleaseRow → Type 0
ReleaseKnown s claim release.Finished = (holds_claim s claim ≡ true) × (running_of s ≡ None)
ReleaseKnown s claim release.Retiring = is_busy s.pair ≡ true
ReleaseKnown s claim release.RivalGone = Unit {0}
ReleaseKnown s claim release.Nothing = Unit {0}

busy_known : (s : SlotState) (claim : ClaimNo) (busy : Bool) → is_busy s.pair ≡ busy → ReleaseKnown s claim (if busy then release.Retiring else release.Nothing)
busy_known s claim true is = is
busy_known s claim false is = tt

held_known : (s : SlotState) (claim : ClaimNo) (o : Option Running) → running_of s ≡ o → holds_claim s claim ≡ true → ReleaseKnown s claim (held_row o s.pair)
held_known s claim None none holds = (holds, none)
held_known s claim (Some r) is holds = busy_known s claim (is_busy s.pair) refl

rival_known : (s : SlotState) (claim : ClaimNo) (waits : Bool) → ReleaseKnown s claim (if waits then release.RivalGone else release.Nothing)
rival_known s claim true = tt
rival_known s claim false = tt

holds_known : (s : SlotState) (claim : ClaimNo) (holds : Bool) → holds_claim s claim ≡ holds
    → ReleaseKnown s claim (if holds then held_row (running_of s) s.pair else (if has_rival s claim then release.RivalGone else release.Nothing))
holds_known s claim true is = held_known s claim (running_of s) refl is
holds_known s claim false is = rival_known s claim (has_rival s claim)

pub release_known : (s : SlotState) (claim : ClaimNo) → ReleaseKnown s claim (release_row s claim)
release_known s claim = holds_known s claim (holds_claim s claim) refl
