-- Which steps a startd makes of mails, ends of runs, ticks and boots.
use Rattle.std.proofs.Common.{◌≡◌, inl, inr, ℕ, ℤ, ◌+◌, Bool, true, false, not, List, [], ◌∷◌, Option, Some, None, is_some, nat_le, nat_lt, if◌then◌else◌, refl, sym, ◌∙◌, ap, subst}
use Rattle.std.proofs.lemmas.Option.{none-some}
use Rattle.ad_eval.specs.Judgement.{Judgement}
use Rattle.ad_eval.specs.Match.{rank_of}
use Rattle.claim_id.specs.declared.numbers.ClaimId.{ClaimId}
use Rattle.claim_id.specs.declared.numbers.ClaimNo.{ClaimNo}
use Rattle.claim_id.specs.declared.numbers.JobId.{JobId}
use Rattle.claim_id.specs.declared.numbers.RunNo.{RunNo}
use Rattle.claim_id.specs.declared.numbers.SlotId.{SlotId}
use Rattle.pool_rules.proofs.Machines.{at_place, in_place}
use Rattle.pool_rules.proofs.SlotRows.{by_if}
use Rattle.pool_rules.specs.StartdEvents.{ends_in_slot, ends_where, moves_in_slot, moves_of_all, moves_of_boots, moves_of_ended_run, moves_of_startd_mail, moves_of_ticks}
use Rattle.pool_mail.specs.declared.end.Ending.{Ending}
use Rattle.pool_mail.specs.declared.end.How.{How}
use Rattle.pool_mail.specs.declared.mail.Mail.{Mail}
use Rattle.pool_mail.specs.declared.mail.Mail.TheVariants as mail
use Rattle.pool_mail.specs.declared.settings.Settings.{Settings}
use Rattle.pool_view.specs.ProtocolMove.{ProtocolMove, EndClaim, ExtendRun, HoldClaim, Reboot, StopRun, protocol_after}
use Rattle.pool_view.specs.AbstractPool.{IsIn, Marks}
use Rattle.pool_view.specs.AbstractStep.{AbstractStep, Extend, Mark, Start, Stop}
use Rattle.pool_view.specs.declared.run.Run.{Run}
use Rattle.pool_view.specs.Numbers.{same_run}
use Rattle.claim_id.specs.declared.pair.Pair.{Pair}
use Rattle.claim_id.specs.declared.pair.Pair.TheVariants.{OwnerIdle, UnclaimedIdle, MatchedIdle, ClaimedIdle, ClaimedBusy, ClaimedRetiring, PreemptingVacating, PreemptingKilling}
use Rattle.startd_slot.proofs.SameNumbers.{same_run-true}
use Rattle.startd_slot.specs.declared.held.Held.{Held}
use Rattle.startd_slot.specs.declared.held.Rival.{Rival}
use Rattle.startd_slot.specs.declared.held.Running.{Running}
use Rattle.startd_slot.specs.declared.slot.Slot.{Slot}
use Rattle.startd_slot.specs.declared.slot.SlotState.{SlotState}
use Rattle.startd_slot.specs.ActivateTable.{claim_row, free_row, new_row, run_of}
use Rattle.startd_slot.specs.AskTable.{ask_row, contested_row, is_rank_too_low, offered_row}
use Rattle.startd_slot.specs.EndingTable.{how_of, mark_in}
use Rattle.startd_slot.specs.ReleaseTable.{held_row, is_busy, release_row}
use Rattle.startd_slot.specs.RunTable.{ended_or_other, known_by_claim, known_run}
use Rattle.startd_slot.specs.SlotMoves.{burns, claim_ends, goes_on, moves_of_activate, moves_of_alive, moves_of_ask, moves_of_boot, moves_of_end, moves_of_mail, moves_of_release, moves_of_word, rival_holds, run_in_slot, run_stops, says_gone_where, starts_by}
use Rattle.startd_slot.specs.SlotStates.{has_rival, held_of, holds_claim, is_run, is_spent, offers_claim, running_of, runs_on}
use Rattle.startd_slot.specs.Mails.{asked_claim}
use Rattle.startd_core.specs.Sound.{IsSound}
use Rattle.startd_core.specs.Startds.{StartdValue, place_of, slot_in, slot_of, slot_of_claim}
use Rattle.startd_core.specs.TickTable.{is_after, is_lease_past, is_start_on, is_unheard, row_in, slot_row}
use Rattle.startd_core.specs.TimeMoves.{moves_of_tick}
use Rattle.pool_rules.specs.Steps.{IsMailStep}
use Rattle.pool_rules.proofs.StepKinds.{MakeSteps, make_append, no_steps}

-- ---- one slot
run_there : (s : SlotState) (r : Running) (run : RunNo) → runs_on s run ≡ true → running_of s ≡ Some r → r.run ≡ run
run_there s r run is there = same_run-true r.run run (sym (ap (λ o. is_run o run) there) ∙ is)

by_known : {R : Type 0} (F : R → Type 0) (x y : R) (b : Bool) → (b ≡ true → F x) → F y → F (if b then x else y)
by_known F x y true then_x else_y = then_x refl
by_known F x y false then_x else_y = else_y

module _ (P : AbstractStep → Type 0) (mark : (m : Marks) → P (Mark m)) where
  claim_ends_make : (o : Option Held) (ms : List ProtocolMove) → MakeSteps P ms → MakeSteps P (claim_ends o ms)
  claim_ends_make None ms rest p k there = rest p k there
  claim_ends_make (Some h) ms rest p k (inl same) = subst P (sym same) (mark _)
  claim_ends_make (Some h) ms rest p k (inr there) = rest (protocol_after p (EndClaim h.claim.no)) k there

  claim_held_makes : (claim : ClaimNo) → MakeSteps P (HoldClaim claim ∷ [])
  claim_held_makes claim p k (inl same) = subst P (sym same) (mark _)
  claim_held_makes claim p k (inr there) = absurd there

  -- ---- an Ask
  contested_makes : (pair : Pair) (claim : ClaimId) (s : SlotState) → MakeSteps P (moves_of_ask (contested_row pair) claim s)
  contested_makes ClaimedIdle claim s p = claim_ends_make s.held (HoldClaim claim.no ∷ []) (claim_held_makes claim.no) p
  contested_makes OwnerIdle claim s p = no_steps P
  contested_makes UnclaimedIdle claim s p = no_steps P
  contested_makes MatchedIdle claim s p = no_steps P
  contested_makes ClaimedBusy claim s p = no_steps P
  contested_makes ClaimedRetiring claim s p = no_steps P
  contested_makes PreemptingVacating claim s p = no_steps P
  contested_makes PreemptingKilling claim s p = no_steps P

  offered_makes : (o : Option Held) (pair : Pair) (by_priority : Bool) (rank : ℤ) (claim : ClaimId) (s : SlotState) → MakeSteps P (moves_of_ask (offered_row o pair by_priority rank) claim s)
  offered_makes None pair by_priority rank claim s = claim_held_makes claim.no
  offered_makes (Some h) pair by_priority rank claim s = by_if (λ r. MakeSteps P (moves_of_ask r claim s)) _ _ (is_rank_too_low h.rank by_priority rank) (λ p. no_steps P) (contested_makes pair claim s)

  ask_makes : (claim : ClaimId) (job : JobId) (by_priority matched : Bool) (rank : ℤ) (s : SlotState) → MakeSteps P (moves_of_ask (ask_row s (record { claim = claim; job = job; by_priority = by_priority }) matched rank) claim s)
  ask_makes claim job by_priority matched rank s =
      by_if (λ r. MakeSteps P (moves_of_ask r claim s)) _ _ (not (offers_claim s claim)) (λ p. no_steps P)
      (by_if (λ r. MakeSteps P (moves_of_ask r claim s)) _ _ (not matched) (λ p. no_steps P) (offered_makes s.held s.pair by_priority rank claim s))

  -- ---- a Release
  held_makes : (o : Option Running) (pair : Pair) (s : SlotState) → MakeSteps P (moves_of_release (held_row o pair) s)
  held_makes None pair s = claim_ends_make s.held [] (λ p. no_steps P)
  held_makes (Some running) pair s = by_if (λ r. MakeSteps P (moves_of_release r s)) _ _ (is_busy pair) (λ p. no_steps P) (λ p. no_steps P)

  release_makes : (s : SlotState) (claim : ClaimNo) → MakeSteps P (moves_of_release (release_row s claim) s)
  release_makes s claim =
      by_if (λ r. MakeSteps P (moves_of_release r s)) _ _ (holds_claim s claim) (held_makes (running_of s) s.pair s)
      (by_if (λ r. MakeSteps P (moves_of_release r s)) _ _ (has_rival s claim) (λ p. no_steps P) (λ p. no_steps P))

  -- ---- a word of a run that isn't here
  burns_make : (run : RunNo) → MakeSteps P (burns run)
  burns_make run p k (inl same) = subst P (sym same) (mark _)
  burns_make run p k (inr there) = absurd there

  gone_makes : (spent : Bool) (run : RunNo) → MakeSteps P (says_gone_where spent run)
  gone_makes true run p = no_steps P
  gone_makes false run p = no_steps P

  ended_word_makes : (o : Option (RunNo × How)) (run : RunNo) → MakeSteps P (moves_of_word (ended_or_other o run) run)
  ended_word_makes None run = burns_make run
  ended_word_makes (Some e) run = by_if (λ r. MakeSteps P (moves_of_word r run)) _ _ (same_run e.0 run) (λ p. no_steps P) (burns_make run)

  unknown_word_makes : (o : Option Held) (spent : Bool) (run : RunNo) → MakeSteps P (moves_of_word (known_by_claim o spent run) run)
  unknown_word_makes (Some h) spent run = ended_word_makes h.ended run
  unknown_word_makes None spent run = by_if (λ r. MakeSteps P (moves_of_word r run)) _ _ spent (λ p. no_steps P) (λ p. no_steps P)

  stop_makes : (boot : ℕ) (run : RunNo) (s : SlotState) → MakeSteps P (moves_of_word (known_run s boot run) run)
  stop_makes boot run s = by_if (λ r. MakeSteps P (moves_of_word r run)) _ _ (runs_on s run) (λ p. no_steps P) (unknown_word_makes (held_of s run.claim) (is_spent s boot run) run)

  -- ---- the end of a run, and time
  rival_makes : (o : Option Rival) → MakeSteps P (rival_holds o)
  rival_makes None p = no_steps P
  rival_makes (Some rival) p = claim_held_makes rival.claim.no p

  stops_make : (o : Option Running) (slot : SlotId) (how : Option How) (ms : List ProtocolMove) → ((r : Running) → o ≡ Some r → P (Stop (run_in_slot slot r) how)) → MakeSteps P ms → MakeSteps P (run_stops o slot how ms)
  stops_make None slot how ms stops rest p k there = rest p k there
  stops_make (Some r) slot how ms stops rest p k (inl same) = subst P (sym same) (stops r refl)
  stops_make (Some r) slot how ms stops rest p k (inr there) = rest (protocol_after p (StopRun (run_in_slot slot r) how)) k there

  end_makes : (slot : Slot) (ending : Ending) → ((r : Running) (how : How) → running_of slot.state ≡ Some r → P (Stop (run_in_slot slot.id r) (Some how))) → MakeSteps P (moves_of_end slot ending)
  end_makes slot ending stops = stops_make (running_of slot.state) slot.id (Some how) later (λ r is. stops r how is) (by (is_busy slot.state.pair))
    where
      how : How
      how = how_of ending.end (mark_in (running_of slot.state))

      later : List ProtocolMove
      later = if is_busy slot.state.pair then [] else claim_ends slot.state.held (rival_holds slot.state.rival)

      by : (b : Bool) → MakeSteps P (if b then [] else claim_ends slot.state.held (rival_holds slot.state.rival))
      by true p = no_steps P
      by false p = claim_ends_make slot.state.held (rival_holds slot.state.rival) (rival_makes slot.state.rival) p

  boot_makes : (boot : ℕ) (slot : Slot) → ((r : Running) → P (Stop (run_in_slot slot.id r) None)) → MakeSteps P (moves_of_boot boot slot)
  boot_makes boot slot stops = stops_make (running_of slot.state) slot.id None (Reboot slot.id boot ∷ []) (λ r is. stops r) reboots
    where
      reboots : MakeSteps P (Reboot slot.id boot ∷ [])
      reboots p k (inl same) = subst P (sym same) (mark _)
      reboots p k (inr there) = absurd there

  tick_makes : (slot : Slot) (set : Settings) (reading : ℕ) → MakeSteps P (moves_of_tick (slot_row slot set reading) slot.state)
  tick_makes slot set reading = by slot.state.pair
    where
      s : SlotState
      s = slot.state

      on : Bool
      on = is_start_on slot.ad reading

      by : (pair : Pair) → MakeSteps P (moves_of_tick (row_in pair s set on reading) s)
      by OwnerIdle = by_if (λ r. MakeSteps P (moves_of_tick r s)) _ _ on (λ p. no_steps P) (λ p. no_steps P)
      by UnclaimedIdle = by_if (λ r. MakeSteps P (moves_of_tick r s)) _ _ (not on) (λ p. no_steps P) (λ p. no_steps P)
      by MatchedIdle = by_if (λ r. MakeSteps P (moves_of_tick r s)) _ _ (not on) (λ p. no_steps P) (by_if (λ r. MakeSteps P (moves_of_tick r s)) _ _ (is_after s.entered set.match_timeout reading) (λ p. no_steps P) (λ p. no_steps P))
      by ClaimedIdle = by_if (λ r. MakeSteps P (moves_of_tick r s)) _ _ (is_unheard s.held set.claim_lease reading) (claim_ends_make s.held [] (λ p. no_steps P)) (λ p. no_steps P)
      by ClaimedBusy = by_if (λ r. MakeSteps P (moves_of_tick r s)) _ _ (is_lease_past s reading) (λ p. no_steps P) (λ p. no_steps P)
      by ClaimedRetiring = by_if (λ r. MakeSteps P (moves_of_tick r s)) _ _ (is_lease_past s reading) (λ p. no_steps P) (by_if (λ r. MakeSteps P (moves_of_tick r s)) _ _ (is_after s.entered set.retirement reading) (λ p. no_steps P) (λ p. no_steps P))
      by PreemptingVacating = by_if (λ r. MakeSteps P (moves_of_tick r s)) _ _ (is_lease_past s reading) (λ p. no_steps P) (by_if (λ r. MakeSteps P (moves_of_tick r s)) _ _ (is_after s.entered set.vacate reading) (λ p. no_steps P) (λ p. no_steps P))
      by PreemptingKilling = λ p. no_steps P

  -- ---- an Activate
  module _ (slot : SlotId) where
    -- the run starts by the judgement
    abbrev LetsStart : RunNo → JobId → ℕ → Option Judgement → Type 0
    LetsStart run job until judged = (j : Judgement) (m : Marks) → judged ≡ Some j → P (Start (run_in_slot slot (run_of (record { run = run; job = job; until = until }) j)) m)

    free_makes : (run : RunNo) (job : JobId) (until : ℕ) (judged : Option Judgement) (reading : ℕ) → LetsStart run job until judged
        → MakeSteps P (moves_of_activate (free_row (record { run = run; job = job; until = until }) (is_some judged) reading) slot (record { run = run; job = job; until = until }) judged)
    free_makes run job until None reading starts =
        by_if (λ r. MakeSteps P (moves_of_activate r slot (record { run = run; job = job; until = until }) None)) _ _ (nat_le until reading) (burns_make run) (burns_make run)
    free_makes run job until (Some judged) reading starts =
        by_if (λ r. MakeSteps P (moves_of_activate r slot (record { run = run; job = job; until = until }) (Some judged))) _ _ (nat_le until reading) (burns_make run) begins
      where
        begins : MakeSteps P (starts_by (Some judged) slot (record { run = run; job = job; until = until }))
        begins p k (inl same) = subst P (sym same) (starts judged _ refl)
        begins p k (inr there) = absurd there

    new_makes : (o : Option Running) (run : RunNo) (job : JobId) (until : ℕ) (judged : Option Judgement) (reading : ℕ) → LetsStart run job until judged
        → MakeSteps P (moves_of_activate (new_row o (record { run = run; job = job; until = until }) (is_some judged) reading) slot (record { run = run; job = job; until = until }) judged)
    new_makes None run job until judged reading starts = free_makes run job until judged reading starts
    new_makes (Some other) run job until judged reading starts = burns_make run

    claimed_makes : (o : Option Held) (spent : Bool) (run : RunNo) (job : JobId) (until : ℕ) (judged : Option Judgement) (reading : ℕ) → LetsStart run job until judged
        → MakeSteps P (moves_of_activate (claim_row o spent (record { run = run; job = job; until = until }) (is_some judged) reading) slot (record { run = run; job = job; until = until }) judged)
    claimed_makes None spent run job until judged reading starts = gone_makes spent run
    claimed_makes (Some h) spent run job until judged reading starts =
        by_if (λ r. MakeSteps P (moves_of_activate r slot (record { run = run; job = job; until = until }) judged)) _ _ (nat_le run.number h.last)
        (λ p. no_steps P) (new_makes h.running run job until judged reading starts)

    -- ---- an Alive
    goes_make : (o : Option Running) (until reading : ℕ) → ((r : Running) → o ≡ Some r → P (Extend (run_in_slot slot r) until)) → MakeSteps P (goes_on o slot until reading)
    goes_make None until reading extends = λ p. no_steps P
    goes_make (Some r) until reading extends = by (nat_lt reading until)
      where
        by : (b : Bool) → MakeSteps P (if b then ExtendRun (run_in_slot slot r) until ∷ [] else [])
        by true p k (inl same) = subst P (sym same) (extends r refl)
        by true p k (inr there) = absurd there
        by false p k there = absurd there

    ended_alive_makes : (o : Option (RunNo × How)) (s : SlotState) (run : RunNo) (until reading : ℕ) → MakeSteps P (moves_of_alive (ended_or_other o run) s slot run until reading)
    ended_alive_makes None s run until reading = burns_make run
    ended_alive_makes (Some e) s run until reading = by_if (λ r. MakeSteps P (moves_of_alive r s slot run until reading)) _ _ (same_run e.0 run) (λ p. no_steps P) (burns_make run)

    unknown_alive_makes : (o : Option Held) (spent : Bool) (s : SlotState) (run : RunNo) (until reading : ℕ) → MakeSteps P (moves_of_alive (known_by_claim o spent run) s slot run until reading)
    unknown_alive_makes (Some h) spent s run until reading = ended_alive_makes h.ended s run until reading
    unknown_alive_makes None spent s run until reading = by_if (λ r. MakeSteps P (moves_of_alive r s slot run until reading)) _ _ spent (λ p. no_steps P) (λ p. no_steps P)

    alive_makes : (boot : ℕ) (s : SlotState) (run : RunNo) (until reading : ℕ) → ((r : Running) → r.run ≡ run → P (Extend (run_in_slot slot r) until)) → MakeSteps P (moves_of_alive (known_run s boot run) s slot run until reading)
    alive_makes boot s run until reading extends = by_known (λ r. MakeSteps P (moves_of_alive r s slot run until reading)) _ _ (runs_on s run)
        (λ is. goes_make (running_of s) until reading (λ r there. extends r (run_there s r run is there))) (unknown_alive_makes (held_of s run.claim) (is_spent s boot run) s run until reading)

  mail_makes : (boot : ℕ) (slot : Slot) (m : Mail) (judged : Option Judgement) (reading : ℕ) → ((k : AbstractStep) → IsMailStep slot.id.machine m judged k → P k) → MakeSteps P (moves_of_mail boot slot m judged reading)
  unfolding moves_of_mail
  mail_makes boot slot (mail.Ask claim job ad by_priority) judged reading each = ask_makes claim job by_priority (is_some judged) (rank_of slot.ad ad reading) slot.state
  mail_makes boot slot (mail.Activate run job ad until) judged reading each =
      claimed_makes slot.id (held_of slot.state run.claim) (is_spent slot.state boot run) run job until judged reading (λ j ms is. each (Start _ ms) (refl, refl, refl, refl, is))
  mail_makes boot slot (mail.Alive run until) judged reading each = alive_makes slot.id boot slot.state run until reading (λ r is. each (Extend _ until) (refl, is, refl))
  mail_makes boot slot (mail.Stop run) judged reading each = stop_makes boot run slot.state
  mail_makes boot slot (mail.Release claim) judged reading each = release_makes slot.state claim
  mail_makes boot slot (mail.Update ad) judged reading each = λ p. no_steps P
  mail_makes boot slot (mail.Matched found) judged reading each = λ p. no_steps P
  mail_makes boot slot (mail.Granted claim job) judged reading each = λ p. no_steps P
  mail_makes boot slot (mail.Denied claim run job why) judged reading each = λ p. no_steps P
  mail_makes boot slot (mail.Seen run until) judged reading each = λ p. no_steps P
  mail_makes boot slot (mail.Gone run kept) judged reading each = λ p. no_steps P
  mail_makes boot slot (mail.Ended run how) judged reading each = λ p. no_steps P
  mail_makes boot slot (mail.Remove job) judged reading each = λ p. no_steps P
  mail_makes boot slot (mail.Hold job) judged reading each = λ p. no_steps P
  mail_makes boot slot (mail.Resume job) judged reading each = λ p. no_steps P

  all_make : (moves : Slot → List ProtocolMove) (slots : List Slot) → ((slot : Slot) → IsIn slot slots → MakeSteps P (moves slot)) → MakeSteps P (moves_of_all moves slots)
  all_make moves [] each p = no_steps P
  all_make moves (slot ∷ slots) each p = make_append P (moves slot) (moves_of_all moves slots) (each slot (inl refl)) (all_make moves slots (λ t there. each t (inr there))) p

-- ---- a startd's slots are its machine's
slot_machine : (v : StartdValue) (slot : Slot) → IsSound v → IsIn slot v.slots → slot.id.machine ≡ v.machine.number
slot_machine v slot sound there = let found = in_place slot v.slots there in ap (λ (x : SlotId). x.machine) (sound.slots found.0 slot found.1).numbered

found_machine : (v : StartdValue) (id : SlotId) (slot : Slot) → IsSound v → slot_of v id ≡ Some slot → slot.id.machine ≡ v.machine.number
found_machine v id slot sound found = by (place_of v id) found
  where
    by : (o : Option ℕ) → slot_in v o ≡ Some slot → slot.id.machine ≡ v.machine.number
    by None none = absurd (none-some slot none)
    by (Some place) at = slot_machine v slot sound (at_place slot v.slots place at)

claimed_machine : (v : StartdValue) (o : Option ClaimNo) (slot : Slot) → IsSound v → slot_of_claim v o ≡ Some slot → slot.id.machine ≡ v.machine.number
claimed_machine v None slot sound none = absurd (none-some slot none)
claimed_machine v (Some claim) slot sound found = found_machine v claim.slot slot sound found

-- ---- the startd of a machine
module _ (P : AbstractStep → Type 0) (mark : (m : Marks) → P (Mark m)) (v : StartdValue) (machine : ℕ) (sound : IsSound v) (number : v.machine.number ≡ machine) where
  at_slot : (slot : Slot) (r : Run) → slot.id.machine ≡ v.machine.number → r.slot ≡ slot.id → r.slot.machine ≡ machine
  at_slot slot r its is = ap (λ (x : SlotId). x.machine) is ∙ (its ∙ number)

  pub startd_mail_makes : (m : Mail) (judged : Option Judgement) (reading : ℕ) → ((k : AbstractStep) → IsMailStep machine m judged k → P k) → MakeSteps P (moves_of_startd_mail v m judged reading)
  startd_mail_makes m judged reading each = by (slot_of_claim v (asked_claim m)) (λ slot found. claimed_machine v (asked_claim m) slot sound found)
    where
      by : (o : Option Slot) → ((slot : Slot) → o ≡ Some slot → slot.id.machine ≡ v.machine.number) → MakeSteps P (moves_in_slot v.machine.boot o m judged reading)
      by None its p = no_steps P
      by (Some slot) its p = mail_makes P mark v.machine.boot slot m judged reading (λ k is. each k (subst (λ n. IsMailStep n m judged k) (its slot refl ∙ number) is)) p

  pub ticks_make : (reading : ℕ) → MakeSteps P (moves_of_ticks v reading)
  ticks_make reading = all_make P mark (λ slot. moves_of_tick (slot_row slot v.settings reading) slot.state) v.slots (λ slot there. tick_makes P mark slot v.settings reading)

  pub boots_make : ((r : Run) → r.slot.machine ≡ machine → P (Stop r None)) → MakeSteps P (moves_of_boots v)
  boots_make stops = all_make P mark (moves_of_boot (v.machine.boot + 1)) v.slots
      (λ slot there. boot_makes P mark (v.machine.boot + 1) slot (λ r. stops (run_in_slot slot.id r) (at_slot slot (run_in_slot slot.id r) (slot_machine v slot sound there) refl)))

  pub ended_makes : (ending : Ending) → ((r : Run) (how : How) → r.slot.machine ≡ machine → r.run ≡ ending.run → P (Stop r (Some how))) → MakeSteps P (moves_of_ended_run v ending)
  ended_makes ending stops = by (slot_of v ending.run.claim.slot) (λ slot found. found_machine v ending.run.claim.slot slot sound found)
    where
      here : (slot : Slot) (runs : Bool) → runs_on slot.state ending.run ≡ runs → slot.id.machine ≡ v.machine.number → MakeSteps P (ends_where runs slot ending)
      here slot false is its p = no_steps P
      here slot true is its p = end_makes P mark slot ending (λ r how there. stops (run_in_slot slot.id r) how (at_slot slot (run_in_slot slot.id r) its refl) (run_there slot.state r ending.run is there)) p

      by : (o : Option Slot) → ((slot : Slot) → o ≡ Some slot → slot.id.machine ≡ v.machine.number) → MakeSteps P (ends_in_slot o ending)
      by None its p = no_steps P
      by (Some slot) its p = here slot (runs_on slot.state ending.run) refl (its slot refl) p
