-- The end that is said of a run is that of the run on its slot.
use Rattle.std.proofs.Common.{◌≡◌, inl, inr, ℕ, ◌+◌, Bool, true, false, List, [], ◌∷◌, Option, Some, None, IfSome, slice_get, true≢false, refl, sym, ◌∙◌, ap, subst, arith, if◌then◌else◌}
use Rattle.std.proofs.lemmas.Option.{same_Some}
use Rattle.claim_id.specs.declared.numbers.ClaimNo.{ClaimNo}
use Rattle.claim_id.specs.declared.numbers.JobId.{JobId}
use Rattle.claim_id.specs.declared.numbers.RunNo.{RunNo}
use Rattle.claim_id.specs.declared.numbers.SlotId.{SlotId}
use Rattle.pool_mail.specs.declared.end.Ending.{Ending}
use Rattle.pool_mail.specs.declared.end.How.{How}
use Rattle.pool_mail.specs.declared.mail.Mail.{Mail}
use Rattle.pool_mail.specs.declared.mail.Mail.TheVariants.{Ended, Granted}
use Rattle.pool_view.specs.AbstractPool.{IsIn}
use Rattle.claim_id.specs.declared.pair.Cue.TheVariants.{Rest}
use Rattle.startd_slot.specs.declared.held.Held.{Held}
use Rattle.startd_slot.specs.declared.held.Rival.{Rival}
use Rattle.startd_slot.specs.declared.held.Running.{Running}
use Rattle.startd_slot.specs.declared.slot.Slot.{Slot}
use Rattle.startd_slot.specs.declared.slot.SlotState.{SlotState}
use Rattle.startd_slot.specs.Consistent.{HasOwnRuns, IsOwnClaim, IsOwnRun}
use Rattle.startd_slot.specs.EndingTable.{after_ending, after_last_run, after_run, how_of, mark_in}
use Rattle.startd_slot.specs.Reactions.{says}
use Rattle.startd_slot.specs.ReleaseTable.{is_busy}
use Rattle.startd_slot.specs.SlotStates.{after_cue, is_run, running_in, running_of, runs_on, without_claim, without_run}
use Rattle.startd_slot.proofs.SameNumbers.{same_run-true}
use Rattle.startd_core.specs.declared.offers.Machine.{Machine}
use Rattle.startd_core.specs.Offers.{Settled, has_changed, settled}
use Rattle.startd_core.specs.Sound.{IsSlotAt, IsSound}
use Rattle.startd_core.specs.Startds.{StartdValue, after_end, after_made, ended_at, ended_in, ended_where, made_by, place_of, slot_in, told}
use Rattle.pool_rules.specs.StartdEvents.{end_report_of, report_where, reports_in_slot, reports_of_end}
use Rattle.pool_rules.proofs.Machines.{at_place, in_place}
use Rattle.pool_rules.specs.Startds.{ends_after, job_of_run, job_on, job_running, report_in, report_of, reports_in}

-- ---- the run is on one slot
-- the claim of a run on a slot is one of that slot
run_of_slot : (h : Held) (slot : SlotId) (run : RunNo) (o : Option Running) → h.claim.no.slot ≡ slot → IfSome o (λ r. IsOwnRun h r.run) → is_run o run ≡ true → slot ≡ run.claim.slot
run_of_slot h slot run None its own is = absurd (true≢false (sym is))
run_of_slot h slot run (Some r) its own is =
    sym its ∙ (sym (ap (λ (c : ClaimNo). c.slot) own.0) ∙ ap (λ (x : RunNo). x.claim.slot) (same_run-true r.run run is))

own_slot : (m : Machine) (place : ℕ) (t : Slot) (run : RunNo) → IsSlotAt m place t → runs_on t.state run ≡ true → t.id ≡ run.claim.slot
own_slot m place t run its is = by t.state.held its.consistent.held is
  where
    by : (o : Option Held) → IfSome o (λ h. IsOwnClaim m.boot t.id t.state h.claim.no × HasOwnRuns h) → is_run (running_in o) run ≡ true → t.id ≡ run.claim.slot
    by None own here = absurd (true≢false (sym here))
    by (Some h) own here = run_of_slot h t.id run h.running own.0.0 own.1.0 here

-- two slots of a machine that have it are one
one_slot : (v : StartdValue) (run : RunNo) (place k : ℕ) (slot t : Slot) → IsSound v → slice_get v.slots place ≡ Some slot → slice_get v.slots k ≡ Some t → runs_on slot.state run ≡ true → runs_on t.state run ≡ true → t ≡ slot
one_slot v run place k slot t sound at there is also =
    let first = sound.slots place slot at in
    let second = sound.slots k t there in
    let id : t.id ≡ slot.id = own_slot v.machine k t run second also ∙ sym (own_slot v.machine place slot run first is) in
    let number : k + 1 ≡ place + 1 = sym (ap (λ (x : SlotId). x.slot) second.numbered) ∙ (ap (λ (x : SlotId). x.slot) id ∙ ap (λ (x : SlotId). x.slot) first.numbered) in
    let same : k ≡ place = omega (arith, number) in
    same_Some t slot (sym there ∙ (ap (slice_get v.slots) same ∙ at))

job_found : (run : RunNo) (slots : List Slot) (slot : Slot) → IsIn slot slots → runs_on slot.state run ≡ true → ((t : Slot) → IsIn t slots → runs_on t.state run ≡ true → t ≡ slot) → job_of_run run slots ≡ job_on slot
job_found run [] slot there runs one = absurd there
job_found run (s ∷ ss) slot there runs one = by (runs_on s.state run) refl there (λ later. job_found run ss slot later runs (λ t h. one t (inr h)))
  where
    by : (b : Bool) → runs_on s.state run ≡ b → IsIn slot (s ∷ ss) → (IsIn slot ss → job_of_run run ss ≡ job_on slot) → (if b then job_on s else job_of_run run ss) ≡ job_on slot
    by true is h rest = ap job_on (one s (inl refl) is)
    by false is (inl same) rest = absurd (true≢false (sym runs ∙ (ap (λ (x : Slot). runs_on x.state run) same ∙ is)))
    by false is (inr later) rest = rest later

-- ---- the first mail says the end
pub record BeginsWith (m : Mail) (mails : List Mail) : Type 0 where
  pub rest : List Mail
  pub are : mails ≡ m ∷ rest

end_first : (ending : Ending) (how : How) (reading : ℕ) (s : SlotState) → BeginsWith (Ended ending.run how) (after_run ending how reading s).mails
end_first ending how reading s = by (is_busy s.pair) s.rival
  where
    last : (o : Option Rival) (t : SlotState) → BeginsWith (Ended ending.run how) (after_last_run o (Ended ending.run how) reading t).mails
    last None t = record { rest = []; are = refl }
    last (Some rival) t = record { rest = Granted rival.claim rival.job ∷ []; are = refl }

    by : (busy : Bool) (o : Option Rival) → BeginsWith (Ended ending.run how)
        (if busy then says (after_cue Rest reading (without_run ending.run how reading s)) (Ended ending.run how ∷ []) else after_last_run o (Ended ending.run how) reading (without_claim (without_run ending.run how reading s))).mails
    by true o = record { rest = []; are = refl }
    by false o = last o (without_claim (without_run ending.run how reading s))

told_first : (slot : Slot) (s : Settled) (job : JobId) (m : Mail) (mails : List Mail) (tells : Bool) (reading : ℕ) → BeginsWith m mails → report_of (Some job) (told slot s mails tells reading).mails ≡ report_in job m
told_first slot s job m mails tells reading first = subst (λ xs. report_of (Some job) (told slot s xs tells reading).mails ≡ report_in job m) (sym first.are) (by tells)
  where
    by : (b : Bool) → report_of (Some job) (told slot s (m ∷ first.rest) b reading).mails ≡ report_in job m
    by true = refl
    by false = refl

-- ---- what is said
none_said : (o : Option JobId) → reports_in (report_of o []) ≡ []
none_said None = refl
none_said (Some job) = refl

pub ends_same : (v : StartdValue) (ending : Ending) (reading : ℕ) → IsSound v → ends_after ending.run v (after_end v ending reading) ≡ reports_of_end v ending
unfolding made_by
ends_same v ending reading sound = by_place (place_of v ending.run.claim.slot)
  where
    job : Option JobId
    job = job_of_run ending.run v.slots

    said : (slot : Slot) (settle : Settled) (tells : Bool) (o : Option Running) → is_run o ending.run ≡ true
        → reports_in (report_of (job_running o) (told slot settle (after_run ending (how_of ending.end (mark_in o)) reading slot.state).mails tells reading).mails) ≡ end_report_of o ending
    said slot settle tells None is = absurd (true≢false (sym is))
    said slot settle tells (Some r) is =
        ap reports_in (told_first slot settle r.job (Ended ending.run (how_of ending.end r.mark)) (after_run ending (how_of ending.end r.mark) reading slot.state).mails tells reading (end_first ending (how_of ending.end r.mark) reading slot.state))
        ∙ ap (λ run. record { run = run; job = r.job; how = how_of ending.end r.mark } ∷ []) (sym (same_run-true r.run ending.run is))

    here : (place : ℕ) (slot : Slot) → slice_get v.slots place ≡ Some slot → runs_on slot.state ending.run ≡ true
        → reports_in (report_of job (after_made v place (made_by v.machine v.offers slot (after_ending ending reading slot.state) reading)).step.mails) ≡ end_report_of (running_of slot.state) ending
    here place slot at is =
        let settle : Settled = settled v.machine slot.id (after_ending ending reading slot.state).state v.offers in
        let tells : Bool = has_changed slot.state settle.state in
        let found : job ≡ job_on slot = job_found ending.run v.slots slot (at_place slot v.slots place at) is
        (λ t there runs. (let k = in_place t v.slots there in one_slot v ending.run place k.0 slot t sound at k.1 is runs)) in
        ap (λ o. reports_in (report_of o (told slot settle (after_ending ending reading slot.state).mails tells reading).mails)) found
        ∙ said slot settle tells (running_of slot.state) is

    by_run : (place : ℕ) (slot : Slot) (runs : Bool) → slice_get v.slots place ≡ Some slot → runs_on slot.state ending.run ≡ runs
        → reports_in (report_of job (ended_where runs v place slot ending reading).step.mails) ≡ report_where runs slot ending
    by_run place slot true at is = here place slot at is
    by_run place slot false at is = none_said job

    by_slot : (place : ℕ) (o : Option Slot) → slice_get v.slots place ≡ o → reports_in (report_of job (ended_at v place o ending reading).step.mails) ≡ reports_in_slot o ending
    by_slot place None at = none_said job
    by_slot place (Some slot) at = by_run place slot (runs_on slot.state ending.run) at refl

    by_place : (o : Option ℕ) → reports_in (report_of job (ended_in v o ending reading).step.mails) ≡ reports_in_slot (slot_in v o) ending
    by_place None = none_said job
    by_place (Some place) = by_slot place (slice_get v.slots place) refl
