-- A permit comes of an Activate that starts its run.
use Rattle.std.proofs.Common.{◌≡◌, ℕ, Bool, true, false, List, [], ◌∷◌, Option, Some, None, IfSome, IsSomeAnd, slice_get, refl, sym, ◌∙◌, ap, subst, if◌then◌else◌}
use Rattle.std.proofs.lemmas.Option.{same_Some}
use Rattle.ad_eval.specs.Judgement.{Judgement}
use Rattle.claim_id.specs.declared.numbers.ClaimNo.{ClaimNo}
use Rattle.claim_id.specs.declared.numbers.JobId.{JobId}
use Rattle.claim_id.specs.declared.numbers.RunNo.{RunNo}
use Rattle.pool_mail.specs.declared.end.Ending.{Ending}
use Rattle.pool_mail.specs.declared.end.How.{How}
use Rattle.pool_mail.specs.declared.mail.Mail.{Mail}
use Rattle.pool_mail.specs.declared.mail.Mail.TheVariants.{Update, Matched, Ask, Granted, Denied, Activate, Alive, Seen, Stop, Release, Gone, Ended, Remove, Hold, Resume}
use Rattle.pool_outer.specs.declared.spawner.Launch.{Launch}
use Rattle.claim_id.specs.declared.pair.Cue.TheVariants as cue
use Rattle.startd_slot.specs.declared.held.Rival.{Rival}
use Rattle.startd_slot.specs.declared.reaction.Task.{Task}
use Rattle.startd_slot.specs.declared.reaction.Task.TheVariants as task
use Rattle.startd_slot.specs.declared.slot.Slot.{Slot}
use Rattle.startd_slot.specs.declared.slot.SlotState.{SlotState}
use Rattle.startd_slot.specs.EndingTable.{after_ending, after_last_run, how_of, mark_in}
use Rattle.startd_slot.specs.Mails.{asked_claim, reaction_to}
use Rattle.startd_slot.specs.Reactions.{says}
use Rattle.startd_slot.specs.ReleaseTable.{is_busy}
use Rattle.startd_slot.specs.SlotStates.{after_cue, running_of, runs_on, without_claim, without_run}
use Rattle.startd_slot.specs.Starting.{IsLaunch, IsReadyFor, StartsRun, activated}
use Rattle.startd_slot.proofs.Starts.{runs_start_matched}
use Rattle.startd_core.specs.Permits.{GivesPermit, permit_in}
use Rattle.startd_core.specs.Startds.{StartdValue, slot_in, slot_of, place_of, answer_of, made_by, received_at, received_in, received_of, after_mail, ended_where, ended_at, ended_in, after_end, kill_answer}

-- ---- mails
-- what a slot starts by a mail, the startd permits
gives : (v : StartdValue) (slot : Slot) (mail : Mail) (judged : Option Judgement) (reading : ℕ) (run : RunNo) (job : JobId) (what : Launch)
    → ((claim : ClaimNo) → asked_claim mail ≡ Some claim → slot_of v claim.slot ≡ Some slot)
    → StartsRun slot.state mail judged reading × (task.Launch run job what ≡ activated mail) → GivesPermit v mail judged reading (record { run = run; job = job; what = what })
gives v slot (Activate r j ad until) judged reading run job what there starts = (
  subst (λ o. IsSomeAnd o (λ slot. IsReadyFor slot.state r)) (sym (there r.claim refl)) starts.0.0,
  starts.0.1,
  starts.0.2,
  same_Some _ _ (ap (λ t. permit_in (answer_of t)) starts.1),
)
gives v slot (Matched found) judged reading run job what there starts = absurd starts.0
gives v slot (Ask claim j ad by_priority) judged reading run job what there starts = absurd starts.0
gives v slot (Alive r until) judged reading run job what there starts = absurd starts.0
gives v slot (Stop r) judged reading run job what there starts = absurd starts.0
gives v slot (Release claim) judged reading run job what there starts = absurd starts.0
gives v slot (Update s) judged reading run job what there starts = absurd starts.0
gives v slot (Granted claim j) judged reading run job what there starts = absurd starts.0
gives v slot (Denied claim r j why) judged reading run job what there starts = absurd starts.0
gives v slot (Seen r until) judged reading run job what there starts = absurd starts.0
gives v slot (Gone r kept) judged reading run job what there starts = absurd starts.0
gives v slot (Ended r how) judged reading run job what there starts = absurd starts.0
gives v slot (Remove j) judged reading run job what there starts = absurd starts.0
gives v slot (Hold j) judged reading run job what there starts = absurd starts.0
gives v slot (Resume j) judged reading run job what there starts = absurd starts.0

answer_gives : (v : StartdValue) (slot : Slot) (mail : Mail) (judged : Option Judgement) (reading : ℕ) (t : Task)
    → ((claim : ClaimNo) → asked_claim mail ≡ Some claim → slot_of v claim.slot ≡ Some slot)
    → (IsLaunch t → StartsRun slot.state mail judged reading × (t ≡ activated mail)) → IfSome (permit_in (answer_of t)) (GivesPermit v mail judged reading)
answer_gives v slot mail judged reading task.Nothing there starts = tt
answer_gives v slot mail judged reading (task.Launch run job what) there starts = gives v slot mail judged reading run job what there (starts tt)
answer_gives v slot mail judged reading (task.Kill run) there starts = tt

pub mail_permits : (v : StartdValue) (mail : Mail) (judged : Option Judgement) (reading : ℕ) → IfSome (permit_in (after_mail v mail judged reading).step.answer) (GivesPermit v mail judged reading)
unfolding made_by
mail_permits v mail judged reading = by_claim (asked_claim mail) refl
  where
    by_slot : (claim : ClaimNo) (place : ℕ) (o : Option Slot) → asked_claim mail ≡ Some claim → place_of v claim.slot ≡ Some place → slice_get v.slots place ≡ o
        → IfSome (permit_in (received_at v place o mail judged reading).step.answer) (GivesPermit v mail judged reading)
    by_slot claim place None asked is at = tt
    by_slot claim place (Some slot) asked is at =
        answer_gives v slot mail judged reading (reaction_to v.machine.boot slot mail judged reading).task
        (λ other says. ap (λ (k : ClaimNo). slot_of v k.slot) (same_Some other claim (sym says ∙ asked)) ∙ (ap (slot_in v) is ∙ at))
        (λ launch. runs_start_matched v.machine.boot slot mail judged reading launch)

    by_place : (claim : ClaimNo) (o : Option ℕ) → asked_claim mail ≡ Some claim → place_of v claim.slot ≡ o → IfSome (permit_in (received_in v o mail judged reading).step.answer) (GivesPermit v mail judged reading)
    by_place claim None asked is = tt
    by_place claim (Some place) asked is = by_slot claim place (slice_get v.slots place) asked is refl

    by_claim : (o : Option ClaimNo) → asked_claim mail ≡ o → IfSome (permit_in (received_of v o mail judged reading).step.answer) (GivesPermit v mail judged reading)
    by_claim None asked = tt
    by_claim (Some claim) asked = by_place claim (place_of v claim.slot) asked refl

-- ---- the end of a run
last_permits : (o : Option Rival) (told : Mail) (reading : ℕ) (s : SlotState) → permit_in (answer_of (after_last_run o told reading s).task) ≡ None
last_permits None told reading s = refl
last_permits (Some rival) told reading s = refl

ending_permits : (ending : Ending) (reading : ℕ) (s : SlotState) → permit_in (answer_of (after_ending ending reading s).task) ≡ None
ending_permits ending reading s = by_busy (is_busy s.pair) (how_of ending.end (mark_in (running_of s)))
  where
    by_busy : (busy : Bool) (how : How) → permit_in (answer_of (if busy then says (after_cue cue.Rest reading (without_run ending.run how reading s)) (Ended ending.run how ∷ [])
        else after_last_run s.rival (Ended ending.run how) reading (without_claim (without_run ending.run how reading s))).task) ≡ None
    by_busy true how = refl
    by_busy false how = last_permits s.rival (Ended ending.run how) reading (without_claim (without_run ending.run how reading s))

pub end_permits : (v : StartdValue) (ending : Ending) (reading : ℕ) → permit_in (after_end v ending reading).step.answer ≡ None
unfolding made_by
end_permits v ending reading = by_place (place_of v ending.run.claim.slot)
  where
    by_run : (place : ℕ) (slot : Slot) (here : Bool) → permit_in (ended_where here v place slot ending reading).step.answer ≡ None
    by_run place slot false = refl
    by_run place slot true = ending_permits ending reading slot.state

    by_slot : (place : ℕ) (o : Option Slot) → permit_in (ended_at v place o ending reading).step.answer ≡ None
    by_slot place None = refl
    by_slot place (Some slot) = by_run place slot (runs_on slot.state ending.run)

    by_place : (o : Option ℕ) → permit_in (ended_in v o ending reading).step.answer ≡ None
    by_place None = refl
    by_place (Some place) = by_slot place (slice_get v.slots place)

-- ---- a tick
pub kill_permits : (runs : List RunNo) → permit_in (kill_answer runs) ≡ None
kill_permits [] = refl
kill_permits (run ∷ runs) = refl
