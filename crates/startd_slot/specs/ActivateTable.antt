-- What becomes of an Activate: the first row that fits, and what it does.
use Rattle.std.specs.Prelude.{ℕ, Bool, true, false, not, List, [], ◌∷◌, Option, Some, None, is_some, nat_le, if◌then◌else◌}
use Rattle.ad_tree.specs.Ad.{Attributes}
use Rattle.ad_eval.specs.Judgement.{Judgement}
use Rattle.claim_id.specs.declared.numbers.RunNo.{RunNo}
use Rattle.job_launch.specs.Launches.{launch_of}
use Rattle.pool_mail.specs.declared.mail.Mail.{Mail}
use Rattle.pool_mail.specs.declared.mail.Mail.TheVariants.{Denied, Gone, Seen}
use Rattle.pool_mail.specs.declared.why.Why.{Why}
use Rattle.pool_mail.specs.declared.why.Why.TheVariants as why
use Rattle.pool_outer.specs.declared.spawner.Launch.{Launch}
use Rattle.claim_id.specs.declared.pair.Cue.TheVariants.{Begin}
use Rattle.startd_slot.specs.declared.held.Held.{Held}
use Rattle.startd_slot.specs.declared.held.Running.{Running}
use Rattle.startd_slot.specs.declared.reaction.Reaction.{Reaction}
use Rattle.startd_slot.specs.declared.reaction.Task.TheVariants as task
use Rattle.startd_slot.specs.declared.run_mails.Activation.{Activation}
use Rattle.startd_slot.specs.declared.run_mails.ActivateRow.{ActivateRow}
use Rattle.startd_slot.specs.declared.run_mails.ActivateRow.TheVariants as row
use Rattle.startd_slot.specs.declared.slot.SlotState.{SlotState}
use Rattle.startd_slot.specs.Reactions.{says, becomes}
use Rattle.startd_slot.specs.SlotStates.{held_of, is_spent, heard_of, with_number, with_run, after_cue}

-- ---- which row fits
-- no run is there
abbrev pub free_row : Activation → Bool → ℕ → ActivateRow
free_row asked matched reading = if nat_le asked.until reading then row.Past
    else (if not matched then row.NotMatched else row.Starts)

-- the number is a new one
abbrev pub new_row : Option Running → Activation → Bool → ℕ → ActivateRow
new_row (Some running) asked matched reading = row.Occupied running.run
new_row None asked matched reading = free_row asked matched reading

abbrev pub claim_row : Option Held → Bool → Activation → Bool → ℕ → ActivateRow
claim_row None spent asked matched reading = row.NotHeld spent
claim_row (Some held) spent asked matched reading = if nat_le asked.run.number held.last
    then row.Spent held.last
    else new_row held.running asked matched reading

abbrev pub activate_row : SlotState → ℕ → Activation → Bool → ℕ → ActivateRow
activate_row s boot asked matched reading =
    claim_row (held_of s asked.run.claim) (is_spent s boot asked.run) asked matched reading

-- ---- what it does
abbrev pub run_denied : Activation → Why → Mail
run_denied asked why = Denied asked.run.claim (Some asked.run) asked.job why

-- the run is gone too, where it can never start any more
abbrev pub gone_where : Bool → RunNo → List Mail
gone_where spent run = if spent then Gone run false ∷ [] else []

-- the run's number is used, and it never starts
abbrev pub burned : Activation → Why → SlotState → Reaction
burned asked why s = says (with_number asked.run.number s)
    (run_denied asked why ∷ Gone asked.run true ∷ [])

abbrev pub run_of : Activation → Judgement → Running
run_of asked judged = record {
  run = asked.run;
  job = asked.job;
  until = asked.until;
  mark = None;
  judged = judged;
}

-- the run starts; a run without a match is not started
abbrev pub begun : Option Judgement → Activation → Launch → ℕ → SlotState → Reaction
begun None asked what reading s = becomes s
begun (Some judged) asked what reading s = record {
  state = after_cue Begin reading (with_run (run_of asked judged)
      (with_number asked.run.number s));
  mails = Seen asked.run asked.until ∷ [];
  task = task.Launch asked.run asked.job what;
}

abbrev pub after_activate_row
    : ActivateRow → Activation → Launch → Option Judgement → ℕ → SlotState → Reaction
after_activate_row (row.NotHeld spent) asked what judged reading s =
    says s (run_denied asked why.NoSuchClaim ∷ gone_where spent asked.run)
after_activate_row (row.Spent last) asked what judged reading s =
    says s (run_denied asked (why.Spent asked.run.number last) ∷ [])
after_activate_row (row.Occupied run) asked what judged reading s =
    burned asked (why.Occupied run) s
after_activate_row row.Past asked what judged reading s =
    burned asked (why.LeasePast asked.until reading) s
after_activate_row row.NotMatched asked what judged reading s = burned asked why.NotMatched s
after_activate_row row.Starts asked what judged reading s = begun judged asked what reading s

-- an Activate with a job's ad; its claim is heard of
abbrev pub after_activate
    : ℕ → Activation → Attributes → Option Judgement → ℕ → SlotState → Reaction
after_activate boot asked ad judged reading s =
    after_activate_row (activate_row s boot asked (is_some judged) reading) asked (launch_of ad)
    judged reading (heard_of asked.run.claim reading s)
