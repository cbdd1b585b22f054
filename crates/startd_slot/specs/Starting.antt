-- When a run starts.
use Rattle.std.specs.Prelude.{◌≡◌, ℕ, ◌<◌, Option, None, IsSome, IsSomeAnd}
use Rattle.ad_eval.specs.Judgement.{Judgement}
use Rattle.claim_id.specs.declared.numbers.RunNo.{RunNo}
use Rattle.job_launch.specs.Launches.{launch_of}
use Rattle.pool_mail.specs.declared.mail.Mail.{Mail}
use Rattle.pool_mail.specs.declared.mail.Mail.TheVariants.{Activate}
use Rattle.startd_slot.specs.declared.reaction.Task.{Task}
use Rattle.startd_slot.specs.declared.reaction.Task.TheVariants.{Nothing, Launch, Kill}
use Rattle.startd_slot.specs.declared.slot.Slot.{Slot}
use Rattle.startd_slot.specs.declared.slot.SlotState.{SlotState}
use Rattle.startd_slot.specs.SlotStates.{held_of}
use Rattle.startd_slot.specs.Mails.{reaction_to}

abbrev pub IsLaunch : Task → Type 0
IsLaunch Nothing = ⊥
IsLaunch (Launch run job what) = Unit {0}
IsLaunch (Kill run) = ⊥

-- the slot holds the run's claim, which has used only numbers below the run's and has no run
abbrev pub IsReadyFor : SlotState → RunNo → Type 0
IsReadyFor s run =
    IsSomeAnd (held_of s run.claim) (λ held. (held.last < run.number) × (held.running ≡ None))

-- an Activate of a run for which the slot is ready, with a lease to come and with a match
abbrev pub StartsRun : SlotState → Mail → Option Judgement → ℕ → Type 0
StartsRun s (Activate run job ad until) judged reading =
    IsReadyFor s run × (reading < until) × IsSome judged
StartsRun s _ judged reading = ⊥

-- what an Activate starts: its run, of its job, by its ad
abbrev pub activated : Mail → Task
activated (Activate run job ad until) = Launch run job (launch_of ad)
activated _ = Nothing

-- nothing else starts a run
abbrev pub RunsStartMatched : Type 0
RunsStartMatched = (boot : ℕ) (slot : Slot) (mail : Mail) (judged : Option Judgement) (reading : ℕ)
    → IsLaunch (reaction_to boot slot mail judged reading).task
    → StartsRun slot.state mail judged reading
    × ((reaction_to boot slot mail judged reading).task ≡ activated mail)
