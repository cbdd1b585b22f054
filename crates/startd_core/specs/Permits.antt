-- When a startd gives a permit.
use Rattle.std.specs.Prelude.{◌≡◌, ℕ, ◌<◌, Option, Some, None, IsSome, IsSomeAnd}
use Rattle.ad_eval.specs.Judgement.{Judgement}
use Rattle.job_launch.specs.Launches.{launch_of}
use Rattle.pool_mail.specs.declared.mail.Mail.{Mail}
use Rattle.pool_mail.specs.declared.mail.Mail.TheVariants.{Activate}
use Rattle.startd_slot.specs.Starting.{IsReadyFor}
use Rattle.startd_core.specs.declared.answer.Permit.{Permit}
use Rattle.startd_core.specs.declared.answer.StartdAnswer.{StartdAnswer}
use Rattle.startd_core.specs.declared.answer.StartdAnswer.TheVariants as answer
use Rattle.startd_core.specs.Startds.{StartdValue, slot_of}

abbrev pub permit_in : StartdAnswer → Option Permit
permit_in answer.Done = None
permit_in (answer.Launch permit) = Some permit
permit_in (answer.Kill runs) = None

-- by an Activate of a run for which its slot is ready, with a lease to come and with a match; of
-- that run and job, and of what the job's ad says
abbrev pub GivesPermit : StartdValue → Mail → Option Judgement → ℕ → Permit → Type 0
GivesPermit v (Activate run job ad until) judged reading permit =
    IsSomeAnd (slot_of v run.claim.slot) (λ slot. IsReadyFor slot.state run)
    × (reading < until) × IsSome judged
    × (permit ≡ record { run = run; job = job; what = launch_of ad })
GivesPermit v _ judged reading permit = ⊥
