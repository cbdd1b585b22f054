-- The steps of the abstract pool that each event may make.
use Rattle.std.specs.Prelude.{◌≡◌, ◌⊎◌, ℕ, max, List, Option, Some, None, IsSome, IsSomeAnd, slice_get}
use Rattle.ad_eval.specs.Judgement.{Judgement}
use Rattle.claim_id.specs.declared.numbers.RunNo.{RunNo}
use Rattle.pool_parts.specs.declared.event.Event.{Event}
use Rattle.pool_parts.specs.declared.event.Event.TheVariants as event
use Rattle.pool_mail.specs.declared.mail.Mail.{Mail}
use Rattle.pool_mail.specs.declared.mail.Mail.TheVariants as mail
use Rattle.pool_rules.specs.Logging.{cluster_jobs}
use Rattle.pool_outer.specs.declared.gate.Daemon.TheVariants.{Schedd, Startd, Matchmaker}
use Rattle.pool_parts.specs.declared.pending.Unfinished.{Unfinished}
use Rattle.pool_parts.specs.declared.pending.Unfinished.TheVariants.{Submission, Plan}
use Rattle.pool_state.specs.declared.state.PoolState.{PoolState}
use Rattle.pool_view.specs.AbstractPool.{IsIn}
use Rattle.pool_view.specs.AbstractStep.{AbstractStep, Time, Queue, Acknowledge, Order, Grant, Start, Mark, Extend, Stop, Free, Finish, Hold, Release, Lengthen}
use Rattle.pool_view.specs.declared.job.Outcome.TheVariants.{EndedBy, Removed}
use Rattle.pool_view.specs.declared.job.State.TheVariants.{Idle, Held}
use Rattle.schedd_core.specs.Logging.{numbered}
use Rattle.schedd_core.specs.PlanChanges.{how_of}
use Rattle.schedd_plan.specs.declared.plan.JobPlan.{JobPlan}
use Rattle.schedd_plan.specs.declared.plan.JobPlan.TheVariants as plan

-- time passes, to the reading, or stays where that is earlier
abbrev pub PassesTime : ℕ → PoolState → AbstractStep → Type 0
PassesTime reading s k = k ≡ Time (max s.latest reading)

-- ---- the schedd
-- a mail orders a job's removal
abbrev pub IsOrderStep : Mail → AbstractStep → Type 0
IsOrderStep (mail.Remove job) k = k ≡ Order job
IsOrderStep m k = ⊥

-- a plan is logged: the state of its job changes, or nothing that is shown
abbrev pub IsPlanStep : JobPlan → AbstractStep → Type 0
IsPlanStep (plan.PutIdle job) k = (k ≡ Free job Idle) ⊎ (k ≡ Release job)
IsPlanStep (plan.PutHeld job reason) k = (k ≡ Free job Held) ⊎ (k ≡ Hold job)
IsPlanStep (plan.Complete job completion) k =
    (run : RunNo) × (k ≡ Finish job (EndedBy run (how_of completion)))
IsPlanStep (plan.Remove job) k = k ≡ Finish job Removed
IsPlanStep (plan.MarkRemoved job) k = ⊥
IsPlanStep (plan.MarkHeld job reason) k = ⊥
IsPlanStep (plan.MarkRunning job) k = ⊥
IsPlanStep (plan.Lengthen job until) k = k ≡ Lengthen job until
IsPlanStep (plan.Grant job claim number until header) k =
    k ≡ Grant job (numbered claim number) until

-- what is unfinished is logged: a plan, or a submission, whose jobs come into the queue
abbrev pub IsQueueStep : Unfinished → AbstractStep → Type 0
IsQueueStep (Plan p) k = IsPlanStep p k
IsQueueStep (Submission cluster count) (Queue job core) = IsIn job (cluster_jobs cluster count)
IsQueueStep (Submission cluster count) _ = ⊥

-- and the submitter is told of them
abbrev pub IsAcknowledgeStep : Unfinished → AbstractStep → Type 0
IsAcknowledgeStep (Submission cluster count) (Acknowledge job) =
    IsIn job (cluster_jobs cluster count)
IsAcknowledgeStep _ k = ⊥

-- ---- the startd of a machine
abbrev pub IsMarkStep : AbstractStep → Type 0
IsMarkStep (Mark marks) = Unit {0}
IsMarkStep _ = ⊥

-- what a mail does: claims come and go; an Activate starts its run by that judgement; an Alive
-- tells its run a later end of the lease
abbrev pub IsMailStep : ℕ → Mail → Option Judgement → AbstractStep → Type 0
IsMailStep machine m judged (Mark marks) = Unit {0}
IsMailStep machine (mail.Activate run job ad until) judged (Start r marks) =
    (r.slot.machine ≡ machine) × (r.run ≡ run) × (r.job ≡ job) × (r.until ≡ until)
    × (judged ≡ Some r.judged)
IsMailStep machine (mail.Alive run until) judged (Extend r end) =
    (r.slot.machine ≡ machine) × (r.run ≡ run) × (end ≡ until)
IsMailStep machine m judged k = ⊥

-- that run ends, and its machine says how
abbrev pub IsEndStep : ℕ → RunNo → AbstractStep → Type 0
IsEndStep machine run (Stop r how) = (r.slot.machine ≡ machine) × (r.run ≡ run) × IsSome how
IsEndStep machine run k = IsMarkStep k

-- a run is lost, and nothing is said of it
abbrev pub IsLossStep : ℕ → AbstractStep → Type 0
IsLossStep machine (Stop r how) = (r.slot.machine ≡ machine) × (how ≡ None)
IsLossStep machine k = IsMarkStep k

-- ---- events
-- the event may make the step of what a pool shows
abbrev pub IsStepOf : Event → PoolState → AbstractStep → Type 0
-- those of the schedd
IsStepOf (event.Submit boot jobs reading) s k = PassesTime reading s k
IsStepOf (event.Receive Schedd boot index reading judged mismatch) s k =
    PassesTime reading s k
    ⊎ IsSomeAnd (slice_get s.mails.sent index) (λ sent. IsOrderStep sent.mail k)
IsStepOf (event.Tick Schedd boot reading) s k = PassesTime reading s k
IsStepOf (event.Check boot job reading) s k = PassesTime reading s k ⊎ (k ≡ Order job)
IsStepOf (event.Logged boot receipt) s k =
    IsSomeAnd s.pending (λ p. IsQueueStep p.what k ⊎ IsAcknowledgeStep p.what k)
IsStepOf (event.Reopen Schedd kept ended reading) s k =
    PassesTime reading s k ⊎ (IsSome kept × IsSomeAnd s.pending (λ p. IsQueueStep p.what k))
-- those of a startd
IsStepOf (event.Receive (Startd machine) boot index reading judged mismatch) s k =
    PassesTime reading s k
    ⊎ IsSomeAnd (slice_get s.mails.sent index) (λ sent. IsMailStep machine sent.mail judged k)
IsStepOf (event.Tick (Startd machine) boot reading) s k = PassesTime reading s k ⊎ IsMarkStep k
IsStepOf (event.Ended machine boot receipt reading) s k =
    PassesTime reading s k ⊎ IsEndStep machine receipt.item.run k
IsStepOf (event.Reopen (Startd machine) kept ended reading) s k =
    PassesTime reading s k ⊎ IsLossStep machine k
-- those of the matchmaker, and of the master
IsStepOf (event.Receive Matchmaker boot index reading judged mismatch) s k =
    PassesTime reading s k
IsStepOf (event.Tick Matchmaker boot reading) s k = PassesTime reading s k
IsStepOf (event.Reopen Matchmaker kept ended reading) s k = PassesTime reading s k
IsStepOf (event.Matches list judged reading) s k = PassesTime reading s k
IsStepOf (event.Order verb job reading) s k = PassesTime reading s k
IsStepOf (event.Close length reading mismatch) s k = PassesTime reading s k
IsStepOf (event.Crash who) s k = ⊥

-- ---- lists of steps
-- each is such a step
abbrev pub AreSteps : (AbstractStep → Type 0) → List AbstractStep → Type 0
AreSteps P steps = (k : AbstractStep) → IsIn k steps → P k

-- each is one that the event may make
abbrev pub AreStepsOf : Event → PoolState → List AbstractStep → Type 0
AreStepsOf e s steps = AreSteps (IsStepOf e s) steps
