-- A pool that is kept goes on: over a reading, over a receipt, and by what its parts are.
use Rattle.std.proofs.Common.{◌≡◌, ℕ, max, List, [], ◌∷◌, ◌++◌, Option, Some, None, refl, sym, ap, subst}
use Rattle.claim_id.specs.declared.numbers.JobId.{JobId}
use Rattle.pool_mail.specs.declared.mail.Mail.{Mail}
use Rattle.pool_parts.specs.declared.pending.Pending.{Pending}
use Rattle.pool_parts.specs.Receipts.{still_pending}
use Rattle.pool_view.specs.Protocol.{Protocol}
use Rattle.pool_view.specs.ProtocolMove.{ProtocolMove, PassTime, all_steps, protocol_after_all}
use Rattle.pool_rules.specs.Refusals.{Refusal, check_refusal, first_of, jobs_refusal, receive_refusal, schedd_refusal, submit_refusal, tick_refusal, unless_due}
use Rattle.pool_state.specs.declared.state.PoolState.{PoolState}
use Rattle.pool_outer.specs.declared.gate.Daemon.TheVariants.{Schedd}
use Rattle.pool_tables.specs.DaemonTables.{daemon_refusal}
use Rattle.pool_tables.specs.MailLists.{mail_refusal, with_received}
use Rattle.schedd_state.specs.DueChecks.{is_check_due, IsPassed}
use Rattle.schedd_state.specs.DueLines.{is_due}
use Rattle.pool_view.specs.AbstractPool.{IsIn, SameMembers}
use Rattle.pool_view.specs.AbstractStep.{AbstractStep, Time}
use Rattle.schedd_state.specs.declared.answer.ScheddStep.{ScheddStep}
use Rattle.schedd_state.specs.Schedds.{ScheddValue}
use Rattle.schedd_plan.specs.declared.plan.JobPlan.{JobPlan}
use Rattle.pool_rules.specs.Linked.{Awaits, StayLinked}
use Rattle.pool_rules.specs.PoolParts.{Awaited, PoolParts}
use Rattle.pool_rules.specs.ScheddEvents.{parts_with_schedd, planned_by}
use Rattle.pool_rules.specs.Shown.{SameParts}
use Rattle.pool_rules.specs.StartdEvents.{parts_at_reading}
use Rattle.pool_rules.proofs.Going.{after_append, may_append}
use Rattle.pool_rules.proofs.ScheddKept.{time_linked}
use Rattle.pool_rules.proofs.Viewing.{same_linked}
use Rattle.pool_rules.specs.Answers.{pending_by}
use Rattle.pool_rules.specs.Deeds.{receives, schedd_acts}
use Rattle.pool_rules.specs.Parts.{awaited_of, parts_of}
use Rattle.pool_rules.specs.Kept.{AreAddressed, AreInBoot, GoesOn, IsKept, IsPendingTx, at_reading}
use Rattle.pool_rules.specs.Steps.{AreSteps}
use Rattle.pool_rules.proofs.Mailing.{addressed_among, addressed_posts, mails_among, mails_of_posts, received_among}
use Rattle.pool_rules.proofs.Refusing.{first_none}
use Rattle.pool_rules.proofs.ScheddLists.{same_members, swapped}
use Rattle.pool_rules.proofs.StepKinds.{MakeSteps, step_before, no_steps, steps_append}

-- ---- by what its parts are
-- parts that events of the crates below make, and the pool's own, are the same
pub goes_by : (p : Protocol) (P : AbstractStep → Type 0) (ms : List ProtocolMove) (b : PoolParts) (new : PoolState) → AreSteps P (all_steps p ms)
    → StayLinked p ms b → SameParts b (parts_of new) → IsPendingTx new.pending → AreAddressed new.mails.sent → IsPassed new.queue new.schedd → AreInBoot new.daemons new.machines → GoesOn p P new
goes_by p P ms b new steps stay same pending addressed passed boots = record {
  moves = ms;
  may = stay.may;
  steps = steps;
  kept = record {
    linked = same_linked (protocol_after_all p ms) b (parts_of new) same stay.linked;
    pending = pending;
    addressed = addressed;
    passed = passed;
    boots = boots;
  };
}

-- ---- one after the other
pub goes_further : (p : Protocol) (P : AbstractStep → Type 0) (mid new : PoolState) (first : GoesOn p P mid) → GoesOn (protocol_after_all p first.moves) P new → GoesOn p P new
goes_further p P mid new first second = record {
  moves = first.moves ++ second.moves;
  may = may_append p first.moves second.moves first.may second.may;
  steps = steps_append P p first.moves second.moves first.steps second.steps;
  kept = subst (λ (q : Protocol). IsKept q new) (sym (after_append p first.moves second.moves)) second.kept;
}

-- ---- a reading is taken
pub reading_kept : (p : Protocol) (P : AbstractStep → Type 0) (s : PoolState) (reading : ℕ) → P (Time (max s.latest reading)) → IsKept p s → GoesOn p P (at_reading reading s)
reading_kept p P s reading time kept = record {
  moves = PassTime (max s.latest reading) ∷ [];
  may = stay.may;
  steps = step_before P (Time (max s.latest reading)) [] time (no_steps P);
  kept = record {
    linked = stay.linked;
    pending = kept.pending;
    addressed = kept.addressed;
    passed = kept.passed;
    boots = kept.boots;
  };
}
  where
    stay : StayLinked p (PassTime (max s.latest reading) ∷ []) (parts_at_reading reading (parts_of s))
    stay = time_linked p (parts_of s) reading kept.linked

-- what happens then
pub goes_after_reading : (p : Protocol) (P : AbstractStep → Type 0) (s new : PoolState) (reading : ℕ) → P (Time (max s.latest reading)) → IsKept p s
    → ((q : Protocol) → IsKept q (at_reading reading s) → GoesOn q P new) → GoesOn p P new
goes_after_reading p P s new reading time kept more =
    let first : GoesOn p P (at_reading reading s) = reading_kept p P s reading time kept in
    goes_further p P (at_reading reading s) new first (more (protocol_after_all p first.moves) first.kept)

-- ---- a mail is received
receipt_kept : (p : Protocol) (s : PoolState) (index : ℕ) → IsKept p s → IsKept p (receives index s)
receipt_kept p s index kept = record {
  linked = same_linked p (parts_of s) (parts_of (receives index s))
      (record {
        moment = refl;
        startds = refl;
        schedd = refl;
        queue = refl;
        mails = mails_among (with_received index s.mails.sent) s.mails.sent (received_among index s.mails.sent);
        awaited = refl;
        finished = λ job. refl;
        acked = same_members s.acked;
        ordered = same_members s.ordered;
        reports = same_members s.reports;
      })
      kept.linked;
  pending = kept.pending;
  addressed = addressed_among (with_received index s.mails.sent) s.mails.sent (received_among index s.mails.sent) kept.addressed;
  passed = kept.passed;
  boots = kept.boots;
}

pub receipt_goes : (p : Protocol) (P : AbstractStep → Type 0) (s : PoolState) (index : ℕ) → GoesOn p P s → GoesOn p P (receives index s)
receipt_goes p P s index goes = record {
  moves = goes.moves;
  may = goes.may;
  steps = goes.steps;
  kept = receipt_kept (protocol_after_all p goes.moves) s index goes.kept;
}

-- ---- the schedd has done something
planned_as : (number : ℕ) (o : Option JobPlan) → awaited_of (pending_by number o) ≡ planned_by o
planned_as number None = refl
planned_as number (Some p) = refl

planned_tx : (number : ℕ) (o : Option JobPlan) → IsPendingTx (pending_by number o)
planned_tx number None = tt
planned_tx number (Some p) = refl

-- the orders of the crates below are taken
pub schedd_goes : (p : Protocol) (P : AbstractStep → Type 0) (s : PoolState) (ms : List ProtocolMove) (v : ScheddValue) (step : ScheddStep) (orders jobs : List JobId) → IsKept p s → MakeSteps P ms
    → StayLinked p ms (parts_with_schedd v step orders (parts_of s)) → jobs ≡ orders → IsPassed s.queue v → GoesOn p P (schedd_acts v step jobs s)
schedd_goes p P s ms v step orders jobs kept make stay same passed =
    goes_by p P ms (parts_with_schedd v step orders (parts_of s)) (schedd_acts v step jobs s) (make p) stay
    (record {
      moment = refl;
      startds = refl;
      schedd = refl;
      queue = refl;
      mails = λ m there. subst (λ (l : List Mail). IsIn m l) (mails_of_posts s.mails.sent step.mails) there;
      awaited = planned_as s.next_tx step.plan;
      finished = λ job. refl;
      acked = same_members s.acked;
      ordered = subst (λ (l : List JobId). SameMembers (orders ++ s.ordered) (s.ordered ++ l)) (sym same) (swapped orders s.ordered);
      reports = same_members s.reports;
    })
    (planned_tx s.next_tx step.plan)
    (addressed_posts s.mails.sent step.mails kept.addressed)
    passed
    kept.boots

-- ---- nothing is unfinished
pub none_pending : (o : Option Pending) → still_pending o ≡ None → o ≡ None
none_pending None is = refl
none_pending (Some p) is = cc

-- nothing is awaited then, and nothing waits
pub none_awaited : (s : PoolState) → s.pending ≡ None → awaited_of s.pending ≡ None
none_awaited s none = ap awaited_of none

pub none_waiting : (p : Protocol) (s : PoolState) → IsKept p s → s.pending ≡ None → s.schedd.waiting ≡ None
none_waiting p s kept none = (subst (λ (o : Option Awaited). Awaits p (parts_of s) o) (none_awaited s none) kept.linked.awaited).waiting

-- ---- no cause of a refusal holds
pub second_none : (a b : Refusal) → first_of (a ∷ b ∷ []) ≡ None → b ≡ None
second_none a b h = (first_none b [] (first_none a (b ∷ []) h).1).0

-- so nothing is unfinished
schedd_idle : (boot : ℕ) (s : PoolState) → schedd_refusal boot s ≡ None → s.pending ≡ None
schedd_idle boot s h = none_pending s.pending (second_none (daemon_refusal Schedd boot s.daemons) (still_pending s.pending) h)

pub receive_idle : (boot index : ℕ) (s : PoolState) → receive_refusal Schedd boot index s ≡ None → s.pending ≡ None
receive_idle boot index s h =
    none_pending s.pending
    (second_none (mail_refusal Schedd index s.mails) (still_pending s.pending)
    (first_none (daemon_refusal Schedd boot s.daemons) (mail_refusal Schedd index s.mails ∷ still_pending s.pending ∷ []) h).1)

pub tick_idle : (boot reading : ℕ) (s : PoolState) → tick_refusal Schedd boot reading s ≡ None → s.pending ≡ None
tick_idle boot reading s h = schedd_idle boot s (first_none (schedd_refusal boot s) (unless_due (is_due s.schedd s.queue reading) ∷ []) h).0

pub check_idle : (boot : ℕ) (job : JobId) (reading : ℕ) (s : PoolState) → check_refusal boot job reading s ≡ None → s.pending ≡ None
check_idle boot job reading s h = schedd_idle boot s (first_none (schedd_refusal boot s) (unless_due (is_check_due s.schedd s.queue job reading) ∷ []) h).0

pub submit_idle : (boot count : ℕ) (s : PoolState) → submit_refusal boot count s ≡ None → s.pending ≡ None
submit_idle boot count s h = schedd_idle boot s (first_none (schedd_refusal boot s) (jobs_refusal s.counts.jobs count ∷ []) h).0
