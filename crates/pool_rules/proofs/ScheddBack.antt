-- A pool is kept where its schedd comes back.
use Rattle.std.proofs.Common.{max, ◌≡◌, inl, inr, ℕ, ◌+◌, Bool, true, false, List, [], ◌∷◌, Ok, Option, Some, None, is_some, IsSomeAnd, refl, sym, ap, subst}
use Rattle.claim_id.specs.declared.numbers.ClaimId.{ClaimId}
use Rattle.claim_id.specs.declared.numbers.JobId.{JobId}
use Rattle.pool_parts.specs.declared.answer.Stepped.{Stepped}
use Rattle.pool_parts.specs.declared.event.Event.TheVariants as event
use Rattle.pool_mail.specs.declared.end.Ending.{Ending}
use Rattle.pool_outer.specs.declared.gate.Daemon.TheVariants.{Schedd}
use Rattle.pool_parts.specs.declared.pending.Pending.{Pending}
use Rattle.pool_parts.specs.declared.pending.Unfinished.{Unfinished}
use Rattle.pool_parts.specs.declared.pending.Unfinished.TheVariants.{Submission, Plan}
use Rattle.pool_view.specs.Protocol.{Protocol, pending_steps}
use Rattle.pool_view.specs.ProtocolMove.{Commit, Drop, protocol_after_all}
use Rattle.pool_state.specs.declared.state.PoolState.{PoolState}
use Rattle.pool_state.specs.Readings.{boot_of}
use Rattle.pool_tables.specs.DaemonTables.{daemon_state}
use Rattle.pool_view.specs.AbstractStep.{AbstractStep, Time}
use Rattle.pool_view.specs.declared.job.Entry.{Entry}
use Rattle.queue_tx.specs.Operations.{Operation}
use Rattle.queue_tx.specs.Queues.{KeyedAds, queue_after}
use Rattle.receipt_roll.specs.Values.{ReceiptValue}
use Rattle.schedd_core.specs.Logging.{IsReopened}
use Rattle.schedd_state.specs.Reopening.{IsReader}
use Rattle.schedd_state.specs.Schedds.{ScheddValue}
use Rattle.schedd_core.proofs.Marks.{reopened_passed}
use Rattle.pool_rules.specs.Linked.{Awaits, AwaitsJobs, AwaitsPlan, StayLinked}
use Rattle.pool_rules.specs.PoolParts.{Awaited}
use Rattle.pool_rules.specs.ScheddEvents.{parts_with_return}
use Rattle.pool_rules.proofs.Returning.{jobs_kept, nothing_kept, plan_kept}
use Rattle.pool_rules.specs.Happens.{Happens, boots}
use Rattle.pool_rules.specs.Logging.{IsBackWith, Leaver, ScheddIsBack, cluster_jobs, leaver_of, with_leaver, with_logged}
use Rattle.pool_rules.specs.Parts.{awaited_by, awaited_of, finished_in, parts_of}
use Rattle.pool_rules.specs.Kept.{GoesOn, IsKept, IsPendingTx, IsTxOf, at_reading}
use Rattle.pool_rules.specs.Steps.{AreSteps, IsQueueStep, IsStepOf}
use Rattle.pool_rules.proofs.ScheddSteps.{commit_first, jobs_steps, plan_steps}
use Rattle.pool_rules.proofs.StepKinds.{no_steps}
use Rattle.pool_rules.proofs.ScheddGoing.{goes_after_reading, goes_by}
use Rattle.pool_rules.proofs.ScheddLeavers.{Leaves, leaves}
use Rattle.pool_rules.proofs.ScheddLists.{same_members}

-- ---- its boot is the next
booted_kept : (p : Protocol) (s : PoolState) (boot : ℕ) → IsKept p s → IsKept p (boots boot Schedd s)
booted_kept p s boot kept = record {
  linked = kept.linked;
  pending = kept.pending;
  addressed = kept.addressed;
  passed = kept.passed;
  boots = kept.boots;
}

booted_goes : (p : Protocol) (P : AbstractStep → Type 0) (s : PoolState) (boot : ℕ) → GoesOn p P s → GoesOn p P (boots boot Schedd s)
booted_goes p P s boot goes = record {
  moves = goes.moves;
  may = goes.may;
  steps = goes.steps;
  kept = booted_kept (protocol_after_all p goes.moves) s boot goes.kept;
}

module _ (read : List ℕ → Option ClaimId) (reads : IsReader read) where
  -- ---- without its unfinished transaction
  abbrev back_without : ScheddValue → PoolState → PoolState
  back_without v s = record s { schedd = v; pending = None }

  without_goes : (p : Protocol) (P : AbstractStep → Type 0) (s : PoolState) (v : ScheddValue) (reading : ℕ) → IsKept p s → IsReopened s.schedd s.queue reading v → GoesOn p P (back_without v s)
  without_goes p P s v reading kept back =
      goes_by p P (Drop ∷ []) (parts_with_return v s.queue (finished_in s.finished) (parts_of s)) (back_without v s)
      (no_steps P)
      (nothing_kept read reads p (parts_of s) v reading kept.linked back)
      (record {
        moment = refl;
        startds = refl;
        schedd = refl;
        queue = refl;
        mails = λ m there. there;
        awaited = refl;
        finished = λ job. refl;
        acked = same_members s.acked;
        ordered = same_members s.ordered;
        reports = same_members s.reports;
      })
      tt
      kept.addressed
      (reopened_passed read reads s.queue s.schedd v reading back)
      kept.boots

  -- ---- with it
  abbrev back_with : ScheddValue → KeyedAds → Leaver → Unfinished → PoolState → PoolState
  back_with v q leaver what s = record (with_logged q leaver what s) { schedd = v }

  with_goes : (p : Protocol) (P : AbstractStep → Type 0) (s : PoolState) (v : ScheddValue) (q : KeyedAds) (leaver : Leaver) (what : Unfinished) (finished : JobId → Option Entry) (reading : ℕ) → IsKept p s → IsReopened s.schedd q reading v
      → AreSteps P (pending_steps p.pending) → StayLinked p (Commit ∷ []) (parts_with_return v q finished (parts_of s)) → ((job : JobId) → finished_in (with_leaver leaver s.finished) job ≡ finished job) → GoesOn p P (back_with v q leaver what s)
  with_goes p P s v q leaver what finished reading kept back steps stay same =
      goes_by p P (Commit ∷ []) (parts_with_return v q finished (parts_of s)) (back_with v q leaver what s) (commit_first P p [] steps (λ x. no_steps P)) stay
      (record {
        moment = refl;
        startds = refl;
        schedd = refl;
        queue = refl;
        mails = λ m there. there;
        awaited = refl;
        finished = same;
        acked = same_members s.acked;
        ordered = same_members s.ordered;
        reports = same_members s.reports;
      })
      tt
      kept.addressed
      (reopened_passed read reads q s.schedd v reading back)
      kept.boots

  by_what : (p : Protocol) (P : AbstractStep → Type 0) (s : PoolState) (v : ScheddValue) (q : KeyedAds) (tx : List Operation) (what : Unfinished) (reading : ℕ) → ((k : AbstractStep) → IsQueueStep what k → P k) → IsKept p s → awaited_of s.pending ≡ Some (awaited_by tx what) → IsTxOf what tx → queue_after s.queue tx ≡ Ok q
      → IsReopened s.schedd q reading v → GoesOn p P (back_with v q (leaver_of read s.queue what) what s)
  by_what p P s v q tx (Submission cluster count) reading queues kept awaited of h back =
      let w : AwaitsJobs p (parts_of s) (cluster_jobs cluster count) tx = subst (λ (o : Option Awaited). Awaits p (parts_of s) o) awaited kept.linked.awaited in
      with_goes p P s v q None (Submission cluster count) (finished_in s.finished) reading kept back
      (jobs_steps P p (parts_of s) cluster count tx queues w)
      (jobs_kept read reads p (parts_of s) (cluster_jobs cluster count) tx q v reading kept.linked w h back)
      (λ job. refl)
  by_what p P s v q tx (Plan pl) reading queues kept awaited of h back =
      let w : AwaitsPlan p (parts_of s) pl = subst (λ (o : Option Awaited). Awaits p (parts_of s) o) awaited kept.linked.awaited in
      let l : Leaves pl s.queue s.finished (leaver_of read s.queue (Plan pl)) = leaves read reads p s pl kept.linked w in
      with_goes p P s v q (leaver_of read s.queue (Plan pl)) (Plan pl) l.finished reading kept back
      (plan_steps P p (parts_of s) pl queues w)
      (plan_kept read reads p (parts_of s) pl q l.finished v reading kept.linked w (subst (λ (ops : List Operation). queue_after s.queue ops ≡ Ok q) of h) l.finishes back)
      l.same

  -- ---- either
  back_goes : (p : Protocol) (P : AbstractStep → Type 0) (s back : PoolState) (kept : Bool) (reading : ℕ) → P (Time (max s.latest reading)) → ((k : AbstractStep) → kept ≡ true → IsSomeAnd s.pending (λ x. IsQueueStep x.what k) → P k)
      → IsKept p s → ScheddIsBack s kept reading back → GoesOn p P (at_reading reading back)
  back_goes p P s back false reading time queues is does =
      subst (λ (x : PoolState). GoesOn p P (at_reading reading x)) (sym does.pool)
      (goes_after_reading p P s (at_reading reading (back_without does.schedd s)) reading time is
      (λ q now. without_goes q P (at_reading reading s) does.schedd reading now does.back))
  back_goes p P s back true reading time queues is does = by s.pending refl is.pending does
    where
      waits : (x : Pending) → s.pending ≡ Some x → (k : AbstractStep) → IsQueueStep x.what k → IsSomeAnd s.pending (λ y. IsQueueStep y.what k)
      waits x is k h = subst (λ (o : Option Pending). IsSomeAnd o (λ y. IsQueueStep y.what k)) (sym is) h

      by : (o : Option Pending) → s.pending ≡ o → IsPendingTx o → IsSomeAnd o (λ x. IsBackWith s x reading back) → GoesOn p P (at_reading reading back)
      by None none tx does = absurd does
      by (Some x) some tx does =
          subst (λ (t : PoolState). GoesOn p P (at_reading reading t)) (sym (does.pool read reads))
          (goes_after_reading p P s (at_reading reading (back_with does.schedd does.queue (leaver_of read s.queue x.what) x.what s)) reading time is
          (λ q now. by_what q P (at_reading reading s) does.schedd does.queue x.tx x.what reading (λ k queue. queues k refl (waits x some k queue)) now (ap awaited_of some) tx does.done does.back))

  pub return_keeps : (p : Protocol) (s new : PoolState) (r : Stepped) (kept : Option (ReceiptValue (List Operation))) (ended : List (ReceiptValue Ending)) (reading : ℕ) → IsKept p s → Happens (event.Reopen Schedd kept ended reading) s new r
      → GoesOn p (IsStepOf (event.Reopen Schedd kept ended reading) s) (at_reading reading new)
  unfolding Happens
  return_keeps p s new r kept ended reading is does =
      subst (λ (x : PoolState). GoesOn p (IsStepOf (event.Reopen Schedd kept ended reading) s) (at_reading reading x)) (sym does.pool)
      (booted_goes p (IsStepOf (event.Reopen Schedd kept ended reading) s) (at_reading reading does.back) (boot_of (daemon_state Schedd s.daemons) + 1)
      (back_goes p (IsStepOf (event.Reopen Schedd kept ended reading) s) s does.back (is_some kept) reading (inl refl) (λ k some queue. inr (some, queue)) is does.comes.0))
