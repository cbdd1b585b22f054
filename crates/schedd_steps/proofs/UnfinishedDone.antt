-- What comes of the unfinished transaction, by what is ready.
use Rattle.std.proofs.Common.{◌≡◌, ℕ, ◌<◌, List, ◌++◌, Option, Some, None, IsSomeAnd, refl, ap, sym, subst, ◌∙◌}
use Rattle.claim_id.specs.declared.numbers.ClaimId.{ClaimId}
use Rattle.pool_parts.specs.declared.answer.Answer.TheVariants as answer
use Rattle.pool_parts.specs.declared.answer.Stepped.{Stepped}
use Rattle.pool_parts.specs.declared.size.TheConstants.{MAX_BYTES}
use Rattle.pool_parts.specs.declared.pending.Pending.{Pending}
use Rattle.pool_parts.specs.declared.pending.Unfinished.{Unfinished}
use Rattle.pool_parts.specs.declared.pending.Unfinished.TheVariants.{Submission, Plan}
use Rattle.pool_state.specs.declared.state.PoolState.{PoolState}
use Rattle.queue_tx.specs.declared.key.Key.TheVariants.{Proc}
use Rattle.queue_tx.specs.Queues.{KeyedAds, with_changes}
use Rattle.schedd_state.specs.DueChecks.{with_new}
use Rattle.schedd_core.specs.Logging.{IsReopened}
use Rattle.schedd_state.specs.Reopening.{IsReader}
use Rattle.schedd_state.specs.Schedds.{ScheddValue}
use Rattle.schedd_plan.specs.declared.plan.JobPlan.{JobPlan}
use Rattle.schedd_steps.specs.declared.logging.LogDeed.{LogDeed}
use Rattle.pool_rules.specs.Answers.{answered}
use Rattle.pool_rules.specs.Deeds.{at_rest}
use Rattle.pool_rules.specs.Happens.{IsDone}
use Rattle.pool_rules.specs.Limits.{IsTooLarge}
use Rattle.pool_rules.specs.Logging.{IsBackWith, IsBackWithout, IsLogged, after_unfinished, cluster_jobs, leaver_of, with_logged, with_plan, with_submission}
use Rattle.schedd_steps.specs.Counting.{IsBackTooLarge, bytes_after, bytes_planned, submitted, with_counts}
use Rattle.schedd_steps.specs.Ready.{IsLogDeed}
use Rattle.pool_parts.specs.Growth.{Grows}
use Rattle.schedd_steps.proofs.Counted.{counted_as, logged_with}

abbrev pub queue_of : LogDeed → PoolState → KeyedAds
queue_of d s = with_changes s.queue d.queue.change

counted_for : (d : LogDeed) (p : Pending) (what : Unfinished) (bytes : ℕ) (s : PoolState) (read : List ℕ → Option ClaimId) → IsReader read → IsLogDeed s d p → p.what ≡ what
    → with_counts d.counts bytes (queue_of d s) s ≡ logged_with bytes (queue_of d s) (leaver_of read s.queue what) what s
counted_for d p what bytes s read reads ready e =
    subst (λ w. with_counts d.counts bytes (queue_of d s) s ≡ logged_with bytes (queue_of d s) (leaver_of read s.queue w) w s) e
    (counted_as d.counts bytes (queue_of d s) p.what (leaver_of read s.queue p.what) s (ready.leaver read reads) ready.next_tx ready.jobs)

-- ---- the schedd comes back
pub back_with : (d : LogDeed) (o : Option Pending) (old new : PoolState) (reading : ℕ) (v : ScheddValue) → IsSomeAnd o (IsLogDeed old d)
    → IsReopened old.schedd (queue_of d old) reading v
    → at_rest new ≡ at_rest (record (with_counts d.counts (bytes_after (queue_of d old) old) (queue_of d old) old) { schedd = v })
    → IsSomeAnd o (λ p. IsBackWith (at_rest old) p reading (at_rest new))
back_with d (Some p) old new reading v ready back e = record {
  schedd = v;
  queue = queue_of d old;
  done = ready.done;
  back = back;
  pool = λ read reads. e ∙ ap (λ (s : PoolState). at_rest (record s { schedd = v })) (counted_for d p p.what (bytes_after (queue_of d old) old) old read reads ready refl);
}
back_with d None old new reading v ready back e = ready

pub back_too_large : (d : LogDeed) (o : Option Pending) (old : PoolState) (reading : ℕ) → IsSomeAnd o (IsLogDeed old d)
    → IsBackTooLarge old.schedd (queue_of d old) reading (bytes_after (queue_of d old) old)
    → IsTooLarge (λ new r. IsSomeAnd o (λ p. IsBackWith (at_rest old) p reading new) × IsDone r)
back_too_large d (Some p) old reading ready large =
    let q = queue_of d old in
    record {
      new = record (with_logged q d.counts.leaver p.what (at_rest old)) { schedd = large.back };
      answer = answered answer.Done;
      makes = (
        record {
          schedd = large.back;
          queue = q;
          done = ready.done;
          back = large.is;
          pool = λ read reads. ap (λ l. record (with_logged q l p.what (at_rest old)) { schedd = large.back }) (ready.leaver read reads);
        },
        refl,
      );
      above = large.above;
    }
back_too_large d None old reading ready large = absurd ready

pub lost_too_large : (old : PoolState) (reading : ℕ) (v : ScheddValue) → IsReopened old.schedd old.queue reading v → MAX_BYTES < old.counts.bytes
    → IsTooLarge (λ new r. IsBackWithout (at_rest old) reading new × IsDone r)
lost_too_large old reading v back above = record {
  new = record (at_rest old) { schedd = v; pending = None };
  answer = answered answer.Done;
  makes = (record { schedd = v; back = back; pool = refl }, refl);
  above = above;
}

-- ---- a plan is logged
pub plan_too_large : (d : LogDeed) (plan : JobPlan) (o : Option Pending) (old : PoolState) → d.what ≡ Plan plan → IsSomeAnd o (IsLogDeed old d)
    → MAX_BYTES < bytes_planned (queue_of d old) old → IsTooLarge (λ new r. IsSomeAnd o (λ p. IsLogged (at_rest old) p new r))
plan_too_large d plan (Some p) old what ready above =
    let is : p.what ≡ Plan plan = sym ready.what ∙ what in
    let q = queue_of d old in
    let made = with_plan q d.counts.leaver plan (at_rest old) in
    record {
      new = made;
      answer = answered answer.Done;
      makes = record {
        queue = q;
        done = ready.done;
        pool = λ read reads.
            subst (λ w. made ≡ after_unfinished q (leaver_of read old.queue w) w (at_rest old)) (sym is)
            (ap (λ l. with_plan q l plan (at_rest old)) (ready.leaver read reads ∙ ap (leaver_of read old.queue) is));
        answer = refl;
      };
      above = above;
    }
plan_too_large d plan None old what ready above = absurd ready

-- ---- a submission is logged
pub logged_submission : (d : LogDeed) (cluster count : ℕ) (o : Option Pending) (old new : PoolState) (r : Stepped) → d.what ≡ Submission cluster count → IsSomeAnd o (IsLogDeed old d)
    → new ≡ submitted d.counts cluster count (queue_of d old) old
    → r ≡ answered answer.Done → IsSomeAnd o (λ p. IsLogged (at_rest old) p (at_rest new) r)
logged_submission d cluster count (Some p) old new r what ready e a =
    let is : p.what ≡ Submission cluster count = sym ready.what ∙ what in
    let q = queue_of d old in
    record {
      queue = q;
      done = ready.done;
      pool = λ read reads.
          subst (λ w. at_rest new ≡ after_unfinished q (leaver_of read old.queue w) w (at_rest old)) (sym is)
          (
          ap at_rest
          (
          e
          ∙ ap
          (λ (s : PoolState). record s {
            schedd = with_new (Proc (record { cluster = cluster; proc = 0 })) old.schedd;
            acked = old.acked ++ cluster_jobs cluster count;
          })
          (counted_for d p (Submission cluster count) (bytes_after q old) old read reads ready is)));
      answer = a;
    }
logged_submission d cluster count None old new r what ready e a = ready

pub submission_too_large : (d : LogDeed) (cluster count : ℕ) (o : Option Pending) (old : PoolState) → d.what ≡ Submission cluster count → IsSomeAnd o (IsLogDeed old d)
    → MAX_BYTES < bytes_after (queue_of d old) old → IsTooLarge (λ new r. IsSomeAnd o (λ p. IsLogged (at_rest old) p new r))
submission_too_large d cluster count (Some p) old what ready above =
    let is : p.what ≡ Submission cluster count = sym ready.what ∙ what in
    let q = queue_of d old in
    let made = with_submission q cluster count (at_rest old) in
    record {
      new = made;
      answer = answered answer.Done;
      makes = record {
        queue = q;
        done = ready.done;
        pool = λ read reads. subst (λ w. made ≡ after_unfinished q (leaver_of read old.queue w) w (at_rest old)) (sym is) refl;
        answer = refl;
      };
      above = above;
    }
submission_too_large d cluster count None old what ready above = absurd ready

-- ---- what is ready can be undone, and its growth is known
pub undone_so : (d : LogDeed) (o : Option Pending) (s : PoolState) → IsSomeAnd o (IsLogDeed s d) → with_changes (queue_of d s) d.queue.undo ≡ s.queue
undone_so d (Some p) s ready = ready.undone
undone_so d None s ready = absurd ready

pub grows_so : (d : LogDeed) (o : Option Pending) (s : PoolState) → IsSomeAnd o (IsLogDeed s d) → Grows d.queue.growth s.queue (queue_of d s)
grows_so d (Some p) s ready = ready.growth
grows_so d None s ready = absurd ready
