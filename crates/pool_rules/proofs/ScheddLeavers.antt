-- The job that leaves the queue by a plan that is logged.
use Rattle.std.proofs.Common.{◌≡◌, ℕ, Bool, true, false, cond, List, Option, Some, None, IsSomeAnd, refl, sym, ◌∙◌, ap, subst}
use Rattle.std.specs.Prelude.{IsSome}
use Rattle.std.specs.BTreeMap.{insert_entry}
use Rattle.std.specs.Map.{lookup}
use Rattle.ad_tree.specs.Ad.{Attributes}
use Rattle.claim_id.specs.Texts.{claim_text}
use Rattle.claim_id.specs.declared.numbers.ClaimId.{ClaimId}
use Rattle.claim_id.specs.declared.numbers.JobId.{JobId}
use Rattle.claim_id.specs.declared.numbers.RunNo.{RunNo}
use Rattle.ordered_map.proofs.Maps.{lookup-insert_entry}
use Rattle.pool_parts.specs.declared.finished.FinishedJob.{FinishedJob}
use Rattle.pool_parts.specs.declared.pending.Unfinished.TheVariants.{Plan}
use Rattle.pool_view.specs.Protocol.{Protocol}
use Rattle.pool_state.specs.declared.state.PoolState.{PoolState}
use Rattle.pool_view.specs.AbstractPool.{set}
use Rattle.pool_view.specs.Numbers.{same_job}
use Rattle.pool_view.specs.declared.job.Entry.{Entry}
use Rattle.pool_view.specs.declared.job.Outcome.{Outcome}
use Rattle.pool_view.specs.declared.job.Outcome.TheVariants.{EndedBy, Removed}
use Rattle.queue_tx.specs.declared.key.Key.{Key}
use Rattle.queue_tx.specs.declared.key.Key.TheVariants.{Proc}
use Rattle.queue_tx.specs.Keys.{key_cmp, key_cmp_total, same_key}
use Rattle.queue_tx.specs.Kinds.{kind_of}
use Rattle.queue_tx.specs.Queues.{KeyedAds, ad_at}
use Rattle.schedd_core.specs.JobStates.{NamesRun}
use Rattle.schedd_core.specs.Logging.{numbered}
use Rattle.schedd_core.specs.PlanChanges.{how_of}
use Rattle.schedd_state.specs.Reopening.{IsReader, claim_by}
use Rattle.schedd_core.proofs.QueueChanges.{same_proc}
use Rattle.schedd_plan.specs.declared.plan.Completion.{Completion}
use Rattle.schedd_plan.specs.declared.plan.JobPlan.{JobPlan}
use Rattle.schedd_plan.specs.declared.plan.JobPlan.TheVariants as plan
use Rattle.schedd_plan.specs.JobAttributes.{run_number}
use Rattle.schedd_plan.specs.Plans.{job_of}
use Rattle.pool_rules.specs.Linked.{AwaitsPlan, IsLinked}
use Rattle.pool_rules.specs.ScheddEvents.{Finishes, LeavesBy, NamesSomeRun, finished_with}
use Rattle.pool_rules.proofs.Completing.{run_is_named}
use Rattle.pool_rules.specs.Logging.{Leaver, ended_by, leaver_as, leaver_of, leaver_with, outcome_of, run_named, run_under, with_leaver}
use Rattle.pool_rules.specs.Parts.{entry_done, entry_done_by, finished_in, parts_of}

-- ---- jobs that have left the queue, with one more
one_more : (b : Bool) (f : FinishedJob) (o : Option FinishedJob) → entry_done_by (cond b (Some f) o) ≡ cond b (Some (entry_done f)) (entry_done_by o)
one_more true f o = refl
one_more false f o = refl

finished_then : (finished : List (Key × FinishedJob)) (job : JobId) (f : FinishedJob) (k : JobId) → finished_in (insert_entry key_cmp finished (Proc job) f) k ≡ set same_job (finished_in finished) job (Some (entry_done f)) k
finished_then finished job f k =
    ap entry_done_by (lookup-insert_entry key_cmp_total (Proc k) (Proc job) f finished)
    ∙ (one_more (same_key (Proc job) (Proc k)) f (lookup (same_key (Proc k)) finished)
    ∙ ap (λ b. cond b (Some (entry_done f)) (finished_in finished k)) (same_proc job k))

-- ---- a plan by which none leaves
abbrev IsStaying : JobPlan → Type 0
IsStaying (plan.PutIdle job) = Unit {0}
IsStaying (plan.PutHeld job reason) = Unit {0}
IsStaying (plan.Complete job completion) = ⊥
IsStaying (plan.Remove job) = ⊥
IsStaying (plan.MarkRemoved job) = Unit {0}
IsStaying (plan.MarkHeld job reason) = Unit {0}
IsStaying (plan.MarkRunning job) = Unit {0}
IsStaying (plan.Lengthen job until) = Unit {0}
IsStaying (plan.Grant job claim number until header) = Unit {0}

no_outcome : (pl : JobPlan) (run : Option RunNo) → IsStaying pl → outcome_of run pl ≡ None
no_outcome (plan.PutIdle job) None stays = refl
no_outcome (plan.PutIdle job) (Some run) stays = refl
no_outcome (plan.PutHeld job reason) None stays = refl
no_outcome (plan.PutHeld job reason) (Some run) stays = refl
no_outcome (plan.Complete job completion) run stays = absurd stays
no_outcome (plan.Remove job) run stays = absurd stays
no_outcome (plan.MarkRemoved job) None stays = refl
no_outcome (plan.MarkRemoved job) (Some run) stays = refl
no_outcome (plan.MarkHeld job reason) None stays = refl
no_outcome (plan.MarkHeld job reason) (Some run) stays = refl
no_outcome (plan.MarkRunning job) None stays = refl
no_outcome (plan.MarkRunning job) (Some run) stays = refl
no_outcome (plan.Lengthen job until) None stays = refl
no_outcome (plan.Lengthen job until) (Some run) stays = refl
no_outcome (plan.Grant job claim number until header) None stays = refl
no_outcome (plan.Grant job claim number until header) (Some run) stays = refl

no_leaver : (read : List ℕ → Option ClaimId) (pl : JobPlan) (o : Option Attributes) → IsStaying pl → leaver_with read o pl ≡ None
no_leaver read pl None stays = refl
no_leaver read pl (Some ad) stays = ap (λ (x : Option Outcome). leaver_as x (Proc (job_of pl)) ad) (no_outcome pl (run_under read ad) stays)

finishes_none : (pl : JobPlan) (q : KeyedAds) (finished : JobId → Option Entry) → IsStaying pl → Finishes pl q finished finished
finishes_none (plan.PutIdle job) q finished stays = refl
finishes_none (plan.PutHeld job reason) q finished stays = refl
finishes_none (plan.Complete job completion) q finished stays = absurd stays
finishes_none (plan.Remove job) q finished stays = absurd stays
finishes_none (plan.MarkRemoved job) q finished stays = refl
finishes_none (plan.MarkHeld job reason) q finished stays = refl
finishes_none (plan.MarkRunning job) q finished stays = refl
finishes_none (plan.Lengthen job until) q finished stays = refl
finishes_none (plan.Grant job claim number until header) q finished stays = refl

-- ---- what the crates below and the pool make of the jobs that have left the queue
pub record Leaves (pl : JobPlan) (q : KeyedAds) (old : List (Key × FinishedJob)) (leaver : Leaver) : Type 0 where
  pub finished : JobId → Option Entry
  pub finishes : Finishes pl q (finished_in old) finished
  pub same : (k : JobId) → finished_in (with_leaver leaver old) k ≡ finished k

-- the run under which an ad names itself
under_named : (read : List ℕ → Option ClaimId) → IsReader read → (ad : Attributes) (claim : ClaimId) (number end : ℕ) → NamesRun ad claim number end → run_under read ad ≡ Some (numbered claim number)
under_named read reads ad claim number end names =
    ap (λ o. run_named (claim_by read o) (run_number ad)) names.claim_is
    ∙ (ap (λ o. run_named o (run_number ad)) ((reads (claim_text claim) claim).1 (names.valid, refl))
    ∙ ap (run_named (Some claim)) names.number_is)

module _ (read : List ℕ → Option ClaimId) (q : KeyedAds) (old : List (Key × FinishedJob)) where
  stays_there : (pl : JobPlan) → IsStaying pl → Leaves pl q old (leaver_of read q (Plan pl))
  stays_there pl stays = record {
    finished = finished_in old;
    finishes = finishes_none pl q (finished_in old) stays;
    same = λ k. ap (λ (l : Leaver). finished_in (with_leaver l old) k) (no_leaver read pl (ad_at (Proc (job_of pl)) q) stays);
  }

  removed_out : (job : JobId) → IsSomeAnd (ad_at (Proc job) q) (λ ad. IsSome (kind_of ad)) → Leaves (plan.Remove job) q old (leaver_of read q (Plan (plan.Remove job)))
  removed_out job there = by (ad_at (Proc job) q) refl there
    where
      by : (o : Option Attributes) → ad_at (Proc job) q ≡ o → IsSomeAnd o (λ ad. IsSome (kind_of ad)) → Leaves (plan.Remove job) q old (leaver_of read q (Plan (plan.Remove job)))
      by None is h = absurd h
      by (Some ad) is h = record {
        finished = finished_with (finished_in old) job ad Removed;
        finishes = subst (λ o. IsSomeAnd o (λ x. (out : Outcome) × LeavesBy (plan.Remove job) x out × (finished_with (finished_in old) job ad Removed ≡ finished_with (finished_in old) job x out))) (sym is) (Removed, refl, refl);
        same = λ k.
            ap (λ (l : Leaver). finished_in (with_leaver l old) k) (ap (λ o. leaver_with read o (plan.Remove job)) is)
            ∙ finished_then old job (record { outcome = Removed; ad = ad }) k;
      }

  completed_out : IsReader read → (job : JobId) (completion : Completion) → IsSomeAnd (ad_at (Proc job) q) NamesSomeRun → Leaves (plan.Complete job completion) q old (leaver_of read q (Plan (plan.Complete job completion)))
  completed_out reads job completion names = by (ad_at (Proc job) q) refl names
    where
      by : (o : Option Attributes) → ad_at (Proc job) q ≡ o → IsSomeAnd o NamesSomeRun → Leaves (plan.Complete job completion) q old (leaver_of read q (Plan (plan.Complete job completion)))
      by None is h = absurd h
      by (Some ad) is (claim, number, end, its) =
          let out : Outcome = EndedBy (numbered claim number) (how_of completion) in
          record {
            finished = finished_with (finished_in old) job ad out;
            finishes = subst (λ o. IsSomeAnd o (λ x. (e : Outcome) × LeavesBy (plan.Complete job completion) x e × (finished_with (finished_in old) job ad out ≡ finished_with (finished_in old) job x e))) (sym is) (out, (claim, number, end, its, refl), refl);
            same = λ k.
                ap (λ (l : Leaver). finished_in (with_leaver l old) k)
                (ap (λ o. leaver_with read o (plan.Complete job completion)) is
                ∙ ap (λ (run : Option RunNo). leaver_as (ended_by run (plan.Complete job completion)) (Proc job) ad) (under_named read reads ad claim number end its))
                ∙ finished_then old job (record { outcome = out; ad = ad }) k;
          }

-- of a plan that is awaited
pub leaves : (read : List ℕ → Option ClaimId) → IsReader read → (p : Protocol) (s : PoolState) (pl : JobPlan) → IsLinked p (parts_of s) → AwaitsPlan p (parts_of s) pl → Leaves pl s.queue s.finished (leaver_of read s.queue (Plan pl))
leaves read reads p s (plan.Complete job completion) linked w = completed_out read s.queue s.finished reads job completion (run_is_named p (parts_of s) job completion linked w)
leaves read reads p s (plan.Remove job) linked w = removed_out read s.queue s.finished job w.fitting
leaves read reads p s (plan.PutIdle job) linked w = stays_there read s.queue s.finished (plan.PutIdle job) tt
leaves read reads p s (plan.PutHeld job reason) linked w = stays_there read s.queue s.finished (plan.PutHeld job reason) tt
leaves read reads p s (plan.MarkRemoved job) linked w = stays_there read s.queue s.finished (plan.MarkRemoved job) tt
leaves read reads p s (plan.MarkHeld job reason) linked w = stays_there read s.queue s.finished (plan.MarkHeld job reason) tt
leaves read reads p s (plan.MarkRunning job) linked w = stays_there read s.queue s.finished (plan.MarkRunning job) tt
leaves read reads p s (plan.Lengthen job until) linked w = stays_there read s.queue s.finished (plan.Lengthen job until) tt
leaves read reads p s (plan.Grant job claim number until header) linked w = stays_there read s.queue s.finished (plan.Grant job claim number until header) tt
