-- The jobs that are acknowledged, and that they stay.
use Rattle.std.proofs.Common.{◌≡◌, ℕ, List, Option, Some, IsSomeAnd, IfSome, sym, subst}
use Rattle.claim_id.specs.declared.numbers.ClaimId.{ClaimId}
use Rattle.claim_id.specs.declared.numbers.JobId.{JobId}
use Rattle.pool_parts.specs.declared.answer.Stepped.{Stepped}
use Rattle.pool_parts.specs.declared.event.Event.TheVariants as event
use Rattle.pool_rules.proofs.Kept.{in_second}
use Rattle.pool_rules.proofs.Viewing.{acked_known, left_rightly}
use Rattle.pool_rules.specs.Shown.{IsKnown, LeftRightly}
use Rattle.pool_rules.specs.Happens.{Happens, Reacts, counts_brought}
use Rattle.pool_rules.specs.Logging.{IsLogged, Leaver, after_unfinished, cluster_jobs, leaver_of}
use Rattle.pool_rules.specs.Parts.{finished_in, parts_of}
use Rattle.pool_parts.specs.declared.pending.Pending.{Pending}
use Rattle.pool_parts.specs.declared.pending.Unfinished.{Unfinished}
use Rattle.pool_parts.specs.declared.pending.Unfinished.TheVariants.{Submission}
use Rattle.pool_state.specs.declared.opening.Opening.{Opening}
use Rattle.pool_state.specs.declared.state.PoolState.{PoolState}
use Rattle.pool_view.specs.AbstractPool.{IsIn}
use Rattle.queue_tx.specs.Queues.{KeyedAds}
use Rattle.receipt_roll.specs.Values.{ReceiptValue}
use Rattle.queue_tx.specs.Operations.{Operation}
use Rattle.schedd_state.specs.Reopening.{IsReader}
use Rattle.pool_rules.specs.Histories.{IsHistory, Step}
use Rattle.pool_rules.proofs.HistoryKept.{history_kept}

-- ---- a submission is logged
with_cluster : (s : PoolState) (q : KeyedAds) (leaver : Leaver) (what : Unfinished) (cluster count : ℕ) (job : JobId) → what ≡ Submission cluster count → IsIn job (cluster_jobs cluster count) → IsIn job (after_unfinished q leaver what s).acked
with_cluster s q leaver what cluster count job is there = subst (λ u. IsIn job (after_unfinished q leaver u s).acked) (sym is) (in_second job s.acked (cluster_jobs cluster count) there)

logged_acked : (read : List ℕ → Option ClaimId) → IsReader read → (s t : PoolState) (r : Stepped) (boot : ℕ) (receipt : ReceiptValue (List Operation)) (p : Pending) (cluster count : ℕ) (job : JobId)
    → Happens (event.Logged boot receipt) s t r → s.pending ≡ Some p → p.what ≡ Submission cluster count → IsIn job (cluster_jobs cluster count) → IsIn job t.acked
unfolding Happens
logged_acked read reads s t r boot receipt p cluster count job happens is what there =
    let logged : IsLogged s p t r = subst (λ o. IsSomeAnd o (λ x. IsLogged s x t r)) is happens in
    subst (λ (x : PoolState). IsIn job x.acked) (sym (logged.pool read reads)) (with_cluster s logged.queue (leaver_of read s.queue p.what) p.what cluster count job what there)

pub submitted_acked : (read : List ℕ → Option ClaimId) → IsReader read → (s new : PoolState) (r : Stepped) (boot : ℕ) (receipt : ReceiptValue (List Operation)) (p : Pending) (cluster count : ℕ) (job : JobId)
    → Reacts s (event.Logged boot receipt) r new → s.pending ≡ Some p → p.what ≡ Submission cluster count → IsIn job (cluster_jobs cluster count) → IsIn job new.acked
submitted_acked read reads s new r boot receipt p cluster count job reacts is what there =
    subst (λ (x : PoolState). IsIn job x.acked) (sym reacts.pool) (logged_acked read reads (counts_brought (event.Logged boot receipt) s) reacts.then_pool r boot receipt p cluster count job reacts.happens is what there)

-- ---- they stay
pub history_known : (read : List ℕ → Option ClaimId) → IsReader read → (o : Opening) (list : List Step) (s : PoolState) (job : JobId) → IsHistory o list s → IsIn job s.acked → IsKnown (parts_of s) job
history_known read reads o list s job h there = let k = history_kept read reads o list s h in acked_known k.0 (parts_of s) job k.1.linked there

pub history_rightly : (read : List ℕ → Option ClaimId) → IsReader read → (o : Opening) (list : List Step) (s : PoolState) (job : JobId) → IsHistory o list s → IfSome (finished_in s.finished job) (λ e. LeftRightly (parts_of s) job e.state)
history_rightly read reads o list s job h = let k = history_kept read reads o list s h in left_rightly k.0 (parts_of s) job k.1.linked
