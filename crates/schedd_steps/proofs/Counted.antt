-- What was counted for what is logged.
use Rattle.std.proofs.Common.{◌≡◌, ℕ, ◌+◌, ◌++◌, List, None, ap, ◌∙◌}
use Rattle.claim_id.specs.declared.numbers.JobId.{JobId}
use Rattle.schedd_steps.specs.declared.logging.CountDeed.{CountDeed}
use Rattle.pool_parts.specs.declared.pending.Unfinished.{Unfinished}
use Rattle.pool_state.specs.declared.state.PoolState.{PoolState}
use Rattle.queue_tx.specs.declared.key.Key.TheVariants.{Proc}
use Rattle.queue_tx.specs.Queues.{KeyedAds}
use Rattle.pool_rules.specs.Logging.{Leaver, cluster_jobs, jobs_after, with_leaver}
use Rattle.schedd_state.specs.DueChecks.{with_new}
use Rattle.schedd_state.specs.Schedds.{ScheddValue}
use Rattle.schedd_steps.specs.Counting.{bytes_after, submitted, with_counts}

-- as a transaction that is logged leaves a pool, with so many bytes
abbrev pub logged_with : ℕ → KeyedAds → Leaver → Unfinished → PoolState → PoolState
logged_with bytes q leaver what s = record s {
  queue = q;
  pending = None;
  next_tx = s.next_tx + 1;
  finished = with_leaver leaver s.finished;
  counts = record { jobs = jobs_after what s.counts.jobs; bytes = bytes };
}

pub counted_as : (d : CountDeed) (bytes : ℕ) (q : KeyedAds) (what : Unfinished) (leaver : Leaver) (s : PoolState)
    → d.leaver ≡ leaver → d.next_tx ≡ s.next_tx + 1 → d.jobs ≡ jobs_after what s.counts.jobs → with_counts d bytes q s ≡ logged_with bytes q leaver what s
counted_as d bytes q what leaver s l n j =
    ap (λ (x : Leaver). record s { queue = q; pending = None; next_tx = d.next_tx; finished = with_leaver x s.finished; counts = record { jobs = d.jobs; bytes = bytes } }) l
    ∙ ap (λ (x : ℕ). record s { queue = q; pending = None; next_tx = x; finished = with_leaver leaver s.finished; counts = record { jobs = d.jobs; bytes = bytes } }) n
    ∙ ap (λ (x : ℕ). record s { queue = q; pending = None; next_tx = s.next_tx + 1; finished = with_leaver leaver s.finished; counts = record { jobs = x; bytes = bytes } }) j

pub submitted_so : (d : CountDeed) (old mid end : PoolState) (q : KeyedAds) (cluster count bytes : ℕ) (jobs acked : List JobId) (v : ScheddValue)
    → mid ≡ record old { queue = q } → bytes ≡ bytes_after q old → end ≡ with_counts d bytes mid.queue mid
    → v ≡ with_new (Proc (record { cluster = cluster; proc = 0 })) end.schedd → acked ≡ end.acked ++ jobs → jobs ≡ cluster_jobs cluster count
    → record end { schedd = v; acked = acked } ≡ submitted d cluster count q old
submitted_so d old mid end q cluster count bytes jobs acked v changed is counted notes joins all =
    let note : ScheddValue → ScheddValue = λ (x : ScheddValue). with_new (Proc (record { cluster = cluster; proc = 0 })) x in
    ap (λ (x : ScheddValue). record end { schedd = x; acked = acked }) notes
    ∙ ap (λ (xs : List JobId). record end { schedd = note end.schedd; acked = xs }) joins
    ∙ ap (λ (xs : List JobId). record end { schedd = note end.schedd; acked = end.acked ++ xs }) all
    ∙ ap (λ (s : PoolState). record s { schedd = note s.schedd; acked = s.acked ++ cluster_jobs cluster count })
    (counted ∙ ap (λ (s : PoolState). with_counts d bytes s.queue s) changed ∙ ap (λ (n : ℕ). with_counts d n q old) is)
