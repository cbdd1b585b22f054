-- The cluster of the next submission.
use Rattle.std.specs.Prelude.{◌≡◌, ◌⊎◌, ℕ, zero, suc, ◌+◌, ◌<◌, nat_lt, nat_le, ◌==◌, Bool, true, false, ◌&&◌, ◌||◌, List, Option, Some, None, if◌then◌else◌}
use Rattle.std.specs.List.{list_any}
use Rattle.std.specs.Map.{keys_of}
use Rattle.ad_tree.specs.Ad.{Attributes}
use Rattle.pool_parts.specs.declared.clusters.TheConstants.{LAST_CLUSTER}
use Rattle.pool_parts.specs.declared.finished.FinishedJob.{FinishedJob}
use Rattle.queue_tx.specs.declared.key.Key.{Key}
use Rattle.queue_tx.specs.declared.key.Key.TheVariants.{Header, Proc}
use Rattle.queue_tx.specs.declared.names.TheConstants.{NEXT_CLUSTER_NUM}
use Rattle.queue_tx.specs.Queues.{KeyedAds, ad_at}
use Rattle.schedd_plan.specs.JobAttributes.{natural_at}

abbrev pub is_of_cluster : ℕ → Key → Bool
is_of_cluster cluster Header = false
is_of_cluster cluster (Proc job) = job.cluster == cluster

-- one of the keys is of the cluster
abbrev pub has_cluster : ℕ → List Key → Bool
has_cluster cluster keys = list_any (is_of_cluster cluster) keys

-- a job of the queue has the number, or one that has left it
abbrev pub is_used : KeyedAds → List (Key × FinishedJob) → ℕ → Bool
is_used q finished cluster =
    has_cluster cluster (keys_of q) || has_cluster cluster (keys_of finished)

-- ---- the numbers in turn
abbrev pub cluster_after : ℕ → ℕ
cluster_after cluster = if nat_lt cluster LAST_CLUSTER then cluster + 1 else 1

-- so many numbers later
abbrev pub clusters_on : ℕ → ℕ → ℕ
clusters_on zero cluster = cluster
clusters_on (suc n) cluster = cluster_after (clusters_on n cluster)

-- a number that isn't one of a cluster counts as 1
abbrev pub cluster_by : Option ℕ → ℕ
cluster_by None = 1
cluster_by (Some n) = if nat_le 1 n && nat_le n LAST_CLUSTER then n else 1

abbrev pub first_cluster_by : Option Attributes → ℕ
first_cluster_by None = 1
first_cluster_by (Some header) = cluster_by (natural_at NEXT_CLUSTER_NUM.now header)

abbrev pub first_cluster : KeyedAds → ℕ
first_cluster q = first_cluster_by (ad_at Header q)

-- the first of the numbers that isn't used, if not all are
pub record IsFirstFree (used : ℕ → Bool) (from cluster : ℕ) : Type 0 where
  pub steps : ℕ
  pub is : cluster ≡ clusters_on steps from
  pub before : (n : ℕ) → n < steps → used (clusters_on n from) ≡ true
  pub free : (used cluster ≡ false) ⊎ (steps ≡ LAST_CLUSTER)

abbrev pub IsNextCluster : KeyedAds → List (Key × FinishedJob) → ℕ → Type 0
IsNextCluster q finished cluster = IsFirstFree (is_used q finished) (first_cluster q) cluster
