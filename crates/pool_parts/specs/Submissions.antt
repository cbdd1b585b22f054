-- The transaction that brings jobs into the queue.
use Rattle.std.specs.Prelude.{ℕ, ◌+◌, Bool, true, false, List, [], ◌∷◌, ◌++◌, map, Option, Some, None}
use Rattle.ad_rows.specs.Rows.{integer_literal}
use Rattle.ad_tree.specs.Ad.{Attributes}
use Rattle.ad_tree.specs.Tree.{Tree}
use Rattle.claim_id.specs.declared.numbers.JobId.{JobId}
use Rattle.queue_tx.specs.declared.key.Key.{Key}
use Rattle.queue_tx.specs.declared.key.Key.TheVariants.{Header, Proc}
use Rattle.queue_tx.specs.declared.names.TheConstants.{NEXT_CLUSTER_NUM}
use Rattle.queue_tx.specs.Operations.{Operation, new_ad, set_attr}
use Rattle.pool_parts.specs.declared.submission.TheConstants.{KIND, OTHER}

abbrev pub new_ad_op : Key → Operation
new_ad_op key = new_ad key KIND.now OTHER.now

-- the header, where the queue has none
abbrev pub header_ops : Bool → List Operation
header_ops true = []
header_ops false = new_ad_op Header ∷ []

-- the cluster after this one is the next
abbrev pub next_cluster_op : ℕ → Operation
next_cluster_op cluster = set_attr Header NEXT_CLUSTER_NUM.now (integer_literal (cluster + 1))

abbrev pub attribute_op : Key → (List ℕ × Tree) → Operation
attribute_op key a = set_attr key a.0 a.1

-- perhaps there is none
abbrev pub attribute_ops : Key → Option (List ℕ × Tree) → List Operation
attribute_ops key None = []
attribute_ops key (Some a) = attribute_op key a ∷ []

-- an ad comes into the queue under a key
abbrev pub ad_ops : Key → Attributes → List Operation
ad_ops key ad = new_ad_op key ∷ map (attribute_op key) ad

abbrev pub job_numbered : ℕ → ℕ → JobId
job_numbered cluster proc = record { cluster = cluster; proc = proc }

-- jobs of a cluster, whose procs count from one on
abbrev pub jobs_ops : ℕ → ℕ → List Attributes → List Operation
jobs_ops cluster proc [] = []
jobs_ops cluster proc (ad ∷ ads) =
    ad_ops (Proc (job_numbered cluster proc)) ad ++ jobs_ops cluster (proc + 1) ads

-- jobs come into the queue as one cluster; `header` says whether the queue has a header
abbrev pub submission_ops : Bool → ℕ → List Attributes → List Operation
submission_ops header cluster ads =
    header_ops header ++ next_cluster_op cluster ∷ jobs_ops cluster 0 ads
