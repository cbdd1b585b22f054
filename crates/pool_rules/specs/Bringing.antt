-- The operations that bring jobs into a queue.
use Rattle.std.specs.Prelude.{◌≡◌, ℕ, List, [], ◌∷◌, ◌++◌, map, Some}
use Rattle.ad_tree.specs.Ad.{AreDistinct, Attributes}
use Rattle.ad_tree.specs.Tree.{Tree}
use Rattle.claim_id.specs.declared.numbers.JobId.{JobId}
use Rattle.pool_view.specs.Protocol.{NewJob}
use Rattle.pool_view.specs.Ads.{core_of}
use Rattle.queue_tx.specs.declared.key.Key.TheVariants.{Header, Proc}
use Rattle.queue_tx.specs.declared.kind.JobKind.TheVariants.{Idle}
use Rattle.queue_tx.specs.Kinds.{kind_of}
use Rattle.queue_tx.specs.Operations.{Operation, key_of, new_ad, set_attr}
use Rattle.pool_rules.specs.ScheddEvents.{IsNotAmong}

-- a job with its ad
abbrev pub JobAd : Type 0
JobAd = JobId × Attributes

abbrev pub setting_op : JobId → (List ℕ × Tree) → Operation
setting_op job a = set_attr (Proc job) a.0 a.1

-- its ad is made, and set name by name
abbrev pub bringing_ops : List ℕ → List ℕ → JobAd → List Operation
bringing_ops kind other b = new_ad (Proc b.0) kind other ∷ map (setting_op b.0) b.1

abbrev pub all_bringing_ops : List ℕ → List ℕ → List JobAd → List Operation
all_bringing_ops kind other [] = []
all_bringing_ops kind other (b ∷ bs) =
    bringing_ops kind other b ++ all_bringing_ops kind other bs

-- operations of the header alone
abbrev pub AreOfHeader : List Operation → Type 0
AreOfHeader [] = Unit {0}
AreOfHeader (o ∷ os) = (key_of o ≡ Header) × AreOfHeader os

abbrev pub job_of_ad : JobAd → JobId
job_of_ad b = b.0

-- idle jobs, no two of which are one
abbrev pub AreIdleJobs : List JobAd → Type 0
AreIdleJobs [] = Unit {0}
AreIdleJobs (b ∷ bs) = AreDistinct b.1 × (kind_of b.1 ≡ Some Idle)
    × IsNotAmong b.0 (map job_of_ad bs) × AreIdleJobs bs

abbrev pub new_job_of : JobAd → NewJob
new_job_of b = record { job = b.0; core = core_of b.1 }
