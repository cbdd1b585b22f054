-- When a transaction can be logged over a queue, and what of the queue that rests on.
use Rattle.std.specs.Prelude.{◌≡◌, ◌<◌, ◌+◌, ◌^◌, ℕ, List, [], ◌∷◌, None, is_some, IsSome, IsOk}
use Rattle.ad_parse.specs.ValueText.{IsShortInteger}
use Rattle.ad_tree.specs.Ad.{Attributes, IsAd}
use Rattle.ad_tree.specs.Tree.{Tree, literal}
use Rattle.ad_value.specs.Content.{integer}
use Rattle.claim_id.specs.declared.numbers.JobId.{JobId}
use Rattle.claim_id.specs.Texts.{IsClaim}
use Rattle.pool_parts.specs.Submissions.{job_numbered}
use Rattle.queue_tx.specs.declared.key.Key.TheVariants.{Header, Proc}
use Rattle.queue_tx.specs.Operations.{Operation, new_ad, set_attr}
use Rattle.queue_tx.specs.Printable.{HasPrintableKeys, IsPrintable, IsPrintableAd, IsPrintableKey}
use Rattle.queue_tx.specs.Queues.{KeyedAds, ad_at, queue_after}
use Rattle.queue_tx.specs.Roomy.{HasRoom, IsRoomy}
use Rattle.schedd_plan.specs.declared.plan.Completion.{Completion}
use Rattle.schedd_plan.specs.declared.plan.Completion.TheVariants.{Exited, Signalled}
use Rattle.schedd_plan.specs.declared.plan.JobPlan.{JobPlan}
use Rattle.schedd_plan.specs.declared.plan.JobPlan.TheVariants as plan
use Rattle.schedd_plan.specs.Plans.{job_of}

-- what a log asks of a transaction that it appends to those that built this queue
pub record CanBeLogged (tx : List Operation) (q : KeyedAds) : Type 0 where
  pub done : IsOk (queue_after q tx)
  pub printable : IsPrintable tx

-- a queue over which the pool's transactions can be logged
pub record IsLoggableQueue (q : KeyedAds) : Type 0 where
  pub roomy : IsRoomy q
  pub keys : HasPrintableKeys q

-- the keys that a transaction brings can be printed
abbrev pub BringsPrintableKey : Operation → Type 0
BringsPrintableKey (new_ad key kind other) = IsPrintableKey key
BringsPrintableKey _ = Unit {0}

abbrev pub BringsPrintableKeys : List Operation → Type 0
BringsPrintableKeys [] = Unit {0}
BringsPrintableKeys (o ∷ os) = BringsPrintableKey o × BringsPrintableKeys os

-- ---- plans
-- a number can stand in an expression, as an integer of 64 bits
abbrev pub IsShortEnd : Completion → Type 0
IsShortEnd (Exited code) = IsShortInteger code
IsShortEnd (Signalled signal) = IsShortInteger signal

-- how a job's program ended can
abbrev pub HasShortEnd : JobPlan → Type 0
HasShortEnd (plan.Complete job completion) = IsShortEnd completion
HasShortEnd _ = Unit {0}

-- each number of a plan can
abbrev pub HasShortNumbers : JobPlan → Type 0
HasShortNumbers (plan.Complete job completion) = IsShortEnd completion
HasShortNumbers (plan.Lengthen job until) = until < 2 ^ 63
HasShortNumbers (plan.Grant job claim number until header) =
    (number + 1 < 2 ^ 63) × (until < 2 ^ 63)
HasShortNumbers _ = Unit {0}

-- what a grant names is a claim
abbrev pub NamesClaim : JobPlan → Type 0
NamesClaim (plan.Grant job claim number until header) = IsClaim claim
NamesClaim _ = Unit {0}

-- a grant says whether the queue has a header
abbrev pub KnowsHeader : KeyedAds → JobPlan → Type 0
KnowsHeader q (plan.Grant job claim number until header) = header ≡ is_some (ad_at Header q)
KnowsHeader q _ = Unit {0}

-- a plan of a job of the queue
pub record IsLoggablePlan (q : KeyedAds) (p : JobPlan) : Type 0 where
  pub there : IsSome (ad_at (Proc (job_of p)) q)
  pub header : KnowsHeader q p
  pub claim : NamesClaim p
  pub short : HasShortNumbers p

-- an integer, as an expression, has 64 bits
abbrev pub IsShortTree : Tree → Type 0
IsShortTree (literal (integer n)) = IsShortInteger n
IsShortTree _ = Unit {0}

abbrev pub IsShortOp : Operation → Type 0
IsShortOp (set_attr key name e) = IsShortTree e
IsShortOp _ = Unit {0}

-- the integers that operations set have 64 bits
abbrev pub AreShortOps : List Operation → Type 0
AreShortOps [] = Unit {0}
AreShortOps (o ∷ os) = IsShortOp o × AreShortOps os

-- ---- submissions
-- A job that can be submitted: its ad has room for what the pool sets, its names differ, and its
-- names and expressions can be printed.
pub record IsLoggableJob (ad : Attributes) : Type 0 where
  pub room : (job : JobId) → HasRoom (Proc job) ad
  pub printable : IsPrintableAd ad

abbrev pub AreLoggableJobs : List Attributes → Type 0
AreLoggableJobs [] = Unit {0}
AreLoggableJobs (ad ∷ ads) = IsLoggableJob ad × AreLoggableJobs ads

abbrev pub AreAds : List Attributes → Type 0
AreAds [] = Unit {0}
AreAds (ad ∷ ads) = IsAd ad × AreAds ads

-- no job of the cluster is in the queue
abbrev pub IsNewCluster : KeyedAds → ℕ → Type 0
IsNewCluster q cluster = (proc : ℕ) → ad_at (Proc (job_numbered cluster proc)) q ≡ None
