-- What holds of jobs of one autocluster.
use Rattle.std.specs.Prelude.{◌≡◌, ℕ, List, Contains}
use Rattle.ad_tree.specs.Ad.{Attributes}
use Rattle.ad_eval.specs.Match.{matches, rank_of}
use Rattle.auto_cluster.specs.Significant.{IsSignificantPart}

-- two jobs match a slot alike, and each ranks the other side alike
pub record AreAlike (slot : Attributes) (now : ℕ) (job other : Attributes) : Type 0 where
  pub matching : matches job slot now ≡ matches other slot now
  pub rank : rank_of job slot now ≡ rank_of other slot now
  pub slot_rank : rank_of slot job now ≡ rank_of slot other now

abbrev pub AgreeingJobsMatchAlike : Type 0
AgreeingJobsMatchAlike = (slots : List Attributes) (job other part slot : Attributes) (now : ℕ)
    → IsSignificantPart slots job part → IsSignificantPart slots other part → Contains slots slot
    → AreAlike slot now job other

-- the significant attributes are one list
abbrev pub OnePart : Type 0
OnePart = (slots : List Attributes) (job part other : Attributes)
    → IsSignificantPart slots job part → IsSignificantPart slots job other → part ≡ other
