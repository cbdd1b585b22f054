-- The autoclusters of a submitter's jobs, by their significant attributes.
use Rattle.std.specs.Prelude.{◌≡◌, ◌⊎◌, ◌≢◌, ℕ, List, [], ◌∷◌, ◌++◌, length, slice_get, Some}
use Rattle.std.specs.List.{AllPairs, list_any}
use Rattle.ad_tree.specs.Ad.{Attributes}
use Rattle.auto_cluster.specs.Significant.{IsSignificantPart, leads_to}
use Rattle.auto_cluster.specs.Links.{is_linked}
use Rattle.auto_cluster.specs.declared.links.Link.{Link}

-- some slots, and the significant attributes of each autocluster so far, by its number
pub record Clustering : Type 0 where
  pub slots : List Attributes
  pub parts : List Attributes

-- no two autoclusters have equal attributes
abbrev pub AreClusters : List Attributes → Type 0
AreClusters parts = AllPairs (λ p q. p ≢ q) parts

-- the autocluster of a job has its significant attributes; a new one comes last
pub record IsNumbered (old new : Clustering) (job : Attributes) (number : ℕ) : Type 0 where
  pub part : Attributes
  pub of_job : IsSignificantPart old.slots job part
  pub at_number : slice_get new.parts number ≡ Some part
  pub slots : new.slots ≡ old.slots
  pub parts : (new.parts ≡ old.parts)
      ⊎ ((new.parts ≡ old.parts ++ part ∷ []) × (number ≡ length old.parts))

-- links that stand for what expressions of slots refer to
abbrev pub AreLinksOf : List Attributes → List Link → Type 0
AreLinksOf slots ls = (x y : List ℕ) → is_linked ls x y ≡ list_any (leads_to x y) slots
