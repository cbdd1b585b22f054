-- What is asked of the ad of a job that is submitted.
use Rattle.std.specs.Prelude.{◌≡◌, ◌≤◌, ℕ, ◌+◌, not, true, Bool, List, [], ◌∷◌, count_by, Some, None}
use Rattle.std.specs.List.{list_any}
use Rattle.ad_value.specs.Names.{same_name}
use Rattle.ad_value.specs.Groups.{pool_names}
use Rattle.ad_value.specs.declared.names.job.TheConstants.{CLUSTER_ID, PROC_ID, JOB_STATUS}
use Rattle.ad_value.specs.declared.names.pool.TheConstants.{RUN_CLAIM, RUN_NUMBER, LEASE_UNTIL}
use Rattle.ad_tree.specs.Ad.{Attributes, lookup}
use Rattle.ad_rows.specs.Rows.{integer_literal}
use Rattle.ad_tree.specs.Tree.{Tree}
use Rattle.ad_token.specs.Names.{is_name}
use Rattle.ad_parse.specs.Canon.{canon}
use Rattle.ad_parse.specs.ExprText.{IsExprText}
use Rattle.ad_rows.specs.declared.TheConstants.{MAX_OWN_ATTRIBUTES}

-- an attribute that the pool does not set itself
abbrev pub is_own : List ℕ × Tree → Bool
is_own a = not (list_any (same_name a.0) pool_names)

abbrev pub own_attributes : Attributes → ℕ
own_attributes ad = count_by is_own ad

-- the expression is what its canonical text says, which so has at most 8,192 bytes
abbrev pub IsReadable : Tree → Type 0
IsReadable e = IsExprText (canon e) e

-- each name is one of expressions, and each expression is readable
abbrev pub AreReadable : Attributes → Type 0
AreReadable [] = Unit {0}
AreReadable (a ∷ ad) = (is_name a.0 ≡ true) × IsReadable a.1 × AreReadable ad

-- Its numbers are there, it is idle and has had no run, it has room for what the pool sets, and all
-- of it can be written down and read again.
pub record IsSubmitted (cluster proc : ℕ) (ad : Attributes) : Type 0 where
  pub cluster_id : lookup CLUSTER_ID.now ad ≡ Some (integer_literal cluster)
  pub proc_id : lookup PROC_ID.now ad ≡ Some (integer_literal proc)
  pub job_status : lookup JOB_STATUS.now ad ≡ Some (integer_literal 1)
  pub no_claim : lookup RUN_CLAIM.now ad ≡ None
  pub no_number : lookup RUN_NUMBER.now ad ≡ None
  pub no_lease : lookup LEASE_UNTIL.now ad ≡ None
  pub small : own_attributes ad ≤ MAX_OWN_ATTRIBUTES
  pub readable : AreReadable ad

-- the ads of jobs of a cluster that are numbered from this number on
abbrev pub AreSubmitted : ℕ → ℕ → List Attributes → Type 0
AreSubmitted cluster proc [] = Unit {0}
AreSubmitted cluster proc (ad ∷ ads) =
    IsSubmitted cluster proc ad × AreSubmitted cluster (proc + 1) ads
