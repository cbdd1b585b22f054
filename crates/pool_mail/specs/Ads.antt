-- What the daemons read of a job's ad.
use Rattle.std.specs.Prelude.{ℕ, List, [], not, filter, Option, Some}
use Rattle.std.specs.List.{list_any}
use Rattle.ad_value.specs.Content.{text}
use Rattle.ad_value.specs.Names.{same_name}
use Rattle.ad_value.specs.Groups.{run_names}
use Rattle.ad_value.specs.declared.names.job.TheConstants.{OWNER}
use Rattle.ad_tree.specs.Ad.{Attributes, lookup}
use Rattle.ad_tree.specs.Tree.{Tree, literal}

-- the user that an expression names: nobody where it is no literal string, or is not there
abbrev pub owner_in : Option Tree → List ℕ
owner_in (Some (literal (text user))) = user
owner_in _ = []

-- the user whose job it is
abbrev pub owner_of : Attributes → List ℕ
owner_of ad = owner_in (lookup OWNER.now ad)

-- the ad without what a job has only while it runs
abbrev pub request_ad : Attributes → Attributes
request_ad ad = filter (λ a. not (list_any (same_name a.0) run_names)) ad
