-- What the reading at which a file is submitted changes.
use Rattle.std.specs.Prelude.{◌≡◌, ℕ, false, List, Ok, Err}
use Rattle.std.specs.List.{AllZip}
use Rattle.ad_value.specs.Names.{same_name}
use Rattle.ad_value.specs.declared.names.job.TheConstants.{Q_DATE}
use Rattle.ad_tree.specs.Ad.{Attributes}
use Rattle.ad_tree.specs.Tree.{Tree}
use Rattle.submit_file.specs.OneJob.{Common}
use Rattle.submit_file.specs.SubmittedJobs.{AdsResult}

abbrev pub at_reading : ℕ → Common → Common
at_reading t h = record { cluster = h.cluster; owner = h.owner; now = t }

-- two attributes of one name; they are the same unless it is QDate
abbrev pub IsSameButDate : List ℕ × Tree → List ℕ × Tree → Type 0
IsSameButDate a b = (a.0 ≡ b.0) × (same_name Q_DATE.now a.0 ≡ false → a.1 ≡ b.1)

-- the same ad, but for what QDate is
abbrev pub AgreeButDate : Attributes → Attributes → Type 0
AgreeButDate ad other = AllZip IsSameButDate ad other

-- the same refusal, or as many ads, which are the same but for what QDate is
abbrev pub HaveOneResult : AdsResult → AdsResult → Type 0
HaveOneResult (Ok ads) (Ok others) = AllZip AgreeButDate ads others
HaveOneResult (Ok ads) (Err g) = ⊥
HaveOneResult (Err f) (Ok others) = ⊥
HaveOneResult (Err f) (Err g) = f ≡ g
