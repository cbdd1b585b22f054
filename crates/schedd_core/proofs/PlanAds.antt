-- What the ad that a plan leaves says of its job.
use Rattle.std.proofs.Common.{◌≡◌, ℕ, pos, negsuc, Bool, true, false, cond, Option, Some, None, is_some, refl, ap, ◌∙◌, arith}
use Rattle.std.specs.Prelude.{nat_lt, ◌==◌, ◌||◌}
use Rattle.std.proofs.lemmas.Bool.{ltb-true}
use Rattle.ad_value.specs.Content.{integer}
use Rattle.ad_value.specs.declared.names.job.TheConstants.{JOB_STATUS}
use Rattle.ad_value.specs.declared.names.pool.TheConstants.{HOLD_REASON, RUN_CLAIM, RUN_NUMBER, LEASE_UNTIL}
use Rattle.ad_rows.specs.Rows.{integer_literal, text_literal}
use Rattle.ad_tree.specs.Tree.{Tree, literal}
use Rattle.ad_tree.specs.Ad.{Attributes, lookup, with_attribute, without, AreDistinct}
use Rattle.ad_tree.proofs.AdLemmas.{AreDistinct-with_attribute}
use Rattle.claim_id.specs.declared.numbers.ClaimId.{ClaimId}
use Rattle.claim_id.specs.Texts.{claim_text, IsClaim}
use Rattle.pool_view.specs.Ads.{core_of}
use Rattle.queue_tx.specs.declared.kind.JobKind.{JobKind}
use Rattle.queue_tx.specs.declared.kind.JobKind.TheVariants.{Idle, Held, Under}
use Rattle.queue_tx.specs.Kinds.{kind_of, kind_by}
use Rattle.schedd_plan.specs.declared.reason.Reason.{Reason}
use Rattle.schedd_plan.specs.JobAttributes.{natural, natural_by, lease_until, reason_text}
use Rattle.schedd_core.specs.JobStates.{NamesRun}
use Rattle.schedd_core.proofs.AdChanges.{set_elsewhere, set_there, removed_elsewhere, removed_there, core_of_set, core_of_without}

-- ---- the ads
abbrev pub with_status : ℕ → Attributes → Attributes
with_status n ad = with_attribute JOB_STATUS.now (integer_literal n) ad

abbrev pub marked_held : Reason → Attributes → Attributes
marked_held reason ad =
    with_attribute HOLD_REASON.now (text_literal (reason_text reason)) (with_status 5 ad)

abbrev pub runless : Attributes → Attributes
runless ad = without LEASE_UNTIL.now (without RUN_NUMBER.now (without RUN_CLAIM.now ad))

abbrev pub lengthened : ℕ → Attributes → Attributes
lengthened until ad = with_attribute LEASE_UNTIL.now (integer_literal until) ad

abbrev pub granted : ClaimId → ℕ → ℕ → Attributes → Attributes
granted claim number until ad =
    lengthened until (with_attribute RUN_NUMBER.now (integer_literal number)
    (with_attribute RUN_CLAIM.now (text_literal (claim_text claim)) (with_status 2 ad)))

-- ---- the core stays
pub core_status : (n : ℕ) (ad : Attributes) → core_of (with_status n ad) ≡ core_of ad
core_status n ad = core_of_set JOB_STATUS.now (integer_literal n) ad refl

pub core_marked : (reason : Reason) (ad : Attributes) → core_of (marked_held reason ad) ≡ core_of ad
core_marked reason ad = core_of_set HOLD_REASON.now (text_literal (reason_text reason)) (with_status 5 ad) refl ∙ core_status 5 ad

pub core_runless : (ad : Attributes) → core_of (runless ad) ≡ core_of ad
core_runless ad =
    core_of_without LEASE_UNTIL.now (without RUN_NUMBER.now (without RUN_CLAIM.now ad)) refl
    ∙ core_of_without RUN_NUMBER.now (without RUN_CLAIM.now ad) refl
    ∙ core_of_without RUN_CLAIM.now ad refl

pub core_lengthened : (until : ℕ) (ad : Attributes) → core_of (lengthened until ad) ≡ core_of ad
core_lengthened until ad = core_of_set LEASE_UNTIL.now (integer_literal until) ad refl

pub core_granted : (claim : ClaimId) (number until : ℕ) (ad : Attributes) → core_of (granted claim number until ad) ≡ core_of ad
core_granted claim number until ad =
    core_of_set LEASE_UNTIL.now (integer_literal until) (with_attribute RUN_NUMBER.now (integer_literal number) (with_attribute RUN_CLAIM.now (text_literal (claim_text claim)) (with_status 2 ad))) refl
    ∙ core_of_set RUN_NUMBER.now (integer_literal number) (with_attribute RUN_CLAIM.now (text_literal (claim_text claim)) (with_status 2 ad)) refl
    ∙ core_of_set RUN_CLAIM.now (text_literal (claim_text claim)) (with_status 2 ad) refl
    ∙ core_status 2 ad

-- ---- look-ups
abbrev pub claim_at : Attributes → Option Tree
claim_at ad = lookup RUN_CLAIM.now ad

abbrev pub status_at : Attributes → Option Tree
status_at ad = lookup JOB_STATUS.now ad

pub status_set : (n : ℕ) (ad : Attributes) → status_at (with_status n ad) ≡ Some (integer_literal n)
status_set n ad = set_there JOB_STATUS.now JOB_STATUS.now (integer_literal n) ad refl

pub status_marked : (reason : Reason) (ad : Attributes) → status_at (marked_held reason ad) ≡ Some (integer_literal 5)
status_marked reason ad = set_elsewhere HOLD_REASON.now JOB_STATUS.now (text_literal (reason_text reason)) (with_status 5 ad) refl ∙ status_set 5 ad

pub status_runless : (ad : Attributes) → status_at (runless ad) ≡ status_at ad
status_runless ad =
    removed_elsewhere LEASE_UNTIL.now JOB_STATUS.now (without RUN_NUMBER.now (without RUN_CLAIM.now ad)) refl
    ∙ removed_elsewhere RUN_NUMBER.now JOB_STATUS.now (without RUN_CLAIM.now ad) refl
    ∙ removed_elsewhere RUN_CLAIM.now JOB_STATUS.now ad refl

pub status_lengthened : (until : ℕ) (ad : Attributes) → status_at (lengthened until ad) ≡ status_at ad
status_lengthened until ad = set_elsewhere LEASE_UNTIL.now JOB_STATUS.now (integer_literal until) ad refl

pub status_granted : (claim : ClaimId) (number until : ℕ) (ad : Attributes) → status_at (granted claim number until ad) ≡ Some (integer_literal 2)
status_granted claim number until ad =
    status_lengthened until (with_attribute RUN_NUMBER.now (integer_literal number) (with_attribute RUN_CLAIM.now (text_literal (claim_text claim)) (with_status 2 ad)))
    ∙ set_elsewhere RUN_NUMBER.now JOB_STATUS.now (integer_literal number) (with_attribute RUN_CLAIM.now (text_literal (claim_text claim)) (with_status 2 ad)) refl
    ∙ set_elsewhere RUN_CLAIM.now JOB_STATUS.now (text_literal (claim_text claim)) (with_status 2 ad) refl
    ∙ status_set 2 ad

pub claim_runless : (ad : Attributes) → AreDistinct ad → claim_at (runless ad) ≡ None
claim_runless ad d =
    removed_elsewhere LEASE_UNTIL.now RUN_CLAIM.now (without RUN_NUMBER.now (without RUN_CLAIM.now ad)) refl
    ∙ removed_elsewhere RUN_NUMBER.now RUN_CLAIM.now (without RUN_CLAIM.now ad) refl
    ∙ removed_there RUN_CLAIM.now RUN_CLAIM.now ad refl d

pub claim_granted : (claim : ClaimId) (number until : ℕ) (ad : Attributes) → claim_at (granted claim number until ad) ≡ Some (text_literal (claim_text claim))
claim_granted claim number until ad =
    set_elsewhere LEASE_UNTIL.now RUN_CLAIM.now (integer_literal until) (with_attribute RUN_NUMBER.now (integer_literal number) (with_attribute RUN_CLAIM.now (text_literal (claim_text claim)) (with_status 2 ad))) refl
    ∙ set_elsewhere RUN_NUMBER.now RUN_CLAIM.now (integer_literal number) (with_attribute RUN_CLAIM.now (text_literal (claim_text claim)) (with_status 2 ad)) refl
    ∙ set_there RUN_CLAIM.now RUN_CLAIM.now (text_literal (claim_text claim)) (with_status 2 ad) refl

-- ---- kinds
abbrev kind_from : Option Tree → Option Tree → Option JobKind
kind_from claim st = cond (is_some claim) (Some Under) (kind_by st)

pub kind_with : (ad : Attributes) (claim st : Option Tree) → claim_at ad ≡ claim → status_at ad ≡ st → kind_of ad ≡ kind_from claim st
kind_with ad claim st c s = ap (λ o. kind_from o (status_at ad)) c ∙ ap (kind_from claim) s

pub idle_kind : (ad : Attributes) → AreDistinct ad → kind_of (runless (with_status 1 ad)) ≡ Some Idle
idle_kind ad d =
    kind_with (runless (with_status 1 ad)) None (Some (integer_literal 1))
    (claim_runless (with_status 1 ad) (AreDistinct-with_attribute JOB_STATUS.now (integer_literal 1) ad d))
    (status_runless (with_status 1 ad) ∙ status_set 1 ad)

pub held_kind : (reason : Reason) (ad : Attributes) → AreDistinct ad → kind_of (runless (marked_held reason ad)) ≡ Some Held
held_kind reason ad d =
    kind_with (runless (marked_held reason ad)) None (Some (integer_literal 5))
    (claim_runless (marked_held reason ad) (AreDistinct-with_attribute HOLD_REASON.now (text_literal (reason_text reason)) (with_status 5 ad) (AreDistinct-with_attribute JOB_STATUS.now (integer_literal 5) ad d)))
    (status_runless (marked_held reason ad) ∙ status_marked reason ad)

-- a job is under a claim exactly where it has one
never_under : (st : Option Tree) → kind_by st ≡ Some Under → ⊥
never_under None h = cc
never_under (Some (literal (integer (pos n)))) h = by (n == 1 || n == 2) (n == 5) h
  where
    by : (b c : Bool) → cond b (Some Idle) (cond c (Some Held) None) ≡ Some Under → ⊥
    by true c h = cc
    by false true h = cc
    by false false h = cc
never_under (Some (literal (integer (negsuc n)))) h = cc
never_under (Some e) h = cc

pub has_claim : (ad : Attributes) → kind_of ad ≡ Some Under → is_some (claim_at ad) ≡ true
has_claim ad h = by (is_some (claim_at ad)) h
  where
    by : (b : Bool) → cond b (Some Under) (kind_by (status_at ad)) ≡ Some Under → b ≡ true
    by true h = refl
    by false h = absurd (never_under (status_at ad) h)

pub under_kind : (ad : Attributes) → is_some (claim_at ad) ≡ true → kind_of ad ≡ Some Under
under_kind ad h = ap (λ b. cond b (Some Under) (kind_by (status_at ad))) h

-- ---- the run that an ad names
pub run_kind : (ad : Attributes) (claim : ClaimId) (number end : ℕ) → NamesRun ad claim number end → kind_of ad ≡ Some Under
run_kind ad claim number end r = under_kind ad (ap is_some r.claim_is)

pub natural_pos : (n : ℕ) → natural (pos n) ≡ Some n
natural_pos n = by (nat_lt n 0) refl
  where
    by : (b : Bool) → nat_lt n 0 ≡ b → cond b None (Some n) ≡ Some n
    by true is = absurd (omega (arith, ltb-true n 0 is))
    by false is = refl

pub run_through : (ad new : Attributes) (claim : ClaimId) (number end : ℕ) → NamesRun ad claim number end
    → claim_at new ≡ claim_at ad → lookup RUN_NUMBER.now new ≡ lookup RUN_NUMBER.now ad → lookup LEASE_UNTIL.now new ≡ lookup LEASE_UNTIL.now ad → NamesRun new claim number end
run_through ad new claim number end r c n e = record {
  valid = r.valid;
  claim_is = c ∙ r.claim_is;
  number_is = ap natural_by n ∙ r.number_is;
  end_is = ap natural_by e ∙ r.end_is;
}

pub run_status : (m : ℕ) (ad : Attributes) (claim : ClaimId) (number end : ℕ) → NamesRun ad claim number end → NamesRun (with_status m ad) claim number end
run_status m ad claim number end r = run_through ad (with_status m ad) claim number end r
    (set_elsewhere JOB_STATUS.now RUN_CLAIM.now (integer_literal m) ad refl) (set_elsewhere JOB_STATUS.now RUN_NUMBER.now (integer_literal m) ad refl) (set_elsewhere JOB_STATUS.now LEASE_UNTIL.now (integer_literal m) ad refl)

pub run_marked : (reason : Reason) (ad : Attributes) (claim : ClaimId) (number end : ℕ) → NamesRun ad claim number end → NamesRun (marked_held reason ad) claim number end
run_marked reason ad claim number end r = run_through (with_status 5 ad) (marked_held reason ad) claim number end (run_status 5 ad claim number end r)
    (set_elsewhere HOLD_REASON.now RUN_CLAIM.now (text_literal (reason_text reason)) (with_status 5 ad) refl) (set_elsewhere HOLD_REASON.now RUN_NUMBER.now (text_literal (reason_text reason)) (with_status 5 ad) refl) (set_elsewhere HOLD_REASON.now LEASE_UNTIL.now (text_literal (reason_text reason)) (with_status 5 ad) refl)

pub run_lengthened : (until : ℕ) (ad : Attributes) (claim : ClaimId) (number end : ℕ) → NamesRun ad claim number end → NamesRun (lengthened until ad) claim number until
run_lengthened until ad claim number end r = record {
  valid = r.valid;
  claim_is = set_elsewhere LEASE_UNTIL.now RUN_CLAIM.now (integer_literal until) ad refl ∙ r.claim_is;
  number_is = ap natural_by (set_elsewhere LEASE_UNTIL.now RUN_NUMBER.now (integer_literal until) ad refl) ∙ r.number_is;
  end_is = ap natural_by (set_there LEASE_UNTIL.now LEASE_UNTIL.now (integer_literal until) ad refl) ∙ natural_pos until;
}

pub lease_lengthened : (until : ℕ) (ad : Attributes) → lease_until (lengthened until ad) ≡ Some until
lease_lengthened until ad = ap natural_by (set_there LEASE_UNTIL.now LEASE_UNTIL.now (integer_literal until) ad refl) ∙ natural_pos until

pub run_granted : (ad : Attributes) (claim : ClaimId) (number until : ℕ) → IsClaim claim → NamesRun (granted claim number until ad) claim number until
run_granted ad claim number until valid = record {
  valid = valid;
  claim_is = claim_granted claim number until ad;
  number_is = ap natural_by (set_elsewhere LEASE_UNTIL.now RUN_NUMBER.now (integer_literal until) (with_attribute RUN_NUMBER.now (integer_literal number) (with_attribute RUN_CLAIM.now (text_literal (claim_text claim)) (with_status 2 ad))) refl
      ∙ set_there RUN_NUMBER.now RUN_NUMBER.now (integer_literal number) (with_attribute RUN_CLAIM.now (text_literal (claim_text claim)) (with_status 2 ad)) refl) ∙ natural_pos number;
  end_is = ap natural_by (set_there LEASE_UNTIL.now LEASE_UNTIL.now (integer_literal until) (with_attribute RUN_NUMBER.now (integer_literal number) (with_attribute RUN_CLAIM.now (text_literal (claim_text claim)) (with_status 2 ad))) refl) ∙ natural_pos until;
}

-- ---- the claim of an ad that only got another JobStatus, HoldReason or LeaseUntil
pub claim_status : (m : ℕ) (ad : Attributes) → claim_at (with_status m ad) ≡ claim_at ad
claim_status m ad = set_elsewhere JOB_STATUS.now RUN_CLAIM.now (integer_literal m) ad refl

pub claim_marked : (reason : Reason) (ad : Attributes) → claim_at (marked_held reason ad) ≡ claim_at ad
claim_marked reason ad = set_elsewhere HOLD_REASON.now RUN_CLAIM.now (text_literal (reason_text reason)) (with_status 5 ad) refl ∙ claim_status 5 ad

pub claim_lengthened : (until : ℕ) (ad : Attributes) → claim_at (lengthened until ad) ≡ claim_at ad
claim_lengthened until ad = set_elsewhere LEASE_UNTIL.now RUN_CLAIM.now (integer_literal until) ad refl
