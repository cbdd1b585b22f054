-- The claims that a schedd has asked for, and each small change of their list.
use Rattle.std.specs.Prelude.{ℕ, Bool, true, false, ◌&&◌, List, length, position, slice_get, slice_set, remove, nat_lt, Option, Some, None, if◌then◌else◌}
use Rattle.std.specs.List.{list_any}
use Rattle.claim_id.specs.declared.numbers.ClaimNo.{ClaimNo}
use Rattle.claim_id.specs.declared.numbers.JobId.{JobId}
use Rattle.pool_view.specs.Numbers.{same_job, same_claim}
use Rattle.schedd_plan.specs.declared.claims.KeptClaim.{KeptClaim}
use Rattle.schedd_plan.specs.declared.claims.Stage.{Stage}
use Rattle.schedd_plan.specs.declared.claims.Stage.TheVariants.{Asked, Ready, Leaving}

abbrev pub is_active : Stage → Bool
is_active (Asked at) = true
is_active Ready = true
is_active Leaving = false

abbrev pub is_claim : ClaimNo → KeptClaim → Bool
is_claim number c = same_claim c.claim.no number

-- a claim that is asked for or ready names the job
abbrev pub names_job : JobId → KeptClaim → Bool
names_job job c = is_active c.stage && same_job c.job job

abbrev pub place_of_claim : ClaimNo → List KeptClaim → Option ℕ
place_of_claim number claims = position (is_claim number) claims

-- the job is engaged
abbrev pub engages : JobId → List KeptClaim → Bool
engages job claims = list_any (names_job job) claims

abbrev pub staged : Option KeptClaim → ℕ → Stage → List KeptClaim → List KeptClaim
staged None place stage claims = claims
staged (Some c) place stage claims = slice_set claims place (record c { stage = stage })

-- the claim of a place has come so far
abbrev pub with_stage : ℕ → Stage → List KeptClaim → List KeptClaim
with_stage place stage claims = staged (slice_get claims place) place stage claims

abbrev pub named : Option KeptClaim → ℕ → JobId → List KeptClaim → List KeptClaim
named None place job claims = claims
named (Some c) place job claims = slice_set claims place (record c { job = job })

-- the claim of a place names the job
abbrev pub with_job : ℕ → JobId → List KeptClaim → List KeptClaim
with_job place job claims = named (slice_get claims place) place job claims

-- the claim of a place goes
abbrev pub claims_without : ℕ → List KeptClaim → List KeptClaim
claims_without place claims =
    if nat_lt place (length claims) then remove claims place else claims
