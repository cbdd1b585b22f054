-- A claim that is leaving.
use Rattle.std.specs.Prelude.{ℕ, List, Option, Some, None}
use Rattle.claim_id.specs.declared.numbers.ClaimNo.{ClaimNo}
use Rattle.schedd_plan.specs.declared.claims.KeptClaim.{KeptClaim}
use Rattle.schedd_plan.specs.declared.claims.Stage.TheVariants.{Leaving}
use Rattle.schedd_plan.specs.KeptClaims.{place_of_claim, with_stage}

abbrev pub left_at : Option ℕ → List KeptClaim → List KeptClaim
left_at None claims = claims
left_at (Some place) claims = with_stage place Leaving claims

-- a claim is leaving
abbrev pub left_claims : ClaimNo → List KeptClaim → List KeptClaim
left_claims claim claims = left_at (place_of_claim claim claims) claims
