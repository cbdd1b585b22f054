-- What becomes of a mail.
use Rattle.std.specs.Prelude.{ℕ, Bool, true, false, not, ◌&&◌, List, Option, Some, None, is_none, slice_get, if◌then◌else◌}
use Rattle.claim_id.specs.declared.numbers.ClaimNo.{ClaimNo}
use Rattle.pool_mail.specs.declared.matching.Match.{Match}
use Rattle.pool_mail.specs.declared.why.Why.{Why}
use Rattle.pool_mail.specs.declared.why.Why.TheVariants as why
use Rattle.schedd_plan.specs.declared.plan.JobPlan.{JobPlan}
use Rattle.schedd_plan.specs.declared.claims.KeptClaim.{KeptClaim}
use Rattle.schedd_plan.specs.declared.claims.Stage.{Stage}
use Rattle.schedd_plan.specs.declared.claims.Stage.TheVariants as stage
use Rattle.schedd_plan.specs.declared.mail.Fate.{Fate}
use Rattle.schedd_plan.specs.declared.mail.Fate.TheVariants.{Goes, Ready, Stays}
use Rattle.schedd_plan.specs.declared.mail.MailRow.{MailRow}
use Rattle.schedd_plan.specs.declared.mail.MailRow.TheVariants as row
use Rattle.schedd_plan.specs.declared.places.JobPlace.{JobPlace}
use Rattle.schedd_plan.specs.declared.places.JobPlace.TheVariants as place
use Rattle.schedd_plan.specs.KeptClaims.{place_of_claim, with_stage, claims_without}

abbrev pub is_idle_place : JobPlace → Bool
is_idle_place place.Nowhere = false
is_idle_place place.Idle = true
is_idle_place place.Held = false
is_idle_place (place.Left st) = false
is_idle_place (place.Under st) = false

-- ---- Matched: of an idle job that no claim engages, and a claim that isn't on the list
abbrev pub matched_row : JobPlace → Bool → Option ℕ → Match → MailRow
matched_row p engaged known found =
    if (is_idle_place p && not engaged) && is_none known
    then row.Ask found.claim found.job found.by_priority
    else row.Nothing

-- ---- Granted
abbrev pub granted_at : ℕ → Stage → MailRow
granted_at at (stage.Asked asked) = row.Ready at
granted_at at stage.Ready = row.Nothing
granted_at at stage.Leaving = row.Nothing

-- what is known of a claim is its place and how far it has come
abbrev pub granted_row : Option (ℕ × Stage) → ClaimNo → MailRow
granted_row None claim = row.Release claim
granted_row (Some known) claim = granted_at known.0 known.1

-- ---- Denied
abbrev pub is_spent_why : Why → Bool
is_spent_why why.NoSuchClaim = false
is_spent_why why.NotMatched = false
is_spent_why (why.RankTooLow old new) = false
is_spent_why (why.Spent number last) = true
is_spent_why (why.Occupied run) = false
is_spent_why (why.LeasePast until reading) = false

abbrev pub denied_claim : ℕ → Stage → MailRow
denied_claim at (stage.Asked asked) = row.Forget at
denied_claim at stage.Ready = row.Nothing
denied_claim at stage.Leaving = row.Nothing

abbrev pub denied_run : ℕ → Why → MailRow
denied_run at w = if is_spent_why w then row.Nothing else row.Leave at

abbrev pub denied_row : Option (ℕ × Stage) → Bool → Why → MailRow
denied_row None of_run w = row.Nothing
denied_row (Some known) of_run w =
    if of_run then denied_run known.0 w else denied_claim known.0 known.1

-- ---- orders
abbrev pub order_row : Option JobPlan → MailRow
order_row None = row.Nothing
order_row (Some plan) = row.Order plan

-- ---- the claim of a run that is over
abbrev pub fate_of_gone : Bool → Fate
fate_of_gone kept = if kept then Stays else Goes

abbrev pub is_leaving : Stage → Bool
is_leaving (stage.Asked at) = false
is_leaving stage.Ready = false
is_leaving stage.Leaving = true

abbrev pub is_leaving_in : Option KeptClaim → Bool
is_leaving_in None = false
is_leaving_in (Some c) = is_leaving c.stage

abbrev pub fate_at : Fate → ℕ → List KeptClaim → List KeptClaim
fate_at Goes at claims = claims_without at claims
fate_at Ready at claims = with_stage at stage.Ready claims
fate_at Stays at claims =
    if not (is_leaving_in (slice_get claims at)) then with_stage at stage.Ready claims else claims

abbrev pub fate_in : Option ℕ → Fate → List KeptClaim → List KeptClaim
fate_in None fate claims = claims
fate_in (Some at) fate claims = fate_at fate at claims

unfoldable pub after_fate : Fate → ClaimNo → List KeptClaim → List KeptClaim
after_fate fate claim claims = fate_in (place_of_claim claim claims) fate claims
