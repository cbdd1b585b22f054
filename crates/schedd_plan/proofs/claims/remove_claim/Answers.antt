use Rattle.std.proofs.Common.{◌≡◌, ◌<◌, ℕ, List, length, rules, arith}
use Rattle.std.specs.Prelude.{remove}
use Rattle.std.proofs.lemmas.Bool.Decides.{nat_tests}
use Rattle.schedd_plan.specs.declared.claims.KeptClaim.{KeptClaim}
use Rattle.schedd_plan.specs.KeptClaims.{claims_without}
use Rattle.schedd_plan.proofs.claims.remove_claim.Goals as goal

gone_at : (claims new : List KeptClaim) (place : ℕ) → place < length claims → new ≡ remove claims place → new ≡ claims_without place claims
gone_at claims new place there gone = grind (arith, nat_tests)

pub returns-then-place-len : goal.returns-then-place-len
returns-then-place-len c =
    let there : c.args.place < length c.args.claims.now.items = search rules in
    gone_at c.args.claims.now.items c.remove-gone.new.self.items c.args.place there c.remove-gone.ensures.items
