-- What comes of a claim that is asked for.
use Rattle.std.proofs.Common.{◌≡◌, ℕ, Bool, [], ◌∷◌, ◌++◌, Option, Some, ap, ◌∙◌}
use Rattle.ad_tree.specs.Ad.{Attributes}
use Rattle.claim_id.specs.declared.numbers.ClaimId.{ClaimId}
use Rattle.claim_id.specs.declared.numbers.JobId.{JobId}
use Rattle.pool_mail.specs.Ads.{request_ad}
use Rattle.pool_mail.specs.declared.mail.Mail.TheVariants as mail
use Rattle.schedd_state.specs.Schedds.{ScheddValue}
use Rattle.schedd_core.specs.Prepared.{sends}
use Rattle.schedd_core.specs.Rows.{asked_in, claim_asked}

pub asked_is : (v : ScheddValue) (claim : ClaimId) (job : JobId) (by_priority : Bool) (reading : ℕ) (ad : Attributes) (o : Option Attributes) (request own : Attributes)
    → request ≡ request_ad ad → own ≡ ad → Some ad ≡ o
    → sends (mail.Ask claim job request by_priority) (record v { claims = v.claims ++ claim_asked claim job own reading ∷ [] })
    ≡ asked_in o v claim job by_priority reading
asked_is v claim job by_priority reading ad o request own requested owned there =
    let w : Attributes → ScheddValue = λ (x : Attributes). record v { claims = v.claims ++ claim_asked claim job x reading ∷ [] } in
    ap (λ (x : Attributes). sends (mail.Ask claim job x by_priority) (w own)) requested
    ∙ ap (λ (x : Attributes). sends (mail.Ask claim job (request_ad ad) by_priority) (w x)) owned
    ∙ ap (λ (x : Option Attributes). asked_in x v claim job by_priority reading) there
