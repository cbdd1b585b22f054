use Rattle.std.proofs.Common.{◌∙◌, ap}
use Rattle.ad_value.specs.declared.names.pool.TheConstants.{RUN_CLAIM, RUN_NUMBER, LEASE_UNTIL}
use Rattle.ad_tree.specs.Ad.{without}
use Rattle.pool_mail.proofs.RunNames.{without_run_names}
use Rattle.pool_mail.proofs.ad.request_ad.Goals as goal

pub returns : goal.returns
returns c =
    c.remove-3.ensures.rest
    ∙ ap (without LEASE_UNTIL.now) (c.remove-2.ensures.rest ∙ ap (without RUN_NUMBER.now) (c.remove.ensures.rest ∙ ap (without RUN_CLAIM.now) c.in_ok-copied.ensures))
    ∙ without_run_names c.args.ad.now c.len-attributes.ensures.distinct
