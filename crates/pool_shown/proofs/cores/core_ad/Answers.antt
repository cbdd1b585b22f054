use Rattle.std.proofs.Common.{◌∙◌, ap}
use Rattle.ad_value.specs.declared.names.job.TheConstants.{JOB_STATUS}
use Rattle.ad_value.specs.declared.names.pool.TheConstants.{HOLD_REASON, EXIT_BY_SIGNAL, EXIT_CODE, EXIT_SIGNAL, RUN_CLAIM, RUN_NUMBER, LEASE_UNTIL}
use Rattle.ad_tree.specs.Ad.{without}
use Rattle.pool_shown.proofs.CoreNames.{without_pool_names}
use Rattle.pool_shown.proofs.cores.core_ad.Goals as goal

pub returns : goal.returns
returns c =
    c.remove-8.ensures.rest
    ∙ ap (without LEASE_UNTIL.now) (c.remove-7.ensures.rest
    ∙ ap (without RUN_NUMBER.now) (c.remove-6.ensures.rest
    ∙ ap (without RUN_CLAIM.now) (c.remove-5.ensures.rest
    ∙ ap (without EXIT_SIGNAL.now) (c.remove-4.ensures.rest
    ∙ ap (without EXIT_CODE.now) (c.remove-3.ensures.rest
    ∙ ap (without EXIT_BY_SIGNAL.now) (c.remove-2.ensures.rest
    ∙ ap (without HOLD_REASON.now) (c.remove.ensures.rest
    ∙ ap (without JOB_STATUS.now) c.in_ok-core.ensures)))))))
    ∙ without_pool_names c.args.ad.now c.len-attributes.ensures.distinct
