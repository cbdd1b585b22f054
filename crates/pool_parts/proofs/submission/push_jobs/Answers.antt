use Rattle.std.proofs.Common.{◌≡◌, ◌+◌, ◌++◌, drop, ap, sym, ◌∙◌, subst}
use Rattle.std.proofs.lemmas.List.{append-nil, drop_all}
use Rattle.ad_tree.specs.Ad.{Attributes}
use Rattle.queue_tx.specs.declared.key.Key.TheVariants.{Proc}
use Rattle.pool_parts.specs.Submissions.{ad_ops, job_numbered, jobs_ops}
use Rattle.pool_parts.proofs.Pushing.{job_more}
use Rattle.pool_parts.proofs.submission.push_jobs.Goals as goal

pub loop-ad-preserved : goal.loop-ad-preserved
loop-ad-preserved c =
    let pushed = c.in_ok-push_ad.ensures ∙ ap (λ (a : Attributes). c.loop-ad.tx ++ ad_ops (Proc (job_numbered c.args.cluster c.loop-ad.proc)) a) c.ad-item.is in
    let more = job_more c.args.cluster c.loop-ad.proc c.args.jobs.now c.loop-ad.ad-index c.ad-item.result _ c.loop-ad.tx c.push_ad.new.tx c.loop-ad-test.true c.loop-ad.invariant pushed in
    subst (λ p. c.push_ad.new.tx ++ jobs_ops c.args.cluster p (drop (c.loop-ad.ad-index + 1) c.args.jobs.now) ≡ c.args.tx.now ++ jobs_ops c.args.cluster 0 c.args.jobs.now) (sym c.in_ok-proc.ensures) more

pub returns : goal.returns
returns c =
    sym (append-nil c.loop-ad.tx)
    ∙ ap (λ l. c.loop-ad.tx ++ jobs_ops c.args.cluster c.loop-ad.proc l) (sym (drop_all c.loop-ad.ad-index c.args.jobs.now c.loop-ad-test.false))
    ∙ c.loop-ad.invariant
