use Rattle.std.proofs.Common.{ℕ, Option, ap, ◌∙◌}
use Rattle.ad_tree.specs.Ad.{Attributes}
use Rattle.claim_id.specs.declared.numbers.JobId.{JobId}
use Rattle.schedd_plan.specs.declared.mail.Fate.TheVariants as fate
use Rattle.schedd_plan.specs.declared.mail.MailRow.TheVariants as row
use Rattle.schedd_plan.specs.declared.plan.JobPlan.{JobPlan}
use Rattle.schedd_core.specs.Rows.{ended_at, ended_with}
use Rattle.schedd_core.proofs.mails.ended_row.Goals as goal

pub returns-in_default : goal.returns-in_default
returns-in_default c = ap (λ (o : Option (ℕ × JobId)). ended_at o c.args.queue.now c.args.run c.args.how c.args.reading) c.in_default.ensures

pub returns-in_default-ad_of : goal.returns-in_default-ad_of
returns-in_default-ad_of c =
    ap (λ (o : Option Attributes). ended_with o (c.in-Some.place, c.in-Some.job) c.args.run c.args.how c.args.reading) c.in_default-ad_of.ensures
    ∙ ap (λ (o : Option (ℕ × JobId)). ended_at o c.args.queue.now c.args.run c.args.how c.args.reading) c.in-Some.ensures

pub returns : goal.returns
returns c =
    ap (λ (plan : JobPlan). row.Free c.in-Some.place plan c.args.run.claim fate.Ready) c.in_ok-plan.ensures
    ∙ ap (λ (o : Option Attributes). ended_with o (c.in-Some.place, c.in-Some.job) c.args.run c.args.how c.args.reading) c.in-Some-ad_of.ensures
    ∙ ap (λ (o : Option (ℕ × JobId)). ended_at o c.args.queue.now c.args.run c.args.how c.args.reading) c.in-Some.ensures
