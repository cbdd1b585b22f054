use Rattle.submit_file.specs.OneJob.{common}
use Rattle.submit_file.proofs.Takings.{job_made}
use Rattle.submit_file.proofs.plan.Plan.job_ad.Goals as goal

pub returns : goal.returns
returns c = job_made (common c.args.self.now.statement.heading) c.args.self.now.statement.file.now c.args.table.now c.args.proc c.args.self.now.statement.line _ _ c.into_ad.result c.new-draft.ensures c.in_ok-fill.ensures c.into_ad.ensures
