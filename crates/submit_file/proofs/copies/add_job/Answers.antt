use Rattle.std.proofs.Common.{◌∙◌, length, ap}
use Rattle.std.proofs.lemmas.List.{length_push}
use Rattle.std.specs.Prelude.{decimal}
use Rattle.submit_file.specs.OneJob.{common}
use Rattle.submit_file.specs.JobMacros.{item_of}
use Rattle.submit_file.proofs.MadeJobs.{job_ok, job_err}
use Rattle.submit_file.proofs.JobMacros.{job_set, are_job_macros}
use Rattle.submit_file.proofs.copies.add_job.Goals as goal

pub job_ad-requires-clause-plan : goal.job_ad-requires-clause-plan
job_ad-requires-clause-plan c =
    let m = decimal c.len-proc.result in
    let i = item_of c.args.item in
    let file = c.args.plan.now.statement.file.now.table in
    c.requires.plan c.set_job.new.table
    (are_job_macros m i file c.set_job.new.table (job_set m i file c.args.table.now c.set_job.new.table c.requires.table c.in_ok-set_job.ensures))

pub returns-in_ok-push-in-Ok-clause-made : goal.returns-in_ok-push-in-Ok-clause-made
returns-in_ok-push-in-Ok-clause-made c =
    let i = item_of c.args.item in
    let s = c.args.plan.now.statement in
    let file = s.file.now.table in
    job_ok (common s.heading) s.file.now s.line i c.args.ads.now c.push.new.self c.in-Ok.ad c.set_job.new.table c.len-proc.result c.len-proc.ensures
    (job_set (decimal c.len-proc.result) i file c.args.table.now c.set_job.new.table c.requires.table c.in_ok-set_job.ensures) c.in-Ok.ensures c.in_ok-push-in-Ok.ensures.ok

pub returns-in_ok-push-in-Ok-clause-table : goal.returns-in_ok-push-in-Ok-clause-table
returns-in_ok-push-in-Ok-clause-table c =
    let m = decimal c.len-proc.result in
    let i = item_of c.args.item in
    let file = c.args.plan.now.statement.file.now.table in
    are_job_macros m i file c.set_job.new.table (job_set m i file c.args.table.now c.set_job.new.table c.requires.table c.in_ok-set_job.ensures)

pub returns-in-Err-clause-made : goal.returns-in-Err-clause-made
returns-in-Err-clause-made c =
    let i = item_of c.args.item in
    let s = c.args.plan.now.statement in
    let file = s.file.now.table in
    job_err (common s.heading) s.file.now s.line i c.args.ads.now c.args.ads.now c.in-Err.error c.set_job.new.table c.len-proc.result c.len-proc.ensures
    (job_set (decimal c.len-proc.result) i file c.args.table.now c.set_job.new.table c.requires.table c.in_ok-set_job.ensures) c.in-Err.ensures

pub returns-in_ok-push-in-Ok-clause-count : goal.returns-in_ok-push-in-Ok-clause-count
returns-in_ok-push-in-Ok-clause-count c = ap length c.in_ok-push-in-Ok.ensures.ok ∙ length_push c.args.ads.now c.in-Ok.ad
