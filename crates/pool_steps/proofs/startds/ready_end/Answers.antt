use Rattle.std.proofs.Common.{◌≡◌, List, Option, Result, IfOk, ap, sym, subst, ◌∙◌}
use Rattle.std.specs.Option.{option_copied}
use Rattle.claim_id.specs.declared.numbers.JobId.{JobId}
use Rattle.pool_mail.specs.declared.mail.Mail.{Mail}
use Rattle.pool_rules.specs.Startds.{ends_after, job_of_run, report_of, reports_in}
use Rattle.pool_view.specs.declared.run.EndReport.{EndReport}
use Rattle.startd_core.specs.Startds.{after_end}
use Rattle.startd_core.specs.declared.answer.StartdStep.{StartdStep}
use Rattle.pool_steps.proofs.Readying.{IsPrepared, ready_by}
use Rattle.pool_steps.specs.declared.startds.StartdDeed.{StartdDeed}
use Rattle.pool_tables.specs.declared.refusal.StepError.{StepError}
use Rattle.pool_steps.proofs.startds.ready_end.Goals as goal

pub returns : goal.returns
returns c =
    let s = c.args.state.now in
    let ending = c.args.ending.now in
    let v = c.in-Some.startd.now in
    let p = c.in_ok-prepared in
    let r : Result StartdDeed StepError = c.new.result in
    let e = c.new.ensures in
    let there = sym c.get.ensures ∙ ap option_copied c.in-Some.is in
    let is : IsPrepared (after_end v ending c.args.reading) v p.prepared = record { startd = p.ensures.startd; step = p.ensures.step; sound = p.ensures.sound } in
    let job : c.job_of_run-job.result ≡ job_of_run ending.run v.slots = c.job_of_run-job.ensures ∙ ap (job_of_run ending.run) c.slots.ensures in
    let mails : c.as_slice.result.now ≡ (after_end v ending c.args.reading).step.mails = c.as_slice.ensures ∙ ap (λ (t : StartdStep). t.mails) (c.step.ensures ∙ p.ensures.step) in
    let report : c.report_of-report.result ≡ report_of (job_of_run ending.run v.slots) (after_end v ending c.args.reading).step.mails =
    c.report_of-report.ensures ∙ ap (λ (j : Option JobId). report_of j c.as_slice.result.now) job ∙ ap (λ (ms : List Mail). report_of (job_of_run ending.run v.slots) ms) mails in
    let reports = subst (λ (xs : List EndReport). IfOk r (λ d. d.reports ≡ xs)) (ap reports_in report) e.reports in
    let it = ready_by c.args.machine s.counts.bytes s.machines (λ v. after_end v ending c.args.reading) (λ v. ends_after ending.run v (after_end v ending c.args.reading)) v p.prepared r there is e.prepared e.kept reports e.bytes e.large in
    record {
      ready = it.ready;
      within = it.within;
      sound = it.sound;
      kept = it.kept;
      places = e.places;
      bytes = it.bytes;
      limit = e.limit;
      large = it.large;
      refused = e.refused;
    }
