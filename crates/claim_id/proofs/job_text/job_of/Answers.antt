-- The pieces of a job's text, one after the other.
use Rattle.std.proofs.Common.{◌≡◌, decimal, ◌∙◌, arith}
use Rattle.claim_id.specs.declared.numbers.JobId.{JobId}
use Rattle.claim_id.specs.Texts.{job_text, IsJob}
use Rattle.claim_id.proofs.Pieces.{IfSome-from_each, same_value, job_text-pieces, job_text-from_pieces}
use Rattle.claim_id.proofs.job_text.job_of.Goals as goal

pub returns-clause-found : goal.returns-clause-found
returns-clause-found c = IfSome-from_each (λ (job : JobId). IsJob job × c.args.text.now ≡ job_text job) c.job_id.result (λ job is.
    let facts = (c.job_id.ensures job).0 is in
    (facts.0, job_text-from_pieces job _ _ _ _ c.in_ok-cluster.ensures.found ((c.number_in.ensures _).0 c.in_ok-number_in.was).1 facts.1 facts.2))

pub returns-clause-only : goal.returns-clause-only
returns-clause-only c = λ job is text.
    let first = c.number_before.ensures.only job.cluster (decimal job.proc) (let h = is.cluster_to in omega arith) (text ∙ job_text-pieces job) in
    let parts = rw c.in_ok-cluster.was at first in
    let proc = (c.number_in.ensures job.proc).1 ((let h = is.proc_to in omega arith), parts.1) in
    (c.job_id.ensures job).1 (is, parts.0, same_value _ _ c.in_ok-number_in.was proc)
