use Rattle.std.proofs.Common.{◌++◌, ◌∙◌, ap, string_bytes}
use lib.Utf8.{encode}
use Rattle.claim_id.specs.Texts.{job_text}
use Rattle.daemon_texts.proofs.TabLemmas.{one_more_behind_tab}
use Rattle.pool_answers.proofs.looks.write_requests.Goals as goal

pub loop-request-preserved : goal.loop-request-preserved
unfolding encode
loop-request-preserved c =
    let more = c.in_ok-write_job.ensures ∙ ap (λ r. string_bytes c.push.new.self ++ job_text r.job) c.request-item.is in
    one_more_behind_tab (λ r. job_text r.job) _ _ _ _ _ _ _ c.loop-request.invariant c.in_ok-push.ensures.bytes more c.loop-request-test.true
