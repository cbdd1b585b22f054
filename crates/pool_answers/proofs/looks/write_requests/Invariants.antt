-- The jobs of the requests so far are written.
use Rattle.std.proofs.Common.{◌≡◌, ◌++◌, string_bytes, take}
use Rattle.claim_id.specs.Texts.{job_text}
use Rattle.daemon_texts.specs.ListTexts.{behind_tabs}
use Rattle.pool_answers.proofs.looks.write_requests.Given as goal

abbrev pub invariant-loop-request : goal.invariant-loop-request
invariant-loop-request l =
    string_bytes l.out ≡ string_bytes l.fn.out ++ behind_tabs (λ r. job_text r.job) (take l.request-index l.requests)
