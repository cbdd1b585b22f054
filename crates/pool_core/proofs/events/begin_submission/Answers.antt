use Rattle.std.proofs.Common.{Option, Some, None, ap, is_some, length, refl, ◌∙◌, ◌≡◌}
use Rattle.std.proofs.lemmas.Result.{IfOk-weaker}
use Rattle.std.specs.Option.{option_copied}
use denote.Bor.{Bor}
use Rattle.ad_tree.specs.Ad.{Attributes}
use Rattle.pool_parts.specs.declared.pending.Unfinished.TheVariants.{Submission}
use Rattle.pool_parts.specs.Submissions.{submission_ops}
use Rattle.pool_rules.specs.Answers.{pending_tx}
use Rattle.pool_rules.specs.Happens.{submission_of}
use Rattle.queue_tx.specs.declared.key.Key.TheVariants.{Header}
use Rattle.queue_tx.specs.Queues.{ad_at}
use Rattle.pool_core.proofs.events.begin_submission.Goals as goal

-- the header is there, whether it is lent or copied
there_too : (o : Option (Bor Attributes)) → is_some o ≡ is_some (option_copied o)
there_too None = refl
there_too (Some ad) = refl

pub returns : goal.returns
returns c =
    let s = c.args.state.now in
    let cluster = c.args.cluster in
    let jobs = c.args.jobs.now in
    let header : c.is_some-header.result ≡ is_some (ad_at Header s.queue) = c.is_some-header.ensures ∙ there_too c.get.result ∙ ap is_some c.get.ensures.ad in
    let ops : c.in_ok-tx.tx ≡ submission_ops (is_some (ad_at Header s.queue)) cluster jobs = c.in_ok-tx.ensures ∙ (λ i. submission_ops (header i) cluster (c.as_slice.ensures i)) in
    let count : c.in-Ok.count ≡ length jobs = c.in-Ok.ensures.1 ∙ c.len.ensures in
    IfOk-weaker c.new.result (λ b. b ≡ pending_tx s.next_tx c.in_ok-tx.tx (Submission cluster c.in-Ok.count)) (λ b. b ≡ submission_of cluster jobs s)
    (λ b is. is ∙ (λ i. pending_tx s.next_tx (ops i) (Submission cluster (count i)))) c.new.ensures
