use Rattle.std.proofs.Common.{rules, ◌≡◌, Option, None, refl, sym, ◌∙◌, subst, true≢false}
use Rattle.std.specs.Option.{option_copied}
use Rattle.queue_tx.specs.declared.key.Key.{Key}
use Rattle.queue_tx.specs.Jobs.{FirstKey}
use Rattle.queue_tx.specs.Requests.{IsIdleAsking}
use Rattle.queue_tx.proofs.Asking.{fewer, asked_is_there, reached_first, reached_next, none_asks, none_left}
use Rattle.queue_tx.proofs.AskedJobs.{asking_is_asked}
use Rattle.queue_tx.proofs.queue.Queue.first_asking.Goals as goal

pub idle-preserved : goal.idle-preserved
idle-preserved c =
    reached_next c.args.ad.now c.args.self.now c.request_digest-digest.result c.args.start
    (asking_is_asked c.args.ad.now c.args.self.now c.request_digest-digest.result c.request_digest-digest.ensures.distinct c.in_ok-key.ensures.names c.request_digest-digest.ensures.digest)
    c.idle.key.now c.idle.invariant
    (λ same. true≢false (sym (c.asks_same.ensures.1 same) ∙ c.idle-test.true))
    c.idle.key c.in_ok-key-2.key.now refl c.in_ok-key-2.ensures.first

pub idle-smaller : goal.idle-smaller
idle-smaller c =
    let next = c.in_ok-key-2.ensures.first in
    fewer c.idle.key.now c.in_ok-key-2.key.now c.args.self.now next.past (asked_is_there c.request_digest-digest.result c.args.self.now c.in_ok-key-2.key.now next.meant)

pub returns-in_err-key-2 : goal.returns-in_err-key-2
returns-in_err-key-2 c =
    let none : option_copied c.from_residual-in_err-key-2.result ≡ None = search rules in
    subst (λ (o : Option Key). FirstKey (IsIdleAsking c.args.ad.now c.args.self.now) c.args.start o) (sym none)
    (none_left c.args.ad.now c.args.self.now c.request_digest-digest.result c.args.start
    (asking_is_asked c.args.ad.now c.args.self.now c.request_digest-digest.result c.request_digest-digest.ensures.distinct c.in_ok-key.ensures.names c.request_digest-digest.ensures.digest)
    c.idle.key.now c.idle.invariant
    (λ same. true≢false (sym (c.asks_same.ensures.1 same) ∙ c.idle-test.true))
    c.idle.key refl c.in_err-key-2.ensures.first)

pub returns-in_err-key : goal.returns-in_err-key
returns-in_err-key c =
    let none : option_copied c.from_residual.result ≡ None = search rules in
    subst (λ (o : Option Key). FirstKey (IsIdleAsking c.args.ad.now c.args.self.now) c.args.start o) (sym none)
    (none_asks c.args.ad.now c.args.self.now c.request_digest-digest.result c.args.start
    (asking_is_asked c.args.ad.now c.args.self.now c.request_digest-digest.result c.request_digest-digest.ensures.distinct c.in_err-key.ensures.names c.request_digest-digest.ensures.digest)
    c.in_err-key.ensures.first)

pub idle-init : goal.idle-init
idle-init c =
    reached_first c.args.ad.now c.args.self.now c.request_digest-digest.result c.args.start
    (asking_is_asked c.args.ad.now c.args.self.now c.request_digest-digest.result c.request_digest-digest.ensures.distinct c.in_ok-key.ensures.names c.request_digest-digest.ensures.digest)
    c.in_ok-key.key.now c.in_ok-key.ensures.first
