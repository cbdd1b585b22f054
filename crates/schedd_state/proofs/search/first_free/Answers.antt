use Rattle.std.proofs.Common.{rules, ◌≡◌, ◌∙◌, Option, None, refl, sym, subst}
use Rattle.std.specs.declared.ops.Bound.TheVariants.{Unbounded}
use Rattle.queue_tx.specs.declared.key.Key.{Key}
use Rattle.queue_tx.specs.declared.kind.JobKind.TheVariants.{Idle}
use Rattle.queue_tx.specs.Jobs.{FirstKey}
use Rattle.queue_tx.proofs.Asking.{fewer, job_is_there}
use Rattle.schedd_state.specs.Searches.{IsFree}
use Rattle.schedd_state.proofs.Free.{reached_next, none_left}
use Rattle.schedd_state.proofs.search.first_free.Goals as goal

pub asking-preserved : goal.asking-preserved
asking-preserved c =
    reached_next c.args.claims.now c.args.ad.now c.args.queue.now c.asking.key.now c.asking.invariant
    (sym c.is_engaged_key.ensures ∙ c.asking-test.true)
    c.asking.key c.in_ok-key-2.key.now refl c.in_ok-key-2.ensures

pub asking-smaller : goal.asking-smaller
asking-smaller c =
    let next = c.in_ok-key-2.ensures in
    fewer c.asking.key.now c.in_ok-key-2.key.now c.args.queue.now next.past
    (job_is_there Idle c.args.queue.now c.in_ok-key-2.key.now next.meant.0)

pub returns-in_err-key-2 : goal.returns-in_err-key-2
returns-in_err-key-2 c =
    let none : c.from_residual-in_err-key-2.result ≡ None = search rules in
    subst (λ (o : Option Key). FirstKey (IsFree c.args.claims.now c.args.ad.now c.args.queue.now) Unbounded o) (sym none)
    (none_left c.args.claims.now c.args.ad.now c.args.queue.now c.asking.key.now c.asking.invariant
    (sym c.is_engaged_key.ensures ∙ c.asking-test.true)
    c.asking.key refl c.in_err-key-2.ensures)
