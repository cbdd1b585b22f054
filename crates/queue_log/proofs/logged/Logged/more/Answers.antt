use Rattle.std.proofs.Common.{◌≡◌, ◌≤◌, ◌<◌, ◌+◌, ℕ, length, Err, refl, ap, sym, subst, arith}
use Rattle.pool_outer.specs.declared.limit.Which.TheVariants as which
use Rattle.queue_tx.specs.Queues.{QueueOf}
use Rattle.queue_log.specs.declared.error.LogError.TheVariants.{Limit, Memory}
use Rattle.receipt_roll.specs.declared.roll.TheConstants.{MAX_ITEMS}
use Rattle.queue_log.proofs.Beyond.{last_applies}
use Rattle.queue_log.proofs.Refusals.{by_roll}
use Rattle.queue_log.proofs.logged.Logged.more.Goals as goal

pub returns-in-Err-clause-refused : goal.returns-in-Err-clause-refused
returns-in-Err-clause-refused c =
    let same = ap (λ v. length v.list) c.self.view_is in
    subst (λ e. (e ≡ Memory → ⊥) → (e ≡ Limit which.Roll) × (MAX_ITEMS ≤ length c.args.self.now.list)) (sym c.from.ensures)
    (by_roll (λ e. (e ≡ Memory → ⊥) → (e ≡ Limit which.Roll) × (MAX_ITEMS ≤ length c.args.self.now.list)) c.in-Err.error
    (λ full _. (refl, (let far = c.in-Err.ensures.full.0 (ap Err full) in omega arith)))
    (λ other. absurd (other refl)))

not_full : (count same : ℕ) → count ≡ same → (MAX_ITEMS < count + 1 → ⊥) → same < MAX_ITEMS
not_full count same is room = omega arith

pub returns-clause-next : goal.returns-clause-next
returns-clause-next c =
    let now = c.args.self.now in
    let builds : QueueOf now.list now.queue = subst (λ v. QueueOf v.list v.queue) c.self.view_is c.self.invariant.builds in
    record {
      logged = c.requires;
      applies = last_applies now.list c.args.tx now.queue c.args.queue builds c.requires.builds;
      copied = c.in_ok-copy.ensures;
      room = c.in_default.ensures.room;
      within = not_full (length c.self.inside.roll.list) (length now.list) (ap (λ v. length v.list) c.self.view_is) (λ far. (let clash = c.in_default.ensures.full.1 far in cc clash));
    }
