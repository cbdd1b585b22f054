use Rattle.std.proofs.Common.{◌≡◌, ◌&&◌, cond, true, sym, ap, ◌∙◌, arith}
use Rattle.std.specs.Prelude.{nat_lt}
use Rattle.std.proofs.lemmas.Bool.{lt-ltb}
use Rattle.matchmaker.specs.Offers.{may_preempt}
use Rattle.matchmaker.specs.declared.offering.Offering.TheVariants.{Withheld, ByPriority}
use Rattle.matchmaker.proofs.offering.offering_by_priority.Goals as goal

pub returns-then-holds : goal.returns-then-holds
returns-then-holds c =
    let less : nat_lt c.args.account.now.effective c.args.holder.now.effective ≡ true = lt-ltb _ _ (omega arith) in
    sym (ap (λ b. cond (b && may_preempt c.args.snapshot.now c.args.request.now c.args.slot.now) ByPriority Withheld) less
    ∙ ap (λ b. cond b ByPriority Withheld) (sym c.in_ok-holds.ensures ∙ c.if-holds.true))

pub returns-else-holds : goal.returns-else-holds
returns-else-holds c =
    let less : nat_lt c.args.account.now.effective c.args.holder.now.effective ≡ true = lt-ltb _ _ (omega arith) in
    sym (ap (λ b. cond (b && may_preempt c.args.snapshot.now c.args.request.now c.args.slot.now) ByPriority Withheld) less
    ∙ ap (λ b. cond b ByPriority Withheld) (sym c.in_ok-holds.ensures ∙ c.if-holds.false))
