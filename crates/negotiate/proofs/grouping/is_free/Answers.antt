use Rattle.std.proofs.Common.{◌≡◌, ◌&&◌, Bool, sym, ap, ◌∙◌, subst}
use Rattle.std.specs.Prelude.{IfOk}
use Rattle.matchmaker.specs.Offers.{is_offered}
use Rattle.negotiate.proofs.grouping.is_free.Goals as goal

pub returns-else-is_unmatched : goal.returns-else-is_unmatched
returns-else-is_unmatched c =
    sym (ap (λ (u : Bool). u && is_offered c.args.snapshot.now c.args.account.now c.args.request.now c.args.slot.now) (sym c.is_unmatched.ensures ∙ c.if-is_unmatched.false))

pub returns-then-is_unmatched : goal.returns-then-is_unmatched
returns-then-is_unmatched c =
    subst (λ (u : Bool). IfOk c.is_offered.result (λ b. b ≡ (u && is_offered c.args.snapshot.now c.args.account.now c.args.request.now c.args.slot.now)))
    (sym c.if-is_unmatched.true ∙ c.is_unmatched.ensures) c.is_offered.ensures
