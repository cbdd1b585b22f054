use Rattle.std.proofs.Common.{inl, inr, refl, sym, true≢false, ◌∙◌}
use Rattle.pool_core.proofs.events.push_live.Goals as goal

pub returns-in_ok-push : goal.returns-in_ok-push
returns-in_ok-push c = inl (c.is_live.ensures.0 c.if-is_live.true, c.in_ok-push.ensures.ok)

pub returns-else-is_live : goal.returns-else-is_live
returns-else-is_live c =
    inr (λ live. true≢false (sym (c.is_live.ensures.1 live) ∙ c.if-is_live.false), refl)
