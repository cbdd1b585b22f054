use Rattle.std.proofs.Common.{◌++◌, ◌∷◌, [], Bool, if◌then◌else◌, ap, sym, ◌∙◌}
use Rattle.pool_state.proofs.state.PoolState.push_free.Goals as goal

pub returns-in_ok-push : goal.returns-in_ok-push
returns-in_ok-push c =
    let free = c.args.free.now.items in
    c.in_ok-push.ensures.items ∙ ap (λ (b : Bool). if b then free else free ++ c.args.job ∷ []) (sym c.if-not-is_engaged.true ∙ c.is_engaged.ensures)

pub returns-else-not-is_engaged : goal.returns-else-not-is_engaged
returns-else-not-is_engaged c =
    let free = c.args.free.now.items in
    ap (λ (b : Bool). if b then free else free ++ c.args.job ∷ []) (sym c.if-not-is_engaged.false ∙ c.is_engaged.ensures)
