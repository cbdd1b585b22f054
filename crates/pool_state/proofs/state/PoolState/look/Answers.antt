use Rattle.std.proofs.Common.{ap, ◌∙◌}
use Rattle.std.specs.List.{filter_map}
use Rattle.pool_parts.specs.Listings.{request_at}
use Rattle.pool_state.proofs.state.PoolState.look.Goals as goal

pub returns : goal.returns
returns c =
    let s = c.args.self.now in
    let asked = c.in_ok-idle-2.ensures ∙ ap (filter_map (request_at s.queue)) c.deref.ensures.value in
    (c.in_ok-idle.idle.items, c.in_ok-idle.ensures, λ i. record { length = s.events; idle = asked i; slots = c.in_ok-slots.ensures i })
