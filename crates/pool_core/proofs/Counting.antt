-- What is counted of an event.
use Rattle.std.proofs.Common.{◌≡◌, ℕ, ◌+◌, Option, ap, ◌∙◌}
use Rattle.pool_parts.specs.declared.event.Event.{Event}
use Rattle.pool_parts.specs.Events.{reading_of}
use Rattle.pool_state.specs.declared.state.PoolState.{PoolState}
use Rattle.pool_rules.specs.Deeds.{at_rest}
use Rattle.pool_rules.specs.Happens.{counts_event, latest_after}

pub event_counted : (event : Event) (old new : PoolState) (events latest : ℕ) (reading : Option ℕ) → events ≡ old.events + 1 → latest ≡ latest_after reading old.latest → reading ≡ reading_of event
    → at_rest (record new { events = events; latest = latest }) ≡ counts_event event (at_rest old) (at_rest new)
event_counted event old new events latest reading more later is =
    ap (λ n. at_rest (record new { events = n; latest = latest })) more
    ∙ ap (λ n. at_rest (record new { events = old.events + 1; latest = n })) (later ∙ ap (λ (o : Option ℕ). latest_after o old.latest) is)
