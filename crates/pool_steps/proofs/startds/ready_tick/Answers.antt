use Rattle.std.proofs.Common.{[], ap, sym, ◌∙◌}
use Rattle.std.specs.Option.{option_copied}
use Rattle.startd_core.specs.Startds.{after_tick}
use Rattle.pool_steps.proofs.Readying.{IsPrepared, ready_by}
use Rattle.pool_steps.proofs.startds.ready_tick.Goals as goal

pub returns : goal.returns
returns c =
    let s = c.args.state.now in
    let v = c.in-Some.startd.now in
    let p = c.in_ok-prepared in
    let e = c.new.ensures in
    let there = sym c.get.ensures ∙ ap option_copied c.in-Some.is in
    let is : IsPrepared (after_tick v c.args.reading) v p.prepared = record { startd = p.ensures.startd; step = p.ensures.step; sound = p.ensures.sound } in
    let it = ready_by c.args.machine s.counts.bytes s.machines (λ v. after_tick v c.args.reading) (λ v. []) v p.prepared c.new.result there is e.prepared e.kept e.reports e.bytes e.large in
    record {
      ready = it.ready;
      within = it.within;
      sound = it.sound;
      kept = it.kept;
      places = e.places;
      bytes = it.bytes;
      limit = e.limit;
      large = it.large;
      refused = e.refused;
    }
