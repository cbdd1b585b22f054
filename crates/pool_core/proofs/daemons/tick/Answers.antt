use Rattle.std.proofs.Common.{refl}
use Rattle.pool_outer.specs.declared.gate.Daemon.{Daemon}
use Rattle.pool_rules.specs.Deeds.{at_rest}
use Rattle.pool_rules.specs.Happens.{Ticks}
use Rattle.schedd_steps.proofs.Refused.{at_err}
use Rattle.pool_core.proofs.Variants.{large_as, made_as}
use Rattle.pool_core.proofs.daemons.tick.Goals as goal

pub returns-in-Schedd : goal.returns-in-Schedd
returns-in-Schedd c =
    let s = at_rest c.args.state.now in
    let Makes = λ (who : Daemon). Ticks who c.args.reading s in
    let done = c.tick_schedd.ensures in
    record {
      ticked = made_as Makes (at_rest c.tick_schedd.new.state) c.tick_schedd.result c.in-Schedd.is done.ticked;
      within = done.within;
      large = large_as Makes c.tick_schedd.result c.in-Schedd.is done.large;
      refused = done.refused;
      kept = done.kept;
    }

pub returns-in-Startd : goal.returns-in-Startd
returns-in-Startd c =
    let s = at_rest c.args.state.now in
    let Makes = λ (who : Daemon). Ticks who c.args.reading s in
    let done = c.tick_startd.ensures in
    record {
      ticked = made_as Makes (at_rest c.tick_startd.new.state) c.tick_startd.result c.in-Startd.is done.ticked;
      within = done.within;
      large = large_as Makes c.tick_startd.result c.in-Startd.is done.large;
      refused = done.refused;
      kept = done.kept;
    }

pub returns-in-Matchmaker : goal.returns-in-Matchmaker
returns-in-Matchmaker c =
    let s = at_rest c.args.state.now in
    let Makes = λ (who : Daemon). Ticks who c.args.reading s in
    let done = c.pass_over.ensures in
    record {
      ticked = made_as Makes s c.pass_over.result c.in-Matchmaker.is done.nothing;
      within = done.within;
      large = large_as Makes c.pass_over.result c.in-Matchmaker.is done.large;
      refused = done.refused;
      kept = at_err c.pass_over.result refl;
    }
