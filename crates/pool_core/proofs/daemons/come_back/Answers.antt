use Rattle.std.proofs.Common.{refl}
use Rattle.pool_outer.specs.declared.gate.Daemon.{Daemon}
use Rattle.pool_rules.specs.Deeds.{at_rest}
use Rattle.pool_rules.specs.Happens.{ComesBack}
use Rattle.schedd_steps.proofs.Refused.{at_err}
use Rattle.pool_core.proofs.Resting.{rests_too}
use Rattle.pool_core.proofs.Variants.{large_as, made_as}
use Rattle.pool_core.proofs.daemons.come_back.Goals as goal

pub returns-in-Schedd : goal.returns-in-Schedd
returns-in-Schedd c =
    let s = at_rest c.args.state.now in
    let Makes = λ (who : Daemon). ComesBack who c.args.kept c.args.reading s in
    let done = c.reopen_schedd.ensures in
    record {
      back = made_as Makes (at_rest c.reopen_schedd.new.state) c.reopen_schedd.result c.in-Schedd.is done.back;
      within = done.within;
      large = large_as Makes c.reopen_schedd.result c.in-Schedd.is done.large;
      refused = done.refused;
      kept = rests_too c.reopen_schedd.result c.args.state.now c.reopen_schedd.new.state done.kept;
    }

pub returns-in-Startd : goal.returns-in-Startd
returns-in-Startd c =
    let s = at_rest c.args.state.now in
    let Makes = λ (who : Daemon). ComesBack who c.args.kept c.args.reading s in
    let done = c.reboot_startd.ensures in
    record {
      back = made_as Makes (at_rest c.reboot_startd.new.state) c.reboot_startd.result c.in-Startd.is done.back;
      within = done.within;
      large = large_as Makes c.reboot_startd.result c.in-Startd.is done.large;
      refused = done.refused;
      kept = done.kept;
    }

pub returns-in-Matchmaker : goal.returns-in-Matchmaker
returns-in-Matchmaker c =
    let s = at_rest c.args.state.now in
    let Makes = λ (who : Daemon). ComesBack who c.args.kept c.args.reading s in
    let done = c.pass_over.ensures in
    record {
      back = made_as Makes s c.pass_over.result c.in-Matchmaker.is done.nothing;
      within = done.within;
      large = large_as Makes c.pass_over.result c.in-Matchmaker.is done.large;
      refused = done.refused;
      kept = at_err c.pass_over.result refl;
    }
