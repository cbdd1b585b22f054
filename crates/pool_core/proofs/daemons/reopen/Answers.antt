use Rattle.std.proofs.Common.{◌+◌, ap, ◌∙◌, refl}
use Rattle.pool_state.specs.Readings.{boot_of}
use Rattle.pool_tables.specs.DaemonTables.{DaemonsValue, daemon_state}
use Rattle.pool_tables.specs.declared.refusal.StepError.TheVariants as error
use Rattle.pool_rules.specs.Deeds.{at_rest}
use Rattle.pool_rules.specs.Happens.{ComesBack, IsReopened, boots}
use Rattle.schedd_steps.proofs.Refused.{no_err}
use Rattle.pool_core.proofs.TooLarge.{large_after}
use Rattle.pool_core.proofs.daemons.reopen.Goals as goal

pub returns-in-Err : goal.returns-in-Err
returns-in-Err c =
    let s = at_rest c.args.state.now in
    let who = c.args.who in
    record {
      back = tt;
      within = tt;
      large = λ is.
          large_after (ComesBack who c.args.kept c.args.reading s) (IsReopened who c.args.kept c.args.reading s) (boots (boot_of (daemon_state who s.daemons) + 1) who) (λ back. refl) (λ back r comes. record { back = back; comes = comes; pool = refl }) (c.in-Err.ensures.large is);
      refused = c.in-Err.ensures.refused;
      kept = c.in-Err.ensures.kept;
    }

pub returns-in-Ok : goal.returns-in-Ok
returns-in-Ok c =
    let mid = at_rest c.come_back.new.state in
    record {
      back = record {
        back = mid;
        comes = c.in-Ok.ensures.back;
        pool = ap (λ (d : DaemonsValue). record mid { daemons = d }) c.reopen.ensures ∙ ap (λ b. boots b c.args.who mid) c.in_ok-boot.ensures.boot;
      };
      within = c.in-Ok.ensures.within;
      large = λ is. no_err _ error.Bytes is;
      refused = tt;
      kept = tt;
    }
