use Rattle.std.proofs.Common.{◌∙◌, ap, map}
use Rattle.pool_state.specs.Openings.{startds_of}
use Rattle.pool_tables.specs.OrderTables.{not_given}
use Rattle.pool_state.proofs.Opened.{opened}
use Rattle.pool_state.proofs.state.PoolState.open.Goals as goal

pub returns : goal.returns
returns c =
    opened c.args.opening c.boot_number-boot.result _ _ _ _ _ c.requires
    (record {
      boot_is = c.boot_number-boot.ensures;
      startds_are = c.in_ok-startds.ensures ∙ ap (startds_of (record { settings = c.args.opening.settings; boot = c.boot_number-boot.result; secret_key = c.args.opening.secret_key })) c.as_slice.ensures;
      count = c.in_ok-machines.ensures;
      daemons = c.in_ok-tables.ensures.daemons;
      mails = c.in_ok-tables.ensures.mails;
      orders = c.in_ok-tables.ensures.orders ∙ ap (map not_given) c.as_slice-wishes.ensures;
      schedd = c.in_ok-parts.ensures.schedd;
      acked = c.in_ok-parts.ensures.acked;
      ordered = c.in_ok-parts.ensures.ordered;
    })
    c.join_parts.ensures
