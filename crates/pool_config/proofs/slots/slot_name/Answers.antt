use Rattle.std.proofs.Common.{◌∙◌, ◌++◌, ap, sym, append_assoc, codes, decimal}
use Rattle.pool_config.proofs.slots.slot_name.Goals as goal

pub returns : goal.returns
returns c =
    c.from.ensures ∙ c.in_ok-format.ensures.ok ∙ ap (λ l. codes "slot" ++ l) (sym (append_assoc (decimal c.args.slot) (codes "@") c.args.machine.now))
