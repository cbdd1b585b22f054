use Rattle.std.proofs.Common.{rules, Some, None, ap, ◌∙◌}
use Rattle.std.specs.Prelude.{find}
use Rattle.ordered_map.specs.Trees.{is_past}
use Rattle.queue_tx.specs.Keys.{key_cmp}
use Rattle.std.specs.Option.{option_copied}
use Rattle.queue_tx.proofs.Queues.{key_of_first}
use Rattle.queue_tx.proofs.queue.Queue.after.Goals as goal

pub returns-in_err-entry : goal.returns-in_err-entry
returns-in_err-entry c =
    let none = key_of_first c.past.result (option_copied c.args.key) c.args.self.now None c.past.ensures (c.in_err-entry.ensures.first ∙ ap (find (λ e. is_past key_cmp c.past.result e.0)) c.self.view_is) in
    rw (← none) (search rules)

pub returns : goal.returns
returns c = key_of_first c.past.result (option_copied c.args.key) c.args.self.now (Some (c.in_ok-entry.entry.0.now, c.in_ok-entry.entry.1.now)) c.past.ensures (c.in_ok-entry.ensures.first ∙ ap (find (λ e. is_past key_cmp c.past.result e.0)) c.self.view_is)
