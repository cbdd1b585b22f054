use Rattle.std.proofs.Common.{◌∙◌}
use Rattle.thin_pool.proofs.Entries.{remove_entry-without_run}
use Rattle.thin_pool.proofs.runs.remove_run.Goals as goal

pub returns : goal.returns
returns c = c.shift_remove.ensures.entries ∙ remove_entry-without_run c.args.slot c.args.runs.now.entries
