use Rattle.std.proofs.Common.{◌∙◌}
use Rattle.pool_view.specs.Numbers.{same_slot}
use Rattle.thin_pool.proofs.Entries.{insert_entry-last}
use Rattle.thin_pool.proofs.runs.add_run.Goals as goal

pub returns : goal.returns
returns c = (rw c.unwrap.ensures at c.insert.ensures.entries) ∙ insert_entry-last same_slot c.args.slot c.args.run c.args.runs.now.entries c.requires.free
