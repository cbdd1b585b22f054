use Rattle.submit_file.specs.OneJob.{common}
use Rattle.submit_file.proofs.Takings.{on_ok, fill_made}
use Rattle.submit_file.proofs.plan.Plan.fill.Goals as goal

pub returns : goal.returns
returns c =
    on_ok c.take_parts.result c.take_parts.ensures
    (fill_made (common c.args.self.now.statement.heading) c.args.self.now.statement.file.now c.args.table.now c.args.proc c.args.self.now.statement.line _ _ _ _ _ _ _ _ _ _ c.requires.plan.owner_is c.requires.plan.parts_are
    c.in_ok-add_small.ensures c.in_ok-add_small-2.ensures c.in_ok-take.ensures c.in_ok-add_whole.ensures c.in_ok-add_whole-2.ensures c.in_ok-add_whole-3.ensures)
