use Rattle.std.proofs.Common.{ap, ◌∙◌, get_or, rules}
use Rattle.submit_file.specs.OneJob.{common}
use Rattle.submit_file.proofs.Takings.{part_at, chain_part, last_part}
use Rattle.submit_file.proofs.plan.Plan.take_parts.Goals as goal

pub take-requires : goal.take-requires
take-requires c =
    let i = c.loop-part.part-index in
    let p = c.part-item.result in
    part_at c.args.self.now.statement c.args.table.now c.args.self.now.parts.items i p (search rules) (c.part-item.is ∙ ap (λ l. get_or l i p) c.deref-part-items.ensures.value) c.requires

pub loop-part-preserved : goal.loop-part-preserved
loop-part-preserved c = λ g more.
    let i = c.loop-part.part-index in
    let p = c.part-item.result in
    c.loop-part.invariant g (chain_part (common c.args.self.now.statement.heading) c.args.self.now.statement.file.now c.args.table.now c.args.self.now.statement.line c.args.self.now.parts.items i _ _ g p (search rules) (c.part-item.is ∙ ap (λ l. get_or l i p) c.deref-part-items.ensures.value) c.in_ok-take.ensures more)

pub returns : goal.returns
returns c = c.loop-part.invariant _ (last_part (common c.args.self.now.statement.heading) c.args.self.now.statement.file.now c.args.table.now c.args.self.now.statement.line c.args.self.now.parts.items c.loop-part.part-index _ (search rules))
