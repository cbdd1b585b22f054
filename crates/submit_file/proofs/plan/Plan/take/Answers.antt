use Rattle.submit_file.specs.declared.statement.Contribution.TheVariants as contribution
use Rattle.submit_file.specs.Origins.{origin_of}
use Rattle.submit_file.proofs.Takings.{on_ok, takes_fixed, takes_given}
use Rattle.submit_file.proofs.plan.Plan.take.Goals as goal

pub returns-in-Some : goal.returns-in-Some
returns-in-Some c =
    on_ok c.take.result c.take.ensures (takes_fixed c.args.self.now.statement c.args.table.now c.args.part.now c.in-Some.value _ _ c.requires c.in-Some.is)

pub returns-in-Value : goal.returns-in-Value
returns-in-Value c =
    on_ok c.take-in-Value.result c.take-in-Value.ensures
    (takes_given c.args.self.now.statement c.args.table.now (origin_of c.args.part.now.source) c.in_ok-value-in-None.field-0 (contribution.Value c.in-Value.value) _ _ c.in_ok-value-in-None.ensures c.in-Value.is)

pub returns-in-Refusal : goal.returns-in-Refusal
returns-in-Refusal c =
    on_ok c.refuse.result c.refuse.ensures.refused
    (takes_given c.args.self.now.statement c.args.table.now (origin_of c.args.part.now.source) c.in_ok-value-in-None.field-0 (contribution.Refusal c.in-Refusal.refusal) _ _ c.in_ok-value-in-None.ensures c.in-Refusal.is)
