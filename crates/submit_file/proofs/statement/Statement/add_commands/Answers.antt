use Rattle.std.proofs.Common.{ap, ◌∙◌, ◌++◌, map, rules}
use Rattle.std.proofs.lemmas.List.{take_all}
use Rattle.submit_file.specs.Origins.{other_command, origin_of}
use Rattle.submit_file.specs.Plans.{origins_of}
use Rattle.submit_file.proofs.Takings.{origins_more, parts_more}
use Rattle.submit_file.proofs.statement.Statement.add_commands.Goals as goal

pub loop-command-preserved : goal.loop-command-preserved
loop-command-preserved c = record {
  sources = origins_more (λ c. other_command c) c.args.commands.now c.loop-command.command-index _ c.args.parts.now.items c.loop-command.parts.items c.push.new.self.items c.in_ok-part.part c.loop-command-test.true (search rules) c.loop-command.invariant.sources c.in_ok-push.ensures.items (ap origin_of c.in_ok-part.ensures.source);
  parts = λ t spares old. parts_more c.args.self t c.loop-command.parts.items c.push.new.self.items c.in_ok-part.part c.in_ok-push.ensures.items (c.loop-command.invariant.parts t spares old) (c.in_ok-part.ensures.part t spares);
}

pub returns-clause-sources : goal.returns-clause-sources
returns-clause-sources c = c.loop-command.invariant.sources ∙ ap (λ xs. origins_of c.args.parts.now.items ++ map (λ x. other_command x) xs) (take_all c.loop-command.command-index c.args.commands.now c.loop-command-test.false)
