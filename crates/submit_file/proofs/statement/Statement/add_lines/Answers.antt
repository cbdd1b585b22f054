use Rattle.std.proofs.Common.{ap, ◌∙◌, ◌++◌, map}
use Rattle.std.proofs.lemmas.List.{take_all}
use Rattle.submit_file.specs.Origins.{own_line, origin_of}
use Rattle.submit_file.specs.Plans.{origins_of}
use Rattle.submit_file.proofs.Takings.{origins_more, parts_more}
use Rattle.submit_file.proofs.statement.Statement.add_lines.Goals as goal

pub loop-setting-preserved : goal.loop-setting-preserved
loop-setting-preserved c = record {
  sources = origins_more (λ s. own_line s) c.args.settings.now c.loop-setting.setting-index c.setting-item.result c.args.parts.now.items c.loop-setting.parts.items c.push.new.self.items c.in_ok-part.part c.loop-setting-test.true c.setting-item.is c.loop-setting.invariant.sources c.in_ok-push.ensures.items (ap origin_of c.in_ok-part.ensures.source);
  parts = λ t spares old. parts_more c.args.self t c.loop-setting.parts.items c.push.new.self.items c.in_ok-part.part c.in_ok-push.ensures.items (c.loop-setting.invariant.parts t spares old) (c.in_ok-part.ensures.part t spares);
}

pub returns-clause-sources : goal.returns-clause-sources
returns-clause-sources c = c.loop-setting.invariant.sources ∙ ap (λ xs. origins_of c.args.parts.now.items ++ map (λ x. own_line x) xs) (take_all c.loop-setting.setting-index c.args.settings.now c.loop-setting-test.false)
