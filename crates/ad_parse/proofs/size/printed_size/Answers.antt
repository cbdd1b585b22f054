use Rattle.std.proofs.Common.{[], arith}
use Rattle.ad_value.specs.Content.{undefined}
use Rattle.ad_tree.specs.Tree.{literal}
use Rattle.ad_parse.specs.PrintedSize.{attribute_bytes}
use Rattle.ad_parse.proofs.Sizes.{attribute_grown}
use Rattle.ad_parse.proofs.size.printed_size.Goals as goal

pub loop-place-preserved : goal.loop-place-preserved
loop-place-preserved c = attribute_grown attribute_bytes c.args.ad.now c.loop-place.place ([], literal undefined) _ _ (omega arith) c.loop-place.invariant c.add_attribute-size.ensures
