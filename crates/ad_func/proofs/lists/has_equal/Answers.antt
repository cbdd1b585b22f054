use Rattle.std.proofs.Common.{sym, ◌∙◌, arith}
use Rattle.ad_value.specs.Content.{content}
use Rattle.ad_func.proofs.ListLemmas.{equal_found}
use Rattle.ad_func.proofs.lists.has_equal.Goals as goal

pub returns-then-branch : goal.returns-then-branch
returns-then-branch c =
    sym (equal_found (content c.args.x.now) c.args.items.now c.loop-item.item-index c.item-item.result (omega arith) c.item-item.is (sym c.in_ok-is_equal.ensures ∙ c.if-branch.true))
