use Rattle.std.proofs.Common.{sym, ap, ◌∙◌, map}
use Rattle.ad_value.specs.Content.{content}
use Rattle.ad_func.specs.Lists.{has_equal}
use Rattle.ad_func.proofs.ListLemmas.{member_is}
use Rattle.ad_func.proofs.lists.member_value.Goals as goal

pub returns : goal.returns
returns c =
    member_is (content c.args.x.now) c.args.list.now c.in-List.list _ c.in-List.is (sym c.is_of_kind.ensures ∙ c.if-is_of_kind.false) (c.in_ok-has_equal.ensures ∙ ap (λ vs. has_equal (content c.args.x.now) (map content vs)) c.deref.ensures.value)
