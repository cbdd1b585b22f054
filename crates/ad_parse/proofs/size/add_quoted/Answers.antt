use Rattle.std.proofs.Common.{ap, ◌∙◌}
use Rattle.std.specs.List.{count_by}
use Rattle.ad_token.specs.Strings.{is_escapable}
use Rattle.ad_parse.proofs.Sizes.{quoted_grown}
use Rattle.ad_parse.proofs.size.add_quoted.Goals as goal

pub returns : goal.returns
returns c =
    let count = c.escapes.ensures ∙ ap (count_by is_escapable) c.as_bytes.ensures.value in
    quoted_grown _ _ _ _ _ c.args.text.now c.add_bytes-size.ensures c.add_bytes-size-2.ensures count c.add_bytes.ensures
