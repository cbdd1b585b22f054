use Rattle.std.proofs.Common.{rules}
use Rattle.ad_token.proofs.Escapes.{wrote_held}
use Rattle.ad_token.proofs.strings.write_after_backslash.Goals as goal

pub returns-in_ok-push-in_default-2 : goal.returns-in_ok-push-in_default-2
returns-in_ok-push-in_default-2 c =
    λ rest. wrote_held _ _ _ rest c.args.c (search rules) c.in_ok-push-in_default-2.ensures.bytes (search rules) (search rules)
