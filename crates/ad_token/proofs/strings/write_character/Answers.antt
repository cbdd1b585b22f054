use Rattle.std.proofs.Common.{rules}
use Rattle.ad_token.proofs.Escapes.{wrote}
use Rattle.ad_token.proofs.strings.write_character.Goals as goal

pub returns-in_ok-push-in_default : goal.returns-in_ok-push-in_default
returns-in_ok-push-in_default c = λ rest. wrote _ _ rest c.args.c c.in_ok-push-in_default.ensures.bytes (search rules)
