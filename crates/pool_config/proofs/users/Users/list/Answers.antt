use Rattle.std.proofs.Common.{◌∙◌}
use Rattle.pool_config.proofs.UserLemmas.{listed_more}
use Rattle.pool_config.proofs.users.Users.list.Goals as goal

pub loop-user-preserved : goal.loop-user-preserved
loop-user-preserved c =
    listed_more c.loop-user.list c.push.new.self c.args.self.now c.loop-user.user-iterator c.next.new.self c.in-Some.user.now c.in-Some.number.now c.in_ok-user.user c.in-Some.ensures.steps (c.in_ok-user.ensures ∙ c.as_str.ensures.value) c.in_ok-push.ensures.ok c.loop-user.invariant
