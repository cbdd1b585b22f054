use Rattle.pool_config.specs.SoFar.{so_far}
use Rattle.pool_config.proofs.Becoming.{last_kept, none_kept}
use Rattle.pool_config.proofs.settings.Settings.keep_last.Goals as goal

pub returns-in-Some : goal.returns-in-Some
returns-in-Some c =
    let s = c.args.self.now in
    last_kept (so_far s).config c.push.result s.config.machines c.push.new.self c.in-Some.machine s.last c.take.new.self c.in-Some.ensures.value c.in-Some.ensures.after c.push.ensures.ok

pub returns-in-None : goal.returns-in-None
returns-in-None c = none_kept (so_far c.args.self.now).config c.args.self.now.last c.take.new.self c.in-None.ensures.value c.in-None.ensures.after
