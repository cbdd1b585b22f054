use Rattle.pool_config.specs.Keys.{sets_of}
use Rattle.pool_config.specs.Settings.{set_to}
use Rattle.pool_config.specs.SoFar.{so_far}
use Rattle.pool_config.proofs.Kept.{kept, not_kept}
use Rattle.pool_config.proofs.file.Reading.put.Goals as goal

pub returns-in_ok-set-in-Ok : goal.returns-in_ok-set-in-Ok
returns-in_ok-set-in-Ok c =
    kept c.args.name.now c.args.text.now c.args.self.now.table (set_to (sets_of c.args.key) c.args.text.now c.args.line (so_far c.args.self.now.settings)) (so_far c.set.new.self) _ c.in-Ok.ensures c.in_ok-set-in-Ok.ensures.ok

pub returns-in-Err : goal.returns-in-Err
returns-in-Err c =
    not_kept c.args.name.now c.args.text.now c.args.self.now.table (set_to (sets_of c.args.key) c.args.text.now c.args.line (so_far c.args.self.now.settings)) c.in-Err.error c.in-Err.ensures
