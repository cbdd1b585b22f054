use Rattle.thin_pool.proofs.Sound.{after_sound}
use Rattle.thin_pool.proofs.laws.events_keep_sound.Goals as goal

pub returns : goal.returns
returns c = after_sound
