use Rattle.starter.proofs.Counted.{each_has, ends_once, whats_are}
use Rattle.starter.proofs.laws.launchers_add_up.Goals as goal

pub returns : goal.returns
returns c = record { launches = whats_are; once = ends_once; each = each_has }
