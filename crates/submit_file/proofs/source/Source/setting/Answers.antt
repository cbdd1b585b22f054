use Rattle.std.proofs.Common.{refl}
use Rattle.submit_file.proofs.source.Source.setting.Goals as goal

pub get-requires : goal.get-requires
get-requires c = refl
