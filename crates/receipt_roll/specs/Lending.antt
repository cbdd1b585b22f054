-- What a roll is once a reference into it has ended.
use Rattle.std.specs.Prelude.{◌≡◌}
use Rattle.std.specs.Borrow.{Fml, RattleType, MutBor}
use Rattle.std.specs.Io.BufRead.{Rests}
use Rattle.receipt_roll.specs.Values.{RollValue}
use Rattle.receipt_roll.specs.contracts.roll.Roll.{the_row}

-- it is as it was
abbrev pub StaysSame : (T : RattleType) → MutBor (RollValue T.Denot) → Fml
StaysSame T roll = Rests (the_row T) roll (λ last. last ≡ roll.now)
