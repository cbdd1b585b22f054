-- Which answers an event can have.
use Rattle.pool_parts.specs.declared.answer.Answer.{Answer}
use Rattle.pool_parts.specs.declared.answer.Answer.TheVariants.{Done, Append, Kill}
use Rattle.pool_parts.specs.declared.event.Event.{Event}
use Rattle.pool_parts.specs.declared.event.Event.TheVariants as event
use Rattle.pool_outer.specs.declared.gate.Daemon.{Daemon}
use Rattle.pool_outer.specs.declared.gate.Daemon.TheVariants.{Schedd, Startd, Matchmaker}

abbrev pub IsAppend : Answer → Type 0
IsAppend (Append number tx) = Unit {0}
IsAppend _ = ⊥

-- nothing is asked for
abbrev pub AsksNothing : Answer → Type 0
AsksNothing Done = Unit {0}
AsksNothing _ = ⊥

-- perhaps a transaction is to be logged
abbrev pub MayAppend : Answer → Type 0
MayAppend Done = Unit {0}
MayAppend (Append number tx) = Unit {0}
MayAppend _ = ⊥

-- perhaps programs are to be killed
abbrev pub MayKill : Answer → Type 0
MayKill Done = Unit {0}
MayKill (Kill runs) = Unit {0}
MayKill _ = ⊥

-- or one is to be launched
abbrev pub MayRun : Answer → Type 0
MayRun (Append number tx) = ⊥
MayRun _ = Unit {0}

-- of a mail that is received
abbrev pub IsMailAnswer : Daemon → Answer → Type 0
IsMailAnswer Schedd a = MayAppend a
IsMailAnswer (Startd machine) a = MayRun a
IsMailAnswer Matchmaker a = AsksNothing a

-- where time passes
abbrev pub IsTickAnswer : Daemon → Answer → Type 0
IsTickAnswer Schedd a = MayAppend a
IsTickAnswer (Startd machine) a = MayKill a
IsTickAnswer Matchmaker a = AsksNothing a

-- which answers an event can have, by its name and the daemon
abbrev pub IsKindOf : Event → Answer → Type 0
IsKindOf (event.Submit boot jobs reading) a = IsAppend a
IsKindOf (event.Order verb job reading) a = AsksNothing a
IsKindOf (event.Receive who boot index reading judged mismatch) a = IsMailAnswer who a
IsKindOf (event.Tick who boot reading) a = IsTickAnswer who a
IsKindOf (event.Check boot job reading) a = MayAppend a
IsKindOf (event.Logged boot receipt) a = AsksNothing a
IsKindOf (event.Ended machine boot receipt reading) a = AsksNothing a
IsKindOf (event.Crash who) a = AsksNothing a
IsKindOf (event.Reopen who kept ended reading) a = AsksNothing a
IsKindOf (event.Matches list judged reading) a = AsksNothing a
IsKindOf (event.Close length reading mismatch) a = AsksNothing a
