-- What an event makes of a slot: how it stands then, the mails that are sent, in order, and what is
-- to be done beside them.
use Rattle.std.specs.Prelude.{List, []}
use Rattle.pool_mail.specs.declared.mail.Mail.{Mail}
use Rattle.startd_slot.specs.declared.reaction.Reaction.{Reaction}
use Rattle.startd_slot.specs.declared.reaction.Task.TheVariants.{Nothing}
use Rattle.startd_slot.specs.declared.slot.SlotState.{SlotState}

-- only mails are sent
abbrev pub says : SlotState → List Mail → Reaction
says s mails = record { state = s; mails = mails; task = Nothing }

-- nothing is sent
abbrev pub becomes : SlotState → Reaction
becomes s = says s []
