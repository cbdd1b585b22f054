-- Mails that are sent for the input, or for a match, keep the links.
use Rattle.std.proofs.Common.{◌≡◌, List, [], Option, Some, None, IsSome, refl}
use Rattle.claim_id.specs.declared.numbers.SlotId.{SlotId}
use Rattle.pool_mail.specs.declared.mail.Mail.{Mail}
use Rattle.pool_mail.specs.declared.mail.Mail.TheVariants as mail
use Rattle.pool_view.specs.AbstractPool.{IsIn}
use Rattle.pool_view.specs.Protocol.{Protocol}
use Rattle.startd_slot.specs.declared.slot.Slot.{Slot}
use Rattle.pool_rules.specs.Linked.{IsBorneOut, IsLinked, StayLinked}
use Rattle.pool_rules.specs.PoolParts.{PoolParts, slot_in_pool}
use Rattle.pool_rules.specs.Wanted.{IsWanted, parts_with_mails}
use Rattle.pool_rules.proofs.ScheddKept.{mails_linked}
use Rattle.pool_rules.proofs.StartdMails.{found_placed}

slot_placed : (p : Protocol) (a : PoolParts) (id : SlotId) → IsLinked p a → IsSome (slot_in_pool a.startds id) → IsSome (p.pool.marks id)
slot_placed p a id linked some = by (slot_in_pool a.startds id) refl some
  where
    by : (o : Option Slot) → slot_in_pool a.startds id ≡ o → IsSome o → IsSome (p.pool.marks id)
    by None is h = cc
    by (Some slot) is h = found_placed p a id slot linked is

wanted_borne : (p : Protocol) (a : PoolParts) (m : Mail) → IsLinked p a → IsWanted a.startds m → IsBorneOut p m
wanted_borne p a (mail.Matched found) linked wanted = (wanted.0, slot_placed p a found.claim.no.slot linked wanted.1)
wanted_borne p a (mail.Remove job) linked wanted = tt
wanted_borne p a (mail.Hold job) linked wanted = tt
wanted_borne p a (mail.Resume job) linked wanted = tt
wanted_borne p a (mail.Update slot) linked wanted = absurd wanted
wanted_borne p a (mail.Ask claim job ad by_priority) linked wanted = absurd wanted
wanted_borne p a (mail.Granted claim job) linked wanted = absurd wanted
wanted_borne p a (mail.Denied claim run job why) linked wanted = absurd wanted
wanted_borne p a (mail.Activate run job ad until) linked wanted = absurd wanted
wanted_borne p a (mail.Alive run until) linked wanted = absurd wanted
wanted_borne p a (mail.Seen run until) linked wanted = absurd wanted
wanted_borne p a (mail.Stop run) linked wanted = absurd wanted
wanted_borne p a (mail.Release claim) linked wanted = absurd wanted
wanted_borne p a (mail.Gone run kept) linked wanted = absurd wanted
wanted_borne p a (mail.Ended run how) linked wanted = absurd wanted

pub wanted_linked : (p : Protocol) (a : PoolParts) (mails : List Mail) → IsLinked p a → ((m : Mail) → IsIn m mails → IsWanted a.startds m) → StayLinked p [] (parts_with_mails mails a)
wanted_linked p a mails linked wanted = mails_linked p a mails linked (λ m there. wanted_borne p a m linked (wanted m there))
