use Rattle.std.proofs.Common.{codes, decimal}
use Rattle.pool_answers.specs.RefusalTexts.{refusal_text}
use Rattle.daemon_mails.proofs.TextLemmas.{known}
use Rattle.pool_answers.proofs.TextLemmas.{after_mark}
use Rattle.pool_answers.proofs.refusals.write_number_refusal.Goals as goal

pub returns-in-OldBoot : goal.returns-in-OldBoot
unfolding refusal_text
returns-in-OldBoot c =
    known refusal_text _ _ _ _ _ c.in-OldBoot.is c.write.ensures.bytes

pub returns-in-NoMail : goal.returns-in-NoMail
unfolding refusal_text
returns-in-NoMail c =
    known refusal_text _ _ _ _ _ c.in-NoMail.is c.write-in-NoMail.ensures.bytes

pub returns-in-Again : goal.returns-in-Again
unfolding refusal_text
returns-in-Again c =
    known refusal_text _ _ _ _ _ c.in-Again.is c.write-in-Again.ensures.bytes

pub returns-in-StillPending : goal.returns-in-StillPending
unfolding refusal_text
returns-in-StillPending c =
    known refusal_text _ _ _ _ _ c.in-StillPending.is c.write-in-StillPending.ensures.bytes

pub returns-in-OtherItem : goal.returns-in-OtherItem
unfolding refusal_text
returns-in-OtherItem c =
    known refusal_text _ _ _ _ _ c.in-OtherItem.is c.write-in-OtherItem.ensures.bytes

pub returns-in-Moved : goal.returns-in-Moved
unfolding refusal_text
returns-in-Moved c =
    known refusal_text _ _ _ _ _ c.in-Moved.is c.write-in-Moved.ensures.bytes

pub returns-in_ok-write-in-NotYours : goal.returns-in_ok-write-in-NotYours
unfolding refusal_text
returns-in_ok-write-in-NotYours c =
    known refusal_text _ _ _ _ _ c.in-NotYours.is (after_mark _ _ _ _ (codes "NotYours\t") (decimal c.in-NotYours.index) (codes "\t") _ c.in_ok-write-in-NotYours.ensures.bytes c.write_daemon.ensures)

pub returns-in_ok-write-in-NotPending : goal.returns-in_ok-write-in-NotPending
unfolding refusal_text
returns-in_ok-write-in-NotPending c =
    known refusal_text _ _ _ _ _ c.in-NotPending.is (after_mark _ _ _ _ (codes "NotPending\t") (decimal c.in-NotPending.asked) (codes "\t") _ c.in_ok-write-in-NotPending.ensures.bytes c.write_some_number.ensures)
