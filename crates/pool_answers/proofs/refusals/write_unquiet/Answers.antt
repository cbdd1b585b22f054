use Rattle.pool_answers.specs.RefusalTexts.{unquiet_text}
use Rattle.daemon_mails.proofs.TextLemmas.{known, two_added}
use Rattle.pool_answers.proofs.refusals.write_unquiet.Goals as goal

pub returns-in-Down : goal.returns-in-Down
unfolding unquiet_text
returns-in-Down c =
    known unquiet_text _ _ _ _ _ c.in-Down.is c.write_daemon_refusal.ensures

pub returns-in-Pending : goal.returns-in-Pending
unfolding unquiet_text
returns-in-Pending c =
    known unquiet_text _ _ _ _ _ c.in-Pending.is c.write.ensures.bytes

pub returns-in-Order : goal.returns-in-Order
unfolding unquiet_text
returns-in-Order c =
    known unquiet_text _ _ _ _ _ c.in-Order.is c.write-in-Order.ensures.bytes

pub returns-in_ok-push_str-in-Under : goal.returns-in_ok-push_str-in-Under
unfolding unquiet_text
returns-in_ok-push_str-in-Under c =
    known unquiet_text _ _ _ _ _ c.in-Under.is (two_added _ _ _ _ _ _ c.in_ok-push_str-in-Under.ensures.bytes c.write_job.ensures)

pub returns-in_ok-push_str-in-Claim : goal.returns-in_ok-push_str-in-Claim
unfolding unquiet_text
returns-in_ok-push_str-in-Claim c =
    known unquiet_text _ _ _ _ _ c.in-Claim.is (two_added _ _ _ _ _ _ c.in_ok-push_str-in-Claim.ensures.bytes c.write_slot.ensures)
