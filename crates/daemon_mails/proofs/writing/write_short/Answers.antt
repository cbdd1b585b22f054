use Rattle.daemon_mails.specs.MailTexts.{short_text}
use Rattle.daemon_mails.proofs.TextLemmas.{known_some}
use Rattle.daemon_mails.proofs.writing.write_short.Goals as goal

pub returns-in-Alive : goal.returns-in-Alive
returns-in-Alive c = known_some short_text _ _ _ _ _ c.in-Alive.is c.write_run_until.ensures

pub returns-in-Seen : goal.returns-in-Seen
returns-in-Seen c = known_some short_text _ _ _ _ _ c.in-Seen.is c.write_run_until-in-Seen.ensures

pub returns-in-Stop : goal.returns-in-Stop
returns-in-Stop c = known_some short_text _ _ _ _ _ c.in-Stop.is c.write_of_run.ensures

pub returns-in-Release : goal.returns-in-Release
returns-in-Release c = known_some short_text _ _ _ _ _ c.in-Release.is c.write_release.ensures

pub returns-in-Gone : goal.returns-in-Gone
returns-in-Gone c = known_some short_text _ _ _ _ _ c.in-Gone.is c.write_gone.ensures

pub returns-in-Ended : goal.returns-in-Ended
returns-in-Ended c = known_some short_text _ _ _ _ _ c.in-Ended.is c.write_ended.ensures

pub returns-in-Remove : goal.returns-in-Remove
returns-in-Remove c = known_some short_text _ _ _ _ _ c.in-Remove.is c.write_order.ensures

pub returns-in-Hold : goal.returns-in-Hold
returns-in-Hold c = known_some short_text _ _ _ _ _ c.in-Hold.is c.write_order-in-Hold.ensures

pub returns-in-Resume : goal.returns-in-Resume
returns-in-Resume c = known_some short_text _ _ _ _ _ c.in-Resume.is c.write_order-in-Resume.ensures
