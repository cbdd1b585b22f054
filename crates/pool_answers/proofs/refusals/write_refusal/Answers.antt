use Rattle.std.proofs.Common.{codes, string_bytes}
use Rattle.pool_answers.specs.RefusalTexts.{refusal_text}
use Rattle.daemon_mails.proofs.TextLemmas.{known, pushed, two_added}
use Rattle.pool_answers.proofs.refusals.write_refusal.Goals as goal

pub returns-in_ok-push_str-in-AdMoved : goal.returns-in_ok-push_str-in-AdMoved
unfolding refusal_text
returns-in_ok-push_str-in-AdMoved c =
    known refusal_text _ _ _ _ _ c.in-AdMoved.is (two_added _ _ _ _ _ _ c.in_ok-push_str-in-AdMoved.ensures.bytes c.write_slot.ensures)

pub returns-in_ok-push_str-in-NoRun : goal.returns-in_ok-push_str-in-NoRun
unfolding refusal_text
returns-in_ok-push_str-in-NoRun c =
    known refusal_text _ _ _ _ _ c.in-NoRun.is (two_added _ _ _ _ _ _ c.in_ok-push_str-in-NoRun.ensures.bytes c.write_run.ensures)

pub returns-in_ok-push_str-in-RunLeft : goal.returns-in_ok-push_str-in-RunLeft
unfolding refusal_text
returns-in_ok-push_str-in-RunLeft c =
    known refusal_text _ _ _ _ _ c.in-RunLeft.is (two_added _ _ _ _ _ _ c.in_ok-push_str-in-RunLeft.ensures.bytes c.write_run-in-RunLeft.ensures)

pub returns-in-Down : goal.returns-in-Down
unfolding refusal_text
returns-in-Down c =
    known refusal_text _ _ _ _ _ c.in-Down.is c.write_daemon_refusal.ensures

pub returns-in-Up : goal.returns-in-Up
unfolding refusal_text
returns-in-Up c =
    known refusal_text _ _ _ _ _ c.in-Up.is c.write_daemon_refusal-in-Up.ensures

pub returns-in-NotQuiet : goal.returns-in-NotQuiet
unfolding refusal_text
returns-in-NotQuiet c =
    known refusal_text _ _ _ _ _ c.in-NotQuiet.is c.write_unquiet.ensures

pub returns-in-Closed : goal.returns-in-Closed
unfolding refusal_text
returns-in-Closed c =
    known refusal_text _ _ _ _ _ c.in-Closed.is (pushed _ (string_bytes c.args.out.now) _ (codes "Closed") c.push_str.ensures.bytes)

pub returns-in-Events : goal.returns-in-Events
unfolding refusal_text
returns-in-Events c =
    known refusal_text _ _ _ _ _ c.in-Events.is (pushed _ (string_bytes c.args.out.now) _ (codes "Events") c.push_str-in-Events.ensures.bytes)

pub returns-in-NotDue : goal.returns-in-NotDue
unfolding refusal_text
returns-in-NotDue c =
    known refusal_text _ _ _ _ _ c.in-NotDue.is (pushed _ (string_bytes c.args.out.now) _ (codes "NotDue") c.push_str-in-NotDue.ensures.bytes)

pub returns-in-Jobs : goal.returns-in-Jobs
unfolding refusal_text
returns-in-Jobs c =
    known refusal_text _ _ _ _ _ c.in-Jobs.is (pushed _ (string_bytes c.args.out.now) _ (codes "Jobs") c.push_str-in-Jobs.ensures.bytes)

pub returns-in-Bytes : goal.returns-in-Bytes
unfolding refusal_text
returns-in-Bytes c =
    known refusal_text _ _ _ _ _ c.in-Bytes.is (pushed _ (string_bytes c.args.out.now) _ (codes "Bytes") c.push_str-in-Bytes.ensures.bytes)
