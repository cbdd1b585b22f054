use Rattle.schedd_core.proofs.LogTaken.{none_stopped, run_stopped}
use Rattle.schedd_core.proofs.logging.stops.Goals.{in-Some+in_ok-push, in_default}
use Rattle.schedd_core.proofs.logging.stops.Goals as goal

pub returns : goal.returns
returns c =
    elim c.match-run_of.branch [
      | in-Some+in_ok-push w ↦ run_stopped _ w.in-Some.run' _ _ _ c.new-mails.ensures w.in_ok-push.ensures.ok w.in-Some.ensures w.mails-is
      | in_default w ↦ none_stopped _ _ _ c.new-mails.ensures w.in_default.ensures w.mails-is
    ]
