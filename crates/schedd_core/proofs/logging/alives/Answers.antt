use Rattle.schedd_core.proofs.LogTaken.{none_told, run_told, stop_told}
use Rattle.schedd_core.proofs.logging.alives.Goals.{then-is_stopped+in_ok-push-2, else-is_stopped}
use Rattle.schedd_core.proofs.logging.alives.Goals as goal

pub returns-in_default : goal.returns-in_default
returns-in_default c = none_told c.new-mails.result _ _ _ c.new-mails.ensures c.in_default.ensures

pub returns : goal.returns
returns c =
    elim c.if-is_stopped.branch [
      | then-is_stopped+in_ok-push-2 w ↦ stop_told _ c.in-Some.run' _ _ c.args.until _ _ _ c.new-mails.ensures c.in_ok-push.ensures.ok c.in-Some.ensures w.in_ok-push-2.ensures.ok w.mails-is w.if-is_stopped.ensures
      | else-is_stopped w ↦ run_told _ c.in-Some.run' _ _ c.args.until _ _ c.new-mails.ensures c.in_ok-push.ensures.ok c.in-Some.ensures w.mails-is w.if-is_stopped.ensures
    ]
