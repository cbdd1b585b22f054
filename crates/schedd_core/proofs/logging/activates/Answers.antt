use Rattle.schedd_core.proofs.LogTaken.{none_activated, run_activated}
use Rattle.schedd_core.proofs.logging.activates.Goals.{in-Some+in_ok-ad+in_ok-push, in_default}
use Rattle.schedd_core.proofs.logging.activates.Goals as goal

pub returns : goal.returns
returns c =
    elim c.match-ad_of.branch [
      | in-Some+in_ok-ad+in_ok-push w ↦ run_activated _ c.args.run c.args.job c.args.until w.in-Some.ad.now w.in_ok-ad.ad _ _ _ c.new-mails.ensures w.in_ok-push.ensures.ok w.in_ok-ad.ensures w.in-Some.ensures w.mails-is
      | in_default w ↦ none_activated _ c.args.run c.args.job c.args.until _ _ c.new-mails.ensures w.in_default.ensures w.mails-is
    ]
