use Rattle.std.proofs.Common.{Option, ap}
use Rattle.ad_tree.specs.Ad.{Attributes}
use Rattle.schedd_core.specs.Rows.{asked_in}
use Rattle.schedd_core.proofs.Prepared.{quiet_so, sends_so}
use Rattle.schedd_core.proofs.PreparedRows.{asked_is}
use Rattle.schedd_core.proofs.mails.ask.Goals as goal

pub returns-in_default : goal.returns-in_default
returns-in_default c =
    let v = c.args.schedd.now in
    let n = c.nothing.ensures in
    quiet_so v v c.nothing.result _ n.schedd n.step n.room
    (ap (λ (o : Option Attributes). asked_in o v c.args.claim c.args.job c.args.by_priority c.args.reading) c.in_default.ensures)

pub returns : goal.returns
returns c =
    let s = c.send.ensures in
    sends_so c.args.schedd.now _ _ _ c.send.result s.schedd s.step s.room
    (asked_is c.args.schedd.now c.args.claim c.args.job c.args.by_priority c.args.reading c.in-Some.ad.now _ c.in_ok-request.request c.in_ok-own.own
    c.in_ok-request.ensures c.in_ok-own.ensures c.in-Some.ensures)
