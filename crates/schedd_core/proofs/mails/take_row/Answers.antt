use Rattle.std.proofs.Common.{ap, sym, subst}
use Rattle.std.specs.Prelude.{IfOk}
use Rattle.schedd_plan.specs.declared.mail.MailRow.{MailRow}
use Rattle.schedd_plan.specs.KeptRuns.{runs_without}
use Rattle.schedd_plan.specs.MailTable.{after_fate}
use Rattle.schedd_state.specs.declared.prepared.PreparedSchedd.{PreparedSchedd}
use Rattle.schedd_core.specs.Prepared.{IsPrepared}
use Rattle.schedd_core.specs.Rows.{after_row}
use Rattle.schedd_core.proofs.Prepared.{quiet_so, waits_so}
use Rattle.schedd_core.proofs.mails.take_row.Goals as goal

pub returns-in-Nothing : goal.returns-in-Nothing
unfolding after_row
returns-in-Nothing c =
    let v = c.args.schedd.now in
    let n = c.nothing.ensures in
    quiet_so v v c.nothing.result _ n.schedd n.step n.room (ap (λ (r : MailRow). after_row c.args.schedd.now c.args.queue.now r c.args.reading) (sym c.in-Nothing.is))

pub returns-in-Ask : goal.returns-in-Ask
unfolding after_row
returns-in-Ask c =
    subst (λ (r : MailRow). IfOk c.ask.result (λ (p : PreparedSchedd). IsPrepared c.args.schedd.now p (after_row c.args.schedd.now c.args.queue.now r c.args.reading)))
    (sym c.in-Ask.is) c.ask.ensures

pub returns-in-Ready : goal.returns-in-Ready
unfolding after_row
returns-in-Ready c =
    let v = c.args.schedd.now in
    let n = c.stage.ensures in
    quiet_so v _ c.stage.result _ n.schedd n.step n.room (ap (λ (r : MailRow). after_row c.args.schedd.now c.args.queue.now r c.args.reading) (sym c.in-Ready.is))

pub returns-in-Release : goal.returns-in-Release
unfolding after_row
returns-in-Release c =
    subst (λ (r : MailRow). IfOk c.release.result (λ (p : PreparedSchedd). IsPrepared c.args.schedd.now p (after_row c.args.schedd.now c.args.queue.now r c.args.reading)))
    (sym c.in-Release.is) c.release.ensures

pub returns-in-Forget : goal.returns-in-Forget
unfolding after_row
returns-in-Forget c =
    let v = c.args.schedd.now in
    let n = c.quiet.ensures in
    quiet_so v _ c.quiet.result _ n.schedd n.step n.room (ap (λ (r : MailRow). after_row c.args.schedd.now c.args.queue.now r c.args.reading) (sym c.in-Forget.is))

pub returns-in-Leave : goal.returns-in-Leave
unfolding after_row
returns-in-Leave c =
    let v = c.args.schedd.now in
    let n = c.stage-in-Leave.ensures in
    quiet_so v _ c.stage-in-Leave.result _ n.schedd n.step n.room (ap (λ (r : MailRow). after_row c.args.schedd.now c.args.queue.now r c.args.reading) (sym c.in-Leave.is))

pub returns-in-Note : goal.returns-in-Note
unfolding after_row
returns-in-Note c =
    let v = c.args.schedd.now in
    let n = c.note.ensures in
    quiet_so v _ c.note.result _ n.schedd n.step n.room (ap (λ (r : MailRow). after_row c.args.schedd.now c.args.queue.now r c.args.reading) (sym c.in-Note.is))

pub returns-in-Free : goal.returns-in-Free
unfolding after_row
returns-in-Free c =
    let v = c.args.schedd.now in
    let w = c.wait_with.ensures in
    waits_so v (record v { claims = after_fate c.in-Free.fate c.in-Free.claim v.claims; runs = runs_without c.in-Free.place v.runs }) c.wait_with.result c.in-Free.plan _ w.schedd w.step w.room (ap (λ (r : MailRow). after_row c.args.schedd.now c.args.queue.now r c.args.reading) (sym c.in-Free.is))

pub returns-in-Order : goal.returns-in-Order
unfolding after_row
returns-in-Order c =
    let v = c.args.schedd.now in
    let w = c.wait_for.ensures in
    waits_so v v c.wait_for.result c.in-Order.plan _ w.schedd w.step w.room (ap (λ (r : MailRow). after_row c.args.schedd.now c.args.queue.now r c.args.reading) (sym c.in-Order.is))
