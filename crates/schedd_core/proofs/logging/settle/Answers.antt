use Rattle.schedd_core.proofs.LogTaken.{completed_settled, grant_settled, put_settled}
use Rattle.schedd_core.proofs.logging.settle.Goals as goal

pub returns-in-PutIdle-clause-settled : goal.returns-in-PutIdle-clause-settled
returns-in-PutIdle-clause-settled c =
    put_settled c.args.schedd.now c.logged_change-in-PutIdle.result c.next_run-in-PutIdle.result c.in-PutIdle.job c.args.plan
    c.logged_change-in-PutIdle.ensures c.next_run-in-PutIdle.ensures c.in-PutIdle.is

pub returns-in-Complete-clause-settled : goal.returns-in-Complete-clause-settled
returns-in-Complete-clause-settled c =
    completed_settled c.args.schedd.now c.logged_change-in-Complete.result c.next_run-in-Complete.result c.in-Complete.job c.args.plan
    c.logged_change-in-Complete.ensures c.next_run-in-Complete.ensures c.in-Complete.is

pub returns-in_ok-next_run-in-Grant-clause-settled : goal.returns-in_ok-next_run-in-Grant-clause-settled
returns-in_ok-next_run-in-Grant-clause-settled c =
    grant_settled c.args.schedd.now c.logged_change.result c.in_ok-next_run-in-Grant.next_run c.args.plan _ _ _ _ _
    c.logged_change.ensures c.in_ok-next_run-in-Grant.ensures c.in-Grant.is
