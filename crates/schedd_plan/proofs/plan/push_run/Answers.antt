use Rattle.schedd_plan.proofs.PutLemmas.{put_last, set_more}
use Rattle.schedd_plan.proofs.plan.push_run.Goals as goal

pub returns : goal.returns
returns c =
    let claim = set_more c.args.tx.now c.push_status.new.tx c.push_set.new.tx _ _ _ _ _ c.in_ok-claim_expr.ensures c.in_ok-push_status.ensures c.in_ok-push_set.ensures in
    let number = set_more c.args.tx.now c.push_set.new.tx c.push_set-2.new.tx _ _ _ _ _ c.in_ok-integer_expr.ensures claim c.in_ok-push_set-2.ensures in
    put_last c.push_lease.result c.args.tx.now c.push_set-2.new.tx c.push_lease.new.tx _ _ number c.push_lease.ensures
