use Rattle.schedd_plan.proofs.PutLemmas.{put_more, put_last}
use Rattle.schedd_plan.proofs.plan.push_without_run.Goals as goal

pub returns : goal.returns
returns c =
    let both = put_more c.args.tx.now c.push_delete.new.tx c.push_delete-2.new.tx _ _ c.in_ok-push_delete.ensures c.in_ok-push_delete-2.ensures in
    put_last c.push_delete-3.result c.args.tx.now c.push_delete-2.new.tx c.push_delete-3.new.tx _ _ both c.push_delete-3.ensures
