use Rattle.std.proofs.Common.{◌∙◌, ap}
use Rattle.ad_rows.specs.Rows.{text_literal}
use Rattle.schedd_plan.proofs.PutLemmas.{set_last}
use Rattle.schedd_plan.proofs.plan.push_mark_held.Goals as goal

pub returns : goal.returns
returns c =
    set_last c.push_set.result c.args.tx.now c.push_status.new.tx c.push_set.new.tx _ _ _ _ _ (c.in_ok-words.ensures ∙ ap text_literal c.text.ensures) c.in_ok-push_status.ensures c.push_set.ensures
