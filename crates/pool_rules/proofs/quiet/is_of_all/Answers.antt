use Rattle.std.proofs.Common.{◌≡◌, ◌↔◌, ◌∙◌, IsTrue}
use Rattle.pool_rules.proofs.Judged.{of_same, both_fail, both_tell, fail_before, then_reading}
use Rattle.pool_rules.specs.Judging.{asked_ads}
use Rattle.pool_shown.specs.Slots.{slot_ads}
use Rattle.pool_rules.proofs.quiet.is_of_all.Goals.{then-are_asked, else-are_asked}
use Rattle.pool_rules.proofs.quiet.is_of_all.Goals as goal

pub returns-then-are_slot_ads : goal.returns-then-are_slot_ads
returns-then-are_slot_ads c =
    let jobs = of_same (c.as_slice.ensures ∙ c.jobs.ensures) c.are_asked.ensures in
    let told : IsTrue c.if-are_asked.value ↔ ((c.args.none.now.jobs ≡ asked_ads c.args.state.now.queue c.args.idle.now) × (c.args.none.now.slots ≡ slot_ads c.args.state.now.machines)) = elim c.if-are_asked.branch [
      | then-are_asked w ↦ both_tell w.value-is w.if-are_asked.true jobs (of_same (w.as_slice-then-are_asked.ensures ∙ w.slots.ensures) w.are_slot_ads.ensures)
      | else-are_asked w ↦ both_fail w.value-is w.if-are_asked.false jobs
    ] in
    then_reading c.if-are_slot_ads.true told c.at.ensures

pub returns-else-are_slot_ads : goal.returns-else-are_slot_ads
returns-else-are_slot_ads c =
    let jobs = of_same (c.as_slice.ensures ∙ c.jobs.ensures) c.are_asked.ensures in
    let told : IsTrue c.if-are_asked.value ↔ ((c.args.none.now.jobs ≡ asked_ads c.args.state.now.queue c.args.idle.now) × (c.args.none.now.slots ≡ slot_ads c.args.state.now.machines)) = elim c.if-are_asked.branch [
      | then-are_asked w ↦ both_tell w.value-is w.if-are_asked.true jobs (of_same (w.as_slice-then-are_asked.ensures ∙ w.slots.ensures) w.are_slot_ads.ensures)
      | else-are_asked w ↦ both_fail w.value-is w.if-are_asked.false jobs
    ] in
    fail_before c.if-are_slot_ads.false told
