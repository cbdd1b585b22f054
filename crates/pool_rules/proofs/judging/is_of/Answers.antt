use Rattle.std.proofs.Common.{◌≡◌, ◌↔◌, IsTrue}
use Rattle.pool_rules.proofs.Judged.{of_same, both_fail, both_tell, fail_before, then_reading}
use Rattle.pool_rules.proofs.judging.is_of.Goals.{then-same, else-same}
use Rattle.pool_rules.proofs.judging.is_of.Goals as goal

pub returns-then-same-2 : goal.returns-then-same-2
returns-then-same-2 c =
    let job = of_same c.job.ensures c.same.ensures in
    let told : IsTrue c.if-same.value ↔ ((c.args.judged.now.job ≡ c.args.ad.now) × (c.args.judged.now.slot ≡ c.args.slot.now)) = elim c.if-same.branch [
      | then-same w ↦ both_tell w.value-is w.if-same.true job (of_same w.slot.ensures w.same-then-same.ensures)
      | else-same w ↦ both_fail w.value-is w.if-same.false job
    ] in
    then_reading c.if-same-2.true told c.at.ensures

pub returns-else-same-2 : goal.returns-else-same-2
returns-else-same-2 c =
    let job = of_same c.job.ensures c.same.ensures in
    let told : IsTrue c.if-same.value ↔ ((c.args.judged.now.job ≡ c.args.ad.now) × (c.args.judged.now.slot ≡ c.args.slot.now)) = elim c.if-same.branch [
      | then-same w ↦ both_tell w.value-is w.if-same.true job (of_same w.slot.ensures w.same-then-same.ensures)
      | else-same w ↦ both_fail w.value-is w.if-same.false job
    ] in
    fail_before c.if-same-2.false told
