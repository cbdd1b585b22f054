use Rattle.std.proofs.Common.{◌≡◌, ◌↔◌, ◌∷◌, [], ◌∙◌, IsTrue}
use Rattle.pool_rules.proofs.Judged.{of_same, both_fail, both_tell, fail_before, then_reading}
use Rattle.pool_rules.proofs.judging.is_none_of.Goals.{then-is_alone, else-is_alone}
use Rattle.pool_rules.proofs.judging.is_none_of.Goals as goal

pub returns-then-is_alone-2 : goal.returns-then-is_alone-2
returns-then-is_alone-2 c =
    let jobs = of_same (c.as_slice.ensures ∙ c.jobs.ensures) c.is_alone.ensures in
    let told : IsTrue c.if-is_alone.value ↔ ((c.args.none.now.jobs ≡ c.args.ad.now ∷ []) × (c.args.none.now.slots ≡ c.args.slot.now ∷ [])) = elim c.if-is_alone.branch [
      | then-is_alone w ↦ both_tell w.value-is w.if-is_alone.true jobs (of_same (w.as_slice-then-is_alone.ensures ∙ w.slots.ensures) w.is_alone-then-is_alone.ensures)
      | else-is_alone w ↦ both_fail w.value-is w.if-is_alone.false jobs
    ] in
    then_reading c.if-is_alone-2.true told c.at.ensures

pub returns-else-is_alone-2 : goal.returns-else-is_alone-2
returns-else-is_alone-2 c =
    let jobs = of_same (c.as_slice.ensures ∙ c.jobs.ensures) c.is_alone.ensures in
    let told : IsTrue c.if-is_alone.value ↔ ((c.args.none.now.jobs ≡ c.args.ad.now ∷ []) × (c.args.none.now.slots ≡ c.args.slot.now ∷ [])) = elim c.if-is_alone.branch [
      | then-is_alone w ↦ both_tell w.value-is w.if-is_alone.true jobs (of_same (w.as_slice-then-is_alone.ensures ∙ w.slots.ensures) w.is_alone-then-is_alone.ensures)
      | else-is_alone w ↦ both_fail w.value-is w.if-is_alone.false jobs
    ] in
    fail_before c.if-is_alone-2.false told
