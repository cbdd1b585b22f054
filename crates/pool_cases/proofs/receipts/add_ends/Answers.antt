use Rattle.std.proofs.Common.{◌∙◌, subst, sym}
use Rattle.pool_cases.specs.Marks.{HasMarks}
use Rattle.pool_cases.proofs.receipts.add_ends.Goals as goal

pub loop-preserved : goal.loop-preserved
loop-preserved c = (
  c.in_ok-add_end.ensures.marks ∙ c.loop.invariant.0,
  λ s has are. c.in_ok-add_end.ensures.ends s
      (subst (λ m. HasMarks m s) (sym c.loop.invariant.0) has) (c.loop.invariant.1 s has are),
)
