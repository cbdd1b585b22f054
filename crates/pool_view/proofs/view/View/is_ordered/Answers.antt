use Rattle.std.proofs.Common.{sym, subst}
use Rattle.pool_view.specs.AbstractPool.{IsIn}
use Rattle.pool_view.proofs.Each.{in_of_any, any_of_in}
use Rattle.pool_view.proofs.view.View.is_ordered.Goals as goal

pub returns : goal.returns
returns c = (
  λ is. subst (λ l. IsIn c.args.job l) c.as_slice.ensures (in_of_any c.args.job c.as_slice.result.now (c.has_number.ensures.0 is)),
  λ there. c.has_number.ensures.1 (any_of_in c.args.job c.as_slice.result.now (subst (λ l. IsIn c.args.job l) (sym c.as_slice.ensures) there)),
)
