use Rattle.std.proofs.Common.{rules, ◌≡◌, None, sym, subst}
use Rattle.schedd_state.specs.Looks.{AreTimes, FirstLook}
use Rattle.schedd_state.proofs.LooksKept.{none_past, first_past}
use Rattle.schedd_state.proofs.looks.Looks.first.Goals as goal

pub returns-in_err-look : goal.returns-in_err-look
returns-in_err-look c =
    let none : c.from_residual.result ≡ None = search rules in
    subst (FirstLook c.args.self.now c.args.start) (sym none)
    (none_past c.args.self.now c.self.inside.by_time (subst (AreTimes c.self.inside.by_time) c.self.view_is c.self.invariant) c.args.start c.in_err-look.ensures.first)

pub returns : goal.returns
returns c =
    first_past c.args.self.now c.self.inside.by_time (subst (AreTimes c.self.inside.by_time) c.self.view_is c.self.invariant) c.args.start
    (c.in_ok-look.look.now, c.in_ok-look.field-0-1.now) c.in_ok-look.ensures.sorted c.in_ok-look.ensures.first
