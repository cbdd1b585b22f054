use Rattle.std.proofs.Common.{rules, ◌≡◌, None, sym, subst}
use Rattle.schedd_state.specs.Looks.{AreTimes, IsOldest}
use Rattle.schedd_state.proofs.LooksKept.{none_oldest, first_oldest}
use Rattle.schedd_state.proofs.looks.Looks.oldest.Goals as goal

pub returns-in_err-look : goal.returns-in_err-look
returns-in_err-look c =
    let none : c.from_residual.result ≡ None = search rules in
    subst (IsOldest c.args.self.now) (sym none)
    (none_oldest c.args.self.now c.self.inside.by_time (subst (AreTimes c.self.inside.by_time) c.self.view_is c.self.invariant) c.in_err-look.ensures.first)

pub returns : goal.returns
returns c =
    first_oldest c.args.self.now c.self.inside.by_time (subst (AreTimes c.self.inside.by_time) c.self.view_is c.self.invariant)
    (c.in_ok-look.look.now, c.in_ok-look.field-0-1.now) c.in_ok-look.ensures.sorted c.in_ok-look.ensures.first
