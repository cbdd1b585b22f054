use Rattle.std.proofs.Common.{◌∙◌, List, Some, refl, ap, subst, sym}
use Rattle.thin_pool.specs.declared.history.Step.{Step}
use Rattle.thin_pool.specs.PoolValue.{PoolValue}
use Rattle.thin_pool.specs.CourseValue.{CourseValue}
use Rattle.thin_pool.specs.Histories.{LeadsTo}
use Rattle.thin_pool.specs.Moving.{EachMoves}
use Rattle.thin_pool.specs.Reactions.{opening_pool}
use Rattle.thin_pool.proofs.Moving.{history_moves}
use Rattle.thin_pool.proofs.Showing.{shows}
use Rattle.thin_pool.proofs.course.Course.finish.Goals as goal

pub returns-clause-safe : goal.returns-clause-safe
returns-clause-safe c =
    let opening = c.self.inside.opening in
    let list = c.self.inside.steps.items in
    let leads = subst (λ (p : PoolValue). LeadsTo p list c.self.inside.pool) c.self.invariant.0 c.self.invariant.1 in
    rw (← c.self.view_is) (subst (λ (p : PoolValue). EachMoves p list) (sym c.self.invariant.0) (history_moves opening.slots list c.self.inside.pool leads))

pub returns-clause-shows : goal.returns-clause-shows
returns-clause-shows c =
    let opening = c.self.inside.opening in
    let list = c.self.inside.steps.items in
    let leads = subst (λ (p : PoolValue). LeadsTo p list c.self.inside.pool) c.self.invariant.0 c.self.invariant.1 in
    rw (← c.self.view_is) (shows opening.slots list c.self.inside.pool leads)

pub returns-clause-history : goal.returns-clause-history
returns-clause-history c =
    let opening = c.self.inside.opening in
    let list = c.self.inside.steps.items in
    let leads = subst (λ (p : PoolValue). LeadsTo p list c.self.inside.pool) c.self.invariant.0 c.self.invariant.1 in
    rw (← c.self.view_is) (record {
      opening = ap Some c.self.invariant.0;
      no_load = refl;
      leads = subst (λ (l : List Step). LeadsTo (opening_pool opening.slots) l c.self.inside.pool) (sym c.from_vec.ensures) leads;
    })

pub returns-clause-list : goal.returns-clause-list
returns-clause-list c = c.from_vec.ensures ∙ ap (λ (v : CourseValue). v.list) c.self.view_is
