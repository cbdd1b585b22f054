use Rattle.std.proofs.Common.{◌⊎◌, inl}
use Rattle.pool_outer.specs.Files.{Leaves}
use Rattle.pool_store.proofs.Moments.{begins}
use Rattle.pool_store.proofs.cut.cut_after.Goals as goal

pub returns-clause-any_moment : goal.returns-clause-any_moment
returns-clause-any_moment g c tells =
    let m = g.D.Store in
    let old = c.args.store.now in
    let name = c.args.name.now in
    begins m.moment m.left_since name old (λ image. Leaves (m.file old) (m.solid old) name image ⊎ Leaves (m.file old) (m.solid old) name image)
    (λ image left. inl (g.met.D.Store.only_now old name image tells left))

pub returns-clause-quiet : goal.returns-clause-quiet
returns-clause-quiet g c tells other apart =
    let m = g.D.Store in
    let old = c.args.store.now in
    begins m.moment m.left_since other old (Leaves (m.file old) (m.solid old) other)
    (λ image left. g.met.D.Store.only_now old other image tells left)
