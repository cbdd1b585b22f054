use Rattle.std.proofs.Common.{◌∙◌, arith, ap}
use Rattle.pool_outer.specs.Files.{bytes_in, Leaves}
use Rattle.pool_store.specs.Moments.{IsReached}
use Rattle.pool_store.proofs.Moments.{begins, goes_on, reached_before, reached_after, leaves_fewer}
use Rattle.pool_store.proofs.append.append_solid.Goals as goal

pub returns-in_err-append-clause-any_moment : goal.returns-in_err-append-clause-any_moment
returns-in_err-append-clause-any_moment g c tells =
    let m = g.D.Store in
    let old = c.args.store.now in
    let name = c.args.name.now in
    let bytes = c.args.bytes.now in
    let new = c.append.new.self in
    let a = c.append.ensures.appends tells in
    let P = IsReached (m.solid old name) (bytes_in (m.file old name)) bytes in
    goes_on m.moment m.left_since name old old new (m.file new) (m.solid new) P
    (begins m.moment m.left_since name old P (λ image left. reached_before (m.solid old name) (bytes_in (m.file old name)) bytes image (g.met.D.Store.only_now old name image tells left)))
    (c.append.ensures.time tells)
    (λ image left. reached_after (m.solid old name) (m.solid new name) a.part.0 (bytes_in (m.file old name)) bytes (bytes_in (m.file new name)) image a.part.1 (let e = a.solid_stays in omega arith) left)

pub returns-in_err-append-clause-quiet : goal.returns-in_err-append-clause-quiet
returns-in_err-append-clause-quiet g c tells other apart =
    let m = g.D.Store in
    let old = c.args.store.now in
    let new = c.append.new.self in
    let a = (c.append.ensures.appends tells).others other apart in
    let P = Leaves (m.file old) (m.solid old) other in
    goes_on m.moment m.left_since other old old new (m.file new) (m.solid new) P
    (begins m.moment m.left_since other old P (λ image left. g.met.D.Store.only_now old other image tells left))
    (c.append.ensures.time tells)
    (λ image left. leaves_fewer (m.file old) (m.file new) (m.solid old) (m.solid new) other image a.0 (let e = a.1 in omega arith) left)

pub returns-clause-any_moment : goal.returns-clause-any_moment
returns-clause-any_moment g c tells =
    let m = g.D.Store in
    let old = c.args.store.now in
    let name = c.args.name.now in
    let bytes = c.args.bytes.now in
    let mid = c.append.new.self in
    let new = c.sync.new.self in
    let a = c.append.ensures.appends tells in
    let tells' = c.append.ensures.told ∙ tells in
    let s = c.sync.ensures.syncs tells' in
    let P = IsReached (m.solid old name) (bytes_in (m.file old name)) bytes in
    let first = goes_on m.moment m.left_since name old old mid (m.file mid) (m.solid mid) P
    (begins m.moment m.left_since name old P (λ image left. reached_before (m.solid old name) (bytes_in (m.file old name)) bytes image (g.met.D.Store.only_now old name image tells left)))
    (c.append.ensures.time tells)
    (λ image left. reached_after (m.solid old name) (m.solid mid name) a.part.0 (bytes_in (m.file old name)) bytes (bytes_in (m.file mid name)) image a.part.1 (let e = a.solid_stays in omega arith) left) in
    goes_on m.moment m.left_since name old mid new (m.file new) (m.solid new) P first (c.sync.ensures.time tells')
    (λ image left. reached_after (m.solid old name) (m.solid new name) a.part.0 (bytes_in (m.file old name)) bytes (bytes_in (m.file new name)) image (ap bytes_in s.same ∙ a.part.1) (let e = a.solid_stays in let f = s.no_less in omega arith) left)

pub returns-clause-quiet : goal.returns-clause-quiet
returns-clause-quiet g c tells other apart =
    let m = g.D.Store in
    let old = c.args.store.now in
    let mid = c.append.new.self in
    let new = c.sync.new.self in
    let a = (c.append.ensures.appends tells).others other apart in
    let tells' = c.append.ensures.told ∙ tells in
    let s = (c.sync.ensures.syncs tells').others other apart in
    let P = Leaves (m.file old) (m.solid old) other in
    let first = goes_on m.moment m.left_since other old old mid (m.file mid) (m.solid mid) P
    (begins m.moment m.left_since other old P (λ image left. g.met.D.Store.only_now old other image tells left))
    (c.append.ensures.time tells)
    (λ image left. leaves_fewer (m.file old) (m.file mid) (m.solid old) (m.solid mid) other image a.0 (let e = a.1 in omega arith) left) in
    goes_on m.moment m.left_since other old mid new (m.file new) (m.solid new) P first (c.sync.ensures.time tells')
    (λ image left. leaves_fewer (m.file old) (m.file new) (m.solid old) (m.solid new) other image (s.0 ∙ a.0) (let e = a.1 in let f = s.1 in omega arith) left)
