use Rattle.std.proofs.Common.{◌∙◌, arith}
use Rattle.pool_store.proofs.Moments.{keeps_both, keeps_call, keeps_sync}
use Rattle.pool_store.proofs.read.read_solid.Goals as goal

pub returns-in-Err-clause-keeps : goal.returns-in-Err-clause-keeps
returns-in-Err-clause-keeps g c tells =
    let m = g.D.Store in
    let old = c.args.store.now in
    let name = c.args.name.now in
    keeps_sync m.file m.solid m.moment m.left_since name old c.sync.new.self c.sync.result (λ image left. g.met.D.Store.only_now old name image tells left) (c.sync.ensures.syncs tells) (c.sync.ensures.time tells)

pub returns-in-Ok-clause-keeps : goal.returns-in-Ok-clause-keeps
returns-in-Ok-clause-keeps g c tells =
    let m = g.D.Store in
    let old = c.args.store.now in
    let mid = c.sync.new.self in
    let name = c.args.name.now in
    let s = c.sync.ensures in
    keeps_both m.file m.solid m.moment m.left_since name old mid c.read_whole.new.store
    (keeps_sync m.file m.solid m.moment m.left_since name old mid c.sync.result (λ image left. g.met.D.Store.only_now old name image tells left) (s.syncs tells) (s.time tells)) (c.read_whole.ensures.keeps (s.told ∙ tells) name)

pub returns-in-Err-clause-quiet : goal.returns-in-Err-clause-quiet
returns-in-Err-clause-quiet g c tells other apart =
    let m = g.D.Store in
    let old = c.args.store.now in
    let same = (c.sync.ensures.syncs tells).others other apart in
    (keeps_call m.file m.solid m.moment m.left_since other old c.sync.new.self (λ image left. g.met.D.Store.only_now old other image tells left) same.0 (let e = same.1 in omega arith) (c.sync.ensures.time tells)).quiet

pub returns-in-Ok-clause-quiet : goal.returns-in-Ok-clause-quiet
returns-in-Ok-clause-quiet g c tells other apart =
    let m = g.D.Store in
    let old = c.args.store.now in
    let mid = c.sync.new.self in
    let s = c.sync.ensures in
    let same = (s.syncs tells).others other apart in
    (keeps_both m.file m.solid m.moment m.left_since other old mid c.read_whole.new.store
    (keeps_call m.file m.solid m.moment m.left_since other old mid (λ image left. g.met.D.Store.only_now old other image tells left) same.0 (let e = same.1 in omega arith) (s.time tells)) (c.read_whole.ensures.keeps (s.told ∙ tells) other)).quiet
