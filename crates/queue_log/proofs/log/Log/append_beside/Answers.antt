use Rattle.std.proofs.Common.{◌≡◌, ◌∙◌, true, ap, sym}
use Rattle.pool_outer.specs.Files.{bytes_in}
use Rattle.queue_log.proofs.Settled.{all_solid}
use Rattle.queue_log.proofs.log.Log.append_beside.Goals as goal
use Rattle.queue_log.proofs.log.Log.append_beside.Goals.{in-Ok, in-Err}

pub returns-clause-quiet : goal.returns-clause-quiet
returns-clause-quiet g c tells =
    let m = g.D.Store in
    let tells' : m.tells c.self.inside.store ≡ true = ap (λ v. m.tells v.store) c.self.view_is ∙ tells in
    rw (← c.self.view_is) (c.append_solid.ensures.quiet tells')

pub returns-clause-durable : goal.returns-clause-durable
returns-clause-durable g c tells =
    let m = g.D.Store in
    let me = c.self.inside in
    let n = c.args.name.now in
    let old = me.store in
    let new = c.append_solid.new.store in
    let tells' : m.tells old ≡ true = ap (λ v. m.tells v.store) c.self.view_is ∙ tells in
    rw (← c.self.view_is)
    (elim c.match-append_solid.branch [
      | in-Ok w ↦ rw w.result-is (λ image left. all_solid (bytes_in (m.file old n)) c.args.bytes.now image (m.file new n) (m.solid new n) (w.in-Ok.ensures.added tells') (w.in-Ok.ensures.solid tells') left)
      | in-Err w ↦ rw w.result-is tt
    ])

pub returns-clause-part : goal.returns-clause-part
returns-clause-part g c tells =
    let m = g.D.Store in
    let tells' : m.tells c.self.inside.store ≡ true = ap (λ v. m.tells v.store) c.self.view_is ∙ tells in
    rw (← c.self.view_is) (c.append_solid.ensures.part tells')

pub returns-clause-any_moment : goal.returns-clause-any_moment
returns-clause-any_moment g c tells =
    let m = g.D.Store in
    let tells' : m.tells c.self.inside.store ≡ true = ap (λ v. m.tells v.store) c.self.view_is ∙ tells in
    rw (← c.self.view_is) (c.append_solid.ensures.any_moment tells')
