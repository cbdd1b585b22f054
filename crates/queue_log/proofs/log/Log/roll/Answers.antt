use Rattle.std.proofs.Common.{◌≡◌, ◌∙◌, true, ap, sym, subst}
use Rattle.pool_outer.specs.Files.{bytes_in, Leaves}
use Rattle.queue_log.specs.Logs.{StandsForLog, StandsForLogQueue}
use Rattle.queue_log.proofs.Queues.{log_stands}
use Rattle.queue_log.proofs.Settled.{log_image}
use Rattle.queue_log.proofs.log.Log.roll.Goals as goal

pub returns-clause-images : goal.returns-clause-images
returns-clause-images g c tells image left =
    let m = g.D.Store in
    let me = c.self.inside in
    let tells' : m.tells me.store ≡ true = ap (λ v. m.tells v.store) c.self.view_is ∙ tells in
    let left' : Leaves (m.file me.store) (m.solid me.store) me.name image = subst (λ v. Leaves (m.file v.store) (m.solid v.store) v.name image) (sym c.self.view_is) left in
    let stands : StandsForLog me.halt me.logged.list image = log_image me.halt me.logged.list me.logged.queue (bytes_in (m.file me.store me.name)) image (m.solid me.store me.name) (c.self.invariant.1 tells') left' in
    subst (λ v. StandsForLog v.halt v.list image) c.self.view_is stands

pub returns-clause-images_queue : goal.returns-clause-images_queue
returns-clause-images_queue g c tells image left =
    let m = g.D.Store in
    let me = c.self.inside in
    let bytes = bytes_in (m.file me.store me.name) in
    let solid = m.solid me.store me.name in
    let keeps = c.self.invariant.1 (ap (λ v. m.tells v.store) c.self.view_is ∙ tells) in
    let left' : Leaves (m.file me.store) (m.solid me.store) me.name image = subst (λ v. Leaves (m.file v.store) (m.solid v.store) v.name image) (sym c.self.view_is) left in
    let stands : StandsForLogQueue me.halt me.logged.queue image = log_stands me.halt me.logged.list me.logged.queue bytes image solid keeps
    (log_image me.halt me.logged.list me.logged.queue bytes image solid keeps left') in
    subst (λ v. StandsForLogQueue v.halt v.queue image) c.self.view_is stands
