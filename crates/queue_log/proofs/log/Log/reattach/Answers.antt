use Rattle.std.proofs.Common.{◌≡◌, ◌∙◌, ◌⊎◌, ◌++◌, ◌∷◌, [], Some, None, true, ap, sym, subst}
use Rattle.pool_outer.specs.Files.{bytes_in, Leaves}
use Rattle.pool_store.proofs.Moments.{weaker}
use Rattle.queue_log.specs.Logs.{IsWhole, KeepsLog, StandsForLog, StandsForLogQueue, StandsForQueue}
use Rattle.queue_log.specs.Reattaching.{IsReattachRefused, IsReread, IsRereadRefused}
use Rattle.queue_log.proofs.Queues.{log_stands, whole_stands}
use Rattle.queue_log.proofs.Reattached.{found_some, goes_on, image_cut, image_kept, kept_on, refused_by, GoesOn}
use Rattle.queue_log.proofs.Settled.{log_image}
use Rattle.queue_log.proofs.log.Log.reattach.Goals as goal

pub returns-in-Err-clause-refused : goal.returns-in-Err-clause-refused
returns-in-Err-clause-refused g c =
    let m = g.D.Store in
    let me = c.self.inside in
    let n = me.name in
    let n' = c.as_str.result.now in
    let named : n' ≡ n = c.as_str.ensures in
    let old = me.store in
    let new = c.reread.new.store in
    let list = me.logged.list in
    let queue = me.logged.queue in
    let e = c.in-Err.error in
    let found : IsRereadRefused me.halt (m.tells old) (bytes_in (m.file old n)) list (m.faults old) (m.faults new) e =
    subst (λ z. IsRereadRefused me.halt (m.tells old) (bytes_in (m.file old z)) list (m.faults old) (m.faults new) e) named c.in-Err.ensures.refused in
    let refused : IsReattachRefused (m.tells old) (bytes_in (m.file old n)) list (m.faults old) (m.faults new) e =
    refused_by me.halt list queue (bytes_in (m.file old n)) (m.solid old n) (m.tells old) (m.faults old) (m.faults new) e c.self.invariant.1 found in
    subst (λ v. IsReattachRefused (m.tells v.store) (bytes_in (m.file v.store v.name)) v.list (m.faults v.store) (m.faults new) e) c.self.view_is refused

pub returns-in-Err-clause-any_moment : goal.returns-in-Err-clause-any_moment
returns-in-Err-clause-any_moment g c tells =
    let m = g.D.Store in
    let me = c.self.inside in
    let n = me.name in
    let n' = c.as_str.result.now in
    let named : n' ≡ n = c.as_str.ensures in
    let old = me.store in
    let new = c.reread.new.store in
    let list = me.logged.list in
    let queue = me.logged.queue in
    let tells' : m.tells old ≡ true = ap (λ v. m.tells v.store) c.self.view_is ∙ tells in
    let keeps : KeepsLog me.halt list queue (bytes_in (m.file old n')) (m.solid old n') =
    subst (λ z. KeepsLog me.halt list queue (bytes_in (m.file old z)) (m.solid old z)) (sym named) (c.self.invariant.1 tells') in
    let e = c.in-Err.ensures in
    let keeps' : KeepsLog me.halt list queue (bytes_in (m.file new n')) (m.solid new n') =
    kept_on me.halt list queue (m.file old n') (m.file new n') (m.solid old n') (m.solid new n') (e.same tells') (e.no_less tells') keeps in
    rw (← c.self.view_is, ← named)
    (weaker m.moment m.left_since n' old new (λ image. Leaves (m.file old) (m.solid old) n' image ⊎ Leaves (m.file new) (m.solid new) n' image) (StandsForLog me.halt list) (e.any_moment tells')
    (λ image i. image_kept me.halt list queue (bytes_in (m.file old n')) (bytes_in (m.file new n')) image (m.solid old n') (m.solid new n') keeps keeps' i))

pub returns-in-Err-clause-uncut : goal.returns-in-Err-clause-uncut
returns-in-Err-clause-uncut g c tells =
    let m = g.D.Store in
    let me = c.self.inside in
    let n' = c.as_str.result.now in
    let named : n' ≡ me.name = c.as_str.ensures in
    let tells' : m.tells me.store ≡ true = ap (λ v. m.tells v.store) c.self.view_is ∙ tells in
    rw (← c.self.view_is, ← named) (ap bytes_in (c.in-Err.ensures.same tells'))

pub invariant_of-self-in-None : goal.invariant_of-self-in-None
invariant_of-self-in-None g c =
    let m = g.D.Store in
    let me = c.self.inside in
    let n = me.name in
    let n' = c.as_str.result.now in
    let named : n' ≡ n = c.as_str.ensures in
    let old = me.store in
    let new = c.reread.new.store in
    let list = me.logged.list in
    let queue = me.logged.queue in
    let e = c.reread.ensures in
    rw (← named, e.list, e.queue) (
      e.known n' (subst (λ z. m.known old z ≡ true) (sym named) c.self.invariant.0),
      λ tells.
          let tells' : m.tells old ≡ true = sym e.told ∙ tells in
          let keeps : KeepsLog me.halt list queue (bytes_in (m.file old n')) (m.solid old n') =
          subst (λ z. KeepsLog me.halt list queue (bytes_in (m.file old z)) (m.solid old z)) (sym named) (c.self.invariant.1 tells') in
          let goes = goes_on me.halt list queue (bytes_in (m.file old n')) (bytes_in (m.file new n')) (m.solid old n') (m.solid new n') c.in-Ok.more keeps (c.in-Ok.ensures.reread tells') in
          let whole : IsWhole list queue (bytes_in (m.file new n')) (m.solid new n') = subst (GoesOn me.halt list queue (bytes_in (m.file new n')) (m.solid new n')) c.in-None.is goes in
          whole,
    )

pub returns-in-Some-clause-found : goal.returns-in-Some-clause-found
returns-in-Some-clause-found g c tells =
    let m = g.D.Store in
    let me = c.self.inside in
    let n = me.name in
    let n' = c.as_str.result.now in
    let named : n' ≡ n = c.as_str.ensures in
    let old = me.store in
    let new = c.reread.new.store in
    let list = me.logged.list in
    let queue = me.logged.queue in
    let tells' : m.tells old ≡ true = ap (λ v. m.tells v.store) c.self.view_is ∙ tells in
    let keeps : KeepsLog me.halt list queue (bytes_in (m.file old n')) (m.solid old n') =
    subst (λ z. KeepsLog me.halt list queue (bytes_in (m.file old z)) (m.solid old z)) (sym named) (c.self.invariant.1 tells') in
    let item : c.take.result.item ≡ c.in-Some.more.tx = ap (λ r. r.item) c.take.ensures.receipt in
    rw (← c.self.view_is, ← named)
    (found_some me.halt list queue (bytes_in (m.file old n')) (bytes_in (m.file new n')) (m.solid old n') (m.solid new n') c.in-Ok.more c.in-Some.more c.take.result keeps (c.in-Ok.ensures.reread tells') c.in-Some.is item)

pub returns-in-Some-clause-any_moment : goal.returns-in-Some-clause-any_moment
returns-in-Some-clause-any_moment g c tells =
    let m = g.D.Store in
    let me = c.self.inside in
    let n = me.name in
    let n' = c.as_str.result.now in
    let named : n' ≡ n = c.as_str.ensures in
    let old = me.store in
    let new = c.reread.new.store in
    let list = me.logged.list in
    let queue = me.logged.queue in
    let tells' : m.tells old ≡ true = ap (λ v. m.tells v.store) c.self.view_is ∙ tells in
    let keeps : KeepsLog me.halt list queue (bytes_in (m.file old n')) (m.solid old n') =
    subst (λ z. KeepsLog me.halt list queue (bytes_in (m.file old z)) (m.solid old z)) (sym named) (c.self.invariant.1 tells') in
    let goes = goes_on me.halt list queue (bytes_in (m.file old n')) (bytes_in (m.file new n')) (m.solid old n') (m.solid new n') c.in-Ok.more keeps (c.in-Ok.ensures.reread tells') in
    rw (← c.self.view_is, ← named)
    (weaker m.moment m.left_since n' old new (λ image. Leaves (m.file old) (m.solid old) n' image ⊎ Leaves (m.file new) (m.solid new) n' image) (StandsForLog me.halt list) (c.in-Ok.ensures.any_moment tells')
    (λ image i. image_cut me.halt list queue (bytes_in (m.file old n')) (bytes_in (m.file new n')) image (m.solid old n') (m.solid new n') c.in-Ok.more keeps goes i))

pub returns-in-None-clause-any_moment : goal.returns-in-None-clause-any_moment
returns-in-None-clause-any_moment g c tells =
    let m = g.D.Store in
    let me = c.self.inside in
    let n = me.name in
    let n' = c.as_str.result.now in
    let named : n' ≡ n = c.as_str.ensures in
    let old = me.store in
    let new = c.reread.new.store in
    let list = me.logged.list in
    let queue = me.logged.queue in
    let tells' : m.tells old ≡ true = ap (λ v. m.tells v.store) c.self.view_is ∙ tells in
    let keeps : KeepsLog me.halt list queue (bytes_in (m.file old n')) (m.solid old n') =
    subst (λ z. KeepsLog me.halt list queue (bytes_in (m.file old z)) (m.solid old z)) (sym named) (c.self.invariant.1 tells') in
    let goes = goes_on me.halt list queue (bytes_in (m.file old n')) (bytes_in (m.file new n')) (m.solid old n') (m.solid new n') c.in-Ok.more keeps (c.in-Ok.ensures.reread tells') in
    rw (← c.self.view_is, ← named)
    (weaker m.moment m.left_since n' old new (λ image. Leaves (m.file old) (m.solid old) n' image ⊎ Leaves (m.file new) (m.solid new) n' image) (StandsForLog me.halt list) (c.in-Ok.ensures.any_moment tells')
    (λ image i. image_cut me.halt list queue (bytes_in (m.file old n')) (bytes_in (m.file new n')) image (m.solid old n') (m.solid new n') c.in-Ok.more keeps goes i))

pub returns-in-Some-clause-durable : goal.returns-in-Some-clause-durable
returns-in-Some-clause-durable g c tells image left =
    let m = g.D.Store in
    let me = c.self.inside in
    let n = me.name in
    let n' = c.as_str.result.now in
    let named : n' ≡ n = c.as_str.ensures in
    let old = me.store in
    let new = c.reread.new.store in
    let list = me.logged.list in
    let queue = me.logged.queue in
    let tells' : m.tells old ≡ true = ap (λ v. m.tells v.store) c.self.view_is ∙ tells in
    let keeps : KeepsLog me.halt list queue (bytes_in (m.file old n')) (m.solid old n') =
    subst (λ z. KeepsLog me.halt list queue (bytes_in (m.file old z)) (m.solid old z)) (sym named) (c.self.invariant.1 tells') in
    let goes = goes_on me.halt list queue (bytes_in (m.file old n')) (bytes_in (m.file new n')) (m.solid old n') (m.solid new n') c.in-Ok.more keeps (c.in-Ok.ensures.reread tells') in
    let both : GoesOn me.halt list queue (bytes_in (m.file new n')) (m.solid new n') (Some c.in-Some.more) = subst (GoesOn me.halt list queue (bytes_in (m.file new n')) (m.solid new n')) c.in-Some.is goes in
    rw (c.take.ensures.list, c.reread.ensures.list)
    (log_image None (list ++ c.in-Some.more.tx ∷ []) c.in-Some.more.queue (bytes_in (m.file new n')) image (m.solid new n') both.0 (subst (λ z. Leaves (m.file new) (m.solid new) z image) (sym named) left))

pub invariant_of-self : goal.invariant_of-self
invariant_of-self g c =
    let m = g.D.Store in
    let me = c.self.inside in
    let n = me.name in
    let n' = c.as_str.result.now in
    let named : n' ≡ n = c.as_str.ensures in
    let old = me.store in
    let new = c.reread.new.store in
    let list = me.logged.list in
    let queue = me.logged.queue in
    let e = c.in-Err.ensures in
    rw (← named, e.list, e.queue) (
      e.known n' (subst (λ z. m.known old z ≡ true) (sym named) c.self.invariant.0),
      λ tells.
          let tells' : m.tells old ≡ true = sym e.told ∙ tells in
          let keeps : KeepsLog me.halt list queue (bytes_in (m.file old n')) (m.solid old n') =
          subst (λ z. KeepsLog me.halt list queue (bytes_in (m.file old z)) (m.solid old z)) (sym named) (c.self.invariant.1 tells') in
          kept_on me.halt list queue (m.file old n') (m.file new n') (m.solid old n') (m.solid new n') (e.same tells') (e.no_less tells') keeps,
    )

pub returns-in-None-clause-durable : goal.returns-in-None-clause-durable
returns-in-None-clause-durable g c tells image left =
    let m = g.D.Store in
    let me = c.self.inside in
    let n = me.name in
    let n' = c.as_str.result.now in
    let named : n' ≡ n = c.as_str.ensures in
    let old = me.store in
    let new = c.reread.new.store in
    let list = me.logged.list in
    let queue = me.logged.queue in
    let tells' : m.tells old ≡ true = ap (λ v. m.tells v.store) c.self.view_is ∙ tells in
    let keeps : KeepsLog me.halt list queue (bytes_in (m.file old n')) (m.solid old n') =
    subst (λ z. KeepsLog me.halt list queue (bytes_in (m.file old z)) (m.solid old z)) (sym named) (c.self.invariant.1 tells') in
    let goes = goes_on me.halt list queue (bytes_in (m.file old n')) (bytes_in (m.file new n')) (m.solid old n') (m.solid new n') c.in-Ok.more keeps (c.in-Ok.ensures.reread tells') in
    let whole : IsWhole list queue (bytes_in (m.file new n')) (m.solid new n') = subst (GoesOn me.halt list queue (bytes_in (m.file new n')) (m.solid new n')) c.in-None.is goes in
    rw c.reread.ensures.list
    (log_image None list queue (bytes_in (m.file new n')) image (m.solid new n') whole (subst (λ z. Leaves (m.file new) (m.solid new) z image) (sym named) left))

pub returns-in-None-clause-found : goal.returns-in-None-clause-found
returns-in-None-clause-found g c tells =
    let m = g.D.Store in
    let me = c.self.inside in
    let n = me.name in
    let n' = c.as_str.result.now in
    let named : n' ≡ n = c.as_str.ensures in
    let old = me.store in
    let new = c.reread.new.store in
    let list = me.logged.list in
    let queue = me.logged.queue in
    let tells' : m.tells old ≡ true = ap (λ v. m.tells v.store) c.self.view_is ∙ tells in
    let r : IsReread list (bytes_in (m.file old n')) (bytes_in (m.file new n')) (m.solid new n') None = subst (IsReread list (bytes_in (m.file old n')) (bytes_in (m.file new n')) (m.solid new n')) c.in-None.is (c.in-Ok.ensures.reread tells') in
    rw (← c.self.view_is, ← named) (record { stands = r.stands; pending = tt; cut = r.cut })

pub returns-in-Err-clause-others : goal.returns-in-Err-clause-others
returns-in-Err-clause-others g c tells =
    let m = g.D.Store in
    let tells' : m.tells c.self.inside.store ≡ true = ap (λ v. m.tells v.store) c.self.view_is ∙ tells in
    let named = c.as_str.ensures in
    rw (← c.self.view_is, ← named) (c.reread.ensures.others tells').same

pub returns-in-Err-clause-quiet : goal.returns-in-Err-clause-quiet
returns-in-Err-clause-quiet g c tells =
    let m = g.D.Store in
    let tells' : m.tells c.self.inside.store ≡ true = ap (λ v. m.tells v.store) c.self.view_is ∙ tells in
    let named = c.as_str.ensures in
    rw (← c.self.view_is, ← named) (c.reread.ensures.others tells').quiet

pub returns-in-Err-clause-known : goal.returns-in-Err-clause-known
returns-in-Err-clause-known g c = rw (← c.self.view_is) (λ other k. c.reread.ensures.known other k)

pub returns-in-Err-clause-later : goal.returns-in-Err-clause-later
returns-in-Err-clause-later g c = rw (← c.self.view_is) c.reread.ensures.later

pub returns-in-Some-clause-others : goal.returns-in-Some-clause-others
returns-in-Some-clause-others g c tells =
    let m = g.D.Store in
    let tells' : m.tells c.self.inside.store ≡ true = ap (λ v. m.tells v.store) c.self.view_is ∙ tells in
    let named = c.as_str.ensures in
    rw (← c.self.view_is, ← named) (c.reread.ensures.others tells').same

pub returns-in-Some-clause-quiet : goal.returns-in-Some-clause-quiet
returns-in-Some-clause-quiet g c tells =
    let m = g.D.Store in
    let tells' : m.tells c.self.inside.store ≡ true = ap (λ v. m.tells v.store) c.self.view_is ∙ tells in
    let named = c.as_str.ensures in
    rw (← c.self.view_is, ← named) (c.reread.ensures.others tells').quiet

pub returns-in-Some-clause-known : goal.returns-in-Some-clause-known
returns-in-Some-clause-known g c = rw (← c.self.view_is) (λ other k. c.reread.ensures.known other k)

pub returns-in-Some-clause-later : goal.returns-in-Some-clause-later
returns-in-Some-clause-later g c = rw (← c.self.view_is) c.reread.ensures.later

pub returns-in-None-clause-others : goal.returns-in-None-clause-others
returns-in-None-clause-others g c tells =
    let m = g.D.Store in
    let tells' : m.tells c.self.inside.store ≡ true = ap (λ v. m.tells v.store) c.self.view_is ∙ tells in
    let named = c.as_str.ensures in
    rw (← c.self.view_is, ← named) (c.reread.ensures.others tells').same

pub returns-in-None-clause-quiet : goal.returns-in-None-clause-quiet
returns-in-None-clause-quiet g c tells =
    let m = g.D.Store in
    let tells' : m.tells c.self.inside.store ≡ true = ap (λ v. m.tells v.store) c.self.view_is ∙ tells in
    let named = c.as_str.ensures in
    rw (← c.self.view_is, ← named) (c.reread.ensures.others tells').quiet

pub returns-in-None-clause-known : goal.returns-in-None-clause-known
returns-in-None-clause-known g c = rw (← c.self.view_is) (λ other k. c.reread.ensures.known other k)

pub returns-in-None-clause-later : goal.returns-in-None-clause-later
returns-in-None-clause-later g c = rw (← c.self.view_is) c.reread.ensures.later

pub returns-in-Some-clause-steady : goal.returns-in-Some-clause-steady
returns-in-Some-clause-steady g c = rw (← c.self.view_is) c.in-Ok.ensures.steady

pub returns-in-None-clause-steady : goal.returns-in-None-clause-steady
returns-in-None-clause-steady g c = rw (← c.self.view_is) c.in-Ok.ensures.steady

pub returns-in-Some-clause-any_moment_queue : goal.returns-in-Some-clause-any_moment_queue
returns-in-Some-clause-any_moment_queue g c tells =
    let m = g.D.Store in
    let me = c.self.inside in
    let n = me.name in
    let n' = c.as_str.result.now in
    let named : n' ≡ n = c.as_str.ensures in
    let old = me.store in
    let new = c.reread.new.store in
    let list = me.logged.list in
    let queue = me.logged.queue in
    let tells' : m.tells old ≡ true = ap (λ v. m.tells v.store) c.self.view_is ∙ tells in
    let keeps : KeepsLog me.halt list queue (bytes_in (m.file old n')) (m.solid old n') =
    subst (λ z. KeepsLog me.halt list queue (bytes_in (m.file old z)) (m.solid old z)) (sym named) (c.self.invariant.1 tells') in
    let goes = goes_on me.halt list queue (bytes_in (m.file old n')) (bytes_in (m.file new n')) (m.solid old n') (m.solid new n') c.in-Ok.more keeps (c.in-Ok.ensures.reread tells') in
    rw (← c.self.view_is, ← named)
    (weaker m.moment m.left_since n' old new (λ image. Leaves (m.file old) (m.solid old) n' image ⊎ Leaves (m.file new) (m.solid new) n' image) (StandsForLogQueue me.halt queue) (c.in-Ok.ensures.any_moment tells')
    (λ image i. log_stands me.halt list queue (bytes_in (m.file old n')) image (m.solid old n') keeps
    (image_cut me.halt list queue (bytes_in (m.file old n')) (bytes_in (m.file new n')) image (m.solid old n') (m.solid new n') c.in-Ok.more keeps goes i)))

pub returns-in-None-clause-any_moment_queue : goal.returns-in-None-clause-any_moment_queue
returns-in-None-clause-any_moment_queue g c tells =
    let m = g.D.Store in
    let me = c.self.inside in
    let n = me.name in
    let n' = c.as_str.result.now in
    let named : n' ≡ n = c.as_str.ensures in
    let old = me.store in
    let new = c.reread.new.store in
    let list = me.logged.list in
    let queue = me.logged.queue in
    let tells' : m.tells old ≡ true = ap (λ v. m.tells v.store) c.self.view_is ∙ tells in
    let keeps : KeepsLog me.halt list queue (bytes_in (m.file old n')) (m.solid old n') =
    subst (λ z. KeepsLog me.halt list queue (bytes_in (m.file old z)) (m.solid old z)) (sym named) (c.self.invariant.1 tells') in
    let goes = goes_on me.halt list queue (bytes_in (m.file old n')) (bytes_in (m.file new n')) (m.solid old n') (m.solid new n') c.in-Ok.more keeps (c.in-Ok.ensures.reread tells') in
    rw (← c.self.view_is, ← named)
    (weaker m.moment m.left_since n' old new (λ image. Leaves (m.file old) (m.solid old) n' image ⊎ Leaves (m.file new) (m.solid new) n' image) (StandsForLogQueue me.halt queue) (c.in-Ok.ensures.any_moment tells')
    (λ image i. log_stands me.halt list queue (bytes_in (m.file old n')) image (m.solid old n') keeps
    (image_cut me.halt list queue (bytes_in (m.file old n')) (bytes_in (m.file new n')) image (m.solid old n') (m.solid new n') c.in-Ok.more keeps goes i)))

pub returns-in-Err-clause-any_moment_queue : goal.returns-in-Err-clause-any_moment_queue
returns-in-Err-clause-any_moment_queue g c tells =
    let m = g.D.Store in
    let me = c.self.inside in
    let n = me.name in
    let n' = c.as_str.result.now in
    let named : n' ≡ n = c.as_str.ensures in
    let old = me.store in
    let new = c.reread.new.store in
    let list = me.logged.list in
    let queue = me.logged.queue in
    let tells' : m.tells old ≡ true = ap (λ v. m.tells v.store) c.self.view_is ∙ tells in
    let keeps : KeepsLog me.halt list queue (bytes_in (m.file old n')) (m.solid old n') =
    subst (λ z. KeepsLog me.halt list queue (bytes_in (m.file old z)) (m.solid old z)) (sym named) (c.self.invariant.1 tells') in
    let e = c.in-Err.ensures in
    let keeps' : KeepsLog me.halt list queue (bytes_in (m.file new n')) (m.solid new n') =
    kept_on me.halt list queue (m.file old n') (m.file new n') (m.solid old n') (m.solid new n') (e.same tells') (e.no_less tells') keeps in
    rw (← c.self.view_is, ← named)
    (weaker m.moment m.left_since n' old new (λ image. Leaves (m.file old) (m.solid old) n' image ⊎ Leaves (m.file new) (m.solid new) n' image) (StandsForLogQueue me.halt queue) (e.any_moment tells')
    (λ image i. log_stands me.halt list queue (bytes_in (m.file old n')) image (m.solid old n') keeps
    (image_kept me.halt list queue (bytes_in (m.file old n')) (bytes_in (m.file new n')) image (m.solid old n') (m.solid new n') keeps keeps' i)))

pub returns-in-Some-clause-durable_queue : goal.returns-in-Some-clause-durable_queue
returns-in-Some-clause-durable_queue g c tells image left =
    let m = g.D.Store in
    let me = c.self.inside in
    let n = me.name in
    let n' = c.as_str.result.now in
    let named : n' ≡ n = c.as_str.ensures in
    let old = me.store in
    let new = c.reread.new.store in
    let list = me.logged.list in
    let queue = me.logged.queue in
    let tells' : m.tells old ≡ true = ap (λ v. m.tells v.store) c.self.view_is ∙ tells in
    let keeps : KeepsLog me.halt list queue (bytes_in (m.file old n')) (m.solid old n') =
    subst (λ z. KeepsLog me.halt list queue (bytes_in (m.file old z)) (m.solid old z)) (sym named) (c.self.invariant.1 tells') in
    let goes = goes_on me.halt list queue (bytes_in (m.file old n')) (bytes_in (m.file new n')) (m.solid old n') (m.solid new n') c.in-Ok.more keeps (c.in-Ok.ensures.reread tells') in
    let both : GoesOn me.halt list queue (bytes_in (m.file new n')) (m.solid new n') (Some c.in-Some.more) = subst (GoesOn me.halt list queue (bytes_in (m.file new n')) (m.solid new n')) c.in-Some.is goes in
    rw c.take.ensures.queue
    (whole_stands (list ++ c.in-Some.more.tx ∷ []) c.in-Some.more.queue (bytes_in (m.file new n')) image (m.solid new n') both.0
    (log_image None (list ++ c.in-Some.more.tx ∷ []) c.in-Some.more.queue (bytes_in (m.file new n')) image (m.solid new n') both.0 (subst (λ z. Leaves (m.file new) (m.solid new) z image) (sym named) left)))

pub returns-in-None-clause-durable_queue : goal.returns-in-None-clause-durable_queue
returns-in-None-clause-durable_queue g c tells image left =
    let m = g.D.Store in
    let me = c.self.inside in
    let n = me.name in
    let n' = c.as_str.result.now in
    let named : n' ≡ n = c.as_str.ensures in
    let old = me.store in
    let new = c.reread.new.store in
    let list = me.logged.list in
    let queue = me.logged.queue in
    let tells' : m.tells old ≡ true = ap (λ v. m.tells v.store) c.self.view_is ∙ tells in
    let keeps : KeepsLog me.halt list queue (bytes_in (m.file old n')) (m.solid old n') =
    subst (λ z. KeepsLog me.halt list queue (bytes_in (m.file old z)) (m.solid old z)) (sym named) (c.self.invariant.1 tells') in
    let goes = goes_on me.halt list queue (bytes_in (m.file old n')) (bytes_in (m.file new n')) (m.solid old n') (m.solid new n') c.in-Ok.more keeps (c.in-Ok.ensures.reread tells') in
    let whole : IsWhole list queue (bytes_in (m.file new n')) (m.solid new n') = subst (GoesOn me.halt list queue (bytes_in (m.file new n')) (m.solid new n')) c.in-None.is goes in
    rw c.reread.ensures.queue
    (whole_stands list queue (bytes_in (m.file new n')) image (m.solid new n') whole
    (log_image None list queue (bytes_in (m.file new n')) image (m.solid new n') whole (subst (λ z. Leaves (m.file new) (m.solid new) z image) (sym named) left)))

pub returns-in-Some-clause-found_queue : goal.returns-in-Some-clause-found_queue
returns-in-Some-clause-found_queue g c tells =
    let m = g.D.Store in
    let me = c.self.inside in
    let n = me.name in
    let n' = c.as_str.result.now in
    let named : n' ≡ n = c.as_str.ensures in
    let old = me.store in
    let new = c.reread.new.store in
    let list = me.logged.list in
    let queue = me.logged.queue in
    let tells' : m.tells old ≡ true = ap (λ v. m.tells v.store) c.self.view_is ∙ tells in
    let keeps : KeepsLog me.halt list queue (bytes_in (m.file old n')) (m.solid old n') =
    subst (λ z. KeepsLog me.halt list queue (bytes_in (m.file old z)) (m.solid old z)) (sym named) (c.self.invariant.1 tells') in
    let goes = goes_on me.halt list queue (bytes_in (m.file old n')) (bytes_in (m.file new n')) (m.solid old n') (m.solid new n') c.in-Ok.more keeps (c.in-Ok.ensures.reread tells') in
    let both : GoesOn me.halt list queue (bytes_in (m.file new n')) (m.solid new n') (Some c.in-Some.more) = subst (GoesOn me.halt list queue (bytes_in (m.file new n')) (m.solid new n')) c.in-Some.is goes in
    let r : IsReread list (bytes_in (m.file old n')) (bytes_in (m.file new n')) (m.solid new n') (Some c.in-Some.more) = subst (IsReread list (bytes_in (m.file old n')) (bytes_in (m.file new n')) (m.solid new n')) c.in-Some.is (c.in-Ok.ensures.reread tells') in
    rw (← c.self.view_is, ← named, c.take.ensures.queue)
    (whole_stands (list ++ c.in-Some.more.tx ∷ []) c.in-Some.more.queue (bytes_in (m.file new n')) (bytes_in (m.file old n')) (m.solid new n') both.0 r.stands)

pub returns-in-None-clause-found_queue : goal.returns-in-None-clause-found_queue
returns-in-None-clause-found_queue g c tells =
    let m = g.D.Store in
    let me = c.self.inside in
    let n = me.name in
    let n' = c.as_str.result.now in
    let named : n' ≡ n = c.as_str.ensures in
    let old = me.store in
    let new = c.reread.new.store in
    let list = me.logged.list in
    let queue = me.logged.queue in
    let tells' : m.tells old ≡ true = ap (λ v. m.tells v.store) c.self.view_is ∙ tells in
    let keeps : KeepsLog me.halt list queue (bytes_in (m.file old n')) (m.solid old n') =
    subst (λ z. KeepsLog me.halt list queue (bytes_in (m.file old z)) (m.solid old z)) (sym named) (c.self.invariant.1 tells') in
    let goes = goes_on me.halt list queue (bytes_in (m.file old n')) (bytes_in (m.file new n')) (m.solid old n') (m.solid new n') c.in-Ok.more keeps (c.in-Ok.ensures.reread tells') in
    let whole : IsWhole list queue (bytes_in (m.file new n')) (m.solid new n') = subst (GoesOn me.halt list queue (bytes_in (m.file new n')) (m.solid new n')) c.in-None.is goes in
    let r : IsReread list (bytes_in (m.file old n')) (bytes_in (m.file new n')) (m.solid new n') None = subst (IsReread list (bytes_in (m.file old n')) (bytes_in (m.file new n')) (m.solid new n')) c.in-None.is (c.in-Ok.ensures.reread tells') in
    rw (← c.self.view_is, ← named, c.reread.ensures.queue)
    (whole_stands list queue (bytes_in (m.file new n')) (bytes_in (m.file old n')) (m.solid new n') whole r.stands)
