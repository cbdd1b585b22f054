use Rattle.std.proofs.Common.{◌≡◌, ◌∙◌, inl, ◌++◌, ◌∷◌, [], List, length, ℕ, Option, Some, None, Ok, true, ap, sym, subst, refl}
use Rattle.pool_outer.specs.Files.{bytes_in, Leaves}
use Rattle.receipt_roll.specs.Values.{RollMark, ReceiptValue}
use Rattle.queue_tx.specs.Operations.{Operation}
use Rattle.queue_tx.specs.Queues.{KeyedAds, queue_after, with_changes}
use Rattle.queue_log.specs.declared.log.Halt.{Halt}
use Rattle.queue_log.specs.Logs.{IsWhole, KeepsLog, StandsForEitherQueue}
use Rattle.queue_log.specs.Stands.{IsBeforeOrAfter}
use Rattle.pool_store.proofs.Moments.{begins, weaker}
use Rattle.queue_log.proofs.Queues.{whole_either, whole_stands}
use Rattle.queue_log.proofs.Settled.{log_image}
use Rattle.queue_log.proofs.log.Log.append.Goals as goal

kept_whole : (halt : Option Halt) (list : List (List Operation)) (queue : KeyedAds) (bytes : List ℕ) (solid : ℕ) → halt ≡ None → KeepsLog halt list queue bytes solid → IsWhole list queue bytes solid
kept_whole None list queue bytes solid e k = k
kept_whole (Some h) list queue bytes solid e k = absurd (cc e)

pub invariant_of-self-in-Err : goal.invariant_of-self-in-Err
invariant_of-self-in-Err g c =
    let m = g.D.Store in
    let me = c.self.inside in
    let n = me.name in
    let n' = c.as_str.result.now in
    let named : n' ≡ n = c.as_str.ensures in
    let old = me.store in
    let new = c.write_tx.new.store in
    let after = with_changes me.logged.queue c.in_ok-ready.ready.changes in
    let done : queue_after me.logged.queue c.args.tx ≡ Ok after = c.in_ok-ready.ensures.ready.done in
    rw (← named, c.prepare.ensures.list, c.prepare.ensures.queue) (
      c.write_tx.ensures.known n' (subst (λ z. m.known old z ≡ true) (sym named) c.self.invariant.0),
      λ tells.
          let tells' : m.tells old ≡ true = sym c.write_tx.ensures.told ∙ tells in
          let w : IsWhole me.logged.list me.logged.queue (bytes_in (m.file old n')) (m.solid old n') =
          subst (λ z. IsWhole me.logged.list me.logged.queue (bytes_in (m.file old z)) (m.solid old z)) (sym named)
          (kept_whole me.halt me.logged.list me.logged.queue (bytes_in (m.file old n)) (m.solid old n) c.in_default.is (c.self.invariant.1 tells')) in
          c.write_tx.ensures.torn tells' me.logged.list me.logged.queue after w done,
    )

pub returns-in-Err-clause-any_moment : goal.returns-in-Err-clause-any_moment
returns-in-Err-clause-any_moment g c none tells =
    let m = g.D.Store in
    let me = c.self.inside in
    let n = me.name in
    let n' = c.as_str.result.now in
    let named : n' ≡ n = c.as_str.ensures in
    let old = me.store in
    let after = with_changes me.logged.queue c.in_ok-ready.ready.changes in
    let done : queue_after me.logged.queue c.args.tx ≡ Ok after = c.in_ok-ready.ensures.ready.done in
    let tells' : m.tells old ≡ true = ap (λ v. m.tells v.store) c.self.view_is ∙ tells in
    let w : IsWhole me.logged.list me.logged.queue (bytes_in (m.file old n')) (m.solid old n') =
    subst (λ z. IsWhole me.logged.list me.logged.queue (bytes_in (m.file old z)) (m.solid old z)) (sym named)
    (kept_whole me.halt me.logged.list me.logged.queue (bytes_in (m.file old n)) (m.solid old n) c.in_default.is (c.self.invariant.1 tells')) in
    rw (← c.self.view_is, ← named) (c.write_tx.ensures.any_moment tells' me.logged.list me.logged.queue after w done)

pub returns-clause-any_moment : goal.returns-clause-any_moment
returns-clause-any_moment g c none tells =
    let m = g.D.Store in
    let me = c.self.inside in
    let n = me.name in
    let n' = c.as_str.result.now in
    let named : n' ≡ n = c.as_str.ensures in
    let old = me.store in
    let after = with_changes me.logged.queue c.in_ok-ready.ready.changes in
    let done : queue_after me.logged.queue c.args.tx ≡ Ok after = c.in_ok-ready.ensures.ready.done in
    let tells' : m.tells old ≡ true = ap (λ v. m.tells v.store) c.self.view_is ∙ tells in
    let w : IsWhole me.logged.list me.logged.queue (bytes_in (m.file old n')) (m.solid old n') =
    subst (λ z. IsWhole me.logged.list me.logged.queue (bytes_in (m.file old z)) (m.solid old z)) (sym named)
    (kept_whole me.halt me.logged.list me.logged.queue (bytes_in (m.file old n)) (m.solid old n) c.in_default.is (c.self.invariant.1 tells')) in
    rw (← c.self.view_is, ← named) (c.write_tx.ensures.any_moment tells' me.logged.list me.logged.queue after w done)

pub returns-clause-durable : goal.returns-clause-durable
returns-clause-durable g c tells image left =
    let m = g.D.Store in
    let me = c.self.inside in
    let n = me.name in
    let n' = c.as_str.result.now in
    let named : n' ≡ n = c.as_str.ensures in
    let old = me.store in
    let new = c.write_tx.new.store in
    let tx = c.args.tx in
    let after = with_changes me.logged.queue c.in_ok-ready.ready.changes in
    let done : queue_after me.logged.queue tx ≡ Ok after = c.in_ok-ready.ensures.ready.done in
    let tells' : m.tells old ≡ true = ap (λ v. m.tells v.store) c.self.view_is ∙ tells in
    let w : IsWhole me.logged.list me.logged.queue (bytes_in (m.file old n')) (m.solid old n') =
    subst (λ z. IsWhole me.logged.list me.logged.queue (bytes_in (m.file old z)) (m.solid old z)) (sym named)
    (kept_whole me.halt me.logged.list me.logged.queue (bytes_in (m.file old n)) (m.solid old n) c.in_default.is (c.self.invariant.1 tells')) in
    let whole : IsWhole (me.logged.list ++ tx ∷ []) after (bytes_in (m.file new n')) (m.solid new n') = c.in_default-write_tx.ensures.whole tells' me.logged.list me.logged.queue after w done in
    rw (c.commit.ensures.list, c.prepare.ensures.list)
    (log_image None (me.logged.list ++ tx ∷ []) after (bytes_in (m.file new n')) image (m.solid new n') whole (subst (λ z. Leaves (m.file new) (m.solid new) z image) (sym named) left))

not_halted : (halt : Option Halt) (h : Halt) → halt ≡ None → halt ≡ Some h → ⊥
not_halted halt h none some = let clash : None ≡ Some h = sym none ∙ some in cc clash

pub returns-in_err-ready-clause-halted : goal.returns-in_err-ready-clause-halted
returns-in_err-ready-clause-halted g c halt is = absurd (not_halted c.args.self.now.halt halt (sym (ap (λ v. v.halt) c.self.view_is) ∙ c.in_default.is) is)

pub returns-in-Err-clause-halted : goal.returns-in-Err-clause-halted
returns-in-Err-clause-halted g c halt is = absurd (not_halted c.args.self.now.halt halt (sym (ap (λ v. v.halt) c.self.view_is) ∙ c.in_default.is) is)

pub returns-clause-halted : goal.returns-clause-halted
returns-clause-halted g c halt is = absurd (not_halted c.args.self.now.halt halt (sym (ap (λ v. v.halt) c.self.view_is) ∙ c.in_default.is) is)

pub returns-in-Err-clause-told : goal.returns-in-Err-clause-told
returns-in-Err-clause-told g c = c.write_tx.ensures.told ∙ ap (λ v. g.D.Store.tells v.store) c.self.view_is

pub returns-clause-told : goal.returns-clause-told
returns-clause-told g c = c.write_tx.ensures.told ∙ ap (λ v. g.D.Store.tells v.store) c.self.view_is

pub returns-clause-appended : goal.returns-clause-appended
returns-clause-appended g c =
    let view = c.self.view_is in
    let tx = c.args.tx in
    let kept = c.prepare.ensures in
    let done = c.commit.ensures in
    record {
      listed = done.list ∙ ap (λ (l : List (List Operation)). l ++ tx ∷ []) (kept.list ∙ ap (λ v. v.list) view);
      queued = ap (λ (q : KeyedAds). queue_after q tx) (sym (kept.queue ∙ ap (λ v. v.queue) view)) ∙ done.queue;
      same_roll = done.mark ∙ kept.mark ∙ ap (λ v. v.mark) view;
      same_file = (ap (λ v. v.name) view, ap (λ v. v.sequence) view);
      goes_on = c.in_default.is;
    }

pub returns-in_err-ready-clause-any_moment : goal.returns-in_err-ready-clause-any_moment
returns-in_err-ready-clause-any_moment g c none tells =
    let m = g.D.Store in
    let me = c.self.inside in
    let n = me.name in
    let old = me.store in
    let tells' : m.tells old ≡ true = ap (λ v. m.tells v.store) c.self.view_is ∙ tells in
    let w : IsWhole me.logged.list me.logged.queue (bytes_in (m.file old n)) (m.solid old n) =
    kept_whole me.halt me.logged.list me.logged.queue (bytes_in (m.file old n)) (m.solid old n) c.in_default.is (c.self.invariant.1 tells') in
    rw (← c.self.view_is)
    (begins m.moment m.left_since n old (IsBeforeOrAfter me.logged.list c.args.tx)
    (λ image left. inl (log_image None me.logged.list me.logged.queue (bytes_in (m.file old n)) image (m.solid old n) w (g.met.D.Store.only_now old n image tells' left))))

-- the log goes on with the transaction that was written
whole_kept : (halt : Option Halt) (list list' now : List (List Operation)) (queue queue' after next : KeyedAds) (tx : List Operation) (bytes : List ℕ) (solid : ℕ) → halt ≡ None → IsWhole (list ++ tx ∷ []) after bytes solid → queue_after queue tx ≡ Ok after
    → list' ≡ list → queue' ≡ queue → now ≡ list' ++ tx ∷ [] → queue_after queue' tx ≡ Ok next → KeepsLog halt now next bytes solid
whole_kept None list list' now queue queue' after next tx bytes solid none w done same_list same_queue listed queued =
    let both : Ok after ≡ Ok next = sym done ∙ ap (λ q. queue_after q tx) (sym same_queue) ∙ queued in
    let same : after ≡ next = cc both in
    subst (λ l. IsWhole l next bytes solid) (sym (listed ∙ ap (λ (l : List (List Operation)). l ++ tx ∷ []) same_list)) (subst (λ q. IsWhole (list ++ tx ∷ []) q bytes solid) same w)
whole_kept (Some h) list list' now queue queue' after next tx bytes solid none w done same_list same_queue listed queued = absurd (cc none)

abbrev receipt_with : List (List Operation) → RollMark → List Operation → ReceiptValue (List Operation)
receipt_with list mark tx = record { number = length list; item = tx; mark = mark }

pub invariant_of-self-2 : goal.invariant_of-self-2
invariant_of-self-2 g c =
    let m = g.D.Store in
    let me = c.self.inside in
    let n = me.name in
    let n' = c.as_str.result.now in
    let named : n' ≡ n = c.as_str.ensures in
    let old = me.store in
    let new = c.write_tx.new.store in
    let list = me.logged.list in
    let queue = me.logged.queue in
    let tx = c.args.tx in
    let after = with_changes queue c.in_ok-ready.ready.changes in
    let done : queue_after queue tx ≡ Ok after = c.in_ok-ready.ensures.ready.done in
    let kept = c.prepare.ensures in
    let made = c.commit.ensures in
    rw (← named) (
      c.write_tx.ensures.known n' (subst (λ z. m.known old z ≡ true) (sym named) c.self.invariant.0),
      λ tells.
          let tells' : m.tells old ≡ true = sym c.write_tx.ensures.told ∙ tells in
          let w : IsWhole list queue (bytes_in (m.file old n')) (m.solid old n') =
          subst (λ z. IsWhole list queue (bytes_in (m.file old z)) (m.solid old z)) (sym named)
          (kept_whole me.halt list queue (bytes_in (m.file old n)) (m.solid old n) c.in_default.is (c.self.invariant.1 tells')) in
          whole_kept me.halt list c.prepare.new.self.list c.commit.new.self.list queue c.prepare.new.self.queue after c.commit.new.self.queue tx (bytes_in (m.file new n')) (m.solid new n') c.in_default.is
          (c.in_default-write_tx.ensures.whole tells' list queue after w done) done kept.list kept.queue made.list made.queue,
    )

pub returns-clause-receipt : goal.returns-clause-receipt
returns-clause-receipt g c =
    let tx = c.args.tx in
    let view = c.self.view_is in
    c.commit.ensures.receipt
    ∙ ap (λ l. receipt_with l c.prepare.new.self.mark tx) (c.prepare.ensures.list ∙ ap (λ v. v.list) view)
    ∙ ap (λ k. receipt_with c.args.self.now.list k tx) (c.prepare.ensures.mark ∙ ap (λ v. v.mark) view)

pub returns-in-Err-clause-others : goal.returns-in-Err-clause-others
returns-in-Err-clause-others g c tells =
    let m = g.D.Store in
    let tells' : m.tells c.self.inside.store ≡ true = ap (λ v. m.tells v.store) c.self.view_is ∙ tells in
    let named = c.as_str.ensures in
    rw (← c.self.view_is, ← named) (c.write_tx.ensures.others tells').same

pub returns-in-Err-clause-quiet : goal.returns-in-Err-clause-quiet
returns-in-Err-clause-quiet g c tells =
    let m = g.D.Store in
    let tells' : m.tells c.self.inside.store ≡ true = ap (λ v. m.tells v.store) c.self.view_is ∙ tells in
    let named = c.as_str.ensures in
    rw (← c.self.view_is, ← named) (c.write_tx.ensures.others tells').quiet

pub returns-in-Err-clause-known : goal.returns-in-Err-clause-known
returns-in-Err-clause-known g c = rw (← c.self.view_is) (λ other k. c.write_tx.ensures.known other k)

pub returns-in-Err-clause-later : goal.returns-in-Err-clause-later
returns-in-Err-clause-later g c = rw (← c.self.view_is) c.write_tx.ensures.cause.later

pub returns-clause-others : goal.returns-clause-others
returns-clause-others g c tells =
    let m = g.D.Store in
    let tells' : m.tells c.self.inside.store ≡ true = ap (λ v. m.tells v.store) c.self.view_is ∙ tells in
    let named = c.as_str.ensures in
    rw (← c.self.view_is, ← named) (c.write_tx.ensures.others tells').same

pub returns-clause-quiet : goal.returns-clause-quiet
returns-clause-quiet g c tells =
    let m = g.D.Store in
    let tells' : m.tells c.self.inside.store ≡ true = ap (λ v. m.tells v.store) c.self.view_is ∙ tells in
    let named = c.as_str.ensures in
    rw (← c.self.view_is, ← named) (c.write_tx.ensures.others tells').quiet

pub returns-clause-known : goal.returns-clause-known
returns-clause-known g c = rw (← c.self.view_is) (λ other k. c.write_tx.ensures.known other k)

pub returns-clause-later : goal.returns-clause-later
returns-clause-later g c = rw (← c.self.view_is) c.write_tx.ensures.cause.later

pub returns-clause-steady : goal.returns-clause-steady
returns-clause-steady g c = rw (← c.self.view_is) (c.in_default-write_tx.ensures.cause.quiet refl)

pub returns-in-Err-clause-any_moment_queue : goal.returns-in-Err-clause-any_moment_queue
returns-in-Err-clause-any_moment_queue g c none tells =
    let m = g.D.Store in
    let me = c.self.inside in
    let n = me.name in
    let n' = c.as_str.result.now in
    let named : n' ≡ n = c.as_str.ensures in
    let old = me.store in
    let list = me.logged.list in
    let queue = me.logged.queue in
    let tx = c.args.tx in
    let after = with_changes queue c.in_ok-ready.ready.changes in
    let done : queue_after queue tx ≡ Ok after = c.in_ok-ready.ensures.ready.done in
    let tells' : m.tells old ≡ true = ap (λ v. m.tells v.store) c.self.view_is ∙ tells in
    let w : IsWhole list queue (bytes_in (m.file old n')) (m.solid old n') =
    subst (λ z. IsWhole list queue (bytes_in (m.file old z)) (m.solid old z)) (sym named)
    (kept_whole me.halt list queue (bytes_in (m.file old n)) (m.solid old n) c.in_default.is (c.self.invariant.1 tells')) in
    rw (← c.self.view_is, ← named)
    (weaker m.moment m.left_since n' old c.write_tx.new.store (IsBeforeOrAfter list tx) (StandsForEitherQueue queue tx) (c.write_tx.ensures.any_moment tells' list queue after w done)
    (λ image i. whole_either list queue after tx (bytes_in (m.file old n')) image (m.solid old n') w done i))

pub returns-clause-any_moment_queue : goal.returns-clause-any_moment_queue
returns-clause-any_moment_queue g c none tells =
    let m = g.D.Store in
    let me = c.self.inside in
    let n = me.name in
    let n' = c.as_str.result.now in
    let named : n' ≡ n = c.as_str.ensures in
    let old = me.store in
    let list = me.logged.list in
    let queue = me.logged.queue in
    let tx = c.args.tx in
    let after = with_changes queue c.in_ok-ready.ready.changes in
    let done : queue_after queue tx ≡ Ok after = c.in_ok-ready.ensures.ready.done in
    let tells' : m.tells old ≡ true = ap (λ v. m.tells v.store) c.self.view_is ∙ tells in
    let w : IsWhole list queue (bytes_in (m.file old n')) (m.solid old n') =
    subst (λ z. IsWhole list queue (bytes_in (m.file old z)) (m.solid old z)) (sym named)
    (kept_whole me.halt list queue (bytes_in (m.file old n)) (m.solid old n) c.in_default.is (c.self.invariant.1 tells')) in
    rw (← c.self.view_is, ← named)
    (weaker m.moment m.left_since n' old c.write_tx.new.store (IsBeforeOrAfter list tx) (StandsForEitherQueue queue tx) (c.write_tx.ensures.any_moment tells' list queue after w done)
    (λ image i. whole_either list queue after tx (bytes_in (m.file old n')) image (m.solid old n') w done i))

pub returns-in_err-ready-clause-any_moment_queue : goal.returns-in_err-ready-clause-any_moment_queue
returns-in_err-ready-clause-any_moment_queue g c none tells =
    let m = g.D.Store in
    let me = c.self.inside in
    let n = me.name in
    let old = me.store in
    let list = me.logged.list in
    let queue = me.logged.queue in
    let bytes = bytes_in (m.file old n) in
    let tells' : m.tells old ≡ true = ap (λ v. m.tells v.store) c.self.view_is ∙ tells in
    let w : IsWhole list queue bytes (m.solid old n) = kept_whole me.halt list queue bytes (m.solid old n) c.in_default.is (c.self.invariant.1 tells') in
    rw (← c.self.view_is)
    (begins m.moment m.left_since n old (StandsForEitherQueue queue c.args.tx)
    (λ image left. inl (whole_stands list queue bytes image (m.solid old n) w (log_image None list queue bytes image (m.solid old n) w (g.met.D.Store.only_now old n image tells' left)))))

pub returns-clause-durable_queue : goal.returns-clause-durable_queue
returns-clause-durable_queue g c tells image left =
    let m = g.D.Store in
    let me = c.self.inside in
    let n = me.name in
    let n' = c.as_str.result.now in
    let named : n' ≡ n = c.as_str.ensures in
    let old = me.store in
    let new = c.write_tx.new.store in
    let list = me.logged.list in
    let queue = me.logged.queue in
    let tx = c.args.tx in
    let after = with_changes queue c.in_ok-ready.ready.changes in
    let done : queue_after queue tx ≡ Ok after = c.in_ok-ready.ensures.ready.done in
    let kept = c.prepare.ensures in
    let made = c.commit.ensures in
    let tells' : m.tells old ≡ true = ap (λ v. m.tells v.store) c.self.view_is ∙ tells in
    let bytes = bytes_in (m.file new n') in
    let solid = m.solid new n' in
    let w : IsWhole list queue (bytes_in (m.file old n')) (m.solid old n') =
    subst (λ z. IsWhole list queue (bytes_in (m.file old z)) (m.solid old z)) (sym named)
    (kept_whole me.halt list queue (bytes_in (m.file old n)) (m.solid old n) c.in_default.is (c.self.invariant.1 tells')) in
    let whole : IsWhole c.commit.new.self.list c.commit.new.self.queue bytes solid =
    kept_whole me.halt c.commit.new.self.list c.commit.new.self.queue bytes solid c.in_default.is
    (whole_kept me.halt list c.prepare.new.self.list c.commit.new.self.list queue c.prepare.new.self.queue after c.commit.new.self.queue tx bytes solid c.in_default.is
    (c.in_default-write_tx.ensures.whole tells' list queue after w done) done kept.list kept.queue made.list made.queue) in
    whole_stands c.commit.new.self.list c.commit.new.self.queue bytes image solid whole
    (log_image None c.commit.new.self.list c.commit.new.self.queue bytes image solid whole (subst (λ z. Leaves (m.file new) (m.solid new) z image) (sym named) left))

pub returns-in_err-ready-clause-quiet : goal.returns-in_err-ready-clause-quiet
returns-in_err-ready-clause-quiet g c tells other apart =
    let m = g.D.Store in
    let old = c.self.inside.store in
    let tells' : m.tells old ≡ true = ap (λ v. m.tells v.store) c.self.view_is ∙ tells in
    rw (← c.self.view_is)
    (begins m.moment m.left_since other old (Leaves (m.file old) (m.solid old) other) (λ image left. g.met.D.Store.only_now old other image tells' left))

pub returns-in-Some-clause-quiet : goal.returns-in-Some-clause-quiet
returns-in-Some-clause-quiet g c tells other apart =
    let m = g.D.Store in
    let old = c.self.inside.store in
    let tells' : m.tells old ≡ true = ap (λ v. m.tells v.store) c.self.view_is ∙ tells in
    rw (← c.self.view_is)
    (begins m.moment m.left_since other old (Leaves (m.file old) (m.solid old) other) (λ image left. g.met.D.Store.only_now old other image tells' left))
