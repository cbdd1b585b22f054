use Rattle.std.proofs.Common.{◌≡◌, ◌++◌, ◌∷◌, [], Ok, OnOk, ap, sym, subst}
use Rattle.queue_tx.specs.Queues.{queue_after, with_changes}
use Rattle.queue_record.proofs.LogLemmas.{applies_push}
use Rattle.queue_log.specs.Logged.{IsLogged}
use Rattle.queue_log.proofs.Writings.{printed_puts, writable_after}
use Rattle.queue_log.proofs.logged.Logged.commit.Goals as goal

pub invariant_of-self : goal.invariant_of-self
invariant_of-self c =
    let me = c.self.inside in
    let tx = c.args.tx in
    let r = c.requires.ready in
    let inv = c.self.invariant in
    let done : queue_after me.queue tx ≡ Ok (with_changes me.queue c.args.ready.changes) =
    subst (λ v. queue_after v.queue tx ≡ Ok (with_changes v.queue c.args.ready.changes)) (sym c.self.view_is) r.done in
    let list : c.append.new.self.list ≡ me.roll.list ++ tx ∷ [] =
    subst (λ z. OnOk z (c.append.new.self.list ≡ me.roll.list ++ tx ∷ [])) c.unwrap.ensures c.append.ensures.list in
    let both : IsLogged (me.roll.list ++ tx ∷ []) (with_changes me.queue c.args.ready.changes) = record {
      builds = applies_push me.roll.list tx me.queue (with_changes me.queue c.args.ready.changes) inv.builds done;
      writable = writable_after me.queue (with_changes me.queue c.args.ready.changes) tx inv.writable (printed_puts tx c.requires.printable r.fits) done;
    } in
    let changes : c.into_parts-copy.result.1 ≡ c.args.ready.changes = ap (λ p. p.1) c.into_parts-copy.ensures in
    let taken : IsLogged (me.roll.list ++ tx ∷ []) (with_changes me.queue c.into_parts-copy.result.1) =
    subst (λ z. IsLogged (me.roll.list ++ tx ∷ []) (with_changes me.queue z)) (sym changes) both in
    rw (list, c.commit.ensures) taken
