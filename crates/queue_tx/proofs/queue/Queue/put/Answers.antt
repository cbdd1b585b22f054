use Rattle.std.proofs.Common.{Some, None, refl, ap, sym, ◌∙◌, subst}
use Rattle.std.specs.Option.{option_copied, option_map}
use Rattle.std.specs.BTreeMap.{insert_entry}
use Rattle.ad_tree.specs.Ad.{Attributes}
use Rattle.queue_tx.specs.declared.asked.Asked.{Asked}
use Rattle.queue_tx.specs.declared.kept.Here.{Here}
use Rattle.queue_tx.specs.declared.key.Key.{Key}
use Rattle.queue_tx.specs.Asked.{asked_under}
use Rattle.queue_tx.specs.Keys.{key_cmp}
use Rattle.queue_tx.specs.Jobs.{kind_under}
use Rattle.queue_tx.specs.Periodic.{KeepsKey}
use Rattle.queue_tx.specs.Queues.{ad_at}
use Rattle.queue_tx.specs.Roomy.{IsRoomy}
use Rattle.queue_tx.proofs.AskedJobs.{places_with, names_with}
use Rattle.queue_tx.proofs.KeptJobs.{kinds_with, kinds_without}
use Rattle.queue_tx.proofs.PeriodicJobs.{periodic_with, periodic_without}
use Rattle.queue_tx.proofs.RoomKept.{room_with}
use Rattle.queue_tx.proofs.queue.Queue.put.Goals as goal

pub invariant_of-self : goal.invariant_of-self
invariant_of-self c =
    let ads = c.self.inside.ads in
    let e = c.into_entries-ad.result.ad in
    let ready = c.into_entries-ad.ensures.ready in
    let key = c.into_entries-ad.result.job.0 in
    let same = ready.0 in
    let was =
    c.asked_under-old.ensures
    ∙ ap (λ (k : Key). asked_under k (option_copied c.get.result)) c.key.ensures
    ∙ ap (asked_under e.0) (c.get.ensures.value ∙ ap (λ (k : Key). ad_at k ads) c.key.ensures) in (
      kinds_with c.self.inside.kinds c.put-in-Put.new.self key c.kind-kind.result (Some e.1) ads c.put.new.self c.put.ensures.sorted c.self.invariant.0 c.put-in-Put.ensures
          (
          c.kind-kind.ensures
          ∙ ap (λ (r : Key × Attributes). kind_under r.0 (Some r.1)) (sym c.into_entries-ad.ensures.ad)
          ∙ ap (λ (k : Key). kind_under k (Some e.1)) (sym same))
          (c.put.ensures.entries ∙ ap (λ (k : Key). insert_entry key_cmp ads k e.1) (sym same)),
      places_with ads c.put.new.self e.0 (Some e.1) c.put.ensures.sorted c.put.ensures.entries c.self.inside.asked c.replace.new.places c.asked_under-old.result
          (option_map (λ (x : Asked × Here). x.0) c.into_entries-ad.result.asked) c.self.invariant.1 was ready.1 c.replace.ensures,
      names_with ads c.put.new.self e.0 (Some e.1) c.put.ensures.sorted c.put.ensures.entries c.self.invariant.2 ready.2,
      periodic_with ads c.put.new.self e c.put.ensures.sorted c.put.ensures.entries c.self.inside.periodic c.keep.new.keys c.self.invariant.3 c.into_entries-ad.result.periodic c.into_entries-ad.ensures.periodic
          (subst (λ (k : Key). KeepsKey k c.into_entries-ad.result.periodic c.self.inside.periodic c.keep.new.keys) c.key.ensures c.keep.ensures),
      subst IsRoomy (sym c.put.ensures.entries) (room_with e.0 (Some e.1) ads c.put.ensures.sorted c.into_entries-ad.ensures.room c.self.invariant.4),
    )

pub invariant_of-self-in-Remove : goal.invariant_of-self-in-Remove
invariant_of-self-in-Remove c =
    let ads = c.self.inside.ads in
    let key = c.in-Remove.key in (
      kinds_without c.self.inside.kinds c.remove-in-Remove.new.self key ads c.remove.new.self c.remove.ensures.sorted c.self.invariant.0 c.remove-in-Remove.ensures c.remove.ensures.entries,
      places_with ads c.remove.new.self key None c.remove.ensures.sorted c.remove.ensures.entries c.self.inside.asked c.replace-in-Remove.new.places c.asked_under-old-in-Remove.result None c.self.invariant.1
          (c.asked_under-old-in-Remove.ensures ∙ ap (asked_under key) c.get-in-Remove.ensures.value) refl c.replace-in-Remove.ensures,
      names_with ads c.remove.new.self key None c.remove.ensures.sorted c.remove.ensures.entries c.self.invariant.2 tt,
      periodic_without ads c.remove.new.self key c.remove.ensures.sorted c.remove.ensures.entries c.self.inside.periodic c.clear.new.keys c.self.invariant.3 c.clear.ensures,
      subst IsRoomy (sym c.remove.ensures.entries) (room_with key None ads c.remove.ensures.sorted tt c.self.invariant.4),
    )
