-- Parts are linked to the protocol with any abstract pool that they show in place of its own.
use Rattle.std.proofs.Common.{List, Option, IsSome, refl, sym, ◌∙◌, subst}
use Rattle.pool_view.specs.AbstractPool.{AbstractPool, SameView}
use Rattle.pool_view.specs.declared.mark.SlotMark.{SlotMark}
use Rattle.pool_view.specs.Protocol.{Protocol}
use Rattle.pool_view.specs.SlotPart.{HasParts, SlotPart}
use Rattle.pool_view.proofs.SameProtocol.{same_facts}
use Rattle.pool_rules.specs.Linked.{IsLinked, ended_of}
use Rattle.pool_rules.specs.PoolParts.{PoolParts, pool_parts}
use Rattle.pool_rules.specs.Shown.{ShowsPool}
use Rattle.pool_rules.proofs.Going.{GoesOn, borne_on, reported_on}
use Rattle.pool_rules.proofs.Kept.{awaited_kept}
use Rattle.pool_rules.proofs.Viewing.{linked_shows, one_view, shown_safe, with_view}

parts_same : (p q : Protocol) (parts : List SlotPart) → SameView p.pool q.pool → HasParts p parts → HasParts q parts
parts_same p q parts same has = record {
  each = λ s there. (let part = has.each s there in record {
    mark = same.marks s.slot ∙ part.mark;
    ad = same.slots s.slot ∙ part.ad;
    runs = λ r in_pool at. part.runs r ((same.runs r).1 in_pool) at;
    own = λ r its. (same.runs r).0 (part.own r its);
    placed = part.placed;
  });
  covered = λ r there. has.covered r ((same.runs r).1 there);
  others = λ slot none. (let was = has.others slot none in (same.marks slot ∙ was.0, same.slots slot ∙ was.1));
}

on_view : (p : Protocol) (v : AbstractPool) → SameView p.pool v → GoesOn p (record p { pool = v })
on_view p v same = record {
  remembers = record {
    leases = λ l there. there;
    gone = λ run there. there;
    reports = λ s there. (same.reports s).0 there;
    ordered = λ job there. (same.ordered job).0 there;
    removals = λ job there. there;
  };
  placed = λ slot marked. subst (λ (o : Option SlotMark). IsSome o) (sym (same.marks slot)) marked;
  granted = λ g there. there;
}

pub view_linked : (p : Protocol) (a : PoolParts) (v : AbstractPool) → IsLinked p a → ShowsPool a v → IsLinked (record p { pool = v }) a
view_linked p a v linked shows =
    let same : SameView p.pool v = one_view a p.pool v (linked_shows p a linked) shows in
    let q : Protocol = record p { pool = v } in
    let on = on_view p v same in
    record {
      facts = same_facts p q (with_view p v same) linked.facts;
      safe = shown_safe p a v linked shows;
      moment = shows.moment;
      acked = shows.acked;
      ordered = shows.ordered;
      reports = shows.reports;
      slots = parts_same p q (pool_parts a.startds) same linked.slots;
      schedd = record { jobs = shows.jobs; next = shows.next; marked = linked.schedd.marked };
      finished = shows.finished;
      startds = λ machine u at. (let was = linked.startds machine u at in
          record { numbered = was.numbered; sound = was.sound; ends = λ s there. reported_on p q (ended_of s.state.held) on (was.ends s there) });
      mails = λ m there. borne_on p q m on (linked.mails m there);
      claims = λ c there. on.placed c.claim.no.slot (linked.claims c there);
      granted = λ g there. on.placed g.run.claim.slot (linked.granted g there);
      awaited = awaited_kept p q a a a.awaited (λ i job. same.jobs job i) refl on refl refl linked.awaited;
    }
