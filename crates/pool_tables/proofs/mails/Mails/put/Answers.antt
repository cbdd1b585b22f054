use Rattle.std.proofs.Common.{rules, ◌≡◌, ◌+◌, ◌≤◌, ◌<◌, ap, ◌∙◌, List, Option, ℕ, length, slice_get, vec_capacity, vec_len, arith}
use Rattle.pool_tables.specs.Links.{last_in}
use Rattle.pool_tables.proofs.Putting.{kept_after_put}
use Rattle.pool_tables.proofs.mails.Mails.put.Goals as goal

pub invariant_of-self : goal.invariant_of-self
invariant_of-self c =
    let count : c.len-number.result ≡ length c.self.inside.sent.items = search rules in
    let link : c.last_in-before.result ≡ last_in (slice_get c.self.inside.last.items c.box_of-place.result) =
    c.last_in-before.ensures ∙ ap (λ (xs : List (Option ℕ)). last_in (slice_get xs c.box_of-place.result)) c.deref.ensures.value in
    record {
      kept = kept_after_put c.self.inside.sent.items c.push_spare-2.new.list.items c.self.inside.before.items c.push_spare.new.list.items c.self.inside.last.items c.set_last.new.last.items (record { mail = c.args.mail; to = c.args.to; received = 0 }) c.last_in-before.result c.len-number.result c.box_of-place.result c.self.invariant.kept c.push_spare-2.ensures.items c.push_spare.ensures.items link c.box_of-place.ensures c.set_last.ensures count;
      counts = c.self.invariant.counts;
      room = record {
        sent = λ h.
            let some : 0 < c.self.inside.spare = omega (arith, h) in
            let before : vec_len c.self.inside.sent + c.self.inside.spare ≤ vec_capacity c.self.inside.sent = c.self.invariant.room.sent some in
            omega (arith, h, some, before, c.push_spare-2.ensures.len, c.push_spare-2.ensures.capacity);
        before = λ h.
            let some : 0 < c.self.inside.spare = omega (arith, h) in
            let before : vec_len c.self.inside.before + c.self.inside.spare ≤ vec_capacity c.self.inside.before = c.self.invariant.room.before some in
            omega (arith, h, some, before, c.push_spare.ensures.len, c.push_spare.ensures.capacity);
      };
    }
