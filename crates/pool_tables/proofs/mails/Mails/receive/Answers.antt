use Rattle.std.proofs.Common.{List, subst, sym, arith}
use Rattle.pool_tables.specs.declared.sent.Sent.{Sent}
use Rattle.pool_tables.specs.Kept.{AreKept}
use Rattle.pool_tables.proofs.Putting.{kept_received}
use Rattle.pool_tables.proofs.mails.Mails.receive.Goals as goal

pub invariant_of-self : goal.invariant_of-self
invariant_of-self c = record {
  kept = subst (λ (xs : List Sent). AreKept xs c.self.inside.before.items c.self.inside.last.items) (sym c.receive_once.ensures)
      (kept_received c.self.inside.sent.items c.self.inside.before.items c.self.inside.last.items c.args.number c.self.invariant.kept);
  counts = c.self.invariant.counts;
  room = record {
    sent = λ h. absurd (omega (arith, h));
    before = λ h. absurd (omega (arith, h));
  };
}
