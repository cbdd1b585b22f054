-- What goes on over moves: the facts, and what mails tell.
use Rattle.std.proofs.Common.{◌≡◌, inr, Bool, true, false, List, [], ◌∷◌, ◌++◌, Option, Some, None, IsSome, refl, sym, subst, if◌then◌else◌}
use Rattle.std.specs.Prelude.{option_map}
use Rattle.claim_id.specs.declared.numbers.SlotId.{SlotId}
use Rattle.claim_id.specs.declared.numbers.RunNo.{RunNo}
use Rattle.pool_mail.specs.declared.end.How.{How}
use Rattle.pool_mail.specs.declared.mail.Mail.{Mail}
use Rattle.pool_mail.specs.declared.mail.Mail.TheVariants as mail
use Rattle.pool_view.specs.AbstractPool.{Marks, IsIn}
use Rattle.pool_view.specs.AbstractStep.{AbstractStep, Time, Queue, Acknowledge, Order, Grant, Start, Mark, Extend, Stop, Free, Finish, Hold, Release, Lengthen}
use Rattle.pool_view.specs.Numbers.{same_slot}
use Rattle.pool_view.specs.Safe.{Safe}
use Rattle.pool_view.specs.declared.mark.SlotMark.{SlotMark}
use Rattle.pool_view.proofs.Sameness.{same_slot-true}
use Rattle.pool_view.specs.Facts.{Facts}
use Rattle.pool_view.specs.Protocol.{JobRun, Protocol, marks_with, mark_with_claim, mark_with_number, mark_after_claim, mark_after_boot}
use Rattle.pool_view.specs.ProtocolMove.{ProtocolMove, PassTime, Pend, Commit, Drop, Confirm, TakeOrder, SendLease, HoldClaim, UseNumber, EndClaim, Reboot, StartRun, ExtendRun, StopRun, SayGone, MayAll, Remembers, grants_with, grants_with_all, protocol_after, protocol_after_all, steps_of}
use Rattle.pool_view.proofs.Growing.{moves_remember}
use Rattle.pool_view.proofs.Moves.{move_good}
use Rattle.pool_view.proofs.Parts.{of_pending}
use Rattle.pool_rules.specs.Linked.{IsBorneOut, IsEndReported}

-- ---- moves one after the other
pub may_append : (p : Protocol) (ms ns : List ProtocolMove) → MayAll p ms → MayAll (protocol_after_all p ms) ns → MayAll p (ms ++ ns)
may_append p [] ns may more = more
may_append p (m ∷ ms) ns may more = (may.0, may_append (protocol_after p m) ms ns may.1 more)

pub after_append : (p : Protocol) (ms ns : List ProtocolMove) → protocol_after_all p (ms ++ ns) ≡ protocol_after_all (protocol_after_all p ms) ns
after_append p [] ns = refl
after_append p (m ∷ ms) ns = after_append (protocol_after p m) ms ns

pub all_good : (p : Protocol) (ms : List ProtocolMove) → MayAll p ms → Facts p → Safe p.pool → Facts (protocol_after_all p ms) × Safe (protocol_after_all p ms).pool
all_good p [] may facts safe = (facts, safe)
all_good p (m ∷ ms) may facts safe = let next = move_good p m facts safe may.0 in all_good (protocol_after p m) ms may.1 next.0 next.1

-- ---- slots that the pool has
mapped : (change : SlotMark → SlotMark) (o : Option SlotMark) → IsSome o → IsSome (option_map change o)
mapped change None h = cc
mapped change (Some m) h = refl

marked_on : (marks : Marks) (slot q : SlotId) (change : SlotMark → SlotMark) → IsSome (marks q) → IsSome (marks_with marks slot change q)
marked_on marks slot q change there = by (same_slot q slot) refl
  where
    by : (b : Bool) → same_slot q slot ≡ b → IsSome (if b then option_map change (marks slot) else marks q)
    by true is = mapped change (marks slot) (subst (λ s. IsSome (marks s)) (same_slot-true q slot is) there)
    by false is = there

pub placed_move : (p : Protocol) (m : ProtocolMove) (slot : SlotId) → Facts p → IsSome (p.pool.marks slot) → IsSome ((protocol_after p m).pool.marks slot)
placed_move p (PassTime moment) slot facts there = there
placed_move p (Pend change) slot facts there = there
placed_move p Commit slot facts there = subst (λ f. IsSome (f slot)) (sym (of_pending p.pool p.pending facts.pending).marks) there
placed_move p Drop slot facts there = there
placed_move p (Confirm job) slot facts there = there
placed_move p (TakeOrder job) slot facts there = there
placed_move p (SendLease l) slot facts there = there
placed_move p (HoldClaim claim) slot facts there = marked_on p.pool.marks claim.slot slot (mark_with_claim claim) there
placed_move p (UseNumber run) slot facts there = marked_on p.pool.marks run.claim.slot slot (mark_with_number run.number) there
placed_move p (EndClaim claim) slot facts there = marked_on p.pool.marks claim.slot slot (mark_after_claim claim) there
placed_move p (Reboot other boot) slot facts there = marked_on p.pool.marks other slot (mark_after_boot boot) there
placed_move p (StartRun r) slot facts there = marked_on p.pool.marks r.run.claim.slot slot (mark_with_number r.run.number) there
placed_move p (ExtendRun r until) slot facts there = there
placed_move p (StopRun r how) slot facts there = there
placed_move p (SayGone run) slot facts there = there

-- ---- grants
granted_step : (k : AbstractStep) (gs : List JobRun) (g : JobRun) → IsIn g gs → IsIn g (grants_with k gs)
granted_step (Grant job run end) gs g there = inr there
granted_step (Time moment) gs g there = there
granted_step (Queue job core) gs g there = there
granted_step (Acknowledge job) gs g there = there
granted_step (Order job) gs g there = there
granted_step (Start r marks) gs g there = there
granted_step (Mark marks) gs g there = there
granted_step (Extend r until) gs g there = there
granted_step (Stop r how) gs g there = there
granted_step (Free job state) gs g there = there
granted_step (Finish job outcome) gs g there = there
granted_step (Hold job) gs g there = there
granted_step (Release job) gs g there = there
granted_step (Lengthen job end) gs g there = there

granted_steps : (ks : List AbstractStep) (gs : List JobRun) (g : JobRun) → IsIn g gs → IsIn g (grants_with_all ks gs)
granted_steps [] gs g there = there
granted_steps (k ∷ ks) gs g there = granted_steps ks (grants_with k gs) g (granted_step k gs g there)

pub granted_move : (p : Protocol) (m : ProtocolMove) (g : JobRun) → IsIn g p.grants → IsIn g (protocol_after p m).grants
granted_move p (PassTime moment) g there = there
granted_move p (Pend change) g there = there
granted_move p Commit g there = granted_steps (steps_of p Commit) p.grants g there
granted_move p Drop g there = there
granted_move p (Confirm job) g there = there
granted_move p (TakeOrder job) g there = there
granted_move p (SendLease l) g there = there
granted_move p (HoldClaim claim) g there = there
granted_move p (UseNumber run) g there = there
granted_move p (EndClaim claim) g there = there
granted_move p (Reboot slot boot) g there = there
granted_move p (StartRun r) g there = there
granted_move p (ExtendRun r until) g there = there
granted_move p (StopRun r how) g there = there
granted_move p (SayGone run) g there = there

-- ---- what goes on
pub record GoesOn (p q : Protocol) : Type 0 where
  pub remembers : Remembers p q
  pub placed : (slot : SlotId) → IsSome (p.pool.marks slot) → IsSome (q.pool.marks slot)
  pub granted : (g : JobRun) → IsIn g p.grants → IsIn g q.grants

pub goes_on : (p : Protocol) (ms : List ProtocolMove) → MayAll p ms → Facts p → Safe p.pool → GoesOn p (protocol_after_all p ms)
goes_on p ms may facts safe = record {
  remembers = moves_remember p ms;
  placed = placed_all p ms may facts safe;
  granted = granted_all p ms;
}
  where
    placed_all : (p : Protocol) (ms : List ProtocolMove) → MayAll p ms → Facts p → Safe p.pool → (slot : SlotId) → IsSome (p.pool.marks slot) → IsSome ((protocol_after_all p ms).pool.marks slot)
    placed_all p [] may facts safe slot there = there
    placed_all p (m ∷ ms) may facts safe slot there =
        let next = move_good p m facts safe may.0 in
        placed_all (protocol_after p m) ms may.1 next.0 next.1 slot (placed_move p m slot facts there)

    granted_all : (p : Protocol) (ms : List ProtocolMove) (g : JobRun) → IsIn g p.grants → IsIn g (protocol_after_all p ms).grants
    granted_all p [] g there = there
    granted_all p (m ∷ ms) g there = granted_all (protocol_after p m) ms g (granted_move p m g there)

pub borne_on : (p q : Protocol) (m : Mail) → GoesOn p q → IsBorneOut p m → IsBorneOut q m
borne_on p q (mail.Activate run job ad until) on (l, there, is_run, is_job, core, within) = (l, on.remembers.leases l there, is_run, is_job, core, within)
borne_on p q (mail.Alive run until) on (l, there, is_run, within) = (l, on.remembers.leases l there, is_run, within)
borne_on p q (mail.Stop run) on (job, there) = (job, on.granted _ there)
borne_on p q (mail.Gone run kept) on there = on.remembers.gone run there
borne_on p q (mail.Ended run how) on (job, there) = (job, on.remembers.reports _ there)
borne_on p q (mail.Matched found) on (valid, placed) = (valid, on.placed found.claim.no.slot placed)
borne_on p q (mail.Update slot) on h = tt
borne_on p q (mail.Ask claim job ad by_priority) on h = tt
borne_on p q (mail.Granted claim job) on h = tt
borne_on p q (mail.Denied claim run job why) on h = tt
borne_on p q (mail.Seen run until) on h = tt
borne_on p q (mail.Release claim) on h = tt
borne_on p q (mail.Remove job) on h = tt
borne_on p q (mail.Hold job) on h = tt
borne_on p q (mail.Resume job) on h = tt

pub reported_on : (p q : Protocol) (ended : Option (RunNo × How)) → GoesOn p q → IsEndReported p ended → IsEndReported q ended
reported_on p q None on h = tt
reported_on p q (Some e) on (job, there) = (job, on.remembers.reports _ there)
