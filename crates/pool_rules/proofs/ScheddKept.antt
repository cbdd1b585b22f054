-- Links that moves of the schedd keep.
use Rattle.std.proofs.Common.{◌≡◌, ℕ, max, List, [], ◌∷◌, ◌++◌, map, Option, Some, None, IfSome, refl, sym, ◌∙◌, ap, subst, arith}
use Rattle.claim_id.specs.declared.numbers.JobId.{JobId}
use Rattle.pool_mail.specs.declared.mail.Mail.{Mail}
use Rattle.pool_view.specs.AbstractPool.{AbstractPool, IsIn, SameMembers}
use Rattle.pool_view.specs.AbstractStep.{AbstractStep, Time, Queue, Acknowledge, Order, Grant, Start, Mark, Extend, Stop, Free, Finish, Hold, Release, Lengthen, view_after}
use Rattle.queue_tx.specs.declared.key.Key.TheVariants.{Proc}
use Rattle.queue_tx.specs.Queues.{ad_at}
use Rattle.schedd_plan.specs.declared.claims.KeptClaim.{KeptClaim}
use Rattle.schedd_core.specs.ScheddParts.{IsPart}
use Rattle.pool_view.specs.Facts.{CanBeMade, Facts, IsOfJob}
use Rattle.pool_view.specs.Safe.{Safe}
use Rattle.pool_view.specs.Protocol.{Change, Hidden, Submission, OfJob, Removal, JobRun, NewJob, Protocol, pending_steps, queue_step, view_after_all}
use Rattle.pool_view.specs.ProtocolMove.{ProtocolMove, PassTime, Pend, Commit, Drop, Confirm, TakeOrder, SendLease, HoldClaim, UseNumber, EndClaim, Reboot, StartRun, ExtendRun, StopRun, SayGone, MayAll, protocol_after, protocol_after_all}
use Rattle.pool_view.specs.SlotPart.{SlotPart, HasParts, part_after, part_after_all}
use Rattle.pool_view.proofs.Whole.{parts_on_all}
use Rattle.pool_rules.specs.Linked.{IsPlaced, AreBorneOut, IsFinishedAs, AreStartds, Awaits, IsLinked, StayLinked, ended_of}
use Rattle.pool_rules.specs.PoolParts.{PoolParts, pool_parts}
use Rattle.pool_rules.specs.Wanted.{parts_with_mails}
use Rattle.pool_rules.specs.StartdEvents.{parts_at_reading}
use Rattle.pool_rules.proofs.Going.{GoesOn, goes_on, all_good, reported_on}
use Rattle.pool_rules.proofs.Kept.{awaited_kept, mails_with}

-- ---- moves of no slot
abbrev pub IsOffSlots : ProtocolMove → Type 0
IsOffSlots (PassTime moment) = Unit {0}
IsOffSlots (Pend change) = Unit {0}
IsOffSlots Commit = Unit {0}
IsOffSlots Drop = Unit {0}
IsOffSlots (Confirm job) = Unit {0}
IsOffSlots (TakeOrder job) = Unit {0}
IsOffSlots (SendLease l) = Unit {0}
IsOffSlots (HoldClaim claim) = ⊥
IsOffSlots (UseNumber run) = ⊥
IsOffSlots (EndClaim claim) = ⊥
IsOffSlots (Reboot slot boot) = ⊥
IsOffSlots (StartRun r) = ⊥
IsOffSlots (ExtendRun r until) = ⊥
IsOffSlots (StopRun r how) = ⊥
IsOffSlots (SayGone run) = ⊥

abbrev pub AreOffSlots : List ProtocolMove → Type 0
AreOffSlots [] = Unit {0}
AreOffSlots (m ∷ ms) = IsOffSlots m × AreOffSlots ms

pub off_append : (ms ns : List ProtocolMove) → AreOffSlots ms → AreOffSlots ns → AreOffSlots (ms ++ ns)
off_append [] ns off more = more
off_append (m ∷ ms) ns off more = (off.0, off_append ms ns off.1 more)

off_part : (m : ProtocolMove) (s : SlotPart) → IsOffSlots m → part_after m s ≡ s
off_part (PassTime moment) s off = refl
off_part (Pend change) s off = refl
off_part Commit s off = refl
off_part Drop s off = refl
off_part (Confirm job) s off = refl
off_part (TakeOrder job) s off = refl
off_part (SendLease l) s off = refl
off_part (HoldClaim claim) s off = absurd off
off_part (UseNumber run) s off = absurd off
off_part (EndClaim claim) s off = absurd off
off_part (Reboot slot boot) s off = absurd off
off_part (StartRun r) s off = absurd off
off_part (ExtendRun r until) s off = absurd off
off_part (StopRun r how) s off = absurd off
off_part (SayGone run) s off = absurd off

off_parts : (ms : List ProtocolMove) (s : SlotPart) → AreOffSlots ms → part_after_all ms s ≡ s
off_parts [] s off = refl
off_parts (m ∷ ms) s off = ap (part_after_all ms) (off_part m s off.0) ∙ off_parts ms s off.1

all_same : (f : SlotPart → SlotPart) (xs : List SlotPart) → ((s : SlotPart) → f s ≡ s) → map f xs ≡ xs
all_same f [] same = refl
all_same f (x ∷ xs) same = ap (λ y. y ∷ map f xs) (same x) ∙ ap (λ ys. x ∷ ys) (all_same f xs same)

-- ---- an event that changes no startd
-- what the links want beyond that
pub record NewLinks (p q : Protocol) (a b : PoolParts) : Type 0 where
  pub moment : q.pool.moment ≡ b.moment
  pub acked : SameMembers q.pool.acked b.acked
  pub ordered : SameMembers q.pool.ordered b.ordered
  pub reports : SameMembers q.pool.reports b.reports
  pub schedd : IsPart q b.queue b.schedd
  pub finished : (job : JobId) → IsFinishedAs (ad_at (Proc job) b.queue) (b.finished job) (q.pool.jobs job)
  pub sent : List Mail
  pub mails : b.mails ≡ a.mails ++ sent
  pub borne : AreBorneOut q sent
  pub claims : (c : KeptClaim) → IsIn c b.schedd.claims → IsPlaced q c.claim.no
  pub granted : (g : JobRun) → IsIn g q.grants → IsPlaced q g.run.claim
  pub awaited : Awaits q b b.awaited

pub schedd_event : (p : Protocol) (a b : PoolParts) (ms : List ProtocolMove) → IsLinked p a → MayAll p ms → AreOffSlots ms → b.startds ≡ a.startds → NewLinks p (protocol_after_all p ms) a b → StayLinked p ms b
schedd_event p a b ms linked may off startds new = record {
  may = may;
  linked = record {
    facts = good.0;
    safe = good.1;
    moment = new.moment;
    acked = new.acked;
    ordered = new.ordered;
    reports = new.reports;
    slots = subst (λ vs. HasParts q (pool_parts vs)) (sym startds)
        (subst (HasParts q) (all_same (part_after_all ms) (pool_parts a.startds) (λ s. off_parts ms s off)) (parts_on_all p ms (pool_parts a.startds) linked.facts linked.safe may linked.slots));
    schedd = new.schedd;
    finished = new.finished;
    startds = subst (AreStartds q) (sym startds) (λ k u there. (let was = linked.startds k u there in
        record { numbered = was.numbered; sound = was.sound; ends = λ s h. reported_on p q (ended_of s.state.held) on (was.ends s h) }));
    mails = subst (AreBorneOut q) (sym new.mails) (mails_with p q a.mails new.sent on linked.mails new.borne);
    claims = new.claims;
    granted = new.granted;
    awaited = new.awaited;
  };
}
  where
    q : Protocol
    q = protocol_after_all p ms

    good : Facts q × Safe q.pool
    good = all_good p ms may linked.facts linked.safe

    on : GoesOn p q
    on = goes_on p ms may linked.facts linked.safe

-- ---- mails alone
pub nothing_more : (xs : List Mail) → xs ≡ xs ++ []
nothing_more [] = refl
nothing_more (x ∷ xs) = ap (λ ys. x ∷ ys) (nothing_more xs)

on_itself : (p : Protocol) (a : PoolParts) → IsLinked p a → GoesOn p p
on_itself p a linked = goes_on p [] tt linked.facts linked.safe

pub mails_linked : (p : Protocol) (a : PoolParts) (mails : List Mail) → IsLinked p a → AreBorneOut p mails → StayLinked p [] (parts_with_mails mails a)
mails_linked p a mails linked borne = schedd_event p a (parts_with_mails mails a) [] linked tt tt refl (record {
  moment = linked.moment;
  acked = linked.acked;
  ordered = linked.ordered;
  reports = linked.reports;
  schedd = linked.schedd;
  finished = linked.finished;
  sent = mails;
  mails = refl;
  borne = borne;
  claims = linked.claims;
  granted = linked.granted;
  awaited = awaited_kept p p a (parts_with_mails mails a) a.awaited refl refl (on_itself p a linked) refl refl linked.awaited;
})

-- ---- time
pub time_linked : (p : Protocol) (a : PoolParts) (reading : ℕ) → IsLinked p a → StayLinked p (PassTime (max a.moment reading) ∷ []) (parts_at_reading reading a)
time_linked p a reading linked = schedd_event p a (parts_at_reading reading a) (PassTime (max a.moment reading) ∷ []) linked may (tt, tt) refl (record {
  moment = refl;
  acked = linked.acked;
  ordered = linked.ordered;
  reports = linked.reports;
  schedd = record { jobs = linked.schedd.jobs; next = linked.schedd.next; marked = linked.schedd.marked };
  finished = linked.finished;
  sent = [];
  mails = nothing_more a.mails;
  borne = λ m there. absurd there;
  claims = linked.claims;
  granted = linked.granted;
  awaited = awaited_kept p q a (parts_at_reading reading a) a.awaited refl refl (goes_on p (PassTime (max a.moment reading) ∷ []) may linked.facts linked.safe) refl refl linked.awaited;
})
  where
    q : Protocol
    q = protocol_after p (PassTime (max a.moment reading))

    later : (m n k : ℕ) → m ≡ n → Rattle.std.specs.Prelude.◌≤◌ m (max n k)
    later m n k same = grind arith

    may : MayAll p (PassTime (max a.moment reading) ∷ [])
    may = (later p.pool.moment a.moment reading linked.moment, tt)

-- ---- a change that is made
-- it says nothing, and passes no time
pub record KeepsSaid (v w : AbstractPool) : Type 0 where
  pub moment : w.moment ≡ v.moment
  pub acked : w.acked ≡ v.acked
  pub ordered : w.ordered ≡ v.ordered
  pub reports : w.reports ≡ v.reports

said_as_was : (v : AbstractPool) → KeepsSaid v v
said_as_was v = record { moment = refl; acked = refl; ordered = refl; reports = refl }

job_step_said : (v : AbstractPool) (k : AbstractStep) → IsOfJob k → KeepsSaid v (view_after v k)
job_step_said v (Grant job run end) of = record { moment = refl; acked = refl; ordered = refl; reports = refl }
job_step_said v (Free job state) of = record { moment = refl; acked = refl; ordered = refl; reports = refl }
job_step_said v (Finish job outcome) of = record { moment = refl; acked = refl; ordered = refl; reports = refl }
job_step_said v (Hold job) of = record { moment = refl; acked = refl; ordered = refl; reports = refl }
job_step_said v (Release job) of = record { moment = refl; acked = refl; ordered = refl; reports = refl }
job_step_said v (Lengthen job end) of = record { moment = refl; acked = refl; ordered = refl; reports = refl }
job_step_said v (Time moment) of = absurd of
job_step_said v (Queue job core) of = absurd of
job_step_said v (Acknowledge job) of = absurd of
job_step_said v (Order job) of = absurd of
job_step_said v (Start r marks) of = absurd of
job_step_said v (Mark marks) of = absurd of
job_step_said v (Extend r until) of = absurd of
job_step_said v (Stop r how) of = absurd of

jobs_said : (v : AbstractPool) (jobs : List NewJob) → KeepsSaid v (view_after_all v (map queue_step jobs))
jobs_said v [] = said_as_was v
jobs_said v (j ∷ js) = let rest = jobs_said (view_after v (queue_step j)) js in record { moment = rest.moment; acked = rest.acked; ordered = rest.ordered; reports = rest.reports }

pub commit_said : (v : AbstractPool) (o : Option Change) → IfSome o (CanBeMade v) → KeepsSaid v (view_after_all v (pending_steps o))
commit_said v None can = said_as_was v
commit_said v (Some Hidden) can = said_as_was v
commit_said v (Some (Submission jobs)) can = jobs_said v jobs
commit_said v (Some (OfJob step)) can = job_step_said v step can.0
commit_said v (Some (Removal job)) can = said_as_was v
