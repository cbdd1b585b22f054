-- What a startd does takes a pool on, by the moves of its parts.
use Rattle.std.proofs.Common.{◌≡◌, ◌⊎◌, inl, inr, ℕ, max, List, [], ◌∷◌, ◌++◌, map, Some, slice_get, slice_set, refl, sym, ap, subst}
use Rattle.pool_mail.specs.declared.mail.Mail.{Mail}
use Rattle.pool_outer.specs.declared.gate.Daemon.TheVariants.{Startd}
use Rattle.pool_view.specs.Protocol.{Protocol}
use Rattle.pool_view.specs.ProtocolMove.{ProtocolMove, PassTime, MayAll, all_steps, protocol_after, protocol_after_all}
use Rattle.pool_state.specs.declared.state.PoolState.{PoolState}
use Rattle.pool_tables.specs.declared.states.DaemonState.{DaemonState}
use Rattle.pool_view.specs.AbstractPool.{IsIn, SameMembers}
use Rattle.pool_view.specs.declared.run.EndReport.{EndReport}
use Rattle.pool_view.specs.AbstractStep.{AbstractStep}
use Rattle.schedd_state.specs.DueChecks.{IsPassed}
use Rattle.startd_core.specs.declared.answer.StartdStep.{StartdStep}
use Rattle.startd_core.specs.Startds.{After, StartdValue}
use Rattle.pool_rules.specs.Linked.{StayLinked}
use Rattle.pool_rules.specs.PoolParts.{PoolParts}
use Rattle.pool_rules.specs.Shown.{SameParts}
use Rattle.pool_rules.specs.StartdEvents.{parts_at_reading, parts_with_startd}
use Rattle.pool_rules.proofs.Kept.{in_both, in_first, in_second}
use Rattle.pool_rules.proofs.ScheddKept.{time_linked}
use Rattle.pool_rules.proofs.Viewing.{lead_on, same_linked}
use Rattle.pool_rules.specs.Deeds.{posted, receives, startd_acts}
use Rattle.pool_rules.specs.Happens.{boots}
use Rattle.pool_rules.specs.Parts.{awaited_of, finished_in, parts_of}
use Rattle.pool_rules.specs.Kept.{AreInBoot, GoesOn, IsKept, IsPendingTx, at_reading}
use Rattle.pool_rules.specs.Steps.{AreSteps}
use Rattle.pool_rules.proofs.Mailing.{AreAmong, addressed_among, addressed_posts, among_self, mails_kept, received_among}
use Rattle.pool_rules.proofs.StartdBoots.{next_in_boot, still_in_boot}

-- ---- sets
pub members_self : {A : Type 0} (xs : List A) → SameMembers xs xs
members_self xs x = (λ there. there, λ there. there)

in_turn : {A : Type 0} (xs ys : List A) (x : A) → IsIn x (xs ++ ys) → IsIn x (ys ++ xs)
in_turn xs ys x there = by (in_both x xs ys there)
  where
    by : IsIn x xs ⊎ IsIn x ys → IsIn x (ys ++ xs)
    by (inl here) = in_second x ys xs here
    by (inr later) = in_first x ys xs later

-- one set before the other
pub members_turned : {A : Type 0} (xs ys : List A) → SameMembers (xs ++ ys) (ys ++ xs)
members_turned xs ys x = (in_turn xs ys x, in_turn ys xs x)

-- ---- moves that keep a pool
pub record GoesBy (p : Protocol) (ms : List ProtocolMove) (new : PoolState) : Type 0 where
  pub may : MayAll p ms
  pub kept : IsKept (protocol_after_all p ms) new

-- whose steps are such ones
pub go_on : (p : Protocol) (P : AbstractStep → Type 0) (ms : List ProtocolMove) (new : PoolState) → GoesBy p ms new → AreSteps P (all_steps p ms) → GoesOn p P new
go_on p P ms new goes steps = record { moves = ms; may = goes.may; steps = steps; kept = goes.kept }

-- ---- what a startd has done to a pool
-- the startd of a machine stands so, has sent mails, and has said the ends of runs
pub record IsActed (machine : ℕ) (w : StartdValue) (mails : List Mail) (ends : List EndReport) (s t : PoolState) : Type 0 where
  pub latest : t.latest ≡ s.latest
  pub machines : t.machines ≡ slice_set s.machines machine w
  pub schedd : t.schedd ≡ s.schedd
  pub queue : t.queue ≡ s.queue
  pub sent : AreAmong t.mails.sent (s.mails.sent ++ map posted mails)
  pub pending : t.pending ≡ s.pending
  pub finished : t.finished ≡ s.finished
  pub acked : t.acked ≡ s.acked
  pub ordered : t.ordered ≡ s.ordered
  pub reports : t.reports ≡ s.reports ++ ends
  pub boots : AreInBoot t.daemons t.machines

-- the parts that the event has as the links say them
abbrev pub parts_acted : ℕ → ℕ → After → List EndReport → PoolState → PoolParts
parts_acted machine reading a ends s = parts_with_startd machine a ends (parts_at_reading reading (parts_of s))

acted_same : (s t : PoolState) (machine reading : ℕ) (a : After) (ends : List EndReport) → IsActed machine a.startd a.step.mails ends s t → SameParts (parts_acted machine reading a ends s) (parts_of (at_reading reading t))
acted_same s t machine reading a ends acted = record {
  moment = ap (λ n. max n reading) acted.latest;
  startds = acted.machines;
  schedd = acted.schedd;
  queue = acted.queue;
  mails = mails_kept t.mails.sent s.mails.sent a.step.mails acted.sent;
  awaited = ap awaited_of acted.pending;
  finished = λ job. ap (λ f. finished_in f job) acted.finished;
  acked = subst (SameMembers s.acked) (sym acted.acked) (members_self s.acked);
  ordered = subst (SameMembers s.ordered) (sym acted.ordered) (members_self s.ordered);
  reports = subst (SameMembers (ends ++ s.reports)) (sym acted.reports) (members_turned ends s.reports);
}

-- time passes, and then the startd's moves are made
pub acted_goes : (p : Protocol) (s t : PoolState) (machine reading : ℕ) (a : After) (ends : List EndReport) (ms : List ProtocolMove) → IsKept p s → IsActed machine a.startd a.step.mails ends s t
    → StayLinked (protocol_after p (PassTime (max s.latest reading))) ms (parts_acted machine reading a ends s)
    → GoesBy p (PassTime (max s.latest reading) ∷ ms) (at_reading reading t)
acted_goes p s t machine reading a ends ms kept acted stays =
    let first = time_linked p (parts_of s) reading kept.linked in
    let all = lead_on p (PassTime (max s.latest reading) ∷ []) ms (parts_at_reading reading (parts_of s)) (parts_acted machine reading a ends s) first stays in
    record {
      may = all.may;
      kept = record {
        linked = same_linked (protocol_after_all p (PassTime (max s.latest reading) ∷ ms)) (parts_acted machine reading a ends s) (parts_of (at_reading reading t)) (acted_same s t machine reading a ends acted) all.linked;
        pending = subst IsPendingTx (sym acted.pending) kept.pending;
        addressed = addressed_among t.mails.sent (s.mails.sent ++ map posted a.step.mails) acted.sent (addressed_posts s.mails.sent a.step.mails kept.addressed);
        passed = subst (λ q. IsPassed q t.schedd) (sym acted.queue) (subst (IsPassed s.queue) (sym acted.schedd) kept.passed);
        boots = acted.boots;
      };
    }

-- ---- the deeds
-- in its boot
pub acts : (s : PoolState) (machine : ℕ) (v w : StartdValue) (step : StartdStep) (ends : List EndReport) → AreInBoot s.daemons s.machines → slice_get s.machines machine ≡ Some v → w.machine ≡ v.machine
    → IsActed machine w step.mails ends s (startd_acts machine w step ends s)
acts s machine v w step ends are at same = record {
  latest = refl;
  machines = refl;
  schedd = refl;
  queue = refl;
  sent = among_self (s.mails.sent ++ map posted step.mails);
  pending = refl;
  finished = refl;
  acked = refl;
  ordered = refl;
  reports = refl;
  boots = still_in_boot s.daemons s.machines machine v w are at same;
}

-- with a mail that is received
pub acts_on_mail : (s : PoolState) (machine index : ℕ) (v w : StartdValue) (step : StartdStep) (ends : List EndReport) → AreInBoot s.daemons s.machines → slice_get s.machines machine ≡ Some v → w.machine ≡ v.machine
    → IsActed machine w step.mails ends s (receives index (startd_acts machine w step ends s))
acts_on_mail s machine index v w step ends are at same = record {
  latest = refl;
  machines = refl;
  schedd = refl;
  queue = refl;
  sent = received_among index (s.mails.sent ++ map posted step.mails);
  pending = refl;
  finished = refl;
  acked = refl;
  ordered = refl;
  reports = refl;
  boots = still_in_boot s.daemons s.machines machine v w are at same;
}

-- and in its next boot
pub acts_in_boot : (s : PoolState) (machine boot : ℕ) (old : DaemonState) (w : StartdValue) (step : StartdStep) (ends : List EndReport) → AreInBoot s.daemons s.machines → slice_get s.daemons.startds machine ≡ Some old → w.machine.boot ≡ boot
    → IsActed machine w step.mails ends s (boots boot (Startd machine) (startd_acts machine w step ends s))
acts_in_boot s machine boot old w step ends are state same = record {
  latest = refl;
  machines = refl;
  schedd = refl;
  queue = refl;
  sent = among_self (s.mails.sent ++ map posted step.mails);
  pending = refl;
  finished = refl;
  acked = refl;
  ordered = refl;
  reports = refl;
  boots = next_in_boot s.daemons s.machines machine boot old w are state same;
}
