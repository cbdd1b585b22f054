-- A protocol of the same parts has the same facts; a list of moves keeps them and makes the steps of each move.
use Rattle.std.proofs.Common.{◌≡◌, ℕ, ◌<◌, inl, inr, List, [], ◌∷◌, ◌++◌, Option, Some, None, refl, sym, subst, arith, IfSome, IsSomeAnd}
use Rattle.claim_id.specs.declared.numbers.JobId.{JobId}
use Rattle.claim_id.specs.declared.numbers.RunNo.{RunNo}
use Rattle.pool_view.specs.declared.job.State.{State}
use Rattle.pool_view.specs.declared.job.Entry.{Entry}
use Rattle.pool_view.specs.declared.mark.SlotMark.{SlotMark}
use Rattle.pool_view.specs.declared.job.State.TheVariants.{Under}
use Rattle.pool_view.specs.AbstractPool.{AbstractPool, IsIn, SameView, IsSpent, IsSpentAt, IsDead, Stands}
use Rattle.pool_view.specs.AbstractStep.{AbstractStep, IsLeased, view_after, Takes}
use Rattle.pool_view.specs.Safe.{IsAccounted, Safe}
use Rattle.pool_view.proofs.Steps.{takes_safe}
use Rattle.pool_view.specs.Protocol.{JobRun, Change, Protocol, view_after_all}
use Rattle.pool_view.specs.ProtocolMove.{ProtocolMove, PassTime, Pend, Commit, Drop, Confirm, TakeOrder, SendLease, HoldClaim, UseNumber, EndClaim, Reboot, StartRun, ExtendRun, StopRun, SayGone, steps_of, grants_with, protocol_after, SameProtocol, MayAll, protocol_after_all, all_steps, MovesTo}
use Rattle.pool_view.specs.Facts.{RunNumbers, IsKept, SentLeases, IsSound, MarksSound, IsClaimed, RunningRuns, CanBeMade, IsUnstarted, Facts, IsOpening}
use Rattle.pool_view.proofs.Tracked.{AllBacked}
use Rattle.pool_view.proofs.Pending.{Grows, can_on}
use Rattle.pool_view.proofs.Moves.{move_backed, move_good}

-- ---- a view of the same parts
jobs_path : (v w : AbstractPool) → SameView v w → w.jobs ≡ v.jobs
jobs_path v w same = λ i job. same.jobs job i

marks_path : (v w : AbstractPool) → SameView v w → w.marks ≡ v.marks
marks_path v w same = λ i slot. same.marks slot i

stands_same : (v w : AbstractPool) → SameView v w → (job : JobId) (s : State) → Stands v job s → Stands w job s
stands_same v w same job s stands = subst (λ o. IsSomeAnd o (λ e. e.state ≡ s)) (sym (same.jobs job)) stands

stands_back : (v w : AbstractPool) → SameView v w → (job : JobId) (s : State) → Stands w job s → Stands v job s
stands_back v w same job s stands = subst (λ o. IsSomeAnd o (λ e. e.state ≡ s)) (same.jobs job) stands

spent_same : (v w : AbstractPool) → SameView v w → (run : RunNo) → IsSpent v run → IsSpent w run
spent_same v w same run spent = subst (λ o. IsSomeAnd o (IsSpentAt run)) (sym (same.marks run.claim.slot)) spent

dead_same : (v w : AbstractPool) → SameView v w → (run : RunNo) → IsDead v run → IsDead w run
dead_same v w same run dead = (spent_same v w same run dead.0, λ r there. dead.1 r ((same.runs r).1 there))

leased_same : (v w : AbstractPool) → SameView v w → (job : JobId) (run : RunNo) (until : ℕ) → IsLeased v job run until → IsLeased w job run until
leased_same v w same job run until (inl past) = let moment : w.moment ≡ v.moment = same.moment in inl (omega arith)
leased_same v w same job run until (inr (end, stands, within)) = inr (end, stands_same v w same job (Under run end) stands, within)

kept_same : (v w : AbstractPool) → SameView v w → (job : JobId) (run : RunNo) (until : ℕ) → IsKept v job run until → IsKept w job run until
kept_same v w same job run until (inl dead) = inl (dead_same v w same run dead)
kept_same v w same job run until (inr leased) = inr (leased_same v w same job run until leased)

view_grows : (v w : AbstractPool) → SameView v w → Grows v w
view_grows v w same = record {
  jobs = jobs_path v w same;
  next = same.next;
  moment = (let moment : w.moment ≡ v.moment = same.moment in omega arith);
  dead = dead_same v w same;
  reports = λ s. (same.reports s).0;
  ordered = λ job. (same.ordered job).0;
}

same_numbers : (p q : Protocol) → SameProtocol p q → RunNumbers p.pool p.grants → RunNumbers q.pool q.grants
same_numbers p q same n = record {
  below = λ g there. let next : q.pool.next ≡ p.pool.next = same.pool.next in let below : g.run.number < p.pool.next = n.below g ((same.grants g).1 there) in omega (arith, next, below);
  one = λ g h here there. n.one g h ((same.grants g).1 here) ((same.grants h).1 there);
  of_jobs = λ job run end stands. (same.grants (record { run = run; job = job })).0 (n.of_jobs job run end (stands_back p.pool q.pool same.pool job (Under run end) stands));
  of_runs = λ r there. (same.grants (record { run = r.run; job = r.job })).0 (n.of_runs r ((same.pool.runs r).1 there));
  of_reports = λ s there. (same.grants (record { run = s.run; job = s.job })).0 (n.of_reports s ((same.pool.reports s).1 there));
}

same_leases : (p q : Protocol) → SameProtocol p q → SentLeases p.pool p.grants p.leases → SentLeases q.pool q.grants q.leases
same_leases p q same s = record {
  granted = λ l there. (same.grants (record { run = l.run; job = l.job })).0 (s.granted l ((same.leases l).1 there));
  kept = λ l there. kept_same p.pool q.pool same.pool l.job l.run l.until (s.kept l ((same.leases l).1 there));
  cores = λ l there. subst (λ o. IsSomeAnd o (λ e. e.core ≡ l.core)) (sym (same.pool.jobs l.job)) (s.cores l ((same.leases l).1 there));
}

same_running : (v w : AbstractPool) → SameView v w → RunningRuns v → RunningRuns w
same_running v w same r = record {
  spent = λ s there. spent_same v w same s.run (r.spent s ((same.runs s).1 there));
  leased = λ s there. leased_same v w same s.job s.run s.until (r.leased s ((same.runs s).1 there));
  claimed = λ s there. subst (λ marks. IsClaimed marks s) (sym (marks_path v w same)) (r.claimed s ((same.runs s).1 there));
  marks = subst MarksSound (sym (marks_path v w same)) r.marks;
}

pub same_facts : (p q : Protocol) → SameProtocol p q → Facts p → Facts q
same_facts p q same f = record {
  numbers = same_numbers p q same f.numbers;
  leases = same_leases p q same f.leases;
  dead = record {
    gone_dead = λ run there. dead_same p.pool q.pool same.pool run (f.dead.gone_dead run ((same.gone run).1 there));
    reported_dead = λ s there. dead_same p.pool q.pool same.pool s.run (f.dead.reported_dead s ((same.pool.reports s).1 there));
  };
  running = same_running p.pool q.pool same.pool f.running;
  pending = subst (λ o. IfSome o (CanBeMade q.pool)) (sym same.pending) (still p.pending f.pending);
  removals = λ job there. (same.pool.ordered job).0 (f.removals job ((same.removals job).1 there));
}
  where
    still : (o : Option Change) → IfSome o (CanBeMade p.pool) → IfSome o (CanBeMade q.pool)
    still None can = tt
    still (Some change) can = can_on p.pool q.pool (view_grows p.pool q.pool same.pool) change can

-- ---- lists of moves
-- a move leads to the pool after its steps
pub pool_after_move : (p : Protocol) (m : ProtocolMove) → (protocol_after p m).pool ≡ view_after_all p.pool (steps_of p m)
pool_after_move p (PassTime moment) = refl
pool_after_move p (Pend change) = refl
pool_after_move p Commit = refl
pool_after_move p Drop = refl
pool_after_move p (Confirm job) = refl
pool_after_move p (TakeOrder job) = refl
pool_after_move p (SendLease l) = refl
pool_after_move p (HoldClaim claim) = refl
pool_after_move p (UseNumber run) = refl
pool_after_move p (EndClaim claim) = refl
pool_after_move p (Reboot slot boot) = refl
pool_after_move p (StartRun r) = refl
pool_after_move p (ExtendRun r until) = refl
pool_after_move p (StopRun r how) = refl
pool_after_move p (SayGone run) = refl

-- steps that may be made, and then steps from there
takes_append : (v w : AbstractPool) (grants : List JobRun) (ks ls : List AbstractStep) → AllBacked v grants ks → Takes (view_after_all v ks) ls w → Takes v (ks ++ ls) w
takes_append v w grants [] ls backed rest = rest
takes_append v w grants (k ∷ ks) ls backed rest = (backed.0, takes_append (view_after v k) w (grants_with k grants) ks ls backed.2 rest)

all_good : (p : Protocol) (ms : List ProtocolMove) (q : Protocol) → MayAll p ms → SameProtocol (protocol_after_all p ms) q → Facts p → Safe p.pool → Facts q × Safe q.pool × Takes p.pool (all_steps p ms) q.pool
all_good p [] q may same facts safe = (same_facts p q same facts, (takes_safe p.pool [] q.pool same.pool safe facts.running.leased).0, same.pool)
all_good p (m ∷ ms) q may same facts safe =
    let next = move_good p m facts safe may.0 in
    let rest = all_good (protocol_after p m) ms q may.1 same next.0 next.1 in
    (rest.0, rest.1, takes_append p.pool q.pool p.grants (steps_of p m) (all_steps (protocol_after p m) ms) (move_backed p m facts may.0) (subst (λ v. Takes v (all_steps (protocol_after p m) ms) q.pool) (pool_after_move p m) rest.2))

pub moves_good : (p : Protocol) (ms : List ProtocolMove) (q : Protocol) → MovesTo p ms q → Facts p → Safe p.pool → Facts q × Safe q.pool × Takes p.pool (all_steps p ms) q.pool
moves_good p ms q moves facts safe = all_good p ms q moves.may moves.leads facts safe

-- ---- the opening
none_in : {A : Type 0} (x : A) (xs : List A) → xs ≡ [] → IsIn x xs → ⊥
none_in x xs empty there = subst (IsIn x) empty there

unstarted : (p : Protocol) → IsOpening p → (job : JobId) (run : RunNo) (end : ℕ) → Stands p.pool job (Under run end) → ⊥
unstarted p opening job run end stands = by_entry (p.pool.jobs job) (opening.jobs job) stands
  where
    by_state : (s : State) → IsUnstarted s → s ≡ Under run end → ⊥
    by_state s (inl idle) is = cc
    by_state s (inr (inl held)) is = cc
    by_state s (inr (inr left)) is = cc

    by_entry : (o : Option Entry) → IfSome o (λ e. IsUnstarted e.state) → IsSomeAnd o (λ e. e.state ≡ Under run end) → ⊥
    by_entry None h is = is
    by_entry (Some e) h is = by_state e.state h is

opening_sound : (p : Protocol) → IsOpening p → MarksSound p.pool.marks
opening_sound p opening slot = by_mark (p.pool.marks slot) (opening.marks slot)
  where
    by_mark : (o : Option SlotMark) → IfSome o (λ m. m.held ≡ None) → IfSome o (IsSound slot)
    by_mark None h = tt
    by_mark (Some m) h = subst (λ held. IfSome held (λ x. (x.claim.slot ≡ slot) × (x.claim.boot ≡ m.boot) × (m.ended < x.claim.seq))) (sym h) tt

pub opening_facts : (p : Protocol) → IsOpening p → Facts p
opening_facts p o = record {
  numbers = record {
    below = λ g there. absurd (none_in g p.grants o.grants there);
    one = λ g h here there same. absurd (none_in g p.grants o.grants here);
    of_jobs = λ job run end stands. absurd (unstarted p o job run end stands);
    of_runs = λ r there. absurd (none_in r p.pool.runs o.runs there);
    of_reports = λ s there. absurd (none_in s p.pool.reports o.reports there);
  };
  leases = record {
    granted = λ l there. absurd (none_in l p.leases o.leases there);
    kept = λ l there. absurd (none_in l p.leases o.leases there);
    cores = λ l there. absurd (none_in l p.leases o.leases there);
  };
  dead = record {
    gone_dead = λ run there. absurd (none_in run p.gone o.gone there);
    reported_dead = λ s there. absurd (none_in s p.pool.reports o.reports there);
  };
  running = record {
    spent = λ r there. absurd (none_in r p.pool.runs o.runs there);
    leased = λ r there. absurd (none_in r p.pool.runs o.runs there);
    claimed = λ r there. absurd (none_in r p.pool.runs o.runs there);
    marks = opening_sound p o;
  };
  pending = subst (λ c. IfSome c (CanBeMade p.pool)) (sym o.pending) tt;
  removals = o.removals;
}

pub opening_safe : (p : Protocol) → IsOpening p → Safe p.pool
opening_safe p o = record {
  matched = λ r there. absurd (none_in r p.pool.runs o.runs there);
  one_run_per_slot = λ r s here there shared. absurd (none_in r p.pool.runs o.runs here);
  one_lease_per_job = λ r s here there competes. absurd (none_in r p.pool.runs o.runs here);
  acknowledged_kept = o.acked;
  endings_said = λ job. by_entry job (p.pool.jobs job) (o.jobs job);
}
  where
    by_state : (job : JobId) (s : State) → IsUnstarted s → IsAccounted p.pool job s
    by_state job s (inl idle) = subst (IsAccounted p.pool job) (sym idle) tt
    by_state job s (inr (inl held)) = subst (IsAccounted p.pool job) (sym held) tt
    by_state job s (inr (inr left)) = subst (IsAccounted p.pool job) (sym left) tt

    by_entry : (job : JobId) (e : Option Entry) → IfSome e (λ x. IsUnstarted x.state) → IfSome e (λ x. IsAccounted p.pool job x.state)
    by_entry job None h = tt
    by_entry job (Some e) h = by_state job e.state h
