-- Steps from one abstract pool to another, without the orders of what was ordered before.
use Rattle.std.proofs.Common.{◌≡◌, ◌⊎◌, inl, inr, List, [], ◌∷◌, Option, Some, None, refl, sym, ◌∙◌, ap, subst}
use Rattle.std.proofs.lemmas.Option.{none-some}
use Rattle.claim_id.specs.declared.numbers.JobId.{JobId}
use Rattle.pool_view.proofs.Steps.{step_done}
use Rattle.pool_view.proofs.Pending.{ordered_more}
use Rattle.pool_view.specs.AbstractPool.{AbstractPool, IsIn, SameMembers, SameView, Stands}
use Rattle.pool_view.specs.AbstractStep.{AbstractStep, Allowed, Takes, view_after, Time, Queue, Acknowledge, Order, Grant, Start, Mark, Extend, Stop, Free, Finish, Hold, Release, Lengthen}
use Rattle.pool_view.specs.declared.job.Entry.{Entry}
use Rattle.pool_view.specs.declared.job.Outcome.{Outcome}
use Rattle.pool_view.specs.declared.job.Outcome.TheVariants.{EndedBy, Removed}
use Rattle.pool_view.specs.declared.job.State.TheVariants.{Done}
use Rattle.std.specs.Prelude.{IsSomeAnd}

-- ---- steps that order nothing
abbrev order_in : AbstractStep → Option JobId
order_in (Order job) = Some job
order_in (Time moment) = None
order_in (Queue job core) = None
order_in (Acknowledge job) = None
order_in (Grant job run end) = None
order_in (Start r marks) = None
order_in (Mark marks) = None
order_in (Extend r until) = None
order_in (Stop r how) = None
order_in (Free job state) = None
order_in (Finish job outcome) = None
order_in (Hold job) = None
order_in (Release job) = None
order_in (Lengthen job end) = None

abbrev with_ordered : AbstractPool → List JobId → AbstractPool
with_ordered v xs = record v { ordered = xs }

-- such a step goes on alike where as many jobs are ordered, in another list
record GoesAlike (v : AbstractPool) (xs : List JobId) (k : AbstractStep) : Type 0 where
  same : (view_after v k).ordered ≡ v.ordered
  after : view_after (with_ordered v xs) k ≡ with_ordered (view_after v k) xs
  allowed : ((job : JobId) → IsIn job v.ordered → IsIn job xs) → Allowed v k → Allowed (with_ordered v xs) k

alike : (v : AbstractPool) (xs : List JobId) (k : AbstractStep) → order_in k ≡ None → GoesAlike v xs k
alike v xs (Order job) none = absurd (none-some job (sym none))
alike v xs (Time moment) none = record { same = refl; after = refl; allowed = λ more may. may }
alike v xs (Queue job core) none = record { same = refl; after = refl; allowed = λ more may. may }
alike v xs (Acknowledge job) none = record { same = refl; after = refl; allowed = λ more may. may }
alike v xs (Grant job run end) none = record { same = refl; after = refl; allowed = λ more may. may }
alike v xs (Start r marks) none = record {
  same = refl;
  after = refl;
  allowed = λ more may. (
    record {
      unspent = may.0.unspent;
      new_number = may.0.new_number;
      claimed = may.0.claimed;
      free = may.0.free;
      leased = may.0.leased;
      slot_ad = may.0.slot_ad;
      job_ad = may.0.job_ad;
      match = may.0.match;
    },
    may.1,
    may.2,
  );
}
alike v xs (Mark marks) none = record { same = refl; after = refl; allowed = λ more may. may }
alike v xs (Extend r until) none = record { same = refl; after = refl; allowed = λ more may. may }
alike v xs (Stop r how) none = record { same = refl; after = refl; allowed = λ more may. may }
alike v xs (Free job state) none = record { same = refl; after = refl; allowed = λ more may. may }
alike v xs (Finish job (EndedBy run how)) none = record { same = refl; after = refl; allowed = λ more may. may }
alike v xs (Finish job Removed) none = record { same = refl; after = refl; allowed = λ more may. (more job may.0, may.1) }
alike v xs (Hold job) none = record { same = refl; after = refl; allowed = λ more may. may }
alike v xs (Release job) none = record { same = refl; after = refl; allowed = λ more may. may }
alike v xs (Lengthen job end) none = record { same = refl; after = refl; allowed = λ more may. may }

-- ---- steps one after the other
ordered_on : (v : AbstractPool) (ks : List AbstractStep) (w : AbstractPool) (job : JobId) → Takes v ks w → IsIn job v.ordered → IsIn job w.ordered
ordered_on v [] w job takes there = (takes.ordered job).0 there
ordered_on v (k ∷ ks) w job takes there = ordered_on (view_after v k) ks w job takes.1 (ordered_more v k job there)

-- some of the steps that lead from a pool to another, of which each order is one of these
pub record Ordering (P : JobId → Type 0) (ks : List AbstractStep) (v w : AbstractPool) : Type 0 where
  pub steps : List AbstractStep
  pub takes : Takes v steps w
  pub some : (k : AbstractStep) → IsIn k steps → IsIn k ks
  pub only : (job : JobId) → IsIn (Order job) steps → P job

-- the first step is kept
with_first : (k : AbstractStep) (steps ks : List AbstractStep) → ((l : AbstractStep) → IsIn l steps → IsIn l ks) → (l : AbstractStep) → IsIn l (k ∷ steps) → IsIn l (k ∷ ks)
with_first k steps ks some l (inl is) = inl is
with_first k steps ks some l (inr there) = inr (some l there)

with_step : (P : JobId → Type 0) (v : AbstractPool) (xs : List JobId) (k : AbstractStep) (ks : List AbstractStep) (w : AbstractPool) → order_in k ≡ None → SameMembers v.ordered xs → Allowed v k
    → Ordering P ks (with_ordered (view_after v k) xs) w → Ordering P (k ∷ ks) (with_ordered v xs) w
with_step P v xs k ks w none same may rest =
    let a = alike v xs k none in
    record {
      steps = k ∷ rest.steps;
      takes = (a.allowed (λ job there. (same job).0 there) may, subst (λ u. Takes u rest.steps w) (sym a.after) rest.takes);
      some = with_first k rest.steps ks rest.some;
      only = λ job there. by job there;
    }
  where
    by : (job : JobId) → (Order job ≡ k) ⊎ IsIn (Order job) rest.steps → P job
    by job (inl is) = absurd (none-some job (sym none ∙ ap order_in (sym is)))
    by job (inr there) = rest.only job there

with_order : (P : JobId → Type 0) (v : AbstractPool) (xs : List JobId) (job : JobId) (ks : List AbstractStep) (w : AbstractPool) → P job → Allowed v (Order job) → Ordering P ks (with_ordered v (job ∷ xs)) w → Ordering P (Order job ∷ ks) (with_ordered v xs) w
with_order P v xs job ks w asked may rest = record {
  steps = Order job ∷ rest.steps;
  takes = (may, rest.takes);
  some = with_first (Order job) rest.steps ks rest.some;
  only = λ other there. by other there;
}
  where
    job_in : AbstractStep → JobId
    job_in k = by_order (order_in k)
      where
        by_order : Option JobId → JobId
        by_order None = job
        by_order (Some other) = other

    by : (other : JobId) → (Order other ≡ Order job) ⊎ IsIn (Order other) rest.steps → P other
    by other (inl is) = subst P (sym (ap job_in is)) asked
    by other (inr there) = rest.only other there

without_order : (P : JobId → Type 0) (v : AbstractPool) (job : JobId) (ks : List AbstractStep) (w : AbstractPool) → Ordering P ks v w → Ordering P (Order job ∷ ks) v w
without_order P v job ks w rest = record {
  steps = rest.steps;
  takes = rest.takes;
  some = λ k there. inr (rest.some k there);
  only = rest.only;
}

more_same : (job : JobId) (ys xs : List JobId) → SameMembers ys xs → SameMembers (job ∷ ys) (job ∷ xs)
more_same job ys xs same x = (there, back)
  where
    there : (x ≡ job) ⊎ IsIn x ys → (x ≡ job) ⊎ IsIn x xs
    there (inl is) = inl is
    there (inr h) = inr ((same x).0 h)

    back : (x ≡ job) ⊎ IsIn x xs → (x ≡ job) ⊎ IsIn x ys
    back (inl is) = inl is
    back (inr h) = inr ((same x).1 h)

no_more : (job : JobId) (ys xs : List JobId) → IsIn job xs → SameMembers ys xs → SameMembers (job ∷ ys) xs
no_more job ys xs known same x = (there, λ h. inr ((same x).1 h))
  where
    there : (x ≡ job) ⊎ IsIn x ys → IsIn x xs
    there (inl is) = subst (λ j. IsIn j xs) (sym is) known
    there (inr h) = (same x).0 h

-- a job of the last pool's orders was ordered at the beginning, or is one of these
abbrev AreKnown : (JobId → Type 0) → List JobId → AbstractPool → Type 0
AreKnown P first w = (job : JobId) → IsIn job w.ordered → IsIn job first ⊎ P job

fewer : (P : JobId → Type 0) (first : List JobId) (v : AbstractPool) (xs : List JobId) (ks : List AbstractStep) (w : AbstractPool) → ((job : JobId) → IsIn job first → IsIn job xs) → SameMembers v.ordered xs → AreKnown P first w → Takes v ks w → Ordering P ks (with_ordered v xs) w
fewer P first v xs [] w kept same known takes = record {
  steps = [];
  some = λ k there. absurd there;
  takes = record {
    moment = takes.moment;
    next = takes.next;
    jobs = takes.jobs;
    acked = takes.acked;
    ordered = λ job. (λ there. (takes.ordered job).0 ((same job).1 there), λ there. (same job).0 ((takes.ordered job).1 there));
    runs = takes.runs;
    marks = takes.marks;
    reports = takes.reports;
    slots = takes.slots;
  };
  only = λ job there. absurd there;
}
fewer P first v xs (Order job ∷ ks) w kept same known takes = by (known job (ordered_on (view_after v (Order job)) ks w job takes.1 (inl refl)))
    (λ ys more members. fewer P first (view_after v (Order job)) ys ks w more members known takes.1)
  where
    by : IsIn job first ⊎ P job → ((ys : List JobId) → ((j : JobId) → IsIn j first → IsIn j ys) → SameMembers (job ∷ v.ordered) ys → Ordering P ks (with_ordered (view_after v (Order job)) ys) w) → Ordering P (Order job ∷ ks) (with_ordered v xs) w
    by (inl old) rest = without_order P (with_ordered v xs) job ks w (rest xs kept (no_more job v.ordered xs (kept job old) same))
    by (inr asked) rest = with_order P v xs job ks w asked takes.0 (rest (job ∷ xs) (λ j there. inr (kept j there)) (more_same job v.ordered xs same))
-- any other step
fewer P first v xs (k ∷ ks) w kept same known takes = with_step P v xs k ks w refl same takes.0 (fewer P first (view_after v k) xs ks w kept same known takes.1)

pub ordering : (P : JobId → Type 0) (v : AbstractPool) (ks : List AbstractStep) (w : AbstractPool) → AreKnown P v.ordered w → Takes v ks w → Ordering P ks v w
ordering P v ks w known takes = fewer P v.ordered v v.ordered ks w (λ job there. there) (λ job. (λ there. there, λ there. there)) known takes

-- ---- a job that has left the queue
done_same : (v w : AbstractPool) (job : JobId) (by : Outcome) → SameView v w → Stands v job (Done by) → Stands w job (Done by)
done_same v w job by same stands = subst (λ o. IsSomeAnd o (λ (e : Entry). e.state ≡ Done by)) (sym (same.jobs job)) stands

pub takes_done : (v : AbstractPool) (ks : List AbstractStep) (w : AbstractPool) (job : JobId) (by : Outcome) → Takes v ks w → Stands v job (Done by) → Stands w job (Done by)
takes_done v [] w job by takes stands = done_same v w job by takes stands
takes_done v (k ∷ ks) w job by takes stands = takes_done (view_after v k) ks w job by takes.1 (step_done v k job by takes.0 stands)
