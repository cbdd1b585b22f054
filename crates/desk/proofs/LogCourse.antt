-- The entries of the schedd's pass and the unfinished transaction, with one event more.
use Rattle.std.proofs.Common.{◌≡◌, ℕ, ◌+◌, ◌-◌, ◌≤◌, ◌==◌, Bool, true, false, List, [], ◌∷◌, ◌++◌, length, Option, Some, None, Result, Ok, Err, refl, sym, ◌∙◌, ap, subst, arith, eq-eqb, length-append, if◌then◌else◌}
use Rattle.desk.specs.Logs.{LogSoFar, Numbered, log_told, log_with, with_logged}
use Rattle.pool_parts.specs.Answers.{kept_of}
use Rattle.pool_parts.specs.declared.answer.Kept.{Kept}
use Rattle.pool_parts.specs.declared.answer.Kept.TheVariants as kept
use Rattle.pool_rules.specs.Answers.{answer_with, pending_by}
use Rattle.pool_parts.specs.declared.pending.Pending.{Pending}
use Rattle.queue_tx.specs.declared.error.ApplyError.{ApplyError}
use Rattle.queue_tx.specs.Operations.{Operation}
use Rattle.queue_tx.specs.Queues.{KeyedAds, after_rest, queue_after, queue_after_all}
use Rattle.schedd_plan.specs.declared.plan.JobPlan.{JobPlan}
use Rattle.desk.specs.Standing.{LogStands}

-- how the entries go on: they stand, and as many were logged before them
pub record LogGoesOn (log new : LogSoFar) (pending : Option Pending) (next after : ℕ) : Type 0 where
  pub stands : LogStands new pending after
  pub before : after - length new.list ≡ next - length log.list

-- nothing changes
pub same_goes : (log : LogSoFar) (pending : Option Pending) (next : ℕ) → LogStands log pending next → LogGoesOn log log pending next next
same_goes log pending next stands = record { stands = stands; before = refl }

-- perhaps a transaction is to be logged
pub planned_goes : (log : LogSoFar) (next : ℕ) (p : Option JobPlan) → LogStands log None next → LogGoesOn log (log_with (kept_of (answer_with (pending_by next p))) log) (pending_by next p) next next
planned_goes log next None stands = same_goes log None next stands
planned_goes log next (Some p) stands = record { stands = record { few = stands.few; unlogged = refl }; before = refl }

-- it is logged
one_more : (tx : List Operation) (number : ℕ) (list : List (List Operation)) → with_logged (Some (number, tx)) (Some number) list ≡ list ++ tx ∷ []
one_more tx number list = by (number == number) (eq-eqb number number refl)
  where
    by : (b : Bool) → b ≡ true → (if b then list ++ tx ∷ [] else list) ≡ list ++ tx ∷ []
    by true is = refl
    by false is = cc

pub logged_list : (log : LogSoFar) (p : Pending) (next : ℕ) → LogStands log (Some p) next → (log_told true (Some p.number) log).list ≡ log.list ++ p.tx ∷ []
logged_list log p next stands =
    ap (λ (o : Option Numbered). with_logged o (Some p.number) log.list) stands.unlogged ∙ one_more p.tx p.number log.list

pub logged_goes : (log : LogSoFar) (p : Pending) (next : ℕ) → LogStands log (Some p) next → LogGoesOn log (log_told true (Some p.number) log) None next (next + 1)
logged_goes log p next stands =
    let longer : length (with_logged log.unlogged (Some p.number) log.list) ≡ length log.list + 1 =
    ap (λ (xs : List (List Operation)). length xs) (logged_list log p next stands) ∙ length-append log.list (p.tx ∷ []) in
    let few = stands.few in
    record { stands = record { few = omega (arith, longer, few); unlogged = refl }; before = omega (arith, longer, few) }

-- it is lost
pub none_logged : (o : Option Numbered) (list : List (List Operation)) → with_logged o None list ≡ list
none_logged None list = refl
none_logged (Some tx) list = refl

pub lost_goes : (log : LogSoFar) (pending : Option Pending) (next : ℕ) → LogStands log pending next → LogGoesOn log (log_told true None log) None next next
lost_goes log pending next stands =
    let same : with_logged log.unlogged None log.list ≡ log.list = none_logged log.unlogged log.list in
    record {
      stands = record { few = subst (λ (xs : List (List Operation)). length xs ≤ next) (sym same) stands.few; unlogged = refl };
      before = ap (λ (xs : List (List Operation)). next - length xs) same;
    }

-- an answer logs nothing
pub kept_list : (k : Kept) (log : LogSoFar) → (log_with k log).list ≡ log.list
kept_list kept.Done log = refl
kept_list (kept.Append number tx) log = refl
kept_list (kept.Launch run job what) log = refl
kept_list (kept.Kill runs) log = refl

-- ---- the queue
-- what is logged more makes that queue of this one
abbrev pub QueueGoesOn : LogSoFar → LogSoFar → KeyedAds → KeyedAds → Type 0
QueueGoesOn log new q to = (first : KeyedAds) → queue_after_all first log.list ≡ Ok q → queue_after_all first new.list ≡ Ok to

-- nothing more is logged
pub queue_stays : (log new : LogSoFar) (q to : KeyedAds) → new.list ≡ log.list → to ≡ q → QueueGoesOn log new q to
queue_stays log new q to list queue first is = ap (queue_after_all first) list ∙ (is ∙ ap (λ (x : KeyedAds). Ok x) (sym queue))

-- one transaction more
ended : (r : Result KeyedAds ApplyError) → after_rest (λ p. queue_after_all p []) r ≡ r
ended (Ok q) = refl
ended (Err e) = refl

abbrev queue_in : KeyedAds → Result KeyedAds ApplyError → KeyedAds
queue_in other (Ok q) = q
queue_in other (Err e) = other

all_and_one : (first q : KeyedAds) (txs : List (List Operation)) (tx : List Operation) → queue_after_all first txs ≡ Ok q → queue_after_all first (txs ++ tx ∷ []) ≡ queue_after q tx
all_and_one first q [] tx is = ended (queue_after first tx) ∙ ap (λ (x : KeyedAds). queue_after x tx) (ap (queue_in q) is)
all_and_one first q (t ∷ txs) tx is = by (queue_after first t) (λ p. all_and_one p q txs tx) is
  where
    by : (r : Result KeyedAds ApplyError) → ((p : KeyedAds) → queue_after_all p txs ≡ Ok q → queue_after_all p (txs ++ tx ∷ []) ≡ queue_after q tx)
        → after_rest (λ p. queue_after_all p txs) r ≡ Ok q → after_rest (λ p. queue_after_all p (txs ++ tx ∷ [])) r ≡ queue_after q tx
    by (Ok p) rest is = rest p is
    by (Err e) rest is = cc

pub queue_logs : (log new : LogSoFar) (tx : List Operation) (q to : KeyedAds) → new.list ≡ log.list ++ tx ∷ [] → queue_after q tx ≡ Ok to → QueueGoesOn log new q to
queue_logs log new tx q to list done first is = ap (queue_after_all first) list ∙ (all_and_one first q log.list tx is ∙ done)
