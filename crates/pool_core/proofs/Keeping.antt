-- A pool that opens is kept to a protocol, an event keeps it so, and what it shows is safe.
use Rattle.std.proofs.Common.{◌≡◌, ℕ, List, Option, Some, None, Result, Ok, Err, sym, subst}
use Rattle.std.specs.Prelude.{IfOk, IfSome, OnErr, OnOk}
use Rattle.claim_id.specs.declared.numbers.ClaimId.{ClaimId}
use Rattle.pool_parts.specs.Appends.{CanAppend}
use Rattle.pool_parts.specs.Loggable.{CanBeLogged, IsLoggableQueue}
use Rattle.pool_core.specs.KeptPools.{IsKeptPool}
use Rattle.pool_core.specs.ShortPlans.{HasShortPlan, IsShortPlan}
use Rattle.pool_parts.specs.declared.answer.Stepped.{Stepped}
use Rattle.pool_parts.specs.declared.event.Event.{Event}
use Rattle.pool_rules.proofs.Viewing.{linked_shows, shown_safe}
use Rattle.pool_rules.specs.Given.{IsGiven}
use Rattle.pool_rules.specs.Happens.{Reacts}
use Rattle.pool_parts.specs.declared.pending.Pending.{Pending}
use Rattle.pool_parts.specs.declared.pending.Unfinished.{Unfinished}
use Rattle.pool_parts.specs.declared.pending.Unfinished.TheVariants.{Submission, Plan}
use Rattle.pool_view.specs.ProtocolMove.{protocol_after_all}
use Rattle.pool_rules.specs.Limits.{IsWithin}
use Rattle.pool_core.proofs.CountedSteps.{opening_within}
use Rattle.pool_rules.proofs.Counting.{event_counted, opening_counted}
use Rattle.pool_rules.proofs.FewJobs.{event_few_jobs, opening_few_jobs}
use Rattle.pool_rules.proofs.HistoryKept.{accepted_steps}
use Rattle.pool_rules.proofs.HistoryLaunches.{accepted_launches}
use Rattle.pool_rules.proofs.LogAnswers.{event_finishes}
use Rattle.pool_rules.proofs.LogAppends.{answers_can_be_logged}
use Rattle.pool_rules.proofs.LogEvents.{event_loggable}
use Rattle.pool_rules.proofs.PoolEvents.{event_keeps}
use Rattle.pool_rules.proofs.PoolOpening.{opening_is_kept}
use Rattle.pool_rules.proofs.PoolViews.{view_shows}
use Rattle.pool_rules.proofs.Readers.{some_reads}
use Rattle.pool_rules.proofs.ScheddFew.{event_few, opening_few}
use Rattle.pool_rules.specs.Histories.{Accepts, HasView, LaunchesRun, MovesView}
use Rattle.pool_rules.specs.Kept.{GoesOn, IsPendingTx, IsTxOf}
use Rattle.pool_rules.specs.Parts.{parts_of}
use Rattle.pool_rules.specs.Steps.{IsStepOf}
use Rattle.pool_rules.specs.Unfinished.{IsShort}
use Rattle.pool_rules.specs.Refusals.{IsRefusal}
use Rattle.pool_state.specs.Openings.{CanOpen, IsOpenedBy}
use Rattle.pool_state.specs.PoolViews.{IsViewOf}
use Rattle.pool_state.specs.declared.opening.Opening.{Opening}
use Rattle.pool_state.specs.declared.state.PoolState.{PoolState}
use Rattle.pool_tables.specs.declared.refusal.StepError.{StepError}
use Rattle.queue_tx.specs.Operations.{Operation}
use Rattle.queue_tx.specs.Printable.{HasPrintableKeys}
use Rattle.queue_tx.specs.Queues.{KeyedAds, IsQueue}
use Rattle.queue_tx.specs.Roomy.{HasRoom, IsRoomy}
use Rattle.pool_view.specs.AbstractPool.{AbstractPool}
use Rattle.pool_view.specs.Safe.{Safe}
use Rattle.pool_view.specs.Views.{pool_of}
use Rattle.pool_view.specs.declared.view.View.{View}
use Rattle.schedd_state.specs.Reopening.{IsReader}
use Rattle.schedd_core.specs.ScheddParts.{IsOrdered}

-- ---- what is unfinished
short_by : (what : Unfinished) (tx : List Operation) → IsTxOf what tx → IsShortPlan what tx → IsShort what
short_by (Submission cluster count) tx own short = tt
short_by (Plan p) tx own short = short own

plans_short : (o : Option Pending) → IsPendingTx o → IfSome o (λ p. IsShortPlan p.what p.tx) → IfSome o (λ p. IsShort p.what)
plans_short None own short = tt
plans_short (Some p) own short = short_by p.what p.tx own short

-- ---- a pool opens
-- an ad that has room has no name twice
pub names_differ : (q : KeyedAds) → IsQueue q → IsRoomy q → IsOrdered q
names_differ q ordered roomy = record {
  keys = ordered;
  names = λ key ad at. let has : HasRoom key ad = subst (λ o. IfSome o (HasRoom key)) at (roomy key) in has.ad_is.0;
}

pub opened_kept : (o : Opening) (s : PoolState) → CanOpen o → HasPrintableKeys o.queue → IsQueue o.queue → IsRoomy o.queue → IsOpenedBy o s → IsKeptPool s
opened_kept o s can keys ordered roomy opened =
    let k = opening_is_kept o s can (names_differ o.queue ordered roomy) opened in
    record {
      protocol = k.0;
      kept = k.1;
      few = opening_few o s can opened;
      counted = opening_counted o s opened;
      few_jobs = opening_few_jobs o s can opened;
      within = opening_within o s can opened;
      loggable = subst IsLoggableQueue (sym opened.queue) (record { roomy = roomy; keys = keys });
      finishes = subst (λ (x : Option Pending). IfSome x (λ p. CanBeLogged p.tx s.queue)) (sym opened.pending) tt;
    }

-- ---- an event happens, or is refused
event_accepted : (e : Event) (s new : PoolState) (r : Stepped) → IsGiven e s → IsRefusal e s None → Reacts s e r new → Accepts s e r new
event_accepted e s new r given free reacts = record { given = given; accepted = free; reacts = reacts }

event_kept : (e : Event) (s new : PoolState) (r : Stepped) → IsKeptPool s → IsGiven e s → IsRefusal e s None → Reacts s e r new → IsWithin new → HasShortPlan new → IsKeptPool new
event_kept e s new r k given free reacts within short =
    let on : GoesOn k.protocol (IsStepOf e s) new = event_keeps some_reads.0 some_reads.1 k.protocol s k.kept k.few e r new given free reacts in
    record {
      protocol = protocol_after_all k.protocol on.moves;
      kept = on.kept;
      few = event_few some_reads.0 some_reads.1 k.protocol s new e r k.kept k.few reacts;
      counted = event_counted some_reads.0 some_reads.1 k.protocol s new e r k.kept k.counted reacts;
      few_jobs = event_few_jobs some_reads.0 some_reads.1 s k.few_jobs e r new free reacts;
      within = within;
      loggable = event_loggable k.protocol s new e r k.kept k.loggable k.finishes reacts;
      finishes = event_finishes some_reads.0 some_reads.1 s k.protocol k.kept k.few k.loggable k.finishes e r new (event_accepted e s new r given free reacts) (plans_short new.pending on.kept.pending short);
    }

pub step_kept : (e : Event) (s new : PoolState) (result : Result Stepped StepError) → IsKeptPool s → IsGiven e s
    → OnOk result (IsRefusal e s None) → IfOk result (λ r. Reacts s e r new) → OnOk result (IsWithin new) → OnOk result (HasShortPlan new) → OnErr result (new ≡ s) → IsKeptPool new
step_kept e s new (Ok r) k given free reacts within short same = event_kept e s new r k given free reacts within short
step_kept e s new (Err x) k given free reacts within short same = subst IsKeptPool (sym same) k

-- ---- what is to be logged can be
pub step_appends : (e : Event) (s new : PoolState) (result : Result Stepped StepError) → IsKeptPool new
    → IfOk result (λ r. Reacts s e r new) → IfOk result (λ r. CanAppend s.queue r.answer)
step_appends e s new (Ok r) k reacts = answers_can_be_logged s new e r reacts k.finishes
step_appends e s new (Err x) k reacts = tt

-- ---- what an event does to what it shows
pub step_moves : (e : Event) (s new : PoolState) (result : Result Stepped StepError) → IsKeptPool s → IsGiven e s
    → OnOk result (IsRefusal e s None) → IfOk result (λ r. Reacts s e r new) → OnOk result (MovesView e s new)
step_moves e s new (Ok r) k given free reacts = accepted_steps some_reads.0 some_reads.1 k.protocol s e r new k.kept k.few (event_accepted e s new r given free reacts)
step_moves e s new (Err x) k given free reacts = tt

pub step_launches : (e : Event) (s new : PoolState) (result : Result Stepped StepError) → IsKeptPool s → IsGiven e s
    → OnOk result (IsRefusal e s None) → IfOk result (λ r. Reacts s e r new) → IfOk result (λ r. LaunchesRun r.answer new)
step_launches e s new (Ok r) k given free reacts = accepted_launches some_reads.0 some_reads.1 k.protocol s k.kept e r new (event_accepted e s new r given free reacts)
step_launches e s new (Err x) k given free reacts = tt

-- ---- what it shows
pub kept_shows : (s : PoolState) → IsKeptPool s → (v : AbstractPool) × HasView s v
kept_shows s k = (k.protocol.pool, linked_shows k.protocol (parts_of s) k.kept.linked)

pub kept_safe : (s : PoolState) (v : AbstractPool) → IsKeptPool s → HasView s v → Safe v
kept_safe s v k shows = shown_safe k.protocol (parts_of s) v k.kept.linked shows

pub view_safe : (s : PoolState) (view : View) → IsKeptPool s → ((read : List ℕ → Option ClaimId) → IsReader read → IsViewOf read s view) → Safe (pool_of view)
view_safe s view k of = kept_safe s (pool_of view) k (view_shows some_reads.0 some_reads.1 k.protocol s view k.kept (of some_reads.0 some_reads.1))
