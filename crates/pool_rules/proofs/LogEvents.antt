-- Each event leaves a pool's queue as it is, or does what was unfinished to it, so that it has room and printable keys.
use Rattle.std.proofs.Common.{◌≡◌, ◌⊎◌, inl, inr, ℕ, Bool, true, false, List, [], ◌∷◌, Ok, Option, Some, None, is_some, IsSomeAnd, slice_get, position, refl, sym, ◌∙◌, ap, subst}
use Rattle.std.specs.Prelude.{IfSome}
use Rattle.ad_eval.specs.Judgement.{Judgement}
use Rattle.claim_id.specs.declared.numbers.ClaimId.{ClaimId}
use Rattle.claim_id.specs.declared.numbers.JobId.{JobId}
use Rattle.claim_id.specs.declared.order.Verb.{Verb}
use Rattle.pool_parts.specs.declared.answer.Stepped.{Stepped}
use Rattle.pool_parts.specs.declared.event.Event.{Event}
use Rattle.pool_parts.specs.declared.event.Event.TheVariants as event
use Rattle.pool_outer.specs.declared.gate.Daemon.{Daemon}
use Rattle.pool_outer.specs.declared.gate.Daemon.TheVariants.{Schedd, Startd, Matchmaker}
use Rattle.pool_parts.specs.declared.pending.Pending.{Pending}
use Rattle.pool_parts.specs.declared.pending.Unfinished.{Unfinished}
use Rattle.pool_parts.specs.declared.pending.Unfinished.TheVariants.{Submission, Plan}
use Rattle.pool_view.specs.Protocol.{Protocol}
use Rattle.pool_state.specs.declared.state.PoolState.{PoolState}
use Rattle.pool_tables.specs.OrderTables.{is_due_for}
use Rattle.pool_tables.specs.declared.sent.Sent.{Sent}
use Rattle.pool_view.specs.declared.run.EndReport.{EndReport}
use Rattle.queue_tx.specs.Operations.{Operation, new_ad, destroy_ad, set_attr, delete_attr}
use Rattle.queue_tx.specs.Printable.{IsPrintable}
use Rattle.queue_tx.specs.Queues.{KeyedAds, queue_after}
use Rattle.schedd_state.specs.Reopening.{IsReader}
use Rattle.startd_core.specs.Startds.{After, StartdValue, after_end, after_mail, after_reboot, after_tick}
use Rattle.pool_rules.specs.Happens.{ComesBack, Happens, Reacts, Receives, Ticks, counts_brought, crashes}
use Rattle.pool_rules.specs.Logging.{IsBackWith, IsLogged, Leaver, ScheddIsBack, after_unfinished, leaver_of}
use Rattle.pool_rules.specs.Masters.{gives}
use Rattle.pool_rules.specs.Startds.{IsReceivedStep, IsStartdStep, ends_after}
use Rattle.pool_rules.specs.Kept.{IsKept}
use Rattle.pool_parts.specs.Loggable.{BringsPrintableKeys, CanBeLogged, IsLoggableQueue}
use Rattle.pool_rules.specs.Unfinished.{CanFinish}
use Rattle.pool_rules.proofs.LogPools.{queue_of}
use Rattle.pool_parts.proofs.Rooms.{keys_stay, room_stays}
use Rattle.pool_rules.proofs.Readers.{some_reads}

-- ---- the queue of a pool after an event
abbrev Queues : PoolState → PoolState → Type 0
Queues s t = (t.queue ≡ s.queue) ⊎ ((x : Pending) × (s.pending ≡ Some x) × (queue_after s.queue x.tx ≡ Ok t.queue))

same_by : (s t u : PoolState) → t ≡ u → u.queue ≡ s.queue → Queues s t
same_by s t u is same = inl (ap (λ (x : PoolState). x.queue) is ∙ same)

given_same : (s : PoolState) (o : Option ℕ) (v : Verb) (job : JobId) → (gives o v job s).queue ≡ s.queue
given_same s None v job = refl
given_same s (Some place) v job = refl

startd_same : (s t : PoolState) (r : Stepped) (machine : ℕ) (o : Option StartdValue) (does : StartdValue → After) (ends : StartdValue → List EndReport) → IsSomeAnd o (λ v. IsStartdStep machine (does v) (ends v) s t r) → Queues s t
startd_same s t r machine None does ends h = absurd h
startd_same s t r machine (Some v) does ends h = same_by s t _ h.pool refl

mailed_same : (s t : PoolState) (r : Stepped) (machine index : ℕ) (o : Option StartdValue) (does : StartdValue → After) → IsSomeAnd o (λ v. IsReceivedStep machine index (does v) s t r) → Queues s t
mailed_same s t r machine index None does h = absurd h
mailed_same s t r machine index (Some v) does h = same_by s t _ h.pool refl

heard_same : (who : Daemon) (index reading : ℕ) (judged : Option Judgement) (s t : PoolState) (r : Stepped) (o : Option Sent) → IsSomeAnd o (λ sent. Receives who index sent.mail reading judged s t r) → Queues s t
heard_same who index reading judged s t r None h = absurd h
heard_same Schedd index reading judged s t r (Some sent) h = same_by s t _ h.pool refl
heard_same (Startd machine) index reading judged s t r (Some sent) h = mailed_same s t r machine index (slice_get s.machines machine) (λ v. after_mail v sent.mail judged reading) h
heard_same Matchmaker index reading judged s t r (Some sent) h = same_by s t _ h.0 refl

ticked_same : (who : Daemon) (reading : ℕ) (s t : PoolState) (r : Stepped) → Ticks who reading s t r → Queues s t
ticked_same Schedd reading s t r h = same_by s t _ h.pool refl
ticked_same (Startd machine) reading s t r h = startd_same s t r machine (slice_get s.machines machine) (λ v. after_tick v reading) (λ v. []) h
ticked_same Matchmaker reading s t r h = same_by s t s h.0 refl

unfinished_queue : (s : PoolState) (q : KeyedAds) (leaver : Leaver) (what : Unfinished) → (after_unfinished q leaver what s).queue ≡ q
unfinished_queue s q leaver (Submission cluster count) = refl
unfinished_queue s q leaver (Plan pl) = refl

module _ (read : List ℕ → Option ClaimId) (reads : IsReader read) (s : PoolState) where
  logged_queue : (o : Option Pending) (t : PoolState) (r : Stepped) → s.pending ≡ o → IsSomeAnd o (λ x. IsLogged s x t r) → Queues s t
  logged_queue None t r is does = absurd does
  logged_queue (Some x) t r is does =
      let new : t.queue ≡ does.queue = ap (λ (y : PoolState). y.queue) (does.pool read reads) ∙ unfinished_queue s does.queue (leaver_of read s.queue x.what) x.what in
      inr (x, is, does.done ∙ ap Ok (sym new))

  with_queue : (o : Option Pending) (t : PoolState) (reading : ℕ) → s.pending ≡ o → IsSomeAnd o (λ x. IsBackWith s x reading t) → Queues s t
  with_queue None t reading is does = absurd does
  with_queue (Some x) t reading is does =
      let new : t.queue ≡ does.queue = ap (λ (y : PoolState). y.queue) (does.pool read reads) in
      inr (x, is, does.done ∙ ap Ok (sym new))

  back_queue : (kept_tx : Bool) (t : PoolState) (reading : ℕ) → ScheddIsBack s kept_tx reading t → Queues s t
  back_queue false t reading does = same_by s t _ does.pool refl
  back_queue true t reading does = with_queue s.pending t reading refl does

  comes_queue : (who : Daemon) (kept_tx : Bool) (reading : ℕ) (b : PoolState) (r : Stepped) → ComesBack who kept_tx reading s b r → Queues s b
  comes_queue Schedd kept_tx reading b r h = back_queue kept_tx b reading h.0
  comes_queue (Startd machine) kept_tx reading b r h = startd_same s b r machine (slice_get s.machines machine) (λ v. after_reboot v reading) (λ v. []) h
  comes_queue Matchmaker kept_tx reading b r h = same_by s b s h.0 refl

on_by : (s b t : PoolState) → t.queue ≡ b.queue → Queues s b → Queues s t
on_by s b t same (inl h) = inl (same ∙ h)
on_by s b t same (inr h) = inr (h.0, h.1, h.2 ∙ ap Ok (sym same))

module _ (read : List ℕ → Option ClaimId) (reads : IsReader read) (s : PoolState) where
  happens_queue : (e : Event) (t : PoolState) (r : Stepped) → Happens e (counts_brought e s) t r → Queues s t
  unfolding Happens
  happens_queue (event.Submit boot jobs reading) t r h = same_by s t _ h.pool refl
  happens_queue (event.Order v job reading) t r h =
      same_by s t (gives (position (is_due_for v job reading) s.orders) v job (counts_brought (event.Order v job reading) s)) h.0
      (given_same (counts_brought (event.Order v job reading) s) (position (is_due_for v job reading) s.orders) v job)
  happens_queue (event.Receive who boot index reading judged mismatch) t r h = heard_same who index reading judged (counts_brought (event.Receive who boot index reading judged mismatch) s) t r (slice_get s.mails.sent index) h
  happens_queue (event.Tick who boot reading) t r h = ticked_same who reading (counts_brought (event.Tick who boot reading) s) t r h
  happens_queue (event.Check boot job reading) t r h = same_by s t _ h.pool refl
  happens_queue (event.Logged boot receipt) t r h = logged_queue read reads (counts_brought (event.Logged boot receipt) s) s.pending t r refl h
  happens_queue (event.Ended machine boot receipt reading) t r h =
      startd_same (counts_brought (event.Ended machine boot receipt reading) s) t r machine (slice_get s.machines machine) (λ v. after_end v receipt.item reading) (λ v. ends_after receipt.item.run v (after_end v receipt.item reading)) h
  happens_queue (event.Crash who) t r h = same_by s t (crashes who (counts_brought (event.Crash who) s)) h.0 refl
  happens_queue (event.Reopen who kept_tx ended reading) t r h =
      on_by s h.back t (ap (λ (y : PoolState). y.queue) h.pool) (comes_queue read reads (counts_brought (event.Reopen who kept_tx ended reading) s) who (is_some kept_tx) reading h.back r h.comes)
  happens_queue (event.Matches list judged reading) t r h = same_by s t _ h.pool refl
  happens_queue (event.Close length reading mismatch) t r h = same_by s t _ h.0 refl

-- ---- so it has room and printable keys
brings : (tx : List Operation) → IsPrintable tx → BringsPrintableKeys tx
brings [] h = tt
brings (new_ad key kind other ∷ os) h = (h.0.0, brings os h.1)
brings (destroy_ad key ∷ os) h = (tt, brings os h.1)
brings (set_attr key name e ∷ os) h = (tt, brings os h.1)
brings (delete_attr key name ∷ os) h = (tt, brings os h.1)

pub event_loggable : (p : Protocol) (s new : PoolState) (e : Event) (r : Stepped) → IsKept p s → IsLoggableQueue s.queue → CanFinish s → Reacts s e r new → IsLoggableQueue new.queue
event_loggable p s new e r kept logs can reacts = by (on_by s reacts.then_pool new (ap (λ (y : PoolState). y.queue) reacts.pool) (happens_queue some_reads.0 some_reads.1 s e reacts.then_pool r reacts.happens))
  where
    by : Queues s new → IsLoggableQueue new.queue
    by (inl same) = subst (λ (q : KeyedAds). IsLoggableQueue q) (sym same) logs
    by (inr h) =
        let tx = subst (λ (o : Option Pending). IfSome o (λ y. CanBeLogged y.tx s.queue)) h.1 can in
        record {
          roomy = room_stays s.queue new.queue h.0.tx (queue_of p s kept) logs.roomy h.2;
          keys = keys_stay s.queue new.queue h.0.tx (queue_of p s kept) logs.keys (brings h.0.tx tx.printable) h.2;
        }
