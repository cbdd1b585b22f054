-- What is answered is to be logged can be, where what is unfinished then can.
use Rattle.std.proofs.Common.{◌≡◌, ℕ, Bool, List, [], Option, Some, None, is_some, IsSomeAnd, slice_get, sym, subst}
use Rattle.std.specs.Prelude.{IfSome}
use Rattle.ad_eval.specs.Judgement.{Judgement}
use Rattle.pool_parts.specs.declared.answer.Stepped.{Stepped}
use Rattle.pool_parts.specs.declared.event.Event.{Event}
use Rattle.pool_parts.specs.declared.event.Event.TheVariants as event
use Rattle.pool_outer.specs.declared.gate.Daemon.{Daemon}
use Rattle.pool_outer.specs.declared.gate.Daemon.TheVariants.{Schedd, Startd, Matchmaker}
use Rattle.pool_parts.specs.declared.pending.Pending.{Pending}
use Rattle.pool_state.specs.declared.state.PoolState.{PoolState}
use Rattle.pool_tables.specs.declared.sent.Sent.{Sent}
use Rattle.pool_view.specs.declared.run.EndReport.{EndReport}
use Rattle.queue_tx.specs.Queues.{KeyedAds}
use Rattle.startd_core.specs.declared.answer.StartdAnswer.{StartdAnswer}
use Rattle.startd_core.specs.declared.answer.StartdAnswer.TheVariants as startd
use Rattle.startd_core.specs.declared.answer.StartdStep.{StartdStep}
use Rattle.startd_core.specs.Startds.{After, StartdValue, after_end, after_mail, after_reboot, after_tick}
use Rattle.pool_rules.specs.Answers.{answer_of_startd, answer_with, answered}
use Rattle.pool_rules.specs.Deeds.{startd_answer}
use Rattle.pool_rules.specs.Happens.{ComesBack, Happens, IsDone, Reacts, Receives, Ticks, counts_brought}
use Rattle.pool_rules.specs.Logging.{IsLogged}
use Rattle.pool_rules.specs.Startds.{IsReceivedStep, IsStartdStep, ends_after}
use Rattle.pool_parts.specs.Appends.{CanAppend}
use Rattle.pool_parts.specs.Loggable.{CanBeLogged}
use Rattle.pool_rules.specs.Unfinished.{CanFinish}

-- ---- an answer that has what is unfinished
appended : (q : KeyedAds) (o : Option Pending) → IfSome o (λ y. CanBeLogged y.tx q) → CanAppend q (answer_with o)
appended q None can = tt
appended q (Some x) can = can

by_pool : (t u : PoolState) (r : Stepped) → t ≡ u → r ≡ answered (answer_with u.pending) → CanFinish t → CanAppend u.queue r.answer
by_pool t u r is says can =
    subst (λ (x : Stepped). CanAppend u.queue x.answer) (sym says) (appended u.queue u.pending (subst (λ (x : PoolState). CanFinish x) is can))

-- ---- one that has nothing to log
by_done : (q : KeyedAds) (r : Stepped) → IsDone r → CanAppend q r.answer
by_done q r says = subst (λ (x : Stepped). CanAppend q x.answer) (sym says) tt

by_startd : (q : KeyedAds) (r : Stepped) (step : StartdStep) → r ≡ startd_answer step → CanAppend q r.answer
by_startd q r step says = subst (λ (x : Stepped). CanAppend q x.answer) (sym says) (by step.answer)
  where
    by : (a : StartdAnswer) → CanAppend q (answer_of_startd a)
    by startd.Done = tt
    by (startd.Launch permit) = tt
    by (startd.Kill runs) = tt

does_nothing : (q : KeyedAds) (s t : PoolState) (r : Stepped) (machine : ℕ) (o : Option StartdValue) (does : StartdValue → After) (ends : StartdValue → List EndReport)
    → IsSomeAnd o (λ v. IsStartdStep machine (does v) (ends v) s t r) → CanAppend q r.answer
does_nothing q s t r machine None does ends h = absurd h
does_nothing q s t r machine (Some v) does ends h = by_startd q r (does v).step h.answer

hears_nothing : (q : KeyedAds) (s t : PoolState) (r : Stepped) (machine index : ℕ) (o : Option StartdValue) (does : StartdValue → After)
    → IsSomeAnd o (λ v. IsReceivedStep machine index (does v) s t r) → CanAppend q r.answer
hears_nothing q s t r machine index None does h = absurd h
hears_nothing q s t r machine index (Some v) does h = by_startd q r (does v).step h.answer

logs_nothing : (q : KeyedAds) (s t : PoolState) (r : Stepped) (o : Option Pending) → IsSomeAnd o (λ x. IsLogged s x t r) → CanAppend q r.answer
logs_nothing q s t r None h = absurd h
logs_nothing q s t r (Some x) h = by_done q r h.answer

-- ---- each event
heard : (who : Daemon) (index reading : ℕ) (judged : Option Judgement) (s t : PoolState) (r : Stepped) (o : Option Sent) → IsSomeAnd o (λ sent. Receives who index sent.mail reading judged s t r) → CanFinish t → CanAppend s.queue r.answer
heard who index reading judged s t r None h can = absurd h
heard Schedd index reading judged s t r (Some sent) h can = by_pool t _ r h.pool h.answer can
heard (Startd machine) index reading judged s t r (Some sent) h can = hears_nothing s.queue s t r machine index (slice_get s.machines machine) (λ v. after_mail v sent.mail judged reading) h
heard Matchmaker index reading judged s t r (Some sent) h can = by_done s.queue r h.1

ticked : (who : Daemon) (reading : ℕ) (s t : PoolState) (r : Stepped) → Ticks who reading s t r → CanFinish t → CanAppend s.queue r.answer
ticked Schedd reading s t r h can = by_pool t _ r h.pool h.answer can
ticked (Startd machine) reading s t r h can = does_nothing s.queue s t r machine (slice_get s.machines machine) (λ v. after_tick v reading) (λ v. []) h
ticked Matchmaker reading s t r h can = by_done s.queue r h.1

comes : (q : KeyedAds) (who : Daemon) (kept_tx : Bool) (reading : ℕ) (s b : PoolState) (r : Stepped) → ComesBack who kept_tx reading s b r → CanAppend q r.answer
comes q Schedd kept_tx reading s b r h = by_done q r h.1
comes q (Startd machine) kept_tx reading s b r h = does_nothing q s b r machine (slice_get s.machines machine) (λ v. after_reboot v reading) (λ v. []) h
comes q Matchmaker kept_tx reading s b r h = by_done q r h.1

happens_appends : (s : PoolState) (e : Event) (t : PoolState) (r : Stepped) → Happens e (counts_brought e s) t r → CanFinish t → CanAppend s.queue r.answer
unfolding Happens
happens_appends s (event.Submit boot jobs reading) t r h can = by_pool t _ r h.pool h.answer can
happens_appends s (event.Order v job reading) t r h can = by_done s.queue r h.1
happens_appends s (event.Receive who boot index reading judged mismatch) t r h can =
    heard who index reading judged (counts_brought (event.Receive who boot index reading judged mismatch) s) t r (slice_get s.mails.sent index) h can
happens_appends s (event.Tick who boot reading) t r h can = ticked who reading (counts_brought (event.Tick who boot reading) s) t r h can
happens_appends s (event.Check boot job reading) t r h can = by_pool t _ r h.pool h.answer can
happens_appends s (event.Logged boot receipt) t r h can = logs_nothing s.queue (counts_brought (event.Logged boot receipt) s) t r s.pending h
happens_appends s (event.Ended machine boot receipt reading) t r h can =
    does_nothing s.queue (counts_brought (event.Ended machine boot receipt reading) s) t r machine (slice_get s.machines machine) (λ v. after_end v receipt.item reading) (λ v. ends_after receipt.item.run v (after_end v receipt.item reading)) h
happens_appends s (event.Crash who) t r h can = by_done s.queue r h.1
happens_appends s (event.Reopen who kept_tx ended reading) t r h can =
    comes s.queue who (is_some kept_tx) reading (counts_brought (event.Reopen who kept_tx ended reading) s) h.back r h.comes
happens_appends s (event.Matches list judged reading) t r h can = by_done s.queue r h.answer
happens_appends s (event.Close length reading mismatch) t r h can = by_done s.queue r h.1

pub answers_can_be_logged : (s new : PoolState) (e : Event) (r : Stepped) → Reacts s e r new → CanFinish new → CanAppend s.queue r.answer
answers_can_be_logged s new e r reacts can =
    happens_appends s e reacts.then_pool r reacts.happens (subst (λ (x : PoolState). CanFinish x) reacts.pool can)
