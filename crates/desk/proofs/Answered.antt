-- What an event can be answered with, and that the history keeps just that.
use Rattle.std.proofs.Common.{◌≡◌, ℕ, Bool, true, false, List, [], ◌∷◌, Option, Some, None, IsSomeAnd, slice_get, is_some, refl, sym, subst, if◌then◌else◌}
use Rattle.claim_id.specs.declared.numbers.RunNo.{RunNo}
use Rattle.desk.specs.Kinds.{AsksNothing, IsKindOf, IsMailAnswer, IsTickAnswer, MayAppend, MayKill, MayRun}
use Rattle.pool_parts.specs.Answers.{kept_of}
use Rattle.pool_parts.specs.declared.answer.Answer.{Answer}
use Rattle.pool_parts.specs.declared.answer.Answer.TheVariants as answer
use Rattle.pool_parts.specs.declared.answer.Stepped.{Stepped}
use Rattle.pool_parts.specs.declared.event.Event.{Event}
use Rattle.pool_parts.specs.declared.event.Event.TheVariants as event
use Rattle.pool_mail.specs.declared.end.Ending.{Ending}
use Rattle.pool_mail.specs.declared.end.How.{How}
use Rattle.pool_mail.specs.declared.mail.Mail.{Mail}
use Rattle.pool_mail.specs.declared.mail.Mail.TheVariants.{Ended}
use Rattle.pool_rules.specs.Answers.{answered, answer_of_startd, answer_with, pending_by}
use Rattle.pool_rules.specs.Deeds.{startd_answer}
use Rattle.pool_rules.specs.Happens.{ComesBack, Happens, IsDone, Reacts, Receives, Ticks}
use Rattle.pool_rules.specs.Logging.{IsLogged}
use Rattle.pool_rules.specs.Startds.{IsReceivedStep, IsStartdStep, StartdDoes, StartdReceives}
use Rattle.pool_outer.specs.declared.gate.Daemon.{Daemon}
use Rattle.pool_outer.specs.declared.gate.Daemon.TheVariants.{Schedd, Startd, Matchmaker}
use Rattle.pool_parts.specs.declared.pending.Pending.{Pending}
use Rattle.pool_state.specs.declared.state.PoolState.{PoolState}
use Rattle.pool_tables.specs.declared.sent.Sent.{Sent}
use Rattle.schedd_plan.specs.declared.plan.JobPlan.{JobPlan}
use Rattle.claim_id.specs.declared.pair.Cue.TheVariants as cue
use Rattle.startd_core.specs.declared.answer.StartdAnswer.{StartdAnswer}
use Rattle.startd_core.specs.declared.answer.StartdAnswer.TheVariants as startd
use Rattle.startd_core.specs.Startds.{After, StartdValue, after_end, after_mail, after_reboot, after_tick, answer_of, ended_at, ended_in, ended_where, kill_answer, made_by, place_of}
use Rattle.startd_slot.specs.declared.held.Rival.{Rival}
use Rattle.startd_slot.specs.declared.slot.Slot.{Slot}
use Rattle.startd_slot.specs.declared.slot.SlotState.{SlotState}
use Rattle.startd_slot.specs.EndingTable.{after_ending, after_last_run, how_of, mark_in}
use Rattle.startd_slot.specs.Reactions.{says}
use Rattle.startd_slot.specs.ReleaseTable.{is_busy}
use Rattle.startd_slot.specs.SlotStates.{after_cue, running_of, runs_on, without_claim, without_run}

-- the answer, which is of a kind
pub record IsAnswered (Kind : Answer → Type 0) (r : Stepped) : Type 0 where
  pub answer : Answer
  pub is : r ≡ answered answer
  pub kind : Kind answer

-- ---- the schedd
plan_kind : (number : ℕ) (p : Option JobPlan) → MayAppend (answer_with (pending_by number p))
plan_kind number None = tt
plan_kind number (Some p) = tt

-- ---- a startd
may_run : (a : StartdAnswer) → MayRun (answer_of_startd a)
may_run startd.Done = tt
may_run (startd.Launch permit) = tt
may_run (startd.Kill runs) = tt

may_kill : (runs : List RunNo) → MayKill (answer_of_startd (kill_answer runs))
may_kill [] = tt
may_kill (run ∷ runs) = tt

-- the end of a run asks for nothing
last_done : (o : Option Rival) (told : Mail) (reading : ℕ) (s : SlotState) → answer_of (after_last_run o told reading s).task ≡ startd.Done
last_done None told reading s = refl
last_done (Some rival) told reading s = refl

ending_done : (ending : Ending) (reading : ℕ) (s : SlotState) → answer_of (after_ending ending reading s).task ≡ startd.Done
ending_done ending reading s = by_busy (is_busy s.pair) (how_of ending.end (mark_in (running_of s)))
  where
    by_busy : (busy : Bool) (how : How) → answer_of (if busy then says (after_cue cue.Rest reading (without_run ending.run how reading s)) (Ended ending.run how ∷ [])
        else after_last_run s.rival (Ended ending.run how) reading (without_claim (without_run ending.run how reading s))).task ≡ startd.Done
    by_busy true how = refl
    by_busy false how = last_done s.rival (Ended ending.run how) reading (without_claim (without_run ending.run how reading s))

pub end_done : (v : StartdValue) (ending : Ending) (reading : ℕ) → (after_end v ending reading).step.answer ≡ startd.Done
unfolding made_by
end_done v ending reading = by_place (place_of v ending.run.claim.slot)
  where
    by_run : (place : ℕ) (slot : Slot) (here : Bool) → (ended_where here v place slot ending reading).step.answer ≡ startd.Done
    by_run place slot false = refl
    by_run place slot true = ending_done ending reading slot.state

    by_slot : (place : ℕ) (o : Option Slot) → (ended_at v place o ending reading).step.answer ≡ startd.Done
    by_slot place None = refl
    by_slot place (Some slot) = by_run place slot (runs_on slot.state ending.run)

    by_place : (o : Option ℕ) → (ended_in v o ending reading).step.answer ≡ startd.Done
    by_place None = refl
    by_place (Some place) = by_slot place (slice_get v.slots place)

-- a step of a machine's startd that answers so
startd_kind : (Kind : Answer → Type 0) (a : After) (r : Stepped) → Kind (answer_of_startd a.step.answer) → r ≡ startd_answer a.step → IsAnswered Kind r
startd_kind Kind a r kind is = record { answer = answer_of_startd a.step.answer; is = is; kind = kind }

does_kind : (Kind : Answer → Type 0) (machine : ℕ) (f : StartdValue → After) (s new : PoolState) (r : Stepped)
    → ((v : StartdValue) → Kind (answer_of_startd (f v).step.answer)) → StartdDoes machine f s new r → IsAnswered Kind r
does_kind Kind machine f s new r kind does = by (slice_get s.machines machine) does
  where
    by : (o : Option StartdValue) → IsSomeAnd o (λ v. IsStartdStep machine (f v) [] s new r) → IsAnswered Kind r
    by None does = absurd does
    by (Some v) does = startd_kind Kind (f v) r (kind v) does.answer

receives_kind : (Kind : Answer → Type 0) (machine index : ℕ) (f : StartdValue → After) (s new : PoolState) (r : Stepped)
    → ((v : StartdValue) → Kind (answer_of_startd (f v).step.answer)) → StartdReceives machine index f s new r → IsAnswered Kind r
receives_kind Kind machine index f s new r kind does = by (slice_get s.machines machine) does
  where
    by : (o : Option StartdValue) → IsSomeAnd o (λ v. IsReceivedStep machine index (f v) s new r) → IsAnswered Kind r
    by None does = absurd does
    by (Some v) does = startd_kind Kind (f v) r (kind v) does.answer

-- ---- each event
done_kind : (Kind : Answer → Type 0) (r : Stepped) → Kind answer.Done → IsDone r → IsAnswered Kind r
done_kind Kind r kind is = record { answer = answer.Done; is = is; kind = kind }

mail_kind : (who : Daemon) (index : ℕ) (m : Mail) (reading : ℕ) (judged : _) (s new : PoolState) (r : Stepped) → Receives who index m reading judged s new r → IsAnswered (IsMailAnswer who) r
mail_kind Schedd index m reading judged s new r h = record { answer = _; is = h.answer; kind = plan_kind s.next_tx _ }
mail_kind (Startd machine) index m reading judged s new r h =
    receives_kind MayRun machine index (λ v. after_mail v m judged reading) s new r (λ v. may_run (after_mail v m judged reading).step.answer) h
mail_kind Matchmaker index m reading judged s new r h = done_kind AsksNothing r tt h.1

tick_kind : (who : Daemon) (reading : ℕ) (s new : PoolState) (r : Stepped) → Ticks who reading s new r → IsAnswered (IsTickAnswer who) r
tick_kind Schedd reading s new r h = record { answer = _; is = h.answer; kind = plan_kind s.next_tx h.step.plan }
tick_kind (Startd machine) reading s new r h = does_kind MayKill machine (λ v. after_tick v reading) s new r (λ v. may_kill _) h
tick_kind Matchmaker reading s new r h = done_kind AsksNothing r tt h.1

back_kind : (who : Daemon) (kept : Bool) (reading : ℕ) (s new : PoolState) (r : Stepped) → ComesBack who kept reading s new r → IsAnswered AsksNothing r
back_kind Schedd kept reading s new r h = done_kind AsksNothing r tt h.1
back_kind (Startd machine) kept reading s new r h = does_kind AsksNothing machine (λ v. after_reboot v reading) s new r (λ v. tt) h
back_kind Matchmaker kept reading s new r h = done_kind AsksNothing r tt h.1

event_kind : (e : Event) (s new : PoolState) (r : Stepped) → Happens e s new r → IsAnswered (IsKindOf e) r
unfolding Happens
event_kind (event.Submit boot jobs reading) s new r h = record { answer = _; is = h.answer; kind = tt }
event_kind (event.Order v job reading) s new r h = done_kind AsksNothing r tt h.1
event_kind (event.Receive who boot index reading judged mismatch) s new r h = by (slice_get s.mails.sent index) h
  where
    by : (o : Option Sent) → IsSomeAnd o (λ sent. Receives who index sent.mail reading judged s new r) → IsAnswered (IsMailAnswer who) r
    by None h = absurd h
    by (Some sent) h = mail_kind who index sent.mail reading judged s new r h
event_kind (event.Tick who boot reading) s new r h = tick_kind who reading s new r h
event_kind (event.Check boot job reading) s new r h = record { answer = _; is = h.answer; kind = plan_kind s.next_tx _ }
event_kind (event.Logged boot receipt) s new r h = by s.pending h
  where
    by : (o : Option Pending) → IsSomeAnd o (λ p. IsLogged s p new r) → IsAnswered AsksNothing r
    by None h = absurd h
    by (Some p) h = done_kind AsksNothing r tt h.answer
event_kind (event.Ended machine boot receipt reading) s new r h = by (slice_get s.machines machine) h
  where
    f : StartdValue → After
    f v = after_end v receipt.item reading

    by : (o : Option StartdValue) → IsSomeAnd o (λ v. IsStartdStep machine (f v) (Rattle.pool_rules.specs.Startds.ends_after receipt.item.run v (f v)) s new r) → IsAnswered AsksNothing r
    by None h = absurd h
    by (Some v) h = startd_kind AsksNothing (f v) r (subst (λ a. AsksNothing (answer_of_startd a)) (sym (end_done v receipt.item reading)) tt) h.answer
event_kind (event.Crash who) s new r h = done_kind AsksNothing r tt h.1
event_kind (event.Reopen who kept ended reading) s new r h = back_kind who (is_some kept) reading s h.back r h.comes
event_kind (event.Matches list judged reading) s new r h = done_kind AsksNothing r tt h.answer
event_kind (event.Close length reading mismatch) s new r h = done_kind AsksNothing r tt h.1

pub kind_of : (s new : PoolState) (e : Event) (r : Stepped) → Reacts s e r new → IsKindOf e r.answer
kind_of s new e r h = let a = event_kind e _ h.then_pool r h.happens in subst (λ (x : Stepped). IsKindOf e x.answer) (sym a.is) a.kind

pub keeps_answer : (s new : PoolState) (e : Event) (r : Stepped) → Reacts s e r new → r.kept ≡ kept_of r.answer
keeps_answer s new e r h = let a = event_kind e _ h.then_pool r h.happens in subst (λ (x : Stepped). x.kept ≡ kept_of x.answer) (sym a.is) refl
