-- Every event that a pool accepts keeps it.
use Rattle.std.proofs.Common.{◌≡◌, ℕ, ◌+◌, max, List, [], ◌∷◌, length, Option, Some, None, slice_get, sym, subst}
use Rattle.ad_eval.specs.Judgement.{Judgement, Mismatch}
use Rattle.ad_tree.specs.Ad.{Attributes}
use Rattle.claim_id.specs.declared.numbers.ClaimId.{ClaimId}
use Rattle.claim_id.specs.declared.numbers.SlotId.{SlotId}
use Rattle.pool_parts.specs.declared.answer.Stepped.{Stepped}
use Rattle.pool_parts.specs.declared.event.Event.{Event}
use Rattle.pool_parts.specs.declared.event.Event.TheVariants as event
use Rattle.pool_parts.specs.Sizes.{event_count}
use Rattle.pool_mail.specs.declared.mail.Mail.{Mail}
use Rattle.pool_rules.specs.Given.{IsGiven}
use Rattle.pool_rules.specs.Happens.{Happens, Reacts, counts_brought, counts_event}
use Rattle.pool_outer.specs.declared.gate.Daemon.{Daemon}
use Rattle.pool_outer.specs.declared.gate.Daemon.TheVariants.{Schedd, Startd, Matchmaker}
use Rattle.pool_view.specs.Protocol.{Protocol}
use Rattle.pool_rules.specs.Judging.{judged_in}
use Rattle.pool_rules.specs.Refusals.{IsAdRefusal, IsAdRefusalBy, IsEventRefusal, IsReceiveRefusal, IsRefusal, Refusal, Then, closed_refusal, events_refusal, first_of, receive_refusal}
use Rattle.pool_state.specs.declared.state.Counts.{Counts}
use Rattle.pool_state.specs.declared.state.PoolState.{PoolState}
use Rattle.pool_tables.specs.declared.sent.Sent.{Sent}
use Rattle.pool_view.specs.AbstractStep.{AbstractStep}
use Rattle.schedd_state.specs.Reopening.{IsReader}
use Rattle.pool_rules.specs.Few.{AreFew}
use Rattle.pool_rules.specs.Kept.{GoesOn, IsKept, at_reading}
use Rattle.pool_rules.specs.Steps.{IsStepOf}
use Rattle.pool_rules.proofs.HistoryTraces.{happens_traces}
use Rattle.pool_rules.proofs.PoolDaemons as daemons
use Rattle.pool_rules.proofs.PoolFrames.{aside_goes, aside_kept}
use Rattle.pool_rules.proofs.PoolSent.{matches_keep, orders_keep}
use Rattle.pool_rules.proofs.ScheddBack.{return_keeps}
use Rattle.pool_rules.proofs.ScheddEvents.{look_keeps, mail_keeps, tick_keeps}
use Rattle.pool_rules.proofs.ScheddFree.{submit_keeps}
use Rattle.pool_rules.proofs.ScheddLogged.{logged_keeps}
use Rattle.pool_rules.proofs.StartdGoing as startd

-- ---- what refuses nothing of a pool refuses nothing of one that has counted more
free_next : (a : Refusal) (Next : Refusal → Type 0) → Then a Next None → Next None
free_next None Next h = h
free_next (Some e) Next h = cc

pub event_free : (e : Event) (s : PoolState) → IsRefusal e s None → IsEventRefusal e s None
event_free e s free = free_next (first_of (closed_refusal s ∷ events_refusal s ∷ [])) (IsEventRefusal e s) free

free_on : (a : Refusal) (N M : Refusal → Type 0) → (N None → M None) → Then a N None → Then a M None
free_on None N M f h = f h
free_on (Some e) N M f h = h

fair_on : (s : PoolState) (c : Counts) (m : Mail) (x : Option (Attributes × SlotId)) (reading : ℕ) (judged : Option Judgement) (mismatch : Option Mismatch) → IsAdRefusalBy x s m reading judged mismatch None → IsAdRefusalBy x (record s { counts = c }) m reading judged mismatch None
fair_on s c m None reading judged mismatch h = h
fair_on s c m (Some x) reading judged mismatch h = record {
  fails = λ not. h.fails (λ fair. not (record { fair = fair.fair; given = fair.given }));
  holds = λ fair. h.holds (record { fair = fair.fair; given = fair.given });
}

ad_free_on : (s : PoolState) (c : Counts) (o : Option Sent) (reading : ℕ) (judged : Option Judgement) (mismatch : Option Mismatch) → IsAdRefusal o s reading judged mismatch None → IsAdRefusal o (record s { counts = c }) reading judged mismatch None
ad_free_on s c None reading judged mismatch h = h
ad_free_on s c (Some sent) reading judged mismatch h = fair_on s c sent.mail (judged_in sent.mail) reading judged mismatch h

pub receive_free_on : (s : PoolState) (c : Counts) (who : Daemon) (boot index reading : ℕ) (judged : Option Judgement) (mismatch : Option Mismatch) → IsReceiveRefusal who boot index reading judged mismatch s None → IsReceiveRefusal who boot index reading judged mismatch (record s { counts = c }) None
receive_free_on s c Schedd boot index reading judged mismatch h = free_on (receive_refusal Schedd boot index s) _ _ (ad_free_on s c (slice_get s.mails.sent index) reading judged mismatch) h
receive_free_on s c (Startd machine) boot index reading judged mismatch h = free_on (receive_refusal (Startd machine) boot index s) _ _ (ad_free_on s c (slice_get s.mails.sent index) reading judged mismatch) h
receive_free_on s c Matchmaker boot index reading judged mismatch h = free_on (receive_refusal Matchmaker boot index s) _ _ (ad_free_on s c (slice_get s.mails.sent index) reading judged mismatch) h

-- ---- the event and its reading are counted
counted : (p : Protocol) (P : AbstractStep → Type 0) (s t : PoolState) (reading : ℕ) → t.latest ≡ s.latest → GoesOn p P (at_reading reading t) → GoesOn p P (record t { events = s.events + 1; latest = max s.latest reading })
counted p P s t reading same on = subst (λ n. GoesOn p P (record t { events = s.events + 1; latest = max n reading })) same (aside_goes p P (at_reading reading t) t.counts (s.events + 1) t.closed on)

unread : (p : Protocol) (P : AbstractStep → Type 0) (s t : PoolState) → t.latest ≡ s.latest → GoesOn p P t → GoesOn p P (record t { events = s.events + 1; latest = s.latest })
unread p P s t same on = subst (λ n. GoesOn p P (record t { events = s.events + 1; latest = n })) same (aside_goes p P t t.counts (s.events + 1) t.closed on)

-- ---- each event
module _ (read : List ℕ → Option ClaimId) (reads : IsReader read) (p : Protocol) (s : PoolState) (k : IsKept p s) (few : AreFew s) where
  -- with the bytes of what it brings
  brought : (e : Event) → IsKept p (counts_brought e s)
  brought e = aside_kept p s (record s.counts { bytes = s.counts.bytes + event_count e }) s.events s.closed k

  goes : (e : Event) (t : PoolState) (r : Stepped) → IsGiven e s → IsRefusal e s None → Happens e (counts_brought e s) t r → t.latest ≡ s.latest → GoesOn p (IsStepOf e s) (counts_event e s t)
  goes (event.Submit boot jobs reading) t r given free h same = counted p (IsStepOf (event.Submit boot jobs reading) s) s t reading same (submit_keeps p (counts_brought (event.Submit boot jobs reading) s) t r boot jobs reading (brought (event.Submit boot jobs reading)) (record { clusters = few.clusters; few = few.few; all = few.all }) given free h)
  goes (event.Order v job reading) t r given free h same = counted p (IsStepOf (event.Order v job reading) s) s t reading same (orders_keep p (counts_brought (event.Order v job reading) s) v job reading t r (brought (event.Order v job reading)) h)
  goes (event.Receive Schedd boot index reading judged mismatch) t r given free h same = counted p (IsStepOf (event.Receive Schedd boot index reading judged mismatch) s) s t reading same
      (mail_keeps p (counts_brought (event.Receive Schedd boot index reading judged mismatch) s) t r boot index reading judged mismatch (brought (event.Receive Schedd boot index reading judged mismatch)) (receive_free_on s _ Schedd boot index reading judged mismatch (event_free (event.Receive Schedd boot index reading judged mismatch) s free)) h)
  goes (event.Receive (Startd machine) boot index reading judged mismatch) t r given free h same = counted p (IsStepOf (event.Receive (Startd machine) boot index reading judged mismatch) s) s t reading same
      (startd.received_goes_on p (counts_brought (event.Receive (Startd machine) boot index reading judged mismatch) s) t r machine boot index reading judged mismatch (brought (event.Receive (Startd machine) boot index reading judged mismatch)) (receive_free_on s _ (Startd machine) boot index reading judged mismatch (event_free (event.Receive (Startd machine) boot index reading judged mismatch) s free)) h)
  goes (event.Receive Matchmaker boot index reading judged mismatch) t r given free h same = counted p (IsStepOf (event.Receive Matchmaker boot index reading judged mismatch) s) s t reading same
      (daemons.receipts_keep p (counts_brought (event.Receive Matchmaker boot index reading judged mismatch) s) boot index reading judged mismatch t r (brought (event.Receive Matchmaker boot index reading judged mismatch)) h)
  goes (event.Tick Schedd boot reading) t r given free h same = counted p (IsStepOf (event.Tick Schedd boot reading) s) s t reading same (tick_keeps p (counts_brought (event.Tick Schedd boot reading) s) t r boot reading (brought (event.Tick Schedd boot reading)) (event_free (event.Tick Schedd boot reading) s free) h)
  goes (event.Tick (Startd machine) boot reading) t r given free h same = counted p (IsStepOf (event.Tick (Startd machine) boot reading) s) s t reading same (startd.ticked_goes_on p (counts_brought (event.Tick (Startd machine) boot reading) s) t r machine boot reading (brought (event.Tick (Startd machine) boot reading)) h)
  goes (event.Tick Matchmaker boot reading) t r given free h same = counted p (IsStepOf (event.Tick Matchmaker boot reading) s) s t reading same (daemons.ticks_keep p (counts_brought (event.Tick Matchmaker boot reading) s) boot reading t r (brought (event.Tick Matchmaker boot reading)) h)
  goes (event.Check boot job reading) t r given free h same = counted p (IsStepOf (event.Check boot job reading) s) s t reading same (look_keeps p (counts_brought (event.Check boot job reading) s) t r boot job reading (brought (event.Check boot job reading)) (event_free (event.Check boot job reading) s free) h)
  goes (event.Logged boot receipt) t r given free h same = unread p (IsStepOf (event.Logged boot receipt) s) s t same (logged_keeps read reads p (counts_brought (event.Logged boot receipt) s) t r boot receipt (brought (event.Logged boot receipt)) h)
  goes (event.Ended machine boot receipt reading) t r given free h same = counted p (IsStepOf (event.Ended machine boot receipt reading) s) s t reading same (startd.ended_goes_on p (counts_brought (event.Ended machine boot receipt reading) s) t r machine boot reading receipt (brought (event.Ended machine boot receipt reading)) h)
  goes (event.Crash who) t r given free h same = unread p (IsStepOf (event.Crash who) s) s t same (daemons.crashes_keep p (counts_brought (event.Crash who) s) who t r (brought (event.Crash who)) h)
  goes (event.Reopen Schedd kept ended reading) t r given free h same = counted p (IsStepOf (event.Reopen Schedd kept ended reading) s) s t reading same (return_keeps read reads p (counts_brought (event.Reopen Schedd kept ended reading) s) t r kept ended reading (brought (event.Reopen Schedd kept ended reading)) h)
  goes (event.Reopen (Startd machine) kept ended reading) t r given free h same = counted p (IsStepOf (event.Reopen (Startd machine) kept ended reading) s) s t reading same
      (startd.booted_goes_on p (counts_brought (event.Reopen (Startd machine) kept ended reading) s) t r machine reading kept ended (brought (event.Reopen (Startd machine) kept ended reading)) (event_free (event.Reopen (Startd machine) kept ended reading) s free) h)
  goes (event.Reopen Matchmaker kept ended reading) t r given free h same = counted p (IsStepOf (event.Reopen Matchmaker kept ended reading) s) s t reading same (daemons.returns_keep p (counts_brought (event.Reopen Matchmaker kept ended reading) s) kept ended reading t r (brought (event.Reopen Matchmaker kept ended reading)) h)
  goes (event.Matches list judged reading) t r given free h same = counted p (IsStepOf (event.Matches list judged reading) s) s t reading same (matches_keep p (counts_brought (event.Matches list judged reading) s) list judged reading t r (brought (event.Matches list judged reading)) given h)
  goes (event.Close length reading mismatch) t r given free h same = counted p (IsStepOf (event.Close length reading mismatch) s) s t reading same (daemons.closes_keep p (counts_brought (event.Close length reading mismatch) s) length reading mismatch t r (brought (event.Close length reading mismatch)) h)

  pub event_keeps : (e : Event) (r : Stepped) (new : PoolState) → IsGiven e s → IsRefusal e s None → Reacts s e r new → GoesOn p (IsStepOf e s) new
  event_keeps e r new given free reacts = subst (GoesOn p (IsStepOf e s)) (sym reacts.pool)
      (goes e reacts.then_pool r given free reacts.happens
      (happens_traces read reads e (counts_brought e s) reacts.then_pool r reacts.happens).latest)
