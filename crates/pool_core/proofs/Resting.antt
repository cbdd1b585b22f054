-- That a pool is at rest changes nothing of what it refuses, and of what is read of it.
use Rattle.std.proofs.Common.{inl, inr, ℕ, List, [], ◌∷◌, Option, Some, None, Result, Ok, Err, OnErr, ◌≡◌, ap, slice_get}
use Rattle.ad_eval.specs.Judgement.{Judgement, Mismatch}
use Rattle.ad_tree.specs.Ad.{Attributes}
use Rattle.claim_id.specs.declared.numbers.ClaimId.{ClaimId}
use Rattle.claim_id.specs.declared.numbers.SlotId.{SlotId}
use Rattle.pool_parts.specs.declared.answer.Stepped.{Stepped}
use Rattle.pool_parts.specs.declared.event.Event.{Event}
use Rattle.pool_parts.specs.declared.event.Event.TheVariants as event
use Rattle.pool_mail.specs.declared.mail.Mail.{Mail}
use Rattle.pool_mail.specs.declared.matching.Match.{Match}
use Rattle.pool_outer.specs.declared.gate.Daemon.{Daemon}
use Rattle.pool_outer.specs.declared.gate.Daemon.TheVariants.{Schedd, Startd, Matchmaker}
use Rattle.pool_rules.specs.Judging.{IsFairOf, IsLive, IsSomeLive, judged_in}
use Rattle.pool_rules.specs.Refusals.{IsAdRefusal, IsAdRefusalBy, IsEventRefusal, IsRefusal, Refusal, Then, closed_refusal, events_refusal, first_of, matchmaker_refusal, receive_refusal}
use Rattle.pool_state.specs.declared.opening.Opening.{Opening}
use Rattle.pool_state.specs.declared.state.PoolState.{PoolState}
use Rattle.pool_state.specs.Openings.{IsOpenedBy}
use Rattle.pool_state.specs.PoolViews.{IsViewOf}
use Rattle.pool_state.specs.Readings.{IsDue}
use Rattle.pool_tables.specs.declared.refusal.StepError.{StepError}
use Rattle.pool_tables.specs.declared.sent.Sent.{Sent}
use Rattle.pool_view.specs.declared.view.View.{View}
use Rattle.pool_rules.specs.Deeds.{at_rest}
use Rattle.pool_rules.specs.Happens.{AreLive}

then_also : (x : Refusal) (P Q : Refusal → Type 0) (r : Refusal) → (P r → Q r) → Then x P r → Then x Q r
then_also None P Q r f h = f h
then_also (Some e) P Q r f h = h

-- ---- a mail
fair_rest : {s : PoolState} {m : Mail} {ad : Attributes} {slot : SlotId} {t : ℕ} {j : Option Judgement} {n : Option Mismatch} → IsFairOf s m ad slot t j n → IsFairOf (at_rest s) m ad slot t j n
fair_rest f = record { fair = f.fair; given = f.given }

fair_back : {s : PoolState} {m : Mail} {ad : Attributes} {slot : SlotId} {t : ℕ} {j : Option Judgement} {n : Option Mismatch} → IsFairOf (at_rest s) m ad slot t j n → IsFairOf s m ad slot t j n
fair_back f = record { fair = f.fair; given = f.given }

ad_rest_by : (x : Option (Attributes × SlotId)) (s : PoolState) (m : Mail) (t : ℕ) (j : Option Judgement) (n : Option Mismatch) (r : Refusal) → IsAdRefusalBy x s m t j n r → IsAdRefusalBy x (at_rest s) m t j n r
ad_rest_by None s m t j n r h = h
ad_rest_by (Some x) s m t j n r h = record { fails = λ no. h.fails (λ f. no (fair_rest f)); holds = λ f. h.holds (fair_back f) }

ad_rest : (o : Option Sent) (s : PoolState) (t : ℕ) (j : Option Judgement) (n : Option Mismatch) (r : Refusal) → IsAdRefusal o s t j n r → IsAdRefusal o (at_rest s) t j n r
ad_rest None s t j n r h = h
ad_rest (Some sent) s t j n r h = ad_rest_by (judged_in sent.mail) s sent.mail t j n r h

-- ---- matches
live_rest : {s : PoolState} {m : Match} {j : Judgement} {t : ℕ} → IsLive s m j t → IsLive (at_rest s) m j t
live_rest l = record { idle = l.idle; free = l.free; offered = l.offered; slot = l.slot; at = l.at }

live_back : {s : PoolState} {m : Match} {j : Judgement} {t : ℕ} → IsLive (at_rest s) m j t → IsLive s m j t
live_back l = record { idle = l.idle; free = l.free; offered = l.offered; slot = l.slot; at = l.at }

some_rest : (s : PoolState) (ms : List Match) (js : List Judgement) (t : ℕ) → IsSomeLive s ms js t → IsSomeLive (at_rest s) ms js t
some_rest s [] js t h = h
some_rest s (m ∷ ms) [] t h = h
some_rest s (m ∷ ms) (j ∷ js) t (inl l) = inl (live_rest l)
some_rest s (m ∷ ms) (j ∷ js) t (inr h) = inr (some_rest s ms js t h)

some_back : (s : PoolState) (ms : List Match) (js : List Judgement) (t : ℕ) → IsSomeLive (at_rest s) ms js t → IsSomeLive s ms js t
some_back s [] js t h = h
some_back s (m ∷ ms) [] t h = h
some_back s (m ∷ ms) (j ∷ js) t (inl l) = inl (live_back l)
some_back s (m ∷ ms) (j ∷ js) t (inr h) = inr (some_back s ms js t h)

-- ---- each event
rest_event : (e : Event) (s : PoolState) (r : Refusal) → IsEventRefusal e s r → IsEventRefusal e (at_rest s) r
rest_event (event.Submit boot jobs reading) s r h = h
rest_event (event.Order v job reading) s r h = h
rest_event (event.Receive Schedd boot index reading judged mismatch) s r h =
    then_also (receive_refusal Schedd boot index s) _ _ r (λ p. ad_rest (slice_get s.mails.sent index) s reading judged mismatch r p) h
rest_event (event.Receive (Startd machine) boot index reading judged mismatch) s r h =
    then_also (receive_refusal (Startd machine) boot index s) _ _ r (λ p. ad_rest (slice_get s.mails.sent index) s reading judged mismatch r p) h
rest_event (event.Receive Matchmaker boot index reading judged mismatch) s r h =
    then_also (receive_refusal Matchmaker boot index s) _ _ r (λ p. ad_rest (slice_get s.mails.sent index) s reading judged mismatch r p) h
rest_event (event.Tick Schedd boot reading) s r h = h
rest_event (event.Tick (Startd machine) boot reading) s r h = h
rest_event (event.Tick Matchmaker boot reading) s r h = h
rest_event (event.Check boot job reading) s r h = h
rest_event (event.Logged boot receipt) s r h = h
rest_event (event.Ended machine boot receipt reading) s r h = h
rest_event (event.Crash who) s r h = h
rest_event (event.Reopen Schedd kept ended reading) s r h = h
rest_event (event.Reopen (Startd machine) kept ended reading) s r h = h
rest_event (event.Reopen Matchmaker kept ended reading) s r h = h
rest_event (event.Matches list judged reading) s r h =
    then_also (matchmaker_refusal s) _ _ r (λ u. record { fails = λ no. u.fails (λ x. no (some_rest s list judged reading x)); holds = λ x. u.holds (some_back s list judged reading x) }) h
rest_event (event.Close length reading mismatch) s r h = h

pub rest_refusal : (e : Event) (s : PoolState) (r : Refusal) → IsRefusal e s r → IsRefusal e (at_rest s) r
rest_refusal e s r h = then_also (first_of (closed_refusal s ∷ events_refusal s ∷ [])) (IsEventRefusal e s) (IsEventRefusal e (at_rest s)) r (rest_event e s r) h

-- ---- the matches that are live
pub are_live_rest : (s : PoolState) (ms : List Match) (js : List Judgement) (t : ℕ) (live : List Match) → AreLive s ms js t live → AreLive (at_rest s) ms js t live
are_live_rest s [] js t live h = h
are_live_rest s (m ∷ ms) [] t live h = h
are_live_rest s (m ∷ ms) (j ∷ js) t live (inl l) = inl (record { rest = l.rest; are = l.are; is = live_rest l.is; more = are_live_rest s ms js t l.rest l.more })
are_live_rest s (m ∷ ms) (j ∷ js) t live (inr p) = inr (λ is. p.0 (live_back is), are_live_rest s ms js t live p.1)

-- ---- what is read of a pool
pub opened_rest : {o : Opening} {s : PoolState} → IsOpenedBy o s → IsOpenedBy o (at_rest s)
opened_rest o = record {
  machines = o.machines;
  daemons = o.daemons;
  mails = record { none = o.mails.none; boxes = o.mails.boxes; times = o.mails.times };
  orders = o.orders;
  schedd = o.schedd;
  queue = o.queue;
  pending = o.pending;
  next_tx = o.next_tx;
  finished = o.finished;
  acked = o.acked;
  ordered = o.ordered;
  reports = o.reports;
  log_mark = o.log_mark;
  end_marks = o.end_marks;
  settings = o.settings;
  latest = o.latest;
  events = o.events;
  closed = o.closed;
  jobs = o.jobs;
  bytes = o.bytes;
}

pub due_back : (who : Daemon) (s : PoolState) (reading : ℕ) → IsDue who (at_rest s) reading → IsDue who s reading
due_back Schedd s reading h = h
due_back (Startd machine) s reading h = h
due_back Matchmaker s reading h = h

pub view_rest : {read : List ℕ → Option ClaimId} {s : PoolState} {view : View} → IsViewOf read s view → IsViewOf read (at_rest s) view
view_rest v = record {
  moment = v.moment;
  next = v.next;
  jobs = v.jobs;
  acked = v.acked;
  ordered = v.ordered;
  runs = v.runs;
  marks = v.marks;
  reports = v.reports;
  slots = v.slots;
}

-- ---- a pool that an error leaves as it was
pub rests_too : (r : Result Stepped StepError) (s new : PoolState) → OnErr r (new ≡ s) → OnErr r (at_rest new ≡ at_rest s)
rests_too (Ok x) s new same = tt
rests_too (Err e) s new same = ap at_rest same
