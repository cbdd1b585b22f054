-- Each move of a slot leaves it a part of the protocol, changed as the move says; each move
-- elsewhere leaves it as it is.
use Rattle.std.proofs.Common.{◌≡◌, ◌≢◌, ℕ, inl, inr, List, [], ◌∷◌, map, filter, max, Option, Some, None, Bool, true, false, true≢false, not, refl, sym, ◌∙◌, ap, subst, if◌then◌else◌, IfSome, IsSomeAnd}
use Rattle.std.specs.Prelude.{option_map}
use Rattle.claim_id.specs.declared.numbers.SlotId.{SlotId}
use Rattle.claim_id.specs.declared.numbers.RunNo.{RunNo}
use Rattle.pool_mail.specs.declared.end.How.{How}
use Rattle.pool_view.specs.declared.run.Run.{Run}
use Rattle.pool_view.specs.declared.mark.SlotMark.{SlotMark}
use Rattle.pool_view.specs.Numbers.{same_run}
use Rattle.pool_view.specs.AbstractPool.{Marks, AbstractPool, IsIn}
use Rattle.pool_view.specs.AbstractStep.{AbstractStep, Time, Queue, Acknowledge, Order, Grant, Start, Mark, Extend, Stop, Free, Finish, Hold, Release, Lengthen, with_until, view_after}
use Rattle.pool_view.specs.Safe.{Safe}
use Rattle.pool_view.proofs.Members.{in_filter, in_map, passes, passing_in, map_in}
use Rattle.pool_view.proofs.Sameness.{same_slot-true, same_run-same, same_number, other_slot}
use Rattle.pool_view.proofs.Steps.{extended_slot}
use Rattle.pool_view.specs.Protocol.{NewJob, Change, Hidden, Submission, OfJob, Removal, Protocol, HasMark, queue_step, view_after_all, pending_steps, marks_with, mark_with_claim, mark_with_number, mark_after_claim, mark_after_boot}
use Rattle.pool_view.specs.ProtocolMove.{ProtocolMove, PassTime, Pend, Commit, Drop, Confirm, TakeOrder, SendLease, HoldClaim, UseNumber, EndClaim, Reboot, StartRun, ExtendRun, StopRun, SayGone, HasNoRun, IsNotRun, MayMove, protocol_after}
use Rattle.pool_view.specs.Facts.{IsOfJob, CanBeMade, Facts}
use Rattle.pool_view.specs.SlotPart.{SlotPart, IsPart, is_of_slot, extended_run, own_part_after, part_after}
use Rattle.pool_view.proofs.Claims.{at_own, at_slot}

-- ---- marks
-- the slot's mark is changed
mark_own : (p : Protocol) (s : SlotPart) (slot : SlotId) (change : SlotMark → SlotMark) → IsPart p s → s.slot ≡ slot → marks_with p.pool.marks slot change s.slot ≡ Some (change s.mark)
mark_own p s slot change part at =
    ap (marks_with p.pool.marks slot change) at
    ∙ at_own p.pool.marks slot change (λ o. o ≡ Some (change s.mark)) (ap (option_map change) (ap p.pool.marks (sym at) ∙ part.mark))

pub mark_far : (marks : Marks) (slot q : SlotId) (change : SlotMark → SlotMark) → q ≢ slot → marks_with marks slot change q ≡ marks q
mark_far marks slot q change other = at_slot marks slot change q (λ o. o ≡ marks q) (λ same. absurd (other same)) refl

-- a slot whose mark alone changes
part_with_mark : (p q : Protocol) (s : SlotPart) (slot : SlotId) (change : SlotMark → SlotMark) → IsPart p s → s.slot ≡ slot
    → q.pool.marks ≡ marks_with p.pool.marks slot change → q.pool.slots ≡ p.pool.slots → q.pool.runs ≡ p.pool.runs → IsPart q (record s { mark = change s.mark })
part_with_mark p q s slot change part at marks slots runs = record {
  mark = ap (λ f. f s.slot) marks ∙ mark_own p s slot change part at;
  ad = ap (λ f. f s.slot) slots ∙ part.ad;
  runs = λ r there placed. part.runs r (subst (IsIn r) runs there) placed;
  own = λ r its. subst (IsIn r) (sym runs) (part.own r its);
  placed = part.placed;
}

-- ---- runs
part_with_start : (p : Protocol) (s : SlotPart) (r : Run) → IsPart p s → s.slot ≡ r.slot → r.slot ≡ r.run.claim.slot → HasNoRun p.pool r.slot
    → IsPart (protocol_after p (StartRun r)) (own_part_after s (StartRun r))
part_with_start p s r part at claim none = record {
  mark = mark_own p s r.run.claim.slot (mark_with_number r.run.number) part (at ∙ claim);
  ad = part.ad;
  runs = runs;
  own = λ y is. (let one : r ≡ y = cc in inl (sym one));
  placed = λ y is. (let one : r ≡ y = cc in ap (λ x. x.slot) (sym one) ∙ sym at);
}
  where
    runs : (y : Run) → IsIn y (r ∷ p.pool.runs) → y.slot ≡ s.slot → Some r ≡ Some y
    runs y (inl same) placed = ap (λ x. Some x) (sym same)
    runs y (inr there) placed = absurd (none y there (placed ∙ at))

part_with_stop : (p : Protocol) (s : SlotPart) (r : Run) (how : Option How) → IsPart p s → IsIn r p.pool.runs → s.slot ≡ r.slot
    → IsPart (protocol_after p (StopRun r how)) (record s { run = None })
part_with_stop p s r how part there at = record {
  mark = part.mark;
  ad = part.ad;
  runs = runs;
  own = λ y its. cc;
  placed = λ y its. cc;
}
  where
    runs : (y : Run) → IsIn y (filter (λ z. not (same_run z.run r.run)) p.pool.runs) → y.slot ≡ s.slot → None ≡ Some y
    runs y left placed =
        let old : s.run ≡ Some y = part.runs y (in_filter (λ z. not (same_run z.run r.run)) y p.pool.runs left) placed in
        let its : s.run ≡ Some r = part.runs r there (sym at) in
        let both : Some y ≡ Some r = sym old ∙ its in
        let one : y ≡ r = cc in
        let passed : not (same_run y.run r.run) ≡ true = passes (λ z. not (same_run z.run r.run)) y p.pool.runs left in
        let itself : not (same_run r.run r.run) ≡ true = subst (λ z. not (same_run z.run r.run) ≡ true) one passed in
        let equal : same_run r.run r.run ≡ true = same_run-same r.run in
        let never : not true ≡ true = subst (λ b. not b ≡ true) equal itself in
        cc

own_extended : (r : Run) (until : ℕ) → with_until r.run until r ≡ extended_run r until
own_extended r until = ap (λ b. if b then record r { until = max r.until until } else r) (same_run-same r.run)

part_with_extension : (p : Protocol) (s : SlotPart) (r : Run) (until : ℕ) → IsPart p s → IsIn r p.pool.runs → s.slot ≡ r.slot
    → IsPart (protocol_after p (ExtendRun r until)) (record s { run = Some (extended_run r until) })
part_with_extension p s r until part there at = record {
  mark = part.mark;
  ad = part.ad;
  runs = runs;
  own = own;
  placed = λ y its. (let one : extended_run r until ≡ y = cc in ap (λ z. z.slot) (sym one) ∙ sym at);
}
  where
    its : s.run ≡ Some r
    its = part.runs r there (sym at)

    runs : (y : Run) → IsIn y (map (with_until r.run until) p.pool.runs) → y.slot ≡ s.slot → Some (extended_run r until) ≡ Some y
    runs y there placed =
        let found = in_map (with_until r.run until) y p.pool.runs there in
        let old : s.run ≡ Some found.0 = part.runs found.0 found.1 (sym (extended_slot r.run until found.0) ∙ (ap (λ z. z.slot) (sym found.2) ∙ placed)) in
        let both : Some found.0 ≡ Some r = sym old ∙ its in
        let one : found.0 ≡ r = cc in
        ap (λ z. Some z) (sym (found.2 ∙ (ap (with_until r.run until) one ∙ own_extended r until)))

    own : (y : Run) → Some (extended_run r until) ≡ Some y → IsIn y (map (with_until r.run until) p.pool.runs)
    own y is =
        let one : extended_run r until ≡ y = cc in
        subst (λ z. IsIn z (map (with_until r.run until) p.pool.runs)) (own_extended r until ∙ one) (map_in (with_until r.run until) r p.pool.runs there)

-- ---- what the schedd does changes no slot
pub record SameSlots (v w : AbstractPool) : Type 0 where
  pub runs : w.runs ≡ v.runs
  pub marks : w.marks ≡ v.marks
  pub slots : w.slots ≡ v.slots

abbrev as_it_was : (v : AbstractPool) → SameSlots v v
as_it_was v = record { runs = refl; marks = refl; slots = refl }

of_job : (v : AbstractPool) (k : AbstractStep) → IsOfJob k → SameSlots v (view_after v k)
of_job v (Grant job run end) of = record { runs = refl; marks = refl; slots = refl }
of_job v (Free job state) of = record { runs = refl; marks = refl; slots = refl }
of_job v (Finish job outcome) of = record { runs = refl; marks = refl; slots = refl }
of_job v (Hold job) of = record { runs = refl; marks = refl; slots = refl }
of_job v (Release job) of = record { runs = refl; marks = refl; slots = refl }
of_job v (Lengthen job end) of = record { runs = refl; marks = refl; slots = refl }
of_job v (Time moment) of = absurd of
of_job v (Queue job core) of = absurd of
of_job v (Acknowledge job) of = absurd of
of_job v (Order job) of = absurd of
of_job v (Start r marks) of = absurd of
of_job v (Mark marks) of = absurd of
of_job v (Extend r until) of = absurd of
of_job v (Stop r how) of = absurd of

of_jobs : (v : AbstractPool) (jobs : List NewJob) → SameSlots v (view_after_all v (map queue_step jobs))
of_jobs v [] = as_it_was v
of_jobs v (j ∷ js) = let rest = of_jobs (view_after v (queue_step j)) js in record { runs = rest.runs; marks = rest.marks; slots = rest.slots }

pub of_pending : (v : AbstractPool) (o : Option Change) → IfSome o (CanBeMade v) → SameSlots v (view_after_all v (pending_steps o))
of_pending v None can = as_it_was v
of_pending v (Some Hidden) can = as_it_was v
of_pending v (Some (Submission jobs)) can = of_jobs v jobs
of_pending v (Some (OfJob step)) can = of_job v step can.0
of_pending v (Some (Removal job)) can = as_it_was v

same_part : (p q : Protocol) (s : SlotPart) → SameSlots p.pool q.pool → IsPart p s → IsPart q s
same_part p q s same part = record {
  mark = ap (λ f. f s.slot) same.marks ∙ part.mark;
  ad = ap (λ f. f s.slot) same.slots ∙ part.ad;
  runs = λ r there. part.runs r (subst (IsIn r) same.runs there);
  own = λ r its. subst (IsIn r) (sym same.runs) (part.own r its);
  placed = part.placed;
}

-- ---- a move of the slot
pub own_part : (p : Protocol) (m : ProtocolMove) (s : SlotPart) → Facts p → MayMove p m → is_of_slot s.slot m ≡ true → IsPart p s → IsPart (protocol_after p m) (own_part_after s m)
own_part p (PassTime moment) s facts may of part = absurd (true≢false (sym of))
own_part p (Pend change) s facts may of part = absurd (true≢false (sym of))
own_part p Commit s facts may of part = absurd (true≢false (sym of))
own_part p Drop s facts may of part = absurd (true≢false (sym of))
own_part p (Confirm job) s facts may of part = absurd (true≢false (sym of))
own_part p (TakeOrder job) s facts may of part = absurd (true≢false (sym of))
own_part p (SendLease l) s facts may of part = absurd (true≢false (sym of))
own_part p (HoldClaim claim) s facts may of part = part_with_mark p (protocol_after p (HoldClaim claim)) s claim.slot (mark_with_claim claim) part (same_slot-true s.slot claim.slot of) refl refl refl
own_part p (UseNumber run) s facts may of part = part_with_mark p (protocol_after p (UseNumber run)) s run.claim.slot (mark_with_number run.number) part (same_slot-true s.slot run.claim.slot of) refl refl refl
own_part p (EndClaim claim) s facts may of part = part_with_mark p (protocol_after p (EndClaim claim)) s claim.slot (mark_after_claim claim) part (same_slot-true s.slot claim.slot of) refl refl refl
own_part p (Reboot slot boot) s facts may of part = part_with_mark p (protocol_after p (Reboot slot boot)) s slot (mark_after_boot boot) part (same_slot-true s.slot slot of) refl refl refl
own_part p (StartRun r) s facts may of part = part_with_start p s r part (same_slot-true s.slot r.slot of) may.slot may.free
own_part p (ExtendRun r until) s facts may of part = part_with_extension p s r until part may.0 (same_slot-true s.slot r.slot of)
own_part p (StopRun r how) s facts may of part = part_with_stop p s r how part may (same_slot-true s.slot r.slot of)
own_part p (SayGone run) s facts may of part = absurd (true≢false (sym of))

-- ---- a move elsewhere
-- a run elsewhere has another number
far_run : (v : AbstractPool) (x y : Run) → Safe v → IsIn x v.runs → IsIn y v.runs → y.slot ≢ x.slot → same_run y.run x.run ≡ false
far_run v x y safe there here other = by_test (same_run y.run x.run) refl
  where
    by_test : (b : Bool) → same_run y.run x.run ≡ b → same_run y.run x.run ≡ false
    by_test true same = absurd (other (ap (λ z. z.slot) (safe.one_run_per_slot y x here there (inr (same_number y.run x.run same)))))
    by_test false same = same

far_mark : (p q : Protocol) (s : SlotPart) → q.pool.marks s.slot ≡ p.pool.marks s.slot → q.pool.slots ≡ p.pool.slots → q.pool.runs ≡ p.pool.runs → IsPart p s → IsPart q s
far_mark p q s marks slots runs part = record {
  mark = marks ∙ part.mark;
  ad = ap (λ f. f s.slot) slots ∙ part.ad;
  runs = λ r there. part.runs r (subst (IsIn r) runs there);
  own = λ r its. subst (IsIn r) (sym runs) (part.own r its);
  placed = part.placed;
}

far_start : (p : Protocol) (s : SlotPart) (r : Run) → IsPart p s → s.slot ≢ r.slot → r.slot ≡ r.run.claim.slot → IsPart (protocol_after p (StartRun r)) s
far_start p s r part other claim = record {
  mark = mark_far p.pool.marks r.run.claim.slot s.slot (mark_with_number r.run.number) (λ same. other (same ∙ sym claim)) ∙ part.mark;
  ad = part.ad;
  runs = runs;
  own = λ y its. inr (part.own y its);
  placed = part.placed;
}
  where
    runs : (y : Run) → IsIn y (r ∷ p.pool.runs) → y.slot ≡ s.slot → s.run ≡ Some y
    runs y (inl same) placed = absurd (other (sym placed ∙ ap (λ z. z.slot) same))
    runs y (inr there) placed = part.runs y there placed

far_stop : (p : Protocol) (s : SlotPart) (r : Run) (how : Option How) → Safe p.pool → IsIn r p.pool.runs → IsPart p s → s.slot ≢ r.slot → IsPart (protocol_after p (StopRun r how)) s
far_stop p s r how safe there part other = record {
  mark = part.mark;
  ad = part.ad;
  runs = λ y left placed. part.runs y (in_filter (λ z. not (same_run z.run r.run)) y p.pool.runs left) placed;
  own = λ y its. passing_in (λ z. not (same_run z.run r.run)) y p.pool.runs (part.own y its) (ap not (far_run p.pool r y safe there (part.own y its) (λ same. other (sym (part.placed y its) ∙ same))));
  placed = part.placed;
}

far_extend : (p : Protocol) (s : SlotPart) (r : Run) (until : ℕ) → Safe p.pool → IsIn r p.pool.runs → IsPart p s → s.slot ≢ r.slot → IsPart (protocol_after p (ExtendRun r until)) s
far_extend p s r until safe there part other = record { mark = part.mark; ad = part.ad; runs = runs; own = own; placed = part.placed }
  where
    kept : (z : Run) → IsIn z p.pool.runs → z.slot ≡ s.slot → with_until r.run until z ≡ z
    kept z in_z placed = ap (λ b. if b then record z { until = max z.until until } else z) (far_run p.pool r z safe there in_z (λ same. other (sym placed ∙ same)))

    runs : (y : Run) → IsIn y (map (with_until r.run until) p.pool.runs) → y.slot ≡ s.slot → s.run ≡ Some y
    runs y in_y placed =
        let found = in_map (with_until r.run until) y p.pool.runs in_y in
        let at : found.0.slot ≡ s.slot = sym (extended_slot r.run until found.0) ∙ (ap (λ z. z.slot) (sym found.2) ∙ placed) in
        part.runs found.0 found.1 at ∙ ap (λ z. Some z) (sym (found.2 ∙ kept found.0 found.1 at))

    own : (y : Run) → s.run ≡ Some y → IsIn y (map (with_until r.run until) p.pool.runs)
    own y its = subst (λ z. IsIn z (map (with_until r.run until) p.pool.runs)) (kept y (part.own y its) (part.placed y its)) (map_in (with_until r.run until) y p.pool.runs (part.own y its))

pub far_part : (p : Protocol) (m : ProtocolMove) (s : SlotPart) → Facts p → Safe p.pool → MayMove p m → is_of_slot s.slot m ≡ false → IsPart p s → IsPart (protocol_after p m) s
far_part p (PassTime moment) s facts safe may far part = same_part p (protocol_after p (PassTime moment)) s (record { runs = refl; marks = refl; slots = refl }) part
far_part p (Pend change) s facts safe may far part = same_part p (protocol_after p (Pend change)) s (record { runs = refl; marks = refl; slots = refl }) part
far_part p Commit s facts safe may far part = same_part p (protocol_after p Commit) s (of_pending p.pool p.pending facts.pending) part
far_part p Drop s facts safe may far part = same_part p (protocol_after p Drop) s (record { runs = refl; marks = refl; slots = refl }) part
far_part p (Confirm job) s facts safe may far part = same_part p (protocol_after p (Confirm job)) s (record { runs = refl; marks = refl; slots = refl }) part
far_part p (TakeOrder job) s facts safe may far part = same_part p (protocol_after p (TakeOrder job)) s (record { runs = refl; marks = refl; slots = refl }) part
far_part p (SendLease l) s facts safe may far part = same_part p (protocol_after p (SendLease l)) s (record { runs = refl; marks = refl; slots = refl }) part
far_part p (HoldClaim claim) s facts safe may far part = far_mark p (protocol_after p (HoldClaim claim)) s (mark_far p.pool.marks claim.slot s.slot (mark_with_claim claim) (other_slot s.slot claim.slot far)) refl refl part
far_part p (UseNumber run) s facts safe may far part = far_mark p (protocol_after p (UseNumber run)) s (mark_far p.pool.marks run.claim.slot s.slot (mark_with_number run.number) (other_slot s.slot run.claim.slot far)) refl refl part
far_part p (EndClaim claim) s facts safe may far part = far_mark p (protocol_after p (EndClaim claim)) s (mark_far p.pool.marks claim.slot s.slot (mark_after_claim claim) (other_slot s.slot claim.slot far)) refl refl part
far_part p (Reboot slot boot) s facts safe may far part = far_mark p (protocol_after p (Reboot slot boot)) s (mark_far p.pool.marks slot s.slot (mark_after_boot boot) (other_slot s.slot slot far)) refl refl part
far_part p (StartRun r) s facts safe may far part = far_start p s r part (other_slot s.slot r.slot far) may.slot
far_part p (ExtendRun r until) s facts safe may far part = far_extend p s r until safe may.0 part (other_slot s.slot r.slot far)
far_part p (StopRun r how) s facts safe may far part = far_stop p s r how safe may part (other_slot s.slot r.slot far)
far_part p (SayGone run) s facts safe may far part = same_part p (protocol_after p (SayGone run)) s (record { runs = refl; marks = refl; slots = refl }) part

-- ---- every move
pub part_on : (p : Protocol) (m : ProtocolMove) (s : SlotPart) → Facts p → Safe p.pool → MayMove p m → IsPart p s → IsPart (protocol_after p m) (part_after m s)
part_on p m s facts safe may part = by_test (is_of_slot s.slot m) refl
  where
    by_test : (b : Bool) → is_of_slot s.slot m ≡ b → IsPart (protocol_after p m) (if b then own_part_after s m else s)
    by_test true of = own_part p m s facts may of part
    by_test false far = far_part p m s facts safe may far part

-- ---- a startd's conditions, by its slot
pub mark_known : (p : Protocol) (s : SlotPart) (slot : SlotId) (P : SlotMark → Type 0) → IsPart p s → s.slot ≡ slot → P s.mark → HasMark p.pool.marks slot P
mark_known p s slot P part at holds = subst (λ o. IsSomeAnd o P) (sym (ap p.pool.marks (sym at) ∙ part.mark)) holds

pub free_known : (p : Protocol) (s : SlotPart) (slot : SlotId) → IsPart p s → s.slot ≡ slot → s.run ≡ None → HasNoRun p.pool slot
free_known p s slot part at none r there placed =
    let its : s.run ≡ Some r = part.runs r there (placed ∙ sym at) in
    let no : None ≡ Some r = sym none ∙ its in
    cc

pub not_run_known : (p : Protocol) (s : SlotPart) (run : RunNo) → IsPart p s → s.slot ≡ run.claim.slot → ((r : Run) → s.run ≡ Some r → r.run ≢ run) → IsNotRun p.pool run
not_run_known p s run part at other r there placed = other r (part.runs r there (placed ∙ sym at))
