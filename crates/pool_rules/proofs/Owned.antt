-- The moves of one slot: they change no other slot, and nothing of the schedd's.
use Rattle.std.proofs.Common.{◌≡◌, false, List, [], ◌∷◌, ◌++◌, Option, Some, None, refl, sym, ◌∙◌, ap, if◌then◌else◌}
use Rattle.std.proofs.lemmas.List.{append_assoc}
use Rattle.claim_id.specs.declared.numbers.SlotId.{SlotId}
use Rattle.pool_mail.specs.declared.end.How.{How}
use Rattle.pool_view.specs.AbstractStep.{reports_with}
use Rattle.pool_view.specs.Numbers.{same_slot}
use Rattle.pool_view.specs.declared.run.EndReport.{EndReport}
use Rattle.pool_view.specs.declared.run.Run.{Run}
use Rattle.pool_view.specs.Protocol.{Protocol}
use Rattle.pool_view.specs.ProtocolMove.{ProtocolMove, PassTime, Pend, Commit, Drop, Confirm, TakeOrder, SendLease, HoldClaim, UseNumber, EndClaim, Reboot, StartRun, ExtendRun, StopRun, SayGone, protocol_after, protocol_after_all}
use Rattle.pool_view.specs.SlotPart.{SlotPart, is_of_slot, own_part_after, part_after, part_after_all}

-- a move of the slot
abbrev pub IsOwn : SlotId → ProtocolMove → Type 0
IsOwn slot (HoldClaim claim) = claim.slot ≡ slot
IsOwn slot (UseNumber run) = run.claim.slot ≡ slot
IsOwn slot (EndClaim claim) = claim.slot ≡ slot
IsOwn slot (Reboot other boot) = other ≡ slot
IsOwn slot (StartRun r) = r.slot ≡ slot
IsOwn slot (ExtendRun r until) = r.slot ≡ slot
IsOwn slot (StopRun r how) = r.slot ≡ slot
IsOwn slot (SayGone run) = Unit {0}
IsOwn slot (PassTime moment) = ⊥
IsOwn slot (Pend change) = ⊥
IsOwn slot Commit = ⊥
IsOwn slot Drop = ⊥
IsOwn slot (Confirm job) = ⊥
IsOwn slot (TakeOrder job) = ⊥
IsOwn slot (SendLease l) = ⊥

abbrev pub AreOwn : SlotId → List ProtocolMove → Type 0
AreOwn slot [] = Unit {0}
AreOwn slot (m ∷ ms) = IsOwn slot m × AreOwn slot ms

pub own_append : (slot : SlotId) (ms ns : List ProtocolMove) → AreOwn slot ms → AreOwn slot ns → AreOwn slot (ms ++ ns)
own_append slot [] ns own more = more
own_append slot (m ∷ ms) ns own more = (own.0, own_append slot ms ns own.1 more)

-- ---- other slots
far_move : (slot q : SlotId) (m : ProtocolMove) → IsOwn slot m → same_slot q slot ≡ false → is_of_slot q m ≡ false
far_move slot q (HoldClaim claim) own far = ap (same_slot q) own ∙ far
far_move slot q (UseNumber run) own far = ap (same_slot q) own ∙ far
far_move slot q (EndClaim claim) own far = ap (same_slot q) own ∙ far
far_move slot q (Reboot other boot) own far = ap (same_slot q) own ∙ far
far_move slot q (StartRun r) own far = ap (same_slot q) own ∙ far
far_move slot q (ExtendRun r until) own far = ap (same_slot q) own ∙ far
far_move slot q (StopRun r how) own far = ap (same_slot q) own ∙ far
far_move slot q (SayGone run) own far = refl
far_move slot q (PassTime moment) own far = absurd own
far_move slot q (Pend change) own far = absurd own
far_move slot q Commit own far = absurd own
far_move slot q Drop own far = absurd own
far_move slot q (Confirm job) own far = absurd own
far_move slot q (TakeOrder job) own far = absurd own
far_move slot q (SendLease l) own far = absurd own

unmoved_part : (s : SlotPart) (m : ProtocolMove) → is_of_slot s.slot m ≡ false → part_after m s ≡ s
unmoved_part s m far = ap (λ b. if b then own_part_after s m else s) far

pub far_moves : (slot : SlotId) (ms : List ProtocolMove) (s : SlotPart) → AreOwn slot ms → same_slot s.slot slot ≡ false → part_after_all ms s ≡ s
far_moves slot [] s own far = refl
far_moves slot (m ∷ ms) s own far = ap (part_after_all ms) (unmoved_part s m (far_move slot s.slot m own.0 far)) ∙ far_moves slot ms s own.1 far

-- ---- the moves of startds
abbrev pub IsStartdMove : ProtocolMove → Type 0
IsStartdMove (HoldClaim claim) = Unit {0}
IsStartdMove (UseNumber run) = Unit {0}
IsStartdMove (EndClaim claim) = Unit {0}
IsStartdMove (Reboot other boot) = Unit {0}
IsStartdMove (StartRun r) = Unit {0}
IsStartdMove (ExtendRun r until) = Unit {0}
IsStartdMove (StopRun r how) = Unit {0}
IsStartdMove (SayGone run) = Unit {0}
IsStartdMove (PassTime moment) = ⊥
IsStartdMove (Pend change) = ⊥
IsStartdMove Commit = ⊥
IsStartdMove Drop = ⊥
IsStartdMove (Confirm job) = ⊥
IsStartdMove (TakeOrder job) = ⊥
IsStartdMove (SendLease l) = ⊥

abbrev pub AreStartdMoves : List ProtocolMove → Type 0
AreStartdMoves [] = Unit {0}
AreStartdMoves (m ∷ ms) = IsStartdMove m × AreStartdMoves ms

own_is_startd : (slot : SlotId) (m : ProtocolMove) → IsOwn slot m → IsStartdMove m
own_is_startd slot (HoldClaim claim) own = tt
own_is_startd slot (UseNumber run) own = tt
own_is_startd slot (EndClaim claim) own = tt
own_is_startd slot (Reboot other boot) own = tt
own_is_startd slot (StartRun r) own = tt
own_is_startd slot (ExtendRun r until) own = tt
own_is_startd slot (StopRun r how) own = tt
own_is_startd slot (SayGone run) own = tt
own_is_startd slot (PassTime moment) own = absurd own
own_is_startd slot (Pend change) own = absurd own
own_is_startd slot Commit own = absurd own
own_is_startd slot Drop own = absurd own
own_is_startd slot (Confirm job) own = absurd own
own_is_startd slot (TakeOrder job) own = absurd own
own_is_startd slot (SendLease l) own = absurd own

pub own_are_startd : (slot : SlotId) (ms : List ProtocolMove) → AreOwn slot ms → AreStartdMoves ms
own_are_startd slot [] own = tt
own_are_startd slot (m ∷ ms) own = (own_is_startd slot m own.0, own_are_startd slot ms own.1)

pub startd_append : (ms ns : List ProtocolMove) → AreStartdMoves ms → AreStartdMoves ns → AreStartdMoves (ms ++ ns)
startd_append [] ns is more = more
startd_append (m ∷ ms) ns is more = (is.0, startd_append ms ns is.1 more)

-- ---- what stays
pub record KeepsJobs (p q : Protocol) : Type 0 where
  pub jobs : q.pool.jobs ≡ p.pool.jobs
  pub next : q.pool.next ≡ p.pool.next
  pub moment : q.pool.moment ≡ p.pool.moment
  pub acked : q.pool.acked ≡ p.pool.acked
  pub ordered : q.pool.ordered ≡ p.pool.ordered
  pub removals : q.removals ≡ p.removals
  pub grants : q.grants ≡ p.grants
  pub leases : q.leases ≡ p.leases
  pub pending : q.pending ≡ p.pending

own_keeps : (p : Protocol) (m : ProtocolMove) → IsStartdMove m → KeepsJobs p (protocol_after p m)
own_keeps p (HoldClaim claim) own = record { jobs = refl; next = refl; moment = refl; acked = refl; ordered = refl; removals = refl; grants = refl; leases = refl; pending = refl }
own_keeps p (UseNumber run) own = record { jobs = refl; next = refl; moment = refl; acked = refl; ordered = refl; removals = refl; grants = refl; leases = refl; pending = refl }
own_keeps p (EndClaim claim) own = record { jobs = refl; next = refl; moment = refl; acked = refl; ordered = refl; removals = refl; grants = refl; leases = refl; pending = refl }
own_keeps p (Reboot other boot) own = record { jobs = refl; next = refl; moment = refl; acked = refl; ordered = refl; removals = refl; grants = refl; leases = refl; pending = refl }
own_keeps p (StartRun r) own = record { jobs = refl; next = refl; moment = refl; acked = refl; ordered = refl; removals = refl; grants = refl; leases = refl; pending = refl }
own_keeps p (ExtendRun r until) own = record { jobs = refl; next = refl; moment = refl; acked = refl; ordered = refl; removals = refl; grants = refl; leases = refl; pending = refl }
own_keeps p (StopRun r how) own = record { jobs = refl; next = refl; moment = refl; acked = refl; ordered = refl; removals = refl; grants = refl; leases = refl; pending = refl }
own_keeps p (SayGone run) own = record { jobs = refl; next = refl; moment = refl; acked = refl; ordered = refl; removals = refl; grants = refl; leases = refl; pending = refl }
own_keeps p (PassTime moment) own = absurd own
own_keeps p (Pend change) own = absurd own
own_keeps p Commit own = absurd own
own_keeps p Drop own = absurd own
own_keeps p (Confirm job) own = absurd own
own_keeps p (TakeOrder job) own = absurd own
own_keeps p (SendLease l) own = absurd own

pub keeps_on : (p q r : Protocol) → KeepsJobs p q → KeepsJobs q r → KeepsJobs p r
keeps_on p q r a b = record {
  jobs = b.jobs ∙ a.jobs;
  next = b.next ∙ a.next;
  moment = b.moment ∙ a.moment;
  acked = b.acked ∙ a.acked;
  ordered = b.ordered ∙ a.ordered;
  removals = b.removals ∙ a.removals;
  grants = b.grants ∙ a.grants;
  leases = b.leases ∙ a.leases;
  pending = b.pending ∙ a.pending;
}

pub keeps_as_was : (p : Protocol) → KeepsJobs p p
keeps_as_was p = record { jobs = refl; next = refl; moment = refl; acked = refl; ordered = refl; removals = refl; grants = refl; leases = refl; pending = refl }

pub own_moves_keep : (p : Protocol) (ms : List ProtocolMove) → AreStartdMoves ms → KeepsJobs p (protocol_after_all p ms)
own_moves_keep p [] own = keeps_as_was p
own_moves_keep p (m ∷ ms) own = keeps_on p (protocol_after p m) (protocol_after_all (protocol_after p m) ms) (own_keeps p m own.0) (own_moves_keep (protocol_after p m) ms own.1)

-- ---- the ends that are said
abbrev pub said_by : ProtocolMove → List EndReport
said_by (StopRun r how) = reports_with how r []
said_by _ = []

abbrev pub said_by_all : List ProtocolMove → List EndReport
said_by_all [] = []
said_by_all (m ∷ ms) = said_by_all ms ++ said_by m

stop_says : (how : Option How) (r : Run) (reports : List EndReport) → reports_with how r reports ≡ reports_with how r [] ++ reports
stop_says None r reports = refl
stop_says (Some how) r reports = refl

own_says : (p : Protocol) (m : ProtocolMove) → IsStartdMove m → (protocol_after p m).pool.reports ≡ said_by m ++ p.pool.reports
own_says p (HoldClaim claim) own = refl
own_says p (UseNumber run) own = refl
own_says p (EndClaim claim) own = refl
own_says p (Reboot other boot) own = refl
own_says p (StartRun r) own = refl
own_says p (ExtendRun r until) own = refl
own_says p (StopRun r how) own = stop_says how r p.pool.reports
own_says p (SayGone run) own = refl
own_says p (PassTime moment) own = absurd own
own_says p (Pend change) own = absurd own
own_says p Commit own = absurd own
own_says p Drop own = absurd own
own_says p (Confirm job) own = absurd own
own_says p (TakeOrder job) own = absurd own
own_says p (SendLease l) own = absurd own

pub own_moves_say : (p : Protocol) (ms : List ProtocolMove) → AreStartdMoves ms → (protocol_after_all p ms).pool.reports ≡ said_by_all ms ++ p.pool.reports
own_moves_say p [] own = refl
own_moves_say p (m ∷ ms) own =
    own_moves_say (protocol_after p m) ms own.1 ∙ (ap (λ rs. said_by_all ms ++ rs) (own_says p m own.0) ∙ sym (append_assoc (said_by_all ms) (said_by m) p.pool.reports))
