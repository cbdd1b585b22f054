-- Each event of a startd that a pool accepts takes it on.
use Rattle.std.proofs.Common.{◌≡◌, inl, inr, ℕ, ◌+◌, max, List, [], ◌∷◌, Option, Some, None, IfSome, IsSomeAnd, is_some, slice_get, refl, sym, ◌∙◌, ap, subst}
use Rattle.std.proofs.lemmas.Option.{none-some}
use Rattle.ad_eval.specs.Judgement.{Judgement, Mismatch}
use Rattle.pool_parts.specs.declared.answer.Stepped.{Stepped}
use Rattle.pool_parts.specs.declared.event.Event.TheVariants as event
use Rattle.pool_mail.specs.Mails.{receivers_of}
use Rattle.pool_mail.specs.declared.end.Ending.{Ending}
use Rattle.pool_outer.specs.declared.gate.Daemon.TheVariants.{Startd}
use Rattle.pool_view.specs.Protocol.{Protocol}
use Rattle.pool_view.specs.ProtocolMove.{PassTime, protocol_after}
use Rattle.pool_rules.specs.Refusals.{IsAdRefusal, IsEventRefusal, IsReturnRefusal, busy_refusal, receive_refusal}
use Rattle.pool_state.specs.declared.state.PoolState.{PoolState}
use Rattle.pool_state.specs.Readings.{boot_of}
use Rattle.pool_tables.specs.DaemonTables.{daemon_refusal, reopen_refusal, reopen_refusal_at, daemon_state}
use Rattle.pool_tables.specs.MailLists.{mail_refusal}
use Rattle.pool_tables.specs.declared.refusal.StepError.TheVariants as error
use Rattle.pool_tables.specs.declared.sent.Sent.{Sent}
use Rattle.pool_tables.specs.declared.states.DaemonState.{DaemonState}
use Rattle.pool_view.specs.AbstractPool.{IsIn}
use Rattle.pool_view.specs.AbstractStep.{AbstractStep, Mark}
use Rattle.pool_view.specs.declared.run.EndReport.{EndReport}
use Rattle.queue_tx.specs.Operations.{Operation}
use Rattle.receipt_roll.specs.Values.{ReceiptValue}
use Rattle.startd_slot.specs.declared.slot.Slot.{Slot}
use Rattle.startd_slot.specs.Mails.{asked_claim}
use Rattle.startd_slot.specs.SlotMoves.{IsJudgedHere}
use Rattle.startd_core.specs.Startds.{After, StartdValue, after_end, after_mail, after_reboot, after_tick, slot_of_claim}
use Rattle.pool_rules.specs.Linked.{IsLinked, StayLinked}
use Rattle.pool_rules.specs.StartdEvents.{moves_of_boots, moves_of_ended_run, moves_of_startd_mail, moves_of_ticks, parts_at_reading, reports_of_end}
use Rattle.pool_rules.proofs.Machines.{at_place}
use Rattle.pool_rules.proofs.ScheddKept.{time_linked}
use Rattle.pool_rules.proofs.StartdEnds.{end_linked}
use Rattle.pool_rules.proofs.StartdMails.{mail_linked}
use Rattle.pool_rules.proofs.StartdTimes.{boot_linked, tick_linked}
use Rattle.pool_rules.specs.Deeds.{receives, startd_acts}
use Rattle.pool_rules.specs.Happens.{Happens, IsReopened, Receives, boots}
use Rattle.pool_rules.specs.Parts.{parts_of}
use Rattle.pool_rules.specs.Startds.{IsReceivedStep, IsStartdStep, StartdReceives, ends_after}
use Rattle.pool_rules.specs.Kept.{GoesOn, IsKept, at_reading}
use Rattle.pool_rules.specs.Steps.{IsMailStep, IsStepOf}
use Rattle.pool_rules.proofs.StartdSteps.{boots_make, ended_makes, startd_mail_makes, ticks_make}
use Rattle.pool_rules.proofs.StepKinds.{time_first}
use Rattle.pool_rules.proofs.Mailing.{mail_in}
use Rattle.pool_rules.proofs.Refusing.{first_none, goes_to, then_none}
use Rattle.pool_rules.proofs.StartdBoots.{end_machine, mail_machine}
use Rattle.pool_rules.proofs.StartdEnded.{ends_same}
use Rattle.pool_rules.proofs.StartdJudged.{judged_fits}
use Rattle.pool_rules.proofs.StartdKept.{GoesBy, acted_goes, acts, acts_in_boot, acts_on_mail, go_on, parts_acted}

-- what is there, and what holds of it
some_and : {A : Type 0} (o : Option A) (P : A → Type 0) → IsSomeAnd o P → (x : A) × (o ≡ Some x) × P x
some_and None P h = absurd h
some_and (Some x) P h = (x, refl, h)

-- the protocol at the reading, to which the parts are linked
abbrev pub protocol_at : ℕ → PoolState → Protocol → Protocol
protocol_at reading s p = protocol_after p (PassTime (max s.latest reading))

linked_at : (p : Protocol) (s : PoolState) (reading : ℕ) → IsKept p s → IsLinked (protocol_at reading s p) (parts_at_reading reading (parts_of s))
linked_at p s reading kept = (time_linked p (parts_of s) reading kept.linked).linked

-- ---- a mail
-- The mail that is received, and the startd. What was judged is of the mail's ad and its slot's.
pub record IsGot (p : Protocol) (s : PoolState) (machine index reading : ℕ) (judged : Option Judgement) (new : PoolState) (r : Stepped) : Type 0 where
  pub sent : Sent
  pub mailed : slice_get s.mails.sent index ≡ Some sent
  pub startd : StartdValue
  pub at : slice_get s.machines machine ≡ Some startd
  pub step : IsReceivedStep machine index (after_mail startd sent.mail judged reading) s new r
  pub fits : (slot : Slot) → slot_of_claim startd (asked_claim sent.mail) ≡ Some slot → IfSome judged (IsJudgedHere slot sent.mail)
  pub stays : StayLinked (protocol_at reading s p) (moves_of_startd_mail startd sent.mail judged reading) (parts_acted machine reading (after_mail startd sent.mail judged reading) [] s)

pub got : (p : Protocol) (s new : PoolState) (r : Stepped) (machine boot index reading : ℕ) (judged : Option Judgement) (mismatch : Option Mismatch) → IsKept p s
    → IsEventRefusal (event.Receive (Startd machine) boot index reading judged mismatch) s None → Happens (event.Receive (Startd machine) boot index reading judged mismatch) s new r
    → IsGot p s machine index reading judged new r
unfolding Happens
got p s new r machine boot index reading judged mismatch kept free happens =
    let found : (sent : Sent) × (slice_get s.mails.sent index ≡ Some sent) × StartdReceives machine index (λ v. after_mail v sent.mail judged reading) s new r = some_and (slice_get s.mails.sent index) (λ sent. Receives (Startd machine) index sent.mail reading judged s new r) happens in
    let sent : Sent = found.0 in
    let own : (v : StartdValue) × (slice_get s.machines machine ≡ Some v) × IsReceivedStep machine index (after_mail v sent.mail judged reading) s new r = some_and (slice_get s.machines machine) (λ v. IsReceivedStep machine index (after_mail v sent.mail judged reading) s new r) found.2 in
    let v : StartdValue = own.0 in
    let linked = linked_at p s reading kept in
    let both = then_none (receive_refusal (Startd machine) boot index s) (IsAdRefusal (slice_get s.mails.sent index) s reading judged mismatch) free in
    let later = first_none (daemon_refusal (Startd machine) boot s.daemons) (mail_refusal (Startd machine) index s.mails ∷ busy_refusal (Startd machine) s ∷ []) both.0 in
    let mine = first_none (mail_refusal (Startd machine) index s.mails) (busy_refusal (Startd machine) s ∷ []) later.1 in
    let to : sent.to ≡ Startd machine = goes_to (Startd machine) index s.mails sent found.1 mine.0 in
    let there : IsIn sent s.mails.sent = at_place sent s.mails.sent index found.1 in
    let fits = judged_fits s machine v sent.mail reading judged mismatch own.1 (linked.startds machine v own.1).numbered (subst (λ o. IsAdRefusal o s reading judged mismatch None) found.1 both.1) in
    record {
      sent = sent;
      mailed = found.1;
      startd = v;
      at = own.1;
      step = own.2;
      fits = fits;
      stays = mail_linked (protocol_at reading s p) (parts_at_reading reading (parts_of s)) machine v sent.mail judged reading linked own.1 (mail_in sent s.mails.sent there) (subst (λ who. IsIn who (receivers_of sent.mail)) to (kept.addressed sent there)) fits;
    }

-- the pool after it is kept to the protocol after its moves
pub got_goes : (p : Protocol) (s new : PoolState) (r : Stepped) (machine index reading : ℕ) (judged : Option Judgement) → IsKept p s → (g : IsGot p s machine index reading judged new r)
    → GoesBy p (PassTime (max s.latest reading) ∷ moves_of_startd_mail g.startd g.sent.mail judged reading) (at_reading reading new)
got_goes p s new r machine index reading judged kept g =
    let a : After = after_mail g.startd g.sent.mail judged reading in
    let ms = moves_of_startd_mail g.startd g.sent.mail judged reading in
    subst (λ t. GoesBy p (PassTime (max s.latest reading) ∷ ms) (at_reading reading t)) (sym g.step.pool)
    (acted_goes p s (receives index (startd_acts machine a.startd a.step [] s)) machine reading a [] ms kept
    (acts_on_mail s machine index g.startd a.startd a.step [] kept.boots g.at (mail_machine g.startd g.sent.mail judged reading)) g.stays)

pub received_goes_on : (p : Protocol) (s new : PoolState) (r : Stepped) (machine boot index reading : ℕ) (judged : Option Judgement) (mismatch : Option Mismatch) → IsKept p s
    → IsEventRefusal (event.Receive (Startd machine) boot index reading judged mismatch) s None → Happens (event.Receive (Startd machine) boot index reading judged mismatch) s new r
    → GoesOn p (IsStepOf (event.Receive (Startd machine) boot index reading judged mismatch) s) (at_reading reading new)
received_goes_on p s new r machine boot index reading judged mismatch kept free happens =
    let g = got p s new r machine boot index reading judged mismatch kept free happens in
    let v = (linked_at p s reading kept).startds machine g.startd g.at in
    go_on p (IsStepOf (event.Receive (Startd machine) boot index reading judged mismatch) s) (PassTime (max s.latest reading) ∷ moves_of_startd_mail g.startd g.sent.mail judged reading) (at_reading reading new) (got_goes p s new r machine index reading judged kept g)
    (time_first (IsStepOf (event.Receive (Startd machine) boot index reading judged mismatch) s) p (max s.latest reading) (moves_of_startd_mail g.startd g.sent.mail judged reading) (inl refl)
    (startd_mail_makes (IsStepOf (event.Receive (Startd machine) boot index reading judged mismatch) s) (λ m. each (Mark m) tt) g.startd machine v.sound v.numbered g.sent.mail judged reading each))
  where
    each : (k : AbstractStep) → IsMailStep machine (got p s new r machine boot index reading judged mismatch kept free happens).sent.mail judged k → IsStepOf (event.Receive (Startd machine) boot index reading judged mismatch) s k
    each k is = inr (subst (λ (o : Option Sent). IsSomeAnd o (λ sent. IsMailStep machine sent.mail judged k)) (sym (got p s new r machine boot index reading judged mismatch kept free happens).mailed) is)

-- ---- time
pub ticked_goes_on : (p : Protocol) (s new : PoolState) (r : Stepped) (machine boot reading : ℕ) → IsKept p s → Happens (event.Tick (Startd machine) boot reading) s new r → GoesOn p (IsStepOf (event.Tick (Startd machine) boot reading) s) (at_reading reading new)
unfolding Happens
ticked_goes_on p s new r machine boot reading kept happens =
    let own : (v : StartdValue) × (slice_get s.machines machine ≡ Some v) × IsStartdStep machine (after_tick v reading) [] s new r = some_and (slice_get s.machines machine) (λ v. IsStartdStep machine (after_tick v reading) [] s new r) happens in
    let v : StartdValue = own.0 in
    let a : After = after_tick v reading in
    let linked = linked_at p s reading kept in
    let goes = acted_goes p s (startd_acts machine a.startd a.step [] s) machine reading a [] (moves_of_ticks v reading) kept
    (acts s machine v a.startd a.step [] kept.boots own.1 refl)
    (tick_linked (protocol_at reading s p) (parts_at_reading reading (parts_of s)) machine v linked own.1 reading) in
    let it = linked.startds machine v own.1 in
    go_on p (IsStepOf (event.Tick (Startd machine) boot reading) s) (PassTime (max s.latest reading) ∷ moves_of_ticks v reading) (at_reading reading new)
    (subst (λ t. GoesBy p (PassTime (max s.latest reading) ∷ moves_of_ticks v reading) (at_reading reading t)) (sym own.2.pool) goes)
    (time_first (IsStepOf (event.Tick (Startd machine) boot reading) s) p (max s.latest reading) (moves_of_ticks v reading) (inl refl)
    (ticks_make (IsStepOf (event.Tick (Startd machine) boot reading) s) (λ m. inr tt) v machine it.sound it.numbered reading))

-- ---- the end of a run
pub ended_goes_on : (p : Protocol) (s new : PoolState) (r : Stepped) (machine boot reading : ℕ) (receipt : ReceiptValue Ending) → IsKept p s → Happens (event.Ended machine boot receipt reading) s new r
    → GoesOn p (IsStepOf (event.Ended machine boot receipt reading) s) (at_reading reading new)
unfolding Happens
ended_goes_on p s new r machine boot reading receipt kept happens =
    let ending : Ending = receipt.item in
    let own : (v : StartdValue) × (slice_get s.machines machine ≡ Some v) × IsStartdStep machine (after_end v ending reading) (ends_after ending.run v (after_end v ending reading)) s new r =
    some_and (slice_get s.machines machine) (λ v. IsStartdStep machine (after_end v ending reading) (ends_after ending.run v (after_end v ending reading)) s new r) happens in
    let v : StartdValue = own.0 in
    let a : After = after_end v ending reading in
    let ends : List EndReport = reports_of_end v ending in
    let linked = linked_at p s reading kept in
    let same : new ≡ startd_acts machine a.startd a.step ends s = own.2.pool ∙ ap (λ xs. startd_acts machine a.startd a.step xs s) (ends_same v ending reading (linked.startds machine v own.1).sound) in
    let goes = acted_goes p s (startd_acts machine a.startd a.step ends s) machine reading a ends (moves_of_ended_run v ending) kept
    (acts s machine v a.startd a.step ends kept.boots own.1 (end_machine v ending reading))
    (end_linked (protocol_at reading s p) (parts_at_reading reading (parts_of s)) machine v ending reading linked own.1) in
    let it = linked.startds machine v own.1 in
    go_on p (IsStepOf (event.Ended machine boot receipt reading) s) (PassTime (max s.latest reading) ∷ moves_of_ended_run v ending) (at_reading reading new)
    (subst (λ t. GoesBy p (PassTime (max s.latest reading) ∷ moves_of_ended_run v ending) (at_reading reading t)) (sym same) goes)
    (time_first (IsStepOf (event.Ended machine boot receipt reading) s) p (max s.latest reading) (moves_of_ended_run v ending) (inl refl)
    (ended_makes (IsStepOf (event.Ended machine boot receipt reading) s) (λ m. inr tt) v machine it.sound it.numbered ending (λ x how on is. inr (on, is, refl))))

-- ---- a boot
-- a daemon that comes back is there
daemon_there : (o : Option DaemonState) (machine : ℕ) → reopen_refusal_at (Startd machine) o ≡ None → (old : DaemonState) × (o ≡ Some old)
daemon_there None machine h = absurd (none-some (error.Down (Startd machine)) (sym h))
daemon_there (Some old) machine h = (old, refl)

pub booted_goes_on : (p : Protocol) (s new : PoolState) (r : Stepped) (machine reading : ℕ) (kept_tx : Option (ReceiptValue (List Operation))) (ended : List (ReceiptValue Ending)) → IsKept p s
    → IsEventRefusal (event.Reopen (Startd machine) kept_tx ended reading) s None → Happens (event.Reopen (Startd machine) kept_tx ended reading) s new r
    → GoesOn p (IsStepOf (event.Reopen (Startd machine) kept_tx ended reading) s) (at_reading reading new)
unfolding Happens
booted_goes_on p s new r machine reading kept_tx ended kept free happens =
    let back : IsReopened (Startd machine) (is_some kept_tx) reading s new r = happens in
    let own : (v : StartdValue) × (slice_get s.machines machine ≡ Some v) × IsStartdStep machine (after_reboot v reading) [] s back.back r = some_and (slice_get s.machines machine) (λ v. IsStartdStep machine (after_reboot v reading) [] s back.back r) back.comes in
    let v : StartdValue = own.0 in
    let a : After = after_reboot v reading in
    let boot : ℕ = boot_of (daemon_state (Startd machine) s.daemons) + 1 in
    let both = then_none (reopen_refusal (Startd machine) s.daemons) (IsReturnRefusal (Startd machine) kept_tx ended s) free in
    let daemon = daemon_there (daemon_state (Startd machine) s.daemons) machine both.0 in
    let same : new ≡ boots boot (Startd machine) (startd_acts machine a.startd a.step [] s) = back.pool ∙ ap (boots boot (Startd machine)) own.2.pool in
    let linked = linked_at p s reading kept in
    let it = linked.startds machine v own.1 in
    let next : v.machine.boot + 1 ≡ boot = ap (λ n. n + 1) (sym (kept.boots machine v own.1)) in
    let goes = acted_goes p s (boots boot (Startd machine) (startd_acts machine a.startd a.step [] s)) machine reading a [] (moves_of_boots v) kept
    (acts_in_boot s machine boot daemon.0 a.startd a.step [] kept.boots daemon.1 next)
    (boot_linked (protocol_at reading s p) (parts_at_reading reading (parts_of s)) machine v linked own.1 reading) in
    go_on p (IsStepOf (event.Reopen (Startd machine) kept_tx ended reading) s) (PassTime (max s.latest reading) ∷ moves_of_boots v) (at_reading reading new)
    (subst (λ t. GoesBy p (PassTime (max s.latest reading) ∷ moves_of_boots v) (at_reading reading t)) (sym same) goes)
    (time_first (IsStepOf (event.Reopen (Startd machine) kept_tx ended reading) s) p (max s.latest reading) (moves_of_boots v) (inl refl)
    (boots_make (IsStepOf (event.Reopen (Startd machine) kept_tx ended reading) s) (λ m. inr tt) v machine it.sound it.numbered (λ x is. inr (is, refl))))
