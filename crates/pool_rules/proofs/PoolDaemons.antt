-- The matchmaker's mails, ticks and boots, a crash, and the close of a pool keep it.
use Rattle.std.proofs.Common.{◌≡◌, ℕ, zero, suc, ◌+◌, ◌-◌, Bool, true, false, List, [], ◌∷◌, length, nat_lt, slice_get, slice_set, Option, Some, None, refl, sym, ◌∙◌, ap, subst, if◌then◌else◌}
use Rattle.ad_eval.specs.Judgement.{Judgement, Mismatch}
use Rattle.pool_parts.specs.declared.answer.Stepped.{Stepped}
use Rattle.pool_parts.specs.declared.event.Event.TheVariants as event
use Rattle.pool_mail.specs.declared.end.Ending.{Ending}
use Rattle.pool_rules.specs.Happens.{Happens, crashes}
use Rattle.pool_outer.specs.declared.gate.Daemon.{Daemon}
use Rattle.pool_outer.specs.declared.gate.Daemon.TheVariants.{Schedd, Startd, Matchmaker}
use Rattle.pool_view.specs.Protocol.{Protocol}
use Rattle.pool_state.specs.Readings.{boot_of}
use Rattle.pool_state.specs.declared.state.PoolState.{PoolState}
use Rattle.pool_tables.specs.DaemonTables.{DaemonsValue, crashed, daemon_state, with_state}
use Rattle.pool_tables.specs.declared.sent.Sent.{Sent}
use Rattle.pool_tables.specs.declared.states.DaemonState.{DaemonState}
use Rattle.queue_tx.specs.Operations.{Operation}
use Rattle.receipt_roll.specs.Values.{ReceiptValue}
use Rattle.pool_rules.specs.Kept.{IsKept, GoesOn, at_reading}
use Rattle.pool_rules.specs.Steps.{IsStepOf}
use Rattle.pool_rules.proofs.PoolFrames.{aside_kept, read_on, staying}
use Rattle.pool_rules.proofs.PoolSent.{received_kept}

-- ---- the matchmaker
pub receipts_keep : (p : Protocol) (s : PoolState) (boot index reading : ℕ) (judged : Option Judgement) (mismatch : Option Mismatch) (new : PoolState) (r : Stepped) → IsKept p s
    → Happens (event.Receive Matchmaker boot index reading judged mismatch) s new r → GoesOn p (IsStepOf (event.Receive Matchmaker boot index reading judged mismatch) s) (at_reading reading new)
unfolding Happens
receipts_keep p s boot index reading judged mismatch new r k happens = by (slice_get s.mails.sent index) happens
  where
    by : (o : Option Sent) → Rattle.std.specs.Prelude.IsSomeAnd o (λ sent. Rattle.pool_rules.specs.Happens.Receives Matchmaker index sent.mail reading judged s new r)
        → GoesOn p (IsStepOf (event.Receive Matchmaker boot index reading judged mismatch) s) (at_reading reading new)
    by None h = absurd h
    by (Some sent) h = subst (λ t. GoesOn p (IsStepOf (event.Receive Matchmaker boot index reading judged mismatch) s) (at_reading reading t)) (sym h.0)
        (read_on p (IsStepOf (event.Receive Matchmaker boot index reading judged mismatch) s) s _ reading refl k (λ q kept. staying q (IsStepOf (event.Receive Matchmaker boot index reading judged mismatch) s) _ (received_kept q (at_reading reading s) index kept)))

pub ticks_keep : (p : Protocol) (s : PoolState) (boot reading : ℕ) (new : PoolState) (r : Stepped) → IsKept p s → Happens (event.Tick Matchmaker boot reading) s new r → GoesOn p (IsStepOf (event.Tick Matchmaker boot reading) s) (at_reading reading new)
unfolding Happens
ticks_keep p s boot reading new r k happens = subst (λ t. GoesOn p (IsStepOf (event.Tick Matchmaker boot reading) s) (at_reading reading t)) (sym happens.0)
    (read_on p (IsStepOf (event.Tick Matchmaker boot reading) s) s _ reading refl k (λ q kept. staying q (IsStepOf (event.Tick Matchmaker boot reading) s) _ kept))

-- the boots of machines stay where those of startds do
pub daemons_kept : (p : Protocol) (s : PoolState) (d : DaemonsValue) → ((machine : ℕ) → boot_of (daemon_state (Startd machine) d) ≡ boot_of (daemon_state (Startd machine) s.daemons)) → IsKept p s → IsKept p (record s { daemons = d })
daemons_kept p s d same k = record {
  linked = k.linked;
  pending = k.pending;
  addressed = k.addressed;
  passed = k.passed;
  boots = λ machine v at. same machine ∙ k.boots machine v at;
}

pub returns_keep : (p : Protocol) (s : PoolState) (kept : Option (ReceiptValue (List Operation))) (ended : List (ReceiptValue Ending)) (reading : ℕ) (new : PoolState) (r : Stepped) → IsKept p s
    → Happens (event.Reopen Matchmaker kept ended reading) s new r → GoesOn p (IsStepOf (event.Reopen Matchmaker kept ended reading) s) (at_reading reading new)
unfolding Happens
returns_keep p s kept ended reading new r k happens = subst (λ t. GoesOn p (IsStepOf (event.Reopen Matchmaker kept ended reading) s) (at_reading reading t)) (sym (happens.pool ∙ ap (Rattle.pool_rules.specs.Happens.boots (boot_of (daemon_state Matchmaker s.daemons) + 1) Matchmaker) happens.comes.0))
    (read_on p (IsStepOf (event.Reopen Matchmaker kept ended reading) s) s _ reading refl k (λ q is. staying q (IsStepOf (event.Reopen Matchmaker kept ended reading) s) _ (daemons_kept q (at_reading reading s) _ (λ machine. refl) is)))

-- ---- a crash
put_boot : (xs : List DaemonState) (i k : ℕ) (old new : DaemonState) → slice_get xs i ≡ Some old → new.boot ≡ old.boot → boot_of (slice_get (slice_set xs i new) k) ≡ boot_of (slice_get xs k)
put_boot [] i k old new at same = refl
put_boot (x ∷ xs) zero zero old new at same = same ∙ sym (ap boot_of at)
put_boot (x ∷ xs) zero (suc k) old new at same = refl
put_boot (x ∷ xs) (suc i) zero old new at same = refl
put_boot (x ∷ xs) (suc i) (suc k) old new at same = put_boot xs i k old new at same

crashed_boot : (who : Daemon) (d : DaemonsValue) (machine : ℕ) → boot_of (daemon_state (Startd machine) (with_state who (crashed (daemon_state who d)) d)) ≡ boot_of (daemon_state (Startd machine) d)
crashed_boot Schedd d machine = refl
crashed_boot Matchmaker d machine = refl
crashed_boot (Startd k) d machine = by (slice_get d.startds k) refl
  where
    put : (b : Bool) (old : DaemonState) → slice_get d.startds k ≡ Some old → boot_of (slice_get (if b then slice_set d.startds k (record old { up = false; crashes = old.crashes - 1 }) else d.startds) machine) ≡ boot_of (slice_get d.startds machine)
    put true old at = put_boot d.startds k machine old (record old { up = false; crashes = old.crashes - 1 }) at refl
    put false old at = refl

    by : (o : Option DaemonState) → slice_get d.startds k ≡ o → boot_of (daemon_state (Startd machine) (with_state (Startd k) (crashed o) d)) ≡ boot_of (daemon_state (Startd machine) d)
    by None at = refl
    by (Some old) at = put (nat_lt k (length d.startds)) old at

pub crashes_keep : (p : Protocol) (s : PoolState) (who : Daemon) (new : PoolState) (r : Stepped) → IsKept p s → Happens (event.Crash who) s new r → GoesOn p (IsStepOf (event.Crash who) s) new
unfolding Happens
crashes_keep p s who new r k happens = subst (GoesOn p (IsStepOf (event.Crash who) s)) (sym happens.0) (staying p (IsStepOf (event.Crash who) s) (crashes who s) (daemons_kept p s _ (crashed_boot who s.daemons) k))

-- ---- the close
pub closes_keep : (p : Protocol) (s : PoolState) (length reading : ℕ) (mismatch : Mismatch) (new : PoolState) (r : Stepped) → IsKept p s → Happens (event.Close length reading mismatch) s new r → GoesOn p (IsStepOf (event.Close length reading mismatch) s) (at_reading reading new)
unfolding Happens
closes_keep p s length reading mismatch new r k happens = subst (λ t. GoesOn p (IsStepOf (event.Close length reading mismatch) s) (at_reading reading t)) (sym happens.0)
    (read_on p (IsStepOf (event.Close length reading mismatch) s) s _ reading refl k (λ q kept. staying q (IsStepOf (event.Close length reading mismatch) s) _ (aside_kept q (at_reading reading s) s.counts s.events true kept)))
