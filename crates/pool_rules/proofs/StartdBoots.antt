-- Each startd stays in the boot of its machine.
use Rattle.std.proofs.Common.{◌≡◌, ◌≢◌, ◌⊎◌, inl, inr, ℕ, zero, suc, nat_lt, Bool, true, false, List, [], ◌∷◌, length, Option, Some, None, slice_get, slice_set, true≢false, lt-ltb, refl, sym, ◌∙◌, ap, subst, if◌then◌else◌}
use Rattle.std.proofs.lemmas.Option.{none-some, slice_get_within}
use Rattle.ad_eval.specs.Judgement.{Judgement}
use Rattle.claim_id.specs.declared.numbers.ClaimNo.{ClaimNo}
use Rattle.pool_mail.specs.declared.end.Ending.{Ending}
use Rattle.pool_mail.specs.declared.mail.Mail.{Mail}
use Rattle.pool_outer.specs.declared.gate.Daemon.TheVariants.{Startd}
use Rattle.pool_state.specs.Readings.{boot_of}
use Rattle.pool_tables.specs.declared.states.DaemonState.{DaemonState}
use Rattle.pool_tables.specs.DaemonTables.{DaemonsValue, reopened, daemon_state, with_startd, with_state}
use Rattle.startd_slot.specs.declared.slot.Slot.{Slot}
use Rattle.startd_slot.specs.EndingTable.{after_ending}
use Rattle.startd_slot.specs.Mails.{asked_claim, reaction_to}
use Rattle.startd_slot.specs.SlotStates.{runs_on}
use Rattle.startd_core.specs.declared.offers.Machine.{Machine}
use Rattle.startd_core.specs.Startds.{StartdValue, after_end, after_mail, ended_at, ended_in, ended_where, made_by, place_of, put_at, put_in, received_at, received_in, received_of}
use Rattle.pool_rules.proofs.Machines.{put_cases}
use Rattle.pool_rules.specs.Kept.{AreInBoot}

-- ---- mails and ends leave the machine as it is
put_machine : (v : StartdValue) (place : ℕ) (c : _) → (put_at v place c).machine ≡ v.machine
unfolding put_at
put_machine v place c = by (slice_get v.slots place)
  where
    by : (o : Option Slot) → (put_in v place o c).machine ≡ v.machine
    by None = refl
    by (Some slot) = refl

pub mail_machine : (v : StartdValue) (mail : Mail) (judged : Option Judgement) (reading : ℕ) → (after_mail v mail judged reading).startd.machine ≡ v.machine
mail_machine v mail judged reading = by_claim (asked_claim mail)
  where
    by_slot : (place : ℕ) (o : Option Slot) → (received_at v place o mail judged reading).startd.machine ≡ v.machine
    by_slot place None = refl
    by_slot place (Some slot) = put_machine v place (made_by v.machine v.offers slot (reaction_to v.machine.boot slot mail judged reading) reading).conclusion

    by_place : (o : Option ℕ) → (received_in v o mail judged reading).startd.machine ≡ v.machine
    by_place None = refl
    by_place (Some place) = by_slot place (slice_get v.slots place)

    by_claim : (o : Option ClaimNo) → (received_of v o mail judged reading).startd.machine ≡ v.machine
    by_claim None = refl
    by_claim (Some claim) = by_place (place_of v claim.slot)

pub end_machine : (v : StartdValue) (ending : Ending) (reading : ℕ) → (after_end v ending reading).startd.machine ≡ v.machine
end_machine v ending reading = by_place (place_of v ending.run.claim.slot)
  where
    by_run : (place : ℕ) (slot : Slot) (here : Bool) → (ended_where here v place slot ending reading).startd.machine ≡ v.machine
    by_run place slot true = put_machine v place (made_by v.machine v.offers slot (after_ending ending reading slot.state) reading).conclusion
    by_run place slot false = refl

    by_slot : (place : ℕ) (o : Option Slot) → (ended_at v place o ending reading).startd.machine ≡ v.machine
    by_slot place None = refl
    by_slot place (Some slot) = by_run place slot (runs_on slot.state ending.run)

    by_place : (o : Option ℕ) → (ended_in v o ending reading).startd.machine ≡ v.machine
    by_place None = refl
    by_place (Some place) = by_slot place (slice_get v.slots place)

-- ---- one startd stands anew

-- in the boot in which it was
pub still_in_boot : (d : DaemonsValue) (vs : List StartdValue) (machine : ℕ) (v w : StartdValue) → AreInBoot d vs → slice_get vs machine ≡ Some v → w.machine ≡ v.machine → AreInBoot d (slice_set vs machine w)
still_in_boot d vs machine v w are at same k u there = by (put_cases vs machine k w u there)
  where
    by : ((k ≡ machine) × (u ≡ w)) ⊎ ((k ≢ machine) × (slice_get vs k ≡ Some u)) → boot_of (daemon_state (Startd k) d) ≡ u.machine.boot
    by (inl here) =
        ap (λ n. boot_of (daemon_state (Startd n) d)) here.0
        ∙ (are machine v at
        ∙ (sym (ap (λ (m : Machine). m.boot) same) ∙ sym (ap (λ (x : StartdValue). x.machine.boot) here.1)))
    by (inr other) = are k u other.1

-- ---- a daemon is up in the next boot
set_here : {A : Type 0} (xs : List A) (i : ℕ) (x old : A) → slice_get xs i ≡ Some old → slice_get (slice_set xs i x) i ≡ Some x
set_here [] i x old at = absurd (none-some old at)
set_here (y ∷ ys) zero x old at = refl
set_here (y ∷ ys) (suc i) x old at = set_here ys i x old at

set_there : {A : Type 0} (xs : List A) (i k : ℕ) (x : A) → k ≢ i → slice_get (slice_set xs i x) k ≡ slice_get xs k
set_there [] i k x other = refl
set_there (y ∷ ys) zero zero x other = absurd (other refl)
set_there (y ∷ ys) zero (suc k) x other = refl
set_there (y ∷ ys) (suc i) zero x other = refl
set_there (y ∷ ys) (suc i) (suc k) x other = set_there ys i k x (λ e. other (ap suc e))

startd_here : (startds : List DaemonState) (machine : ℕ) (new old : DaemonState) → slice_get startds machine ≡ Some old → slice_get (with_startd machine new startds) machine ≡ Some new
startd_here startds machine new old at = by (nat_lt machine (length startds)) (lt-ltb machine (length startds) (slice_get_within startds machine old at))
  where
    by : (b : Bool) → b ≡ true → slice_get (if b then slice_set startds machine new else startds) machine ≡ Some new
    by true is = set_here startds machine new old at
    by false is = absurd (true≢false (sym is))

startd_there : (startds : List DaemonState) (machine k : ℕ) (new : DaemonState) → k ≢ machine → slice_get (with_startd machine new startds) k ≡ slice_get startds k
startd_there startds machine k new other = by (nat_lt machine (length startds))
  where
    by : (b : Bool) → slice_get (if b then slice_set startds machine new else startds) k ≡ slice_get startds k
    by true = set_there startds machine k new other
    by false = refl

-- and so is the startd of that machine, and no other has changed
pub next_in_boot : (d : DaemonsValue) (vs : List StartdValue) (machine boot : ℕ) (old : DaemonState) (w : StartdValue) → AreInBoot d vs → slice_get d.startds machine ≡ Some old → w.machine.boot ≡ boot
    → AreInBoot (with_state (Startd machine) (reopened boot (daemon_state (Startd machine) d)) d) (slice_set vs machine w)
next_in_boot d vs machine boot old w are state same =
    subst (λ o. AreInBoot (with_state (Startd machine) (reopened boot o) d) (slice_set vs machine w)) (sym state) up
  where
    new : DaemonState
    new = record old { boot = boot; up = true }

    up : AreInBoot (with_state (Startd machine) (Some new) d) (slice_set vs machine w)
    up k u there = by (put_cases vs machine k w u there)
      where
        by : ((k ≡ machine) × (u ≡ w)) ⊎ ((k ≢ machine) × (slice_get vs k ≡ Some u)) → boot_of (slice_get (with_startd machine new d.startds) k) ≡ u.machine.boot
        by (inl here) =
            ap (λ n. boot_of (slice_get (with_startd machine new d.startds) n)) here.0
            ∙ (ap boot_of (startd_here d.startds machine new old state)
            ∙ (sym same ∙ sym (ap (λ (x : StartdValue). x.machine.boot) here.1)))
        by (inr other) = ap boot_of (startd_there d.startds machine k new other.0) ∙ are k u other.1
