-- Each event says only those runs to be over that are.
use Rattle.std.proofs.Common.{◌≡◌, ℕ, Bool, true, false, List, [], ◌∷◌, Option, Some, None, IfSome, slice_get, true≢false, refl, sym, ◌∙◌, ap, subst}
use Rattle.std.proofs.lemmas.Option.{none-some, same_Some}
use Rattle.ad_eval.specs.Judgement.{Judgement}
use Rattle.claim_id.specs.declared.numbers.ClaimNo.{ClaimNo}
use Rattle.claim_id.specs.declared.numbers.RunNo.{RunNo}
use Rattle.claim_id.specs.declared.numbers.SlotId.{SlotId}
use Rattle.pool_mail.specs.declared.end.Ending.{Ending}
use Rattle.pool_mail.specs.declared.mail.Mail.{Mail}
use Rattle.pool_mail.specs.declared.mail.Mail.TheVariants.{Update, Matched, Ask, Granted, Denied, Activate, Alive, Seen, Stop, Release, Gone, Ended, Remove, Hold, Resume}
use Rattle.pool_mail.specs.declared.settings.Settings.{Settings}
use Rattle.startd_slot.specs.declared.held.Held.{Held}
use Rattle.startd_slot.specs.declared.held.Running.{Running}
use Rattle.startd_slot.specs.declared.slot.Slot.{Slot}
use Rattle.startd_slot.specs.declared.slot.SlotState.{SlotState}
use Rattle.startd_slot.specs.ActivateTable.{gone_where}
use Rattle.startd_slot.specs.Consistent.{IsConsistent, IsOwnClaim, IsOwnRun, HasOwnRuns}
use Rattle.startd_slot.specs.EndingTable.{after_ending}
use Rattle.startd_slot.specs.Mails.{asked_claim, reaction_to}
use Rattle.startd_slot.specs.Over.{IsOver, run_said_over, named_run, SayOver}
use Rattle.startd_slot.specs.RunTable.{after_alive_of, after_stop_of, unheld_run}
use Rattle.startd_slot.specs.SlotStates.{is_run, is_spent, running_in, runs_on, slot_after_boot}
use Rattle.startd_slot.proofs.NamedRows.{mail_names, end_names}
use Rattle.startd_slot.proofs.SameNumbers.{same_run-true}
use Rattle.startd_core.specs.declared.conclude.Conclusion.{Conclusion}
use Rattle.startd_core.specs.declared.offers.Machine.{Machine}
use Rattle.startd_core.specs.declared.ticks.Ticks.{Ticks}
use Rattle.startd_core.specs.Offers.{has_changed}
use Rattle.startd_core.specs.OverHere.{state_in, IsOverHere, SaysOnlyOver}
use Rattle.startd_core.specs.Sound.{IsSound}
use Rattle.startd_core.specs.Startds.{StartdValue, slot_in, slot_of, place_of, with_conclusion, put_in, put_at, made_by, nowhere, received_at, received_in, received_of, after_mail, ended_where, ended_at, ended_in, after_end, row_made, tells_at, after_slot, after_slots, no_ticks, after_tick, after_booted, after_boots, after_reboot}
use Rattle.startd_core.specs.TickTable.{slot_row}
use Rattle.startd_core.proofs.Places.{slot_there, put_there}
use Rattle.startd_core.proofs.Stays.{mail_put, end_put}
use Rattle.startd_core.proofs.Telling.{told_says, concluded_says, mail_says, end_says}

-- what two things say of the same mails
say_both : (P Q R : RunNo → Type 0) (mails : List Mail) → ((run : RunNo) → P run → Q run → R run) → SayOver P mails → SayOver Q mails → SayOver R mails
say_both P Q R [] each p q = tt
say_both P Q R (mail ∷ mails) each p q = (one (run_said_over mail) p.0 q.0, say_both P Q R mails each p.1 q.1)
  where
    one : (o : Option RunNo) → IfSome o P → IfSome o Q → IfSome o R
    one None p q = tt
    one (Some run) p q = each run p q

-- ---- runs of a sound startd
-- a run is on no slot but that of its claim
its_slot : (boot : ℕ) (slot : SlotId) (s : SlotState) (run : RunNo) → runs_on s run ≡ true → IsConsistent boot slot s → run.claim.slot ≡ slot
its_slot boot slot s run here c = by_held s.held here c.held
  where
    by_running : (h : Held) (o : Option Running) → is_run o run ≡ true → IfSome o (λ r. IsOwnRun h r.run) → IsOwnClaim boot slot s h.claim.no → run.claim.slot ≡ slot
    by_running h None here own claim = absurd (true≢false (sym here))
    by_running h (Some r) here own claim =
        let same : r.run ≡ run = same_run-true r.run run here in
        let its : IsOwnRun h run = subst (IsOwnRun h) same own in
        ap (λ (k : ClaimNo). k.slot) its.0 ∙ claim.0

    by_held : (o : Option Held) → is_run (running_in o) run ≡ true → IfSome o (λ h. IsOwnClaim boot slot s h.claim.no × HasOwnRuns h) → run.claim.slot ≡ slot
    by_held None here own = absurd (true≢false (sym here))
    by_held (Some h) here own = by_running h h.running here own.1.0 own.0

over_here : (v : StartdValue) (run : RunNo) → IsSound v → IsOver v.machine.boot (state_in (slot_of v run.claim.slot)) run → IsOverHere v run
over_here v run sound over = (over.0, λ place slot at. by_test place slot at (runs_on slot.state run) refl)
  where
    by_test : (place : ℕ) (slot : Slot) → slice_get v.slots place ≡ Some slot → (here : Bool) → runs_on slot.state run ≡ here → here ≡ false
    by_test place slot at false is = refl
    by_test place slot at true is =
        let own = sound.slots place slot at in
        let there : slot_of v run.claim.slot ≡ Some slot = ap (slot_of v) (its_slot v.machine.boot slot.id slot.state run is own.consistent) ∙ slot_there v place slot at own in
        sym is ∙ subst (λ o. runs_on (state_in o) run ≡ false) there over.1

-- ---- mails
named_claim : (mail : Mail) (run : RunNo) (claim : ClaimNo) → named_run mail ≡ Some run → asked_claim mail ≡ Some claim → run.claim ≡ claim
named_claim (Activate r job ad until) run claim is asked = sym (ap (λ (x : RunNo). x.claim) (same_Some r run is)) ∙ same_Some r.claim claim asked
named_claim (Alive r until) run claim is asked = sym (ap (λ (x : RunNo). x.claim) (same_Some r run is)) ∙ same_Some r.claim claim asked
named_claim (Stop r) run claim is asked = sym (ap (λ (x : RunNo). x.claim) (same_Some r run is)) ∙ same_Some r.claim claim asked
named_claim (Matched found) run claim is asked = absurd (none-some run is)
named_claim (Ask c job ad by_priority) run claim is asked = absurd (none-some run is)
named_claim (Release c) run claim is asked = absurd (none-some run is)
named_claim (Update s) run claim is asked = absurd (none-some run is)
named_claim (Granted c job) run claim is asked = absurd (none-some run is)
named_claim (Denied c r job why) run claim is asked = absurd (none-some run is)
named_claim (Seen r until) run claim is asked = absurd (none-some run is)
named_claim (Gone r kept) run claim is asked = absurd (none-some run is)
named_claim (Ended r how) run claim is asked = absurd (none-some run is)
named_claim (Remove job) run claim is asked = absurd (none-some run is)
named_claim (Hold job) run claim is asked = absurd (none-some run is)
named_claim (Resume job) run claim is asked = absurd (none-some run is)

-- a slot that the machine lacks
gone_over : (boot : ℕ) (run : RunNo) (spent : Bool) → is_spent (slot_after_boot 0) boot run ≡ spent → SayOver (IsOver boot (slot_after_boot 0)) (gone_where spent run)
gone_over boot run true is = ((is, refl), tt)
gone_over boot run false is = tt

alive_over : (boot : ℕ) (run : RunNo) (until reading : ℕ) (spent : Bool) (s : SlotState) → is_spent (slot_after_boot 0) boot run ≡ spent → SayOver (IsOver boot (slot_after_boot 0)) (after_alive_of (unheld_run spent) run until reading s).mails
alive_over boot run until reading true s is = ((is, refl), tt)
alive_over boot run until reading false s is = tt

stop_over : (boot : ℕ) (run : RunNo) (spent : Bool) (s : SlotState) → is_spent (slot_after_boot 0) boot run ≡ spent → SayOver (IsOver boot (slot_after_boot 0)) (after_stop_of (unheld_run spent) run s).mails
stop_over boot run true s is = ((is, refl), tt)
stop_over boot run false s is = tt

stranger_over : (m : Machine) (mail : Mail) (reading : ℕ) → SayOver (IsOver m.boot (slot_after_boot 0)) (reaction_to m.boot (nowhere m reading) mail None reading).mails
unfolding reaction_to
stranger_over m (Activate run job ad until) reading = (tt, gone_over m.boot run (is_spent (slot_after_boot 0) m.boot run) refl)
stranger_over m (Alive run until) reading = alive_over m.boot run until reading (is_spent (slot_after_boot 0) m.boot run) (slot_after_boot reading) refl
stranger_over m (Stop run) reading = stop_over m.boot run (is_spent (slot_after_boot 0) m.boot run) (slot_after_boot reading) refl
stranger_over m (Ask claim job ad by_priority) reading = (tt, tt)
stranger_over m (Matched found) reading = tt
stranger_over m (Release claim) reading = tt
stranger_over m (Update s) reading = tt
stranger_over m (Granted claim job) reading = tt
stranger_over m (Denied claim run job why) reading = tt
stranger_over m (Seen run until) reading = tt
stranger_over m (Gone run kept) reading = tt
stranger_over m (Ended run how) reading = tt
stranger_over m (Remove job) reading = tt
stranger_over m (Hold job) reading = tt
stranger_over m (Resume job) reading = tt

-- the slot of a place was put anew
put_over : (v : StartdValue) (place : ℕ) (slot : Slot) (c : Conclusion) (run : RunNo) → slice_get v.slots place ≡ Some slot → place_of v run.claim.slot ≡ Some place → IsSound (put_at v place c)
    → IsOver v.machine.boot c.state run → IsOverHere (put_at v place c) run
unfolding put_at
put_over v place slot c run at is sound over =
    subst (λ o. IsSound (put_in v place o c) → IsOverHere (put_in v place o c) run) (sym at)
    (λ new. over_here (with_conclusion v place slot c) run new (subst (λ o. IsOver v.machine.boot (state_in o) run) (sym (put_there v place slot c run.claim.slot at is)) over)) sound

pub mail_says_over : (v : StartdValue) (mail : Mail) (judged : Option Judgement) (reading : ℕ) → IsSound v → SaysOnlyOver (after_mail v mail judged reading)
unfolding made_by
mail_says_over v mail judged reading sound = by_claim (asked_claim mail) refl
  where
    by_slot : (claim : ClaimNo) (place : ℕ) (o : Option Slot) → asked_claim mail ≡ Some claim → place_of v claim.slot ≡ Some place → slice_get v.slots place ≡ o → SaysOnlyOver (received_at v place o mail judged reading)
    by_slot claim place None asked is at = tt
    by_slot claim place (Some slot) asked is at =
        let c = (made_by v.machine v.offers slot (reaction_to v.machine.boot slot mail judged reading) reading).conclusion in
        say_both (IsOver v.machine.boot c.state) (λ run. named_run mail ≡ Some run) (IsOverHere (put_at v place c)) c.mails
        (λ run over named. put_over v place slot c run at (ap (λ (k : ClaimNo). place_of v k.slot) (named_claim mail run claim named asked) ∙ is) (mail_put v place slot mail judged reading at sound) over)
        (mail_says v.machine place slot v.offers mail judged reading (sound.slots place slot at))
        (concluded_says (λ run. named_run mail ≡ Some run) v.machine slot v.offers (reaction_to v.machine.boot slot mail judged reading) reading (mail_names v.machine.boot slot mail judged reading))

    by_place : (claim : ClaimNo) (o : Option ℕ) → asked_claim mail ≡ Some claim → place_of v claim.slot ≡ o → SaysOnlyOver (received_in v o mail judged reading)
    by_place claim None asked is =
        say_both (IsOver v.machine.boot (slot_after_boot 0)) (λ run. named_run mail ≡ Some run) (IsOverHere v) (reaction_to v.machine.boot (nowhere v.machine reading) mail None reading).mails
        (λ run over named. over_here v run sound (subst (λ o. IsOver v.machine.boot (state_in (slot_in v o)) run) (sym (ap (λ (k : ClaimNo). place_of v k.slot) (named_claim mail run claim named asked) ∙ is)) over))
        (stranger_over v.machine mail reading) (mail_names v.machine.boot (nowhere v.machine reading) mail None reading)
    by_place claim (Some place) asked is = by_slot claim place (slice_get v.slots place) asked is refl

    by_claim : (o : Option ClaimNo) → asked_claim mail ≡ o → SaysOnlyOver (received_of v o mail judged reading)
    by_claim None asked = tt
    by_claim (Some claim) asked = by_place claim (place_of v claim.slot) asked refl

-- ---- the end of a run
pub end_says_over : (v : StartdValue) (ending : Ending) (reading : ℕ) → IsSound v → SaysOnlyOver (after_end v ending reading)
unfolding made_by
end_says_over v ending reading sound = by_place (place_of v ending.run.claim.slot) refl
  where
    by_run : (place : ℕ) (slot : Slot) (here : Bool) → place_of v ending.run.claim.slot ≡ Some place → slice_get v.slots place ≡ Some slot → runs_on slot.state ending.run ≡ here → SaysOnlyOver (ended_where here v place slot ending reading)
    by_run place slot false is at here = tt
    by_run place slot true is at here =
        let c = (made_by v.machine v.offers slot (after_ending ending reading slot.state) reading).conclusion in
        say_both (IsOver v.machine.boot c.state) (λ run. run ≡ ending.run) (IsOverHere (put_at v place c)) c.mails
        (λ run over same. put_over v place slot c run at (ap (λ (x : RunNo). place_of v x.claim.slot) same ∙ is) (end_put v place slot ending reading at here sound) over)
        (end_says v.machine place slot v.offers ending reading here (sound.slots place slot at))
        (concluded_says (λ run. run ≡ ending.run) v.machine slot v.offers (after_ending ending reading slot.state) reading (end_names slot.state ending reading))

    by_slot : (place : ℕ) (o : Option Slot) → place_of v ending.run.claim.slot ≡ Some place → slice_get v.slots place ≡ o → SaysOnlyOver (ended_at v place o ending reading)
    by_slot place None is at = tt
    by_slot place (Some slot) is at = by_run place slot (runs_on slot.state ending.run) is at refl

    by_place : (o : Option ℕ) → place_of v ending.run.claim.slot ≡ o → SaysOnlyOver (ended_in v o ending reading)
    by_place None is = tt
    by_place (Some place) is = by_slot place (slice_get v.slots place) is refl

-- ---- ticks and boots, which send only Updates
slots_say : (Is : RunNo → Type 0) (m : Machine) (set : Settings) (slots : List Slot) (reading : ℕ) (t : Ticks) → SayOver Is t.mails → SayOver Is (after_slots m set slots reading t).mails
slots_say Is m set [] reading t all = all
slots_say Is m set (slot ∷ slots) reading t all =
    let s = row_made m slot (slot_row slot set reading) t.offers reading in
    slots_say Is m set slots reading (after_slot m set slot reading t) (told_says Is slot s t.mails (tells_at slot s.state set reading) reading all)

pub tick_says_over : (v : StartdValue) (reading : ℕ) → SaysOnlyOver (after_tick v reading)
tick_says_over v reading = slots_say (IsOverHere (after_tick v reading).startd) v.machine v.settings v.slots reading (no_ticks v.offers) tt

boots_say : (Is : RunNo → Type 0) (slots : List Slot) (reading : ℕ) (t : Ticks) → SayOver Is t.mails → SayOver Is (after_boots slots reading t).mails
boots_say Is [] reading t all = all
boots_say Is (slot ∷ slots) reading t all =
    boots_say Is slots reading (after_booted slot reading t)
    (told_says Is slot (record { state = slot_after_boot reading; offers = t.offers }) t.mails (has_changed slot.state (slot_after_boot reading)) reading all)

pub reboot_says_over : (v : StartdValue) (reading : ℕ) → SaysOnlyOver (after_reboot v reading)
reboot_says_over v reading = boots_say (IsOverHere (after_reboot v reading).startd) v.slots reading (no_ticks v.offers) tt
