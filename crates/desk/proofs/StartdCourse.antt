-- What each event makes of a startd: its spent runs stay so, no run comes on a slot but one that is
-- launched, and runs that are killed were on one.
use Rattle.std.proofs.Common.{◌≡◌, ◌⊎◌, inl, inr, ℕ, zero, suc, ◌+◌, ◌-◌, ◌==◌, Bool, true, false, ◌&&◌, nat_lt, nat_le, List, [], ◌∷◌, ◌++◌, length, Option, Some, None, IsSomeAnd, slice_get, slice_set, refl, sym, ◌∙◌, ap, subst, if◌then◌else◌}
use Rattle.std.proofs.lemmas.List.{append-nil, append_assoc}
use Rattle.std.proofs.lemmas.Option.{none-some, same_Some}
use Rattle.ad_eval.specs.Judgement.{Judgement}
use Rattle.claim_id.specs.declared.numbers.ClaimNo.{ClaimNo}
use Rattle.claim_id.specs.declared.numbers.RunNo.{RunNo}
use Rattle.pool_mail.specs.declared.end.Ending.{Ending}
use Rattle.pool_mail.specs.declared.mail.Mail.{Mail}
use Rattle.pool_mail.specs.declared.settings.Settings.{Settings}
use Rattle.pool_view.proofs.Sameness.{same_run-same}
use Rattle.pool_view.specs.AbstractPool.{IsSpentAt}
use Rattle.pool_view.specs.Numbers.{same_run}
use Rattle.startd_slot.specs.declared.held.Running.{Running}
use Rattle.startd_slot.specs.declared.reaction.Reaction.{Reaction}
use Rattle.startd_slot.specs.declared.reaction.Task.{Task}
use Rattle.startd_slot.specs.declared.reaction.Task.TheVariants as task
use Rattle.startd_slot.specs.declared.slot.Slot.{Slot}
use Rattle.startd_slot.specs.EndingTable.{after_ending}
use Rattle.startd_slot.specs.Mails.{asked_claim, reaction_to}
use Rattle.startd_slot.specs.SlotMoves.{mark_of}
use Rattle.startd_slot.specs.SlotStates.{is_run, running_of, runs_on, slot_after_boot}
use Rattle.startd_core.specs.declared.answer.StartdAnswer.{StartdAnswer}
use Rattle.startd_core.specs.declared.answer.StartdAnswer.TheVariants as startd
use Rattle.startd_core.specs.Sound.{IsSound}
use Rattle.startd_core.specs.Startds.{After, StartdValue, after_boots, after_booted, after_end, after_mail, after_reboot, after_slot, after_slots, after_tick, answer_of, booted_slot, concluded, ended_at, ended_in, ended_where, kill_answer, made_by, no_ticks, place_of, put_at, put_in, received_at, received_in, received_of, slot_in, ticked_slot, with_conclusion}
use Rattle.startd_core.specs.TickTable.{after_tick_row, is_kill, killed_by, run_in, slot_row}
use Rattle.startd_core.proofs.Telling.{booted_part, concluded_part, ticked_part}
use Rattle.desk.specs.Standing.{IsSpentIn}
use Rattle.desk.proofs.ReactionCourse.{Does, ReactionGoes, boot_goes, end_goes, is_started, mail_goes, part_stays, tick_goes}
use Rattle.desk.proofs.SlotCourse.{IsOfBoot, SlotGoes, Stays, goes_after, goes_before, no_new, no_run, of_boot, starts_more, stays_same}

-- ---- slots, each of which goes on
abbrev AllGo : (Slot → Slot → Type 0) → List Slot → List Slot → Type 0
AllGo R [] [] = Unit {0}
AllGo R [] (y ∷ ys) = ⊥
AllGo R (x ∷ xs) [] = ⊥
AllGo R (x ∷ xs) (y ∷ ys) = R x y × AllGo R xs ys

all_length : (R : Slot → Slot → Type 0) (xs ys : List Slot) → AllGo R xs ys → length ys ≡ length xs
all_length R [] [] all = refl
all_length R [] (y ∷ ys) all = absurd all
all_length R (x ∷ xs) [] all = absurd all
all_length R (x ∷ xs) (y ∷ ys) all = ap suc (all_length R xs ys all.1)

all_there : (R : Slot → Slot → Type 0) (P Q : Slot → Type 0) (xs ys : List Slot) (place : ℕ) → AllGo R xs ys → ((x y : Slot) → R x y → P x → Q y) → IsSomeAnd (slice_get xs place) P → IsSomeAnd (slice_get ys place) Q
all_there R P Q [] [] place all each p = absurd p
all_there R P Q [] (y ∷ ys) place all each p = absurd all
all_there R P Q (x ∷ xs) [] place all each p = absurd all
all_there R P Q (x ∷ xs) (y ∷ ys) zero all each p = each x y all.0 p
all_there R P Q (x ∷ xs) (y ∷ ys) (suc place) all each p = all_there R P Q xs ys place all.1 each p

-- a slot as it was
record WasSlot (R : Slot → Slot → Type 0) (xs : List Slot) (place : ℕ) (y : Slot) : Type 0 where
  slot : Slot
  at : slice_get xs place ≡ Some slot
  goes : R slot y

all_back : (R : Slot → Slot → Type 0) (xs ys : List Slot) (place : ℕ) (y : Slot) → AllGo R xs ys → slice_get ys place ≡ Some y → WasSlot R xs place y
all_back R [] [] place y all at = absurd (none-some y at)
all_back R [] (z ∷ ys) place y all at = absurd all
all_back R (x ∷ xs) [] place y all at = absurd all
all_back R (x ∷ xs) (z ∷ ys) zero y all at = record { slot = x; at = refl; goes = subst (λ (w : Slot). R x w) (same_Some z y at) all.0 }
all_back R (x ∷ xs) (z ∷ ys) (suc place) y all at = let was = all_back R xs ys place y all.1 at in record { slot = was.slot; at = was.at; goes = was.goes }

-- one slot is put anew
all_same : (R : Slot → Slot → Type 0) (xs : List Slot) → ((x : Slot) → R x x) → AllGo R xs xs
all_same R [] same = tt
all_same R (x ∷ xs) same = (same x, all_same R xs same)

all_set : (R : Slot → Slot → Type 0) (xs : List Slot) (i : ℕ) (x y : Slot) → ((x : Slot) → R x x) → slice_get xs i ≡ Some x → R x y → AllGo R xs (slice_set xs i y)
all_set R [] i x y same at goes = absurd (none-some x at)
all_set R (z ∷ xs) zero x y same at goes = (subst (λ (w : Slot). R w y) (sym (same_Some z x at)) goes, all_same R xs same)
all_set R (z ∷ xs) (suc i) x y same at goes = (same z, all_set R xs i x y same at goes)

-- ---- a startd
-- the run is on a slot
pub record RunsIn (v : StartdValue) (run : RunNo) : Type 0 where
  pub place : ℕ
  pub slot : Slot
  pub at : slice_get v.slots place ≡ Some slot
  pub runs : runs_on slot.state run ≡ true

pub record StartdGoes (v w : StartdValue) (started : RunNo → Bool) : Type 0 where
  pub spent : (run : RunNo) → IsSpentIn v run → IsSpentIn w run
  pub runs : (run : RunNo) → RunsIn w run → RunsIn v run ⊎ (started run ≡ true)

abbrev Goes : StartdValue → StartdValue → (RunNo → Bool) → Slot → Slot → Type 0
Goes v w started x y = SlotGoes v.machine.boot w.machine.boot started x.state y.state

abbrev IsSpent : StartdValue → RunNo → Option ℕ → Type 0
IsSpent u run o = IsSomeAnd (slot_in u o) (λ slot. IsSpentAt run (mark_of u.machine.boot slot.state))

-- of one machine
startd_goes : (v w : StartdValue) (started : RunNo → Bool) → w.machine.number ≡ v.machine.number → AllGo (Goes v w started) v.slots w.slots → StartdGoes v w started
startd_goes v w started number all = record { spent = λ run spent. subst (λ o. IsSpent w run o) (sym (placed run)) (by run (place_of v run.claim.slot) spent); runs = runs }
  where
    placed : (run : RunNo) → place_of w run.claim.slot ≡ place_of v run.claim.slot
    placed run = ap (λ n. if (run.claim.slot.machine == n) && nat_lt 0 run.claim.slot.slot && nat_le run.claim.slot.slot (length w.slots) then Some (run.claim.slot.slot - 1) else None) number
        ∙ ap (λ n. if (run.claim.slot.machine == v.machine.number) && nat_lt 0 run.claim.slot.slot && nat_le run.claim.slot.slot n then Some (run.claim.slot.slot - 1) else None) (all_length (Goes v w started) v.slots w.slots all)

    by : (run : RunNo) (o : Option ℕ) → IsSpent v run o → IsSpent w run o
    by run None spent = absurd spent
    by run (Some place) spent =
        all_there (Goes v w started) (λ slot. IsSpentAt run (mark_of v.machine.boot slot.state)) (λ slot. IsSpentAt run (mark_of w.machine.boot slot.state)) v.slots w.slots place all (λ x y goes here. goes.spent run here) spent

    runs : (run : RunNo) → RunsIn w run → RunsIn v run ⊎ (started run ≡ true)
    runs run here =
        let was = all_back (Goes v w started) v.slots w.slots here.place here.slot all here.at in
        elim (was.goes.runs run here.runs) [ inl old ↦ inl (record { place = here.place; slot = was.slot; at = was.at; runs = old }) | inr new ↦ inr new ]

-- ---- what it answers
abbrev pub is_launched : StartdAnswer → RunNo → Bool
is_launched startd.Done run = false
is_launched (startd.Launch permit) run = same_run permit.run run
is_launched (startd.Kill runs) run = false

abbrev pub AllRunIn : StartdValue → List RunNo → Type 0
AllRunIn v [] = Unit {0}
AllRunIn v (run ∷ runs) = RunsIn v run × AllRunIn v runs

-- a run that is launched is on a slot then, and those that are killed were on one
abbrev pub DoesAll : StartdValue → StartdValue → StartdAnswer → Type 0
DoesAll v w startd.Done = Unit {0}
DoesAll v w (startd.Launch permit) = RunsIn w permit.run
DoesAll v w (startd.Kill runs) = AllRunIn v runs

pub record AfterGoes (v : StartdValue) (a : After) : Type 0 where
  pub goes : StartdGoes v a.startd (is_launched a.step.answer)
  pub does : DoesAll v a.startd a.step.answer

pub unmoved_goes : (v : StartdValue) (mails : List Mail) → AfterGoes v (record { startd = v; step = record { mails = mails; answer = startd.Done } })
unmoved_goes v mails = record { goes = record { spent = λ run spent. spent; runs = λ run here. inl here }; does = tt }

-- ---- a slot that is put anew
set_there : (xs : List Slot) (i : ℕ) (x old : Slot) → slice_get xs i ≡ Some old → slice_get (slice_set xs i x) i ≡ Some x
set_there [] i x old is = absurd (none-some old is)
set_there (y ∷ ys) zero x old is = refl
set_there (y ∷ ys) (suc i) x old is = set_there ys i x old is

put_goes : (v : StartdValue) (place : ℕ) (slot : Slot) (r : Reaction) (reading : ℕ) → slice_get v.slots place ≡ Some slot → ReactionGoes v.machine.boot slot.state r
    → AfterGoes v (record { startd = put_at v place (concluded v.machine slot v.offers r reading); step = record { mails = (concluded v.machine slot v.offers r reading).mails; answer = answer_of r.task } })
unfolding put_at
put_goes v place slot r reading at goes =
    subst (λ o. AfterGoes v (record { startd = put_in v place o (concluded v.machine slot v.offers r reading); step = record { mails = (concluded v.machine slot v.offers r reading).mails; answer = answer_of r.task } })) (sym at) (by r.task goes.goes goes.does)
  where
    w : StartdValue
    w = with_conclusion v place slot (concluded v.machine slot v.offers r reading)

    x : Slot
    x = record slot { state = (concluded v.machine slot v.offers r reading).state }

    told : Stays v.machine.boot r.state (concluded v.machine slot v.offers r reading).state
    told = part_stays v.machine.boot slot.id slot.ad r.state (concluded v.machine slot v.offers r reading).state (concluded_part v.machine slot v.offers r reading)

    here : slice_get w.slots place ≡ Some x
    here = set_there v.slots place x slot at

    back : Stays v.machine.boot (concluded v.machine slot v.offers r reading).state r.state
    back = part_stays v.machine.boot slot.id slot.ad (concluded v.machine slot v.offers r reading).state r.state (sym (concluded_part v.machine slot v.offers r reading))

    still : (run : RunNo) → runs_on r.state run ≡ true → runs_on (concluded v.machine slot v.offers r reading).state run ≡ true
    still run does = no_new run (runs_on (concluded v.machine slot v.offers r reading).state run ≡ true) (back.runs run does)

    moves : (started : RunNo → Bool) → SlotGoes v.machine.boot v.machine.boot started slot.state r.state → StartdGoes v w started
    moves started goes = startd_goes v w started refl (all_set (Goes v w started) v.slots place slot x (λ y. starts_more v.machine.boot v.machine.boot started y.state y.state (stays_same v.machine.boot y.state)) at
        (goes_before v.machine.boot v.machine.boot started slot.state r.state (concluded v.machine slot v.offers r reading).state goes told))

    by : (t : Task) → SlotGoes v.machine.boot v.machine.boot (is_started t) slot.state r.state → Does slot.state r.state t → AfterGoes v (record { startd = w; step = record { mails = (concluded v.machine slot v.offers r reading).mails; answer = answer_of t } })
    by task.Nothing goes does = record { goes = moves no_run (record { spent = goes.spent; runs = goes.runs }); does = tt }
    by (task.Launch run job what) goes does = record { goes = moves (same_run run) (record { spent = goes.spent; runs = goes.runs }); does = record { place = place; slot = x; at = here; runs = still run does } }
    by (task.Kill run) goes does = record { goes = moves no_run (record { spent = goes.spent; runs = goes.runs }); does = (record { place = place; slot = slot; at = at; runs = does }, tt) }

-- ---- mails
pub mail_after : (v : StartdValue) (mail : Mail) (judged : Option Judgement) (reading : ℕ) → IsSound v → AfterGoes v (after_mail v mail judged reading)
unfolding made_by
mail_after v mail judged reading sound = by_claim (asked_claim mail)
  where
    by_slot : (place : ℕ) (o : Option Slot) → slice_get v.slots place ≡ o → AfterGoes v (received_at v place o mail judged reading)
    by_slot place None at = unmoved_goes v []
    by_slot place (Some slot) at =
        let its = sound.slots place slot at in
        put_goes v place slot (reaction_to v.machine.boot slot mail judged reading) reading at (mail_goes v.machine.boot slot (of_boot v.machine.boot slot.id slot.state its.consistent) mail judged reading)

    by_place : (o : Option ℕ) → AfterGoes v (received_in v o mail judged reading)
    by_place None = unmoved_goes v _
    by_place (Some place) = by_slot place (slice_get v.slots place) refl

    by_claim : (o : Option ClaimNo) → AfterGoes v (received_of v o mail judged reading)
    by_claim None = unmoved_goes v []
    by_claim (Some claim) = by_place (place_of v claim.slot)

-- ---- the end of a run
pub end_after : (v : StartdValue) (ending : Ending) (reading : ℕ) → IsSound v → AfterGoes v (after_end v ending reading)
unfolding made_by
end_after v ending reading sound = by_place (place_of v ending.run.claim.slot)
  where
    by_run : (place : ℕ) (slot : Slot) (here : Bool) → slice_get v.slots place ≡ Some slot → AfterGoes v (ended_where here v place slot ending reading)
    by_run place slot false at = unmoved_goes v []
    by_run place slot true at =
        let its = sound.slots place slot at in
        put_goes v place slot (after_ending ending reading slot.state) reading at (end_goes v.machine.boot slot.state ending reading (of_boot v.machine.boot slot.id slot.state its.consistent))

    by_slot : (place : ℕ) (o : Option Slot) → slice_get v.slots place ≡ o → AfterGoes v (ended_at v place o ending reading)
    by_slot place None at = unmoved_goes v []
    by_slot place (Some slot) at = by_run place slot (runs_on slot.state ending.run) at

    by_place : (o : Option ℕ) → AfterGoes v (ended_in v o ending reading)
    by_place None = unmoved_goes v []
    by_place (Some place) = by_slot place (slice_get v.slots place) refl

-- ---- slots in order, each put anew
record PutsAll (R : Slot → Slot → Type 0) (slots after before : List Slot) : Type 0 where
  news : List Slot
  is : after ≡ before ++ news
  all : AllGo R slots news

no_more : (R : Slot → Slot → Type 0) (before : List Slot) → PutsAll R [] before before
no_more R before = record { news = []; is = sym (append-nil before); all = tt }

one_more : (R : Slot → Slot → Type 0) (slot x : Slot) (slots after before : List Slot) → R slot x → PutsAll R slots after (before ++ x ∷ []) → PutsAll R (slot ∷ slots) after before
one_more R slot x slots after before goes rest = record { news = x ∷ rest.news; is = rest.is ∙ append_assoc before (x ∷ []) rest.news; all = (goes, rest.all) }

-- ---- a tick
ticks_put : (v : StartdValue) (set : Settings) (slots : List Slot) (reading : ℕ) (t : _) → ((place : ℕ) (slot : Slot) → slice_get slots place ≡ Some slot → IsOfBoot v.machine.boot slot.state)
    → PutsAll (λ x y. Stays v.machine.boot x.state y.state) slots (after_slots v.machine set slots reading t).slots t.slots
ticks_put v set [] reading t own = no_more (λ x y. Stays v.machine.boot x.state y.state) t.slots
ticks_put v set (slot ∷ slots) reading t own =
    let x : Slot = record slot { state = (ticked_slot v.machine set slot (slot_row slot set reading) reading t).state } in
    let goes : Stays v.machine.boot slot.state x.state = goes_after v.machine.boot v.machine.boot _ slot.state (after_tick_row (slot_row slot set reading) reading slot.state) x.state (tick_goes v.machine.boot slot set reading (own zero slot refl))
    (part_stays v.machine.boot slot.id slot.ad (after_tick_row (slot_row slot set reading) reading slot.state) x.state (ticked_part v.machine set slot (slot_row slot set reading) reading t)) in
    one_more (λ x y. Stays v.machine.boot x.state y.state) slot x slots _ t.slots goes (ticks_put v set slots reading (after_slot v.machine set slot reading t) (λ place slot at. own (suc place) slot at))

-- the runs that it kills are on slots
all_both : (v : StartdValue) (xs ys : List RunNo) → AllRunIn v xs → AllRunIn v ys → AllRunIn v (xs ++ ys)
all_both v [] ys first then_ = then_
all_both v (x ∷ xs) ys first then_ = (first.0, all_both v xs ys first.1 then_)

killed_in : (v : StartdValue) (place : ℕ) (slot : Slot) (b : Bool) → slice_get v.slots place ≡ Some slot → AllRunIn v (if b then run_in (running_of slot.state) else [])
killed_in v place slot false at = tt
killed_in v place slot true at = by (running_of slot.state) refl
  where
    by : (o : Option Running) → running_of slot.state ≡ o → AllRunIn v (run_in o)
    by None is = tt
    by (Some r) is = (record { place = place; slot = slot; at = at; runs = ap (λ o. is_run o r.run) is ∙ same_run-same r.run }, tt)

-- the slots of a startd, from a place on
abbrev AreFrom : StartdValue → List Slot → Type 0
AreFrom v slots = (place : ℕ) (slot : Slot) → slice_get slots place ≡ Some slot → (q : ℕ) × (slice_get v.slots q ≡ Some slot)

ticks_kill : (v : StartdValue) (m : _) (set : Settings) (slots : List Slot) (reading : ℕ) (t u : _) → after_slots m set slots reading t ≡ u → AreFrom v slots → AllRunIn v t.killed → AllRunIn v u.killed
ticks_kill v m set [] reading t u is from killed = subst (λ x. AllRunIn v x.killed) is killed
ticks_kill v m set (slot ∷ slots) reading t u is from killed =
    let here = from zero slot refl in
    ticks_kill v m set slots reading (after_slot m set slot reading t) u is (λ place slot at. from (suc place) slot at)
    (all_both v t.killed (killed_by (slot_row slot set reading) slot.state) killed (killed_in v here.0 slot (is_kill (slot_row slot set reading)) here.1))

killed_does : (v w : StartdValue) (runs : List RunNo) → AllRunIn v runs → DoesAll v w (kill_answer runs)
killed_does v w [] all = tt
killed_does v w (run ∷ runs) all = all

killed_starts : (runs : List RunNo) (run : RunNo) → is_launched (kill_answer runs) run ≡ false
killed_starts [] run = refl
killed_starts (killed ∷ runs) run = refl

pub tick_after : (v : StartdValue) (reading : ℕ) → IsSound v → AfterGoes v (after_tick v reading)
tick_after v reading sound =
    let a : After = after_tick v reading in
    let put = ticks_put v v.settings v.slots reading (no_ticks v.offers) (λ place slot at. of_boot v.machine.boot slot.id slot.state (sound.slots place slot at).consistent) in
    let goes : StartdGoes v a.startd no_run = startd_goes v a.startd no_run refl (subst (AllGo (λ x y. Stays v.machine.boot x.state y.state) v.slots) (sym put.is) put.all) in
    record {
      goes = record { spent = goes.spent; runs = λ run here. inl (no_new run (RunsIn v run) (goes.runs run here)) };
      does = killed_does v a.startd _ (ticks_kill v v.machine v.settings v.slots reading (no_ticks v.offers) _ refl (λ place slot at. (place, at)) tt);
    }

-- ---- a boot
boots_put : (boot : ℕ) (slots : List Slot) (reading : ℕ) (t : _) → ((place : ℕ) (slot : Slot) → slice_get slots place ≡ Some slot → IsOfBoot boot slot.state)
    → PutsAll (λ x y. SlotGoes boot (boot + 1) no_run x.state y.state) slots (after_boots slots reading t).slots t.slots
boots_put boot [] reading t own = no_more (λ x y. SlotGoes boot (boot + 1) no_run x.state y.state) t.slots
boots_put boot (slot ∷ slots) reading t own =
    let x : Slot = record slot { state = (booted_slot slot reading t).state } in
    let goes : SlotGoes boot (boot + 1) no_run slot.state x.state = goes_before boot (boot + 1) no_run slot.state (slot_after_boot reading) x.state (boot_goes boot slot.state reading (own zero slot refl))
    (part_stays (boot + 1) slot.id slot.ad (slot_after_boot reading) x.state (booted_part (boot + 1) slot reading t)) in
    one_more (λ x y. SlotGoes boot (boot + 1) no_run x.state y.state) slot x slots _ t.slots goes (boots_put boot slots reading (after_booted slot reading t) (λ place slot at. own (suc place) slot at))

pub boot_after : (v : StartdValue) (reading : ℕ) → IsSound v → AfterGoes v (after_reboot v reading)
boot_after v reading sound =
    let a : After = after_reboot v reading in
    let put = boots_put v.machine.boot v.slots reading (no_ticks v.offers) (λ place slot at. of_boot v.machine.boot slot.id slot.state (sound.slots place slot at).consistent) in
    let goes : StartdGoes v a.startd no_run = startd_goes v a.startd no_run refl (subst (AllGo (λ x y. SlotGoes v.machine.boot (v.machine.boot + 1) no_run x.state y.state) v.slots) (sym put.is) put.all) in
    record { goes = record { spent = goes.spent; runs = goes.runs }; does = tt }
