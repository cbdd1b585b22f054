-- The entries of a startd's pass and the runs of its slots, with one event more.
use Rattle.std.proofs.Common.{◌≡◌, ◌⊎◌, inl, inr, ℕ, ◌<◌, Bool, true, false, ◌&&◌, ◌||◌, List, [], ◌∷◌, ◌++◌, Option, Some, None, IfSome, IsSomeAnd, slice_get, true≢false, refl, sym, ◌∙◌, ap, subst, arith}
use Rattle.std.specs.Prelude.{option_map}
use Rattle.std.specs.List.{list_all}
use Rattle.std.proofs.lemmas.Option.{none-some}
use Rattle.ad_eval.specs.Judgement.{Judgement}
use Rattle.claim_id.specs.declared.numbers.ClaimNo.{ClaimNo}
use Rattle.claim_id.specs.declared.numbers.RunNo.{RunNo}
use Rattle.claim_id.specs.declared.numbers.SlotId.{SlotId}
use Rattle.desk.specs.declared.entry.Entry.{Entry}
use Rattle.desk.specs.Launches.{is_launch_of, was_launched}
use Rattle.desk.specs.Passes.{Fits}
use Rattle.desk.proofs.OneMore.{launched_on}
use Rattle.pool_parts.specs.Answers.{kept_of}
use Rattle.pool_mail.specs.declared.end.Ending.{Ending}
use Rattle.pool_mail.specs.declared.mail.Mail.{Mail}
use Rattle.pool_mail.specs.declared.mail.Mail.TheVariants.{Update, Matched, Ask, Granted, Denied, Activate, Alive, Seen, Stop, Release, Gone, Ended, Remove, Hold, Resume}
use Rattle.pool_rules.specs.Answers.{answer_of_startd}
use Rattle.pool_view.specs.AbstractPool.{IsSpentAt}
use Rattle.startd_slot.specs.declared.held.Held.{Held}
use Rattle.startd_slot.specs.declared.held.Running.{Running}
use Rattle.startd_slot.specs.declared.slot.Slot.{Slot}
use Rattle.startd_slot.specs.declared.slot.SlotState.{SlotState}
use Rattle.startd_slot.specs.Consistent.{HasOwnRuns, IsConsistent, IsOwnClaim, IsOwnRun}
use Rattle.startd_slot.specs.SlotMoves.{held_mark, mark_of}
use Rattle.startd_slot.specs.SlotStates.{is_run, running_in, runs_on}
use Rattle.startd_slot.specs.Starting.{IsReadyFor}
use Rattle.startd_slot.proofs.OverRows.{held_for}
use Rattle.startd_slot.proofs.SameNumbers.{same_run-true}
use Rattle.startd_core.specs.declared.answer.Permit.{Permit}
use Rattle.startd_core.specs.declared.answer.StartdAnswer.{StartdAnswer}
use Rattle.startd_core.specs.declared.answer.StartdAnswer.TheVariants as startd
use Rattle.startd_core.specs.Permits.{GivesPermit, permit_in}
use Rattle.startd_core.specs.Sound.{IsSound}
use Rattle.startd_core.specs.Startds.{After, StartdValue, after_end, after_mail, after_reboot, after_tick, place_of, slot_in, slot_of}
use Rattle.startd_core.proofs.PermitRows.{end_permits, kill_permits, mail_permits}
use Rattle.startd_core.proofs.Places.{slot_there}
use Rattle.startd_core.proofs.Stays.{end_stays, mail_stays, reboot_stays, tick_stays}
use Rattle.desk.specs.Standing.{IsSpentIn, RunsStand}
use Rattle.desk.proofs.StartdCourse.{AfterGoes, AllRunIn, DoesAll, RunsIn, boot_after, end_after, is_launched, mail_after, tick_after}

-- ---- a run that is on a slot can start no more
-- by the claim that the slot holds
on_slot : (boot : ℕ) (slot : SlotId) (s : SlotState) (run : RunNo) → runs_on s run ≡ true → IsConsistent boot slot s → (run.claim.slot ≡ slot) × IsSpentAt run (mark_of boot s)
on_slot boot slot s run here c = by_held s.held here c.held
  where
    by_running : (h : Held) (o : Option Running) → is_run o run ≡ true → IfSome o (λ r. IsOwnRun h r.run) → IsOwnRun h run
    by_running h None here own = absurd (true≢false (sym here))
    by_running h (Some r) here own = subst (IsOwnRun h) (same_run-true r.run run here) own

    by_held : (o : Option Held) → is_run (running_in o) run ≡ true → IfSome o (λ h. IsOwnClaim boot slot s h.claim.no × HasOwnRuns h) → (run.claim.slot ≡ slot) × IsSpentAt run (record { boot = boot; ended = s.passed; held = option_map held_mark o })
    by_held None here own = absurd (true≢false (sym here))
    by_held (Some h) here own =
        let its = by_running h h.running here own.1.0 in
        (ap (λ (k : ClaimNo). k.slot) its.0 ∙ own.0.0, inr (inr (sym its.0, its.1)))

on_startd : (v : StartdValue) (run : RunNo) → IsSound v → RunsIn v run → IsSpentIn v run
on_startd v run sound here =
    let its = sound.slots here.place here.slot here.at in
    let on = on_slot v.machine.boot here.slot.id here.slot.state run here.runs its.consistent in
    let there : slot_of v run.claim.slot ≡ Some here.slot = ap (slot_of v) on.0 ∙ slot_there v here.place here.slot here.at its in
    subst (λ o. IsSomeAnd o (λ slot. IsSpentAt run (mark_of v.machine.boot slot.state))) (sym there) on.1

-- ---- a run for which a slot is ready was never started
ready : (boot : ℕ) (slot : SlotId) (s : SlotState) (run : RunNo) → IsConsistent boot slot s → IsReadyFor s run → IsSpentAt run (mark_of boot s) → ⊥
ready boot slot s run c is spent =
    let f = held_for s run.claim (λ h. (h.last < run.number) × (h.running ≡ None)) is in
    let own : IsOwnClaim boot slot s f.held.claim.no = (subst (λ o. IfSome o (λ h. IsOwnClaim boot slot s h.claim.no × HasOwnRuns h)) f.is c.held).0 in
    by f.held own f.its f.known.0 (subst (λ o. IsSpentAt run (record { boot = boot; ended = s.passed; held = option_map held_mark o })) f.is spent)
  where
    by : (h : Held) → IsOwnClaim boot slot s h.claim.no → h.claim.no ≡ run.claim → h.last < run.number → IsSpentAt run (record { boot = boot; ended = s.passed; held = Some (held_mark h) }) → ⊥
    by h own its below (inl earlier) =
        let boot_is : h.claim.no.boot ≡ run.claim.boot = ap (λ (k : ClaimNo). k.boot) its in
        let at = own.1 in omega (arith, boot_is, at, earlier)
    by h own its below (inr (inl ended)) =
        let seq : h.claim.no.seq ≡ run.claim.seq = ap (λ (k : ClaimNo). k.seq) its in
        let later = own.2 in
        let within = ended.1 in omega (arith, seq, later, within)
    by h own its below (inr (inr is_used)) = let within = is_used.1 in omega (arith, below, within)

ready_startd : (v : StartdValue) (run : RunNo) → IsSound v → IsSomeAnd (slot_of v run.claim.slot) (λ slot. IsReadyFor slot.state run) → IsSpentIn v run → ⊥
ready_startd v run sound is spent = by_place (place_of v run.claim.slot) is spent
  where
    by_slot : (place : ℕ) (o : Option Slot) → slice_get v.slots place ≡ o → IsSomeAnd o (λ slot. IsReadyFor slot.state run) → IsSomeAnd o (λ slot. IsSpentAt run (mark_of v.machine.boot slot.state)) → ⊥
    by_slot place None at is spent = is
    by_slot place (Some slot) at is spent = ready v.machine.boot slot.id slot.state run (sound.slots place slot at).consistent is spent

    by_place : (o : Option ℕ) → IsSomeAnd (slot_in v o) (λ slot. IsReadyFor slot.state run) → IsSomeAnd (slot_in v o) (λ slot. IsSpentAt run (mark_of v.machine.boot slot.state)) → ⊥
    by_place None is spent = is
    by_place (Some place) is spent = by_slot place (slice_get v.slots place) refl is spent

gives_new : (v : StartdValue) (mail : Mail) (judged : Option Judgement) (reading : ℕ) (permit : Permit) → IsSound v → GivesPermit v mail judged reading permit → IsSpentIn v permit.run → ⊥
gives_new v (Activate run job ad until) judged reading permit sound gives spent = ready_startd v run sound gives.0 (subst (λ (p : Permit). IsSpentIn v p.run) gives.3 spent)
gives_new v (Matched found) judged reading permit sound gives spent = gives
gives_new v (Ask claim job ad by_priority) judged reading permit sound gives spent = gives
gives_new v (Alive run until) judged reading permit sound gives spent = gives
gives_new v (Stop run) judged reading permit sound gives spent = gives
gives_new v (Release claim) judged reading permit sound gives spent = gives
gives_new v (Update s) judged reading permit sound gives spent = gives
gives_new v (Granted claim job) judged reading permit sound gives spent = gives
gives_new v (Denied claim run job why) judged reading permit sound gives spent = gives
gives_new v (Seen run until) judged reading permit sound gives spent = gives
gives_new v (Gone run kept) judged reading permit sound gives spent = gives
gives_new v (Ended run how) judged reading permit sound gives spent = gives
gives_new v (Remove job) judged reading permit sound gives spent = gives
gives_new v (Hold job) judged reading permit sound gives spent = gives
gives_new v (Resume job) judged reading permit sound gives spent = gives

-- ---- what an event makes of a sound startd
pub record WellGoes (v : StartdValue) (a : After) : Type 0 where
  pub goes : AfterGoes v a
  pub sound : IsSound a.startd
  -- a run that is launched could still start
  pub new : (permit : Permit) → a.step.answer ≡ startd.Launch permit → IsSpentIn v permit.run → ⊥

no_permit : (v : StartdValue) (a : StartdAnswer) → permit_in a ≡ None → (permit : Permit) → a ≡ startd.Launch permit → IsSpentIn v permit.run → ⊥
no_permit v a none permit is spent = none-some permit (sym none ∙ ap permit_in is)

pub mail_well : (v : StartdValue) (mail : Mail) (judged : Option Judgement) (reading : ℕ) → IsSound v → WellGoes v (after_mail v mail judged reading)
mail_well v mail judged reading sound = record {
  goes = mail_after v mail judged reading sound;
  sound = mail_stays v mail judged reading sound;
  new = λ permit is. gives_new v mail judged reading permit sound (subst (λ o. IfSome o (GivesPermit v mail judged reading)) (ap permit_in is) (mail_permits v mail judged reading));
}

pub end_well : (v : StartdValue) (ending : Ending) (reading : ℕ) → IsSound v → WellGoes v (after_end v ending reading)
end_well v ending reading sound = record {
  goes = end_after v ending reading sound;
  sound = end_stays v ending reading sound;
  new = no_permit v (after_end v ending reading).step.answer (end_permits v ending reading);
}

pub tick_well : (v : StartdValue) (reading : ℕ) → IsSound v → WellGoes v (after_tick v reading)
tick_well v reading sound = record { goes = tick_after v reading sound; sound = tick_stays v reading sound; new = no_permit v (after_tick v reading).step.answer (kill_permits _) }

pub boot_well : (v : StartdValue) (reading : ℕ) → IsSound v → WellGoes v (after_reboot v reading)
boot_well v reading sound = record { goes = boot_after v reading sound; sound = reboot_stays v reading sound; new = no_permit v startd.Done refl }

-- ---- the entries
is_of_kept : (a : StartdAnswer) (run : RunNo) → is_launch_of run (kept_of (answer_of_startd a)) ≡ is_launched a run
is_of_kept startd.Done run = refl
is_of_kept (startd.Launch permit) run = refl
is_of_kept (startd.Kill runs) run = refl

either : (a b : Bool) → a || b ≡ true → (a ≡ true) ⊎ (b ≡ true)
either true b h = inl refl
either false b h = inr h

or_first : (a b : Bool) → a ≡ true → a || b ≡ true
or_first true b h = refl
or_first false b h = absurd (true≢false (sym h))

or_second : (a b : Bool) → b ≡ true → a || b ≡ true
or_second true b h = refl
or_second false b h = h

-- what is launched is on a slot then
launched_spent : (v w : StartdValue) (a : StartdAnswer) (run : RunNo) → DoesAll v w a → IsSound w → is_launched a run ≡ true → IsSpentIn w run
launched_spent v w startd.Done run does sound is = absurd (true≢false (sym is))
launched_spent v w (startd.Launch permit) run does sound is = subst (IsSpentIn w) (same_run-true permit.run run is) (on_startd w permit.run sound does)
launched_spent v w (startd.Kill runs) run does sound is = absurd (true≢false (sym is))

pub runs_go : (mine : List Entry) (e : Entry) (v : StartdValue) (a : After) → e.kept ≡ kept_of (answer_of_startd a.step.answer) → RunsStand mine v → WellGoes v a → RunsStand (mine ++ e ∷ []) a.startd
runs_go mine e v a kept stands well = record {
  sound = well.sound;
  spent = λ run was. elim (either (was_launched run mine) (is_launch_of run e.kept) (sym (launched_on run mine e) ∙ was)) [
    | inl old ↦ well.goes.goes.spent run (stands.spent run old)
    | inr new ↦ launched_spent v a.startd a.step.answer run well.goes.does well.sound (sym (is_of_kept a.step.answer run) ∙ (ap (is_launch_of run) (sym kept) ∙ new))
  ];
  launched = λ place slot run at here. launched_on run mine e ∙ elim (well.goes.goes.runs run (record { place = place; slot = slot; at = at; runs = here })) [
    | inl old ↦ or_first (was_launched run mine) (is_launch_of run e.kept) (stands.launched old.place old.slot run old.at old.runs)
    | inr new ↦ or_second (was_launched run mine) (is_launch_of run e.kept) (ap (is_launch_of run) kept ∙ (is_of_kept a.step.answer run ∙ new))
  ];
}

-- ---- the answer
all_launched : (mine : List Entry) (v : StartdValue) (runs : List RunNo) → RunsStand mine v → AllRunIn v runs → list_all (λ run. was_launched run mine) runs ≡ true
all_launched mine v [] stands all = refl
all_launched mine v (run ∷ runs) stands all =
    ap (λ b. b && list_all (λ run. was_launched run mine) runs) (stands.launched all.0.place all.0.slot run all.0.at all.0.runs) ∙ all_launched mine v runs stands all.1

not_true : (b : Bool) → (b ≡ true → ⊥) → b ≡ false
not_true true no_ = absurd (no_ refl)
not_true false no_ = refl

answer_fits : (first : ℕ) (mine : List Entry) (v w : StartdValue) (a : StartdAnswer) → RunsStand mine v → DoesAll v w a → ((permit : Permit) → a ≡ startd.Launch permit → IsSpentIn v permit.run → ⊥)
    → Fits first mine (answer_of_startd a)
answer_fits first mine v w startd.Done stands does new = tt
answer_fits first mine v w (startd.Launch permit) stands does new = not_true (was_launched permit.run mine) (λ was. new permit refl (stands.spent permit.run was))
answer_fits first mine v w (startd.Kill runs) stands does new = all_launched mine v runs stands does

pub runs_fit : (first : ℕ) (mine : List Entry) (v : StartdValue) (a : After) → RunsStand mine v → WellGoes v a → Fits first mine (answer_of_startd a.step.answer)
runs_fit first mine v a stands well = answer_fits first mine v a.startd a.step.answer stands well.goes.does well.new
