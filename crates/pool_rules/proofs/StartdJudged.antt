-- What is judged with a mail to a startd is of the mail's ad and its slot's.
use Rattle.std.proofs.Common.{◌≡◌, ℕ, ◌+◌, ◌-◌, ◌==◌, Bool, true, false, List, Option, Some, None, IfSome, MatchOption, slice_get, refl, ◌∙◌, ap, subst, arith, if◌then◌else◌}
use Rattle.std.proofs.lemmas.Bool.{eqb-true}
use Rattle.std.proofs.lemmas.Option.{none-some}
use Rattle.ad_eval.specs.Judgement.{Judgement, Mismatch, IsJudgementOf}
use Rattle.ad_tree.specs.Ad.{Attributes}
use Rattle.claim_id.specs.declared.numbers.SlotId.{SlotId}
use Rattle.pool_shown.specs.Slots.{slot_at, slot_numbered, slot_of_machine}
use Rattle.pool_mail.specs.declared.mail.Mail.{Mail}
use Rattle.pool_mail.specs.declared.mail.Mail.TheVariants.{Update, Matched, Ask, Granted, Denied, Activate, Alive, Seen, Stop, Release, Gone, Ended, Remove, Hold, Resume}
use Rattle.pool_rules.specs.Judging.{IsFair, IsFairOf, judged_in, nothing_given}
use Rattle.pool_rules.specs.Refusals.{IsAdRefusalBy}
use Rattle.pool_state.specs.declared.state.PoolState.{PoolState}
use Rattle.pool_tables.specs.declared.refusal.StepError.TheVariants as error
use Rattle.startd_slot.specs.declared.slot.Slot.{Slot}
use Rattle.startd_slot.specs.Mails.{asked_claim}
use Rattle.startd_slot.specs.SlotMoves.{IsJudgedHere}
use Rattle.startd_core.specs.Startds.{StartdValue, place_of, slot_in, slot_of, slot_of_claim}
use Rattle.pool_rules.proofs.StartdMails.{place_is}
use Rattle.pool_rules.proofs.Deciding.{one_ad}

-- ---- the slot of a number
numbered_at : (n place : ℕ) (slots : List Slot) → n ≡ place + 1 → slot_numbered n slots ≡ slice_get slots place
numbered_at n place slots is = by (n == 0) refl
  where
    by : (b : Bool) → (n == 0) ≡ b → (if b then None else slice_get slots (n - 1)) ≡ slice_get slots place
    by true zero = let none : n ≡ 0 = eqb-true n 0 zero in absurd (omega (arith, none, is))
    by false some = let same : n - 1 ≡ place = omega (arith, is) in ap (slice_get slots) same

-- a slot of a machine's startd is the pool's slot of that number
pub slot_found : (vs : List StartdValue) (machine : ℕ) (v : StartdValue) (id : SlotId) (slot : Slot) → slice_get vs machine ≡ Some v → v.machine.number ≡ machine → slot_of v id ≡ Some slot → slot_at id vs ≡ Some slot
slot_found vs machine v id slot at number found = by (place_of v id) refl found
  where
    by : (o : Option ℕ) → place_of v id ≡ o → slot_in v o ≡ Some slot → slot_at id vs ≡ Some slot
    by None is there = absurd (none-some slot there)
    by (Some place) is there =
        let its : id ≡ record { machine = v.machine.number; slot = place + 1 } = place_is v id place is in
        let own : id.machine ≡ machine = ap (λ (x : SlotId). x.machine) its ∙ number in
        let startd : slice_get vs id.machine ≡ Some v = ap (slice_get vs) own ∙ at in
        ap (slot_of_machine id.slot) startd ∙ (numbered_at id.slot place v.slots (ap (λ (x : SlotId). x.slot) its) ∙ there)

-- ---- what was judged
-- of a mail whose match says nothing of the slot
any_judged : (o : Option Judgement) → IfSome o (λ j. Unit {0})
any_judged None = tt
any_judged (Some j) = tt

abbrev IsNever : Type 0 → Type 0
IsNever A = A → ⊥

-- a match that can't but be of the two ads is
judged_here : (ad : Attributes) (slot : Slot) (reading : ℕ) (o : Option Judgement) → IsNever (IsNever (IfSome o (IsJudgementOf ad slot.ad reading))) → IfSome o (λ j. (j.job ≡ ad) × (j.slot ≡ slot.ad))
judged_here ad slot reading None never = tt
judged_here ad slot reading (Some j) never = (one_ad j.job ad (λ other. never (λ is. other is.0)), one_ad j.slot slot.ad (λ other. never (λ is. other is.1)))

fair_here : (s : PoolState) (m : Mail) (ad : Attributes) (id : SlotId) (slot : Slot) (reading : ℕ) (judged : Option Judgement) (mismatch : Option Mismatch) → slot_at id s.machines ≡ Some slot
    → IsFairOf s m ad id reading judged mismatch → IfSome judged (IsJudgementOf ad slot.ad reading)
fair_here s m ad id slot reading judged mismatch at fair =
    let here : IsFair ad slot.ad reading judged mismatch =
    subst (λ o. MatchOption o (nothing_given judged mismatch ≡ true) (λ sl. IsFair ad sl.ad reading judged mismatch)) at fair.fair in
    here.match_is

-- what a mail that nothing refuses was judged by
pub judged_fits : (s : PoolState) (machine : ℕ) (v : StartdValue) (m : Mail) (reading : ℕ) (judged : Option Judgement) (mismatch : Option Mismatch) → slice_get s.machines machine ≡ Some v → v.machine.number ≡ machine
    → IsAdRefusalBy (judged_in m) s m reading judged mismatch None → (slot : Slot) → slot_of_claim v (asked_claim m) ≡ Some slot → IfSome judged (IsJudgedHere slot m)
judged_fits s machine v (Activate run job ad until) reading judged mismatch at number free slot found =
    let there : slot_at run.claim.slot s.machines ≡ Some slot = slot_found s.machines machine v run.claim.slot slot at number found in
    judged_here ad slot reading judged (λ other. none-some (error.AdMoved run.claim.slot)
    (free.fails (λ fair. other (fair_here s (Activate run job ad until) ad run.claim.slot slot reading judged mismatch there fair))))
judged_fits s machine v (Update x) reading judged mismatch at number free slot found = any_judged judged
judged_fits s machine v (Matched x) reading judged mismatch at number free slot found = any_judged judged
judged_fits s machine v (Ask claim job ad by_priority) reading judged mismatch at number free slot found = any_judged judged
judged_fits s machine v (Granted claim job) reading judged mismatch at number free slot found = any_judged judged
judged_fits s machine v (Denied claim run job why) reading judged mismatch at number free slot found = any_judged judged
judged_fits s machine v (Alive run until) reading judged mismatch at number free slot found = any_judged judged
judged_fits s machine v (Seen run until) reading judged mismatch at number free slot found = any_judged judged
judged_fits s machine v (Stop run) reading judged mismatch at number free slot found = any_judged judged
judged_fits s machine v (Release claim) reading judged mismatch at number free slot found = any_judged judged
judged_fits s machine v (Gone run kept) reading judged mismatch at number free slot found = any_judged judged
judged_fits s machine v (Ended run how) reading judged mismatch at number free slot found = any_judged judged
judged_fits s machine v (Remove job) reading judged mismatch at number free slot found = any_judged judged
judged_fits s machine v (Hold job) reading judged mismatch at number free slot found = any_judged judged
judged_fits s machine v (Resume job) reading judged mismatch at number free slot found = any_judged judged
