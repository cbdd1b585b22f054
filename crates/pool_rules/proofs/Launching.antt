-- What a startd launches is a run of the abstract pool, and matched.
use Rattle.std.proofs.Common.{◌≡◌, inl, ℕ, ◌<◌, nat_le, Bool, true, false, [], ◌∷◌, Option, Some, None, IfSome, IsSome, IsSomeAnd, refl, sym, ◌∙◌, ap, subst, arith, if◌then◌else◌}
use Rattle.ad_eval.specs.Judgement.{Judgement}
use Rattle.ad_tree.specs.Ad.{Attributes}
use Rattle.claim_id.specs.declared.numbers.JobId.{JobId}
use Rattle.claim_id.specs.declared.numbers.RunNo.{RunNo}
use Rattle.job_launch.specs.Launches.{launch_of}
use Rattle.pool_mail.specs.declared.mail.Mail.{Mail}
use Rattle.pool_mail.specs.declared.mail.Mail.TheVariants.{Update, Matched, Ask, Granted, Denied, Activate, Alive, Seen, Stop, Release, Gone, Ended, Remove, Hold, Resume}
use Rattle.pool_view.specs.AbstractPool.{IsIn}
use Rattle.pool_view.specs.declared.run.Run.{Run}
use Rattle.pool_view.specs.Protocol.{Protocol}
use Rattle.pool_view.specs.ProtocolMove.{StartRun, protocol_after_all}
use Rattle.startd_slot.specs.declared.held.Held.{Held}
use Rattle.startd_slot.specs.declared.slot.Slot.{Slot}
use Rattle.startd_slot.specs.ActivateTable.{claim_row, new_row}
use Rattle.startd_slot.specs.Mails.{asked_claim}
use Rattle.startd_slot.specs.SlotMoves.{IsJudgedHere, moves_of_activate, moves_of_mail}
use Rattle.startd_slot.specs.SlotStates.{held_of, is_spent}
use Rattle.startd_slot.specs.Starting.{IsReadyFor}
use Rattle.startd_core.specs.declared.answer.Permit.{Permit}
use Rattle.startd_core.specs.Permits.{GivesPermit, permit_in}
use Rattle.startd_core.specs.Startds.{StartdValue, after_mail, slot_of, slot_of_claim}
use Rattle.startd_core.proofs.PermitRows.{mail_permits}
use Rattle.pool_rules.specs.Launched.{IsPermitOf}
use Rattle.pool_rules.specs.Linked.{StayLinked}
use Rattle.pool_rules.specs.PoolParts.{PoolParts}
use Rattle.pool_rules.specs.StartdEvents.{moves_in_slot, moves_of_startd_mail}

if_false : {R : Type 0} (x y : R) (b : Bool) → b ≡ false → (if b then x else y) ≡ y
if_false x y b is = ap (λ c. if c then x else y) is

not_le : (m n : ℕ) → n < m → nat_le m n ≡ false
not_le m n less = grind arith

-- the run that an Activate starts
abbrev started : Slot → RunNo → JobId → ℕ → Judgement → Run
started slot run job until j = record { slot = slot.id; run = run; job = job; until = until; judged = j }

activate_starts : (boot : ℕ) (slot : Slot) (run : RunNo) (job : JobId) (ad : Attributes) (until : ℕ) (j : Judgement) (reading : ℕ) → IsReadyFor slot.state run → reading < until
    → moves_of_mail boot slot (Activate run job ad until) (Some j) reading ≡ StartRun (started slot run job until j) ∷ []
unfolding moves_of_mail
activate_starts boot slot run job ad until j reading ready to_come = by (held_of slot.state run.claim) (is_spent slot.state boot run) ready
  where
    by : (o : Option Held) (spent : Bool) → IsSomeAnd o (λ h. (h.last < run.number) × (h.running ≡ None))
        → moves_of_activate (claim_row o spent (record { run = run; job = job; until = until }) true reading) slot.id (record { run = run; job = job; until = until }) (Some j) ≡ StartRun (started slot run job until j) ∷ []
    by None spent h = absurd h
    by (Some h) spent (above, free) =
        ap (λ r. moves_of_activate r slot.id (record { run = run; job = job; until = until }) (Some j))
        (if_false _ _ (nat_le run.number h.last) (not_le run.number h.last above)
        ∙ (ap (λ o. new_row o (record { run = run; job = job; until = until }) true reading) free
        ∙ if_false _ _ (nat_le until reading) (not_le until reading to_come)))

permit_of : (p : Protocol) (b : PoolParts) (v : StartdValue) (mail : Mail) (judged : Option Judgement) (reading : ℕ) (permit : Permit) → StayLinked p (moves_of_startd_mail v mail judged reading) b
    → ((slot : Slot) → slot_of_claim v (asked_claim mail) ≡ Some slot → IfSome judged (IsJudgedHere slot mail)) → GivesPermit v mail judged reading permit
    → IsPermitOf (protocol_after_all p (moves_of_startd_mail v mail judged reading)).pool permit
permit_of p b v (Activate run job ad until) judged reading permit leads fits (ready, to_come, judges, is) = by_slot (slot_of v run.claim.slot) judged ready judges leads (λ slot at. fits slot at)
  where
    started_in : (slot : Slot) (j : Judgement) → IsReadyFor slot.state run → StayLinked p (moves_of_mail v.machine.boot slot (Activate run job ad until) (Some j) reading) b → j.job ≡ ad
        → IsPermitOf (protocol_after_all p (moves_of_mail v.machine.boot slot (Activate run job ad until) (Some j) reading)).pool permit
    started_in slot j can lead same =
        let moves = activate_starts v.machine.boot slot run job ad until j reading can to_come in
        let there : IsIn (started slot run job until j) (protocol_after_all p (moves_of_mail v.machine.boot slot (Activate run job ad until) (Some j) reading)).pool.runs =
        subst (λ ms. IsIn (started slot run job until j) (protocol_after_all p ms).pool.runs) (sym moves) (inl refl) in (
          started slot run job until j,
          there,
          sym (ap (λ (x : Permit). x.run) is),
          sym (ap (λ (x : Permit). x.job) is),
          ap (λ (x : Permit). x.what) is ∙ ap launch_of (sym same),
          lead.linked.safe.matched (started slot run job until j) there,
        )

    by_slot : (o : Option Slot) (k : Option Judgement) → IsSomeAnd o (λ slot. IsReadyFor slot.state run) → IsSome k → StayLinked p (moves_in_slot v.machine.boot o (Activate run job ad until) k reading) b
        → ((slot : Slot) → o ≡ Some slot → IfSome k (IsJudgedHere slot (Activate run job ad until)))
        → IsPermitOf (protocol_after_all p (moves_in_slot v.machine.boot o (Activate run job ad until) k reading)).pool permit
    by_slot None k can some lead same = absurd can
    by_slot (Some slot) None can some lead same = cc
    by_slot (Some slot) (Some j) can some lead same = started_in slot j can lead (same slot refl).0
permit_of p b v (Update s) judged reading permit leads fits gives = absurd gives
permit_of p b v (Matched found) judged reading permit leads fits gives = absurd gives
permit_of p b v (Ask claim job ad by_priority) judged reading permit leads fits gives = absurd gives
permit_of p b v (Granted claim job) judged reading permit leads fits gives = absurd gives
permit_of p b v (Denied claim run job why) judged reading permit leads fits gives = absurd gives
permit_of p b v (Alive run until) judged reading permit leads fits gives = absurd gives
permit_of p b v (Seen run until) judged reading permit leads fits gives = absurd gives
permit_of p b v (Stop run) judged reading permit leads fits gives = absurd gives
permit_of p b v (Release claim) judged reading permit leads fits gives = absurd gives
permit_of p b v (Gone run kept) judged reading permit leads fits gives = absurd gives
permit_of p b v (Ended run how) judged reading permit leads fits gives = absurd gives
permit_of p b v (Remove job) judged reading permit leads fits gives = absurd gives
permit_of p b v (Hold job) judged reading permit leads fits gives = absurd gives
permit_of p b v (Resume job) judged reading permit leads fits gives = absurd gives

pub permits_matched : (p : Protocol) (b : PoolParts) (v : StartdValue) (mail : Mail) (judged : Option Judgement) (reading : ℕ) → StayLinked p (moves_of_startd_mail v mail judged reading) b
    → ((slot : Slot) → slot_of_claim v (asked_claim mail) ≡ Some slot → IfSome judged (IsJudgedHere slot mail))
    → IfSome (permit_in (after_mail v mail judged reading).step.answer) (IsPermitOf (protocol_after_all p (moves_of_startd_mail v mail judged reading)).pool)
permits_matched p b v mail judged reading leads fits = by (permit_in (after_mail v mail judged reading).step.answer) (mail_permits v mail judged reading)
  where
    by : (o : Option Permit) → IfSome o (GivesPermit v mail judged reading) → IfSome o (IsPermitOf (protocol_after_all p (moves_of_startd_mail v mail judged reading)).pool)
    by None gives = tt
    by (Some permit) gives = permit_of p b v mail judged reading permit leads fits gives
