-- Each row changes a slot, as a part of the protocol, as its moves say.
use Rattle.std.proofs.Common.{◌≡◌, ℕ, ℤ, ◌<◌, Bool, true, false, nat_lt, List, [], ◌∷◌, max, Option, Some, None, IfSome, IsSome, IsTrue, is_some, option_map, true≢false, refl, sym, ◌∙◌, ap, subst, arith, if◌then◌else◌}
use Rattle.ad_tree.specs.Ad.{Attributes}
use Rattle.ad_eval.specs.Judgement.{Judgement}
use Rattle.claim_id.specs.declared.numbers.ClaimId.{ClaimId}
use Rattle.claim_id.specs.declared.numbers.ClaimNo.{ClaimNo}
use Rattle.claim_id.specs.declared.numbers.RunNo.{RunNo}
use Rattle.claim_id.specs.declared.numbers.SlotId.{SlotId}
use Rattle.pool_mail.specs.declared.end.How.{How}
use Rattle.pool_mail.specs.declared.mail.Mail.{Mail}
use Rattle.pool_outer.specs.declared.spawner.Launch.{Launch}
use Rattle.pool_view.specs.ProtocolMove.{ProtocolMove, EndClaim, ExtendRun, HoldClaim, StartRun, StopRun, UseNumber}
use Rattle.pool_view.specs.SlotPart.{SlotPart, is_of_slot, own_part_after, part_after, part_after_all}
use Rattle.pool_view.specs.declared.run.Run.{Run}
use Rattle.pool_view.specs.Numbers.{same_slot}
use Rattle.pool_view.proofs.Sameness.{same_slot-same}
use Rattle.claim_id.specs.declared.pair.Cue.TheVariants as cue
use Rattle.claim_id.specs.declared.pair.Pair.{Pair}
use Rattle.claim_id.specs.declared.pair.Pair.TheVariants.{ClaimedIdle}
use Rattle.claim_id.specs.SlotTable.{next_of}
use Rattle.claim_id.specs.States.{has_run}
use Rattle.startd_slot.specs.declared.ask.AskRow.{AskRow}
use Rattle.startd_slot.specs.declared.ask.AskRow.TheVariants as asked_row
use Rattle.startd_slot.specs.declared.ask.Asked.{Asked}
use Rattle.startd_slot.specs.declared.ask.ReleaseRow.{ReleaseRow}
use Rattle.startd_slot.specs.declared.ask.ReleaseRow.TheVariants as release
use Rattle.startd_slot.specs.declared.held.Held.{Held}
use Rattle.startd_slot.specs.declared.held.Rival.{Rival}
use Rattle.startd_slot.specs.declared.held.Running.{Running}
use Rattle.startd_slot.specs.declared.run_mails.Activation.{Activation}
use Rattle.startd_slot.specs.declared.run_mails.ActivateRow.{ActivateRow}
use Rattle.startd_slot.specs.declared.run_mails.ActivateRow.TheVariants as row
use Rattle.startd_slot.specs.declared.run_mails.KnownRun.{KnownRun}
use Rattle.startd_slot.specs.declared.run_mails.KnownRun.TheVariants as known
use Rattle.startd_slot.specs.declared.slot.SlotState.{SlotState}
use Rattle.startd_slot.specs.ActivateTable.{after_activate_row, run_of}
use Rattle.startd_slot.specs.AskTable.{after_ask_row}
use Rattle.startd_slot.specs.Consistent.{IsConsistent, IsOwnClaim, HasOwnRuns, is_leaving}
use Rattle.startd_slot.specs.EndingTable.{after_last_run}
use Rattle.startd_slot.specs.Reactions.{says}
use Rattle.startd_slot.specs.ReleaseTable.{after_release_row}
use Rattle.startd_slot.specs.RunTable.{after_alive_of, after_stop_of}
use Rattle.startd_slot.specs.SlotMoves.{run_in_slot, part_of_state, claim_ends, moves_of_ask, says_gone_where, moves_of_activate, moves_of_word, goes_on, moves_of_alive, moves_of_release, burns, rival_holds, run_stops}
use Rattle.startd_slot.specs.SlotStates.{held_in, held_of, is_held_in, in_pair, after_cue, running_in, running_of, heard_of, lengthened, stopped, with_running, with_number, with_run, with_claim, without_claim, without_run}
use Rattle.startd_slot.proofs.OverRows.{heard_same}
use Rattle.startd_slot.proofs.Rows.{AskKnown, ReleaseKnown}

-- ---- what is no matter of the part
pub part_moved : (boot : ℕ) (slot : SlotId) (ad : Attributes) (o : Option Pair) (reading : ℕ) (s : SlotState) → part_of_state boot slot ad (in_pair o reading s) ≡ part_of_state boot slot ad s
part_moved boot slot ad None reading s = refl
part_moved boot slot ad (Some p) reading s = refl

pub part_heard : (boot : ℕ) (slot : SlotId) (ad : Attributes) (claim : ClaimNo) (reading : ℕ) (s : SlotState) → part_of_state boot slot ad (heard_of claim reading s) ≡ part_of_state boot slot ad s
part_heard boot slot ad claim reading s = heard_same (λ o. part_of_state boot slot ad (record s { held = o }) ≡ part_of_state boot slot ad s) s claim reading (λ h x is. is) refl

-- a run's mark
pub part_marked : (boot : ℕ) (slot : SlotId) (ad : Attributes) (s : SlotState) (change : Running → Running) → ((r : Running) → run_in_slot slot (change r) ≡ run_in_slot slot r)
    → part_of_state boot slot ad (with_running change s) ≡ part_of_state boot slot ad s
part_marked boot slot ad s change same = by_held s.held
  where
    by_running : (h : Held) (o : Option Running) → part_of_state boot slot ad (with_running change (record s { held = Some (record h { running = o }) })) ≡ part_of_state boot slot ad (record s { held = Some (record h { running = o }) })
    by_running h None = refl
    by_running h (Some r) = ap (λ x. record (part_of_state boot slot ad (record s { held = Some h })) { run = Some x }) (same r)

    by_held : (o : Option Held) → part_of_state boot slot ad (with_running change (record s { held = o })) ≡ part_of_state boot slot ad (record s { held = o })
    by_held None = refl
    by_held (Some h) = by_running h h.running

-- ---- a move of the slot
pub own_is : (m : ProtocolMove) (s : SlotPart) → is_of_slot s.slot m ≡ true → part_after m s ≡ own_part_after s m
own_is m s of = ap (λ b. if b then own_part_after s m else s) of

pub of_slot : (slot other : SlotId) → other ≡ slot → same_slot slot other ≡ true
of_slot slot other at = subst (λ x. same_slot slot x ≡ true) (sym at) (same_slot-same slot)

-- a number is used up
pub part_used : (boot : ℕ) (slot : SlotId) (ad : Attributes) (s : SlotState) (run : RunNo) → run.claim.slot ≡ slot
    → part_after_all (burns run) (part_of_state boot slot ad s) ≡ part_of_state boot slot ad (with_number run.number s)
part_used boot slot ad s run at = own_is (UseNumber run) (part_of_state boot slot ad s) (of_slot slot run.claim.slot at) ∙ by_held s.held
  where
    by_held : (o : Option Held) → own_part_after (part_of_state boot slot ad (record s { held = o })) (UseNumber run) ≡ part_of_state boot slot ad (with_number run.number (record s { held = o }))
    by_held None = refl
    by_held (Some h) = refl

-- a claim is held
pub part_held : (boot : ℕ) (slot : SlotId) (ad : Attributes) (s : SlotState) (claim : ClaimId) (user : List ℕ) (rank : ℤ) (reading : ℕ) (o : Option ClaimId) → claim.no.slot ≡ slot → s.held ≡ None
    → part_after (HoldClaim claim.no) (part_of_state boot slot ad s) ≡ part_of_state boot slot ad (with_claim claim user rank reading (record s { offer = o }))
part_held boot slot ad s claim user rank reading o at none = own_is (HoldClaim claim.no) (part_of_state boot slot ad s) (of_slot slot claim.no.slot at)
    ∙ subst (λ h. own_part_after (part_of_state boot slot ad (record s { held = h })) (HoldClaim claim.no) ≡ part_of_state boot slot ad (with_claim claim user rank reading (record s { offer = o }))) (sym none) refl

-- the held claim ends, which has no run
max_right : (a b : ℕ) → a < b → max a b ≡ b
max_right a b below = omega arith

-- a part without claim
abbrev part_without : ℕ → SlotId → Attributes → ℕ → Option Run → SlotPart
part_without boot slot ad passed run = record { slot = slot; ad = ad; mark = record { boot = boot; ended = passed; held = None }; run = run }

pub part_ended : (boot : ℕ) (slot : SlotId) (ad : Attributes) (s : SlotState) (h : Held) → s.held ≡ Some h → h.claim.no.slot ≡ slot → s.passed < h.claim.no.seq → running_of s ≡ None
    → part_after (EndClaim h.claim.no) (part_of_state boot slot ad s) ≡ part_of_state boot slot ad (without_claim s)
part_ended boot slot ad s h held at passed none = own_is (EndClaim h.claim.no) (part_of_state boot slot ad s) (of_slot slot h.claim.no.slot at)
    ∙ (ap (λ o. part_without boot slot ad h.claim.no.seq (option_map (run_in_slot slot) o)) none
    ∙ (ap (λ n. part_without boot slot ad n None) (sym (max_right s.passed h.claim.no.seq passed))
    ∙ subst (λ o. part_without boot slot ad (max s.passed h.claim.no.seq) None ≡ part_of_state boot slot ad (without_claim (record s { held = o }))) (sym held) refl))

-- what the slot holds is its own
pub held_own : (boot : ℕ) (slot : SlotId) (s : SlotState) (h : Held) → s.held ≡ Some h → IsConsistent boot slot s → IsOwnClaim boot slot s h.claim.no × HasOwnRuns h
held_own boot slot s h held c = subst (λ o. IfSome o (λ h. IsOwnClaim boot slot s h.claim.no × HasOwnRuns h)) held c.held

-- a slot that has a claim, by whether it holds one
pub record Holding (s : SlotState) : Type 0 where
  pub claim : Held
  pub is : s.held ≡ Some claim

pub holding : (s : SlotState) → IsSome s.held → Holding s
holding s some = by_held s.held refl some
  where
    by_held : (o : Option Held) → s.held ≡ o → IsSome o → Holding s
    by_held None at some = absurd (true≢false (sym some))
    by_held (Some h) at some = record { claim = h; is = at }

pub none_running : (o : Option Running) → is_some o ≡ false → o ≡ None
none_running None is = refl
none_running (Some r) is = absurd (true≢false is)

-- in Claimed/Idle there is no run
pub idle_has_none : (boot : ℕ) (slot : SlotId) (s : SlotState) → s.pair ≡ ClaimedIdle → IsConsistent boot slot s → running_of s ≡ None
idle_has_none boot slot s at c = none_running (running_of s) (c.busy ∙ ap has_run at)

-- the claim of the offer
pub offer_own : (boot : ℕ) (slot : SlotId) (s : SlotState) (claim : ClaimId) → s.offer ≡ Some claim → IsConsistent boot slot s → IsOwnClaim boot slot s claim.no × IfSome s.held (λ h. h.claim.no.seq < claim.no.seq)
offer_own boot slot s claim is c = subst (λ o. IfSome o (λ x. IsOwnClaim boot slot s x.no × IfSome s.held (λ h. h.claim.no.seq < x.no.seq))) is c.offer

ends_to : (boot : ℕ) (slot : SlotId) (ad : Attributes) (s : SlotState) (h : Held) (moves : List ProtocolMove) → IsConsistent boot slot s → s.held ≡ Some h → running_of s ≡ None
    → part_after_all (claim_ends s.held moves) (part_of_state boot slot ad s) ≡ part_after_all moves (part_of_state boot slot ad (without_claim s))
ends_to boot slot ad s h moves c held none =
    let own = held_own boot slot s h held c in
    ap (λ o. part_after_all (claim_ends o moves) (part_of_state boot slot ad s)) held
    ∙ ap (part_after_all moves) (part_ended boot slot ad s h held own.0.0 own.0.2 none)

-- ---- rows
pub ask_changes : (boot : ℕ) (slot : SlotId) (ad : Attributes) (s : SlotState) (r : AskRow) (asked : Asked) (user : List ℕ) (rank : ℤ) (reading : ℕ) → AskKnown s asked.claim r → IsConsistent boot slot s
    → part_after_all (moves_of_ask r asked.claim s) (part_of_state boot slot ad s) ≡ part_of_state boot slot ad (after_ask_row r asked user rank reading s).state
ask_changes boot slot ad s asked_row.NotOffered asked user rank reading is c = refl
ask_changes boot slot ad s asked_row.NotMatched asked user rank reading is c = refl
ask_changes boot slot ad s asked_row.Granted asked user rank reading is c =
    part_held boot slot ad s asked.claim user rank reading None (offer_own boot slot s asked.claim is.0 c).0.0 is.1
    ∙ sym (part_moved boot slot ad (next_of s.pair cue.Grant) reading (with_claim asked.claim user rank reading (record s { offer = None })))
ask_changes boot slot ad s (asked_row.RankTooLow old new) asked user rank reading is c = refl
ask_changes boot slot ad s asked_row.HandedOver asked user rank reading is c =
    let h = holding s is.2 in
    ends_to boot slot ad s h.claim (HoldClaim asked.claim.no ∷ []) c h.is (idle_has_none boot slot s is.1 c)
    ∙ (part_held boot slot ad (without_claim s) asked.claim user rank reading None (offer_own boot slot s asked.claim is.0 c).0.0 refl
    ∙ sym (part_moved boot slot ad (next_of s.pair cue.Handover) reading (with_claim asked.claim user rank reading (record (without_claim s) { offer = None }))))
ask_changes boot slot ad s asked_row.MadeRival asked user rank reading is c =
    sym (part_moved boot slot ad (next_of s.pair cue.Retire) reading (record s { rival = Some (record { claim = asked.claim; job = asked.job; user = user; rank = rank }); offer = None }))

-- `s` is the slot whose claim was heard of
part_begun : (boot : ℕ) (slot : SlotId) (ad : Attributes) (s : SlotState) (a : Activation) (judged : Judgement) → a.run.claim.slot ≡ slot → IsSome (held_of s a.run.claim)
    → part_after (StartRun (run_in_slot slot (run_of a judged))) (part_of_state boot slot ad s) ≡ part_of_state boot slot ad (with_run (run_of a judged) (with_number a.run.number s))
part_begun boot slot ad s a judged at some = own_is (StartRun (run_in_slot slot (run_of a judged))) (part_of_state boot slot ad s) (same_slot-same slot) ∙ by_held s.held some
  where
    by_held : (o : Option Held) → IsSome (held_in o a.run.claim) → own_part_after (part_of_state boot slot ad (record s { held = o })) (StartRun (run_in_slot slot (run_of a judged))) ≡ part_of_state boot slot ad (with_run (run_of a judged) (with_number a.run.number (record s { held = o })))
    by_held None some = absurd (true≢false (sym some))
    by_held (Some h) some = refl

part_gone_where : (spent : Bool) (run : RunNo) (s : SlotPart) → part_after_all (says_gone_where spent run) s ≡ s
part_gone_where true run s = refl
part_gone_where false run s = refl

abbrev pub IsStarting : SlotState → RunNo → ActivateRow → Type 0
IsStarting s run (row.NotHeld spent) = Unit {0}
IsStarting s run (row.Spent last) = Unit {0}
IsStarting s run (row.Occupied other) = Unit {0}
IsStarting s run row.Past = Unit {0}
IsStarting s run row.NotMatched = Unit {0}
IsStarting s run row.Starts = IsSome (held_of s run.claim)

pub activate_changes : (boot : ℕ) (slot : SlotId) (ad : Attributes) (s : SlotState) (r : ActivateRow) (a : Activation) (what : Launch) (judged : Option Judgement) (reading : ℕ) → a.run.claim.slot ≡ slot → IsStarting s a.run r
    → part_after_all (moves_of_activate r slot a judged) (part_of_state boot slot ad s) ≡ part_of_state boot slot ad (after_activate_row r a what judged reading s).state
activate_changes boot slot ad s (row.NotHeld spent) a what judged reading at is = part_gone_where spent a.run (part_of_state boot slot ad s)
activate_changes boot slot ad s (row.Spent last) a what judged reading at is = refl
activate_changes boot slot ad s (row.Occupied run) a what judged reading at is = part_used boot slot ad s a.run at
activate_changes boot slot ad s row.Past a what judged reading at is = part_used boot slot ad s a.run at
activate_changes boot slot ad s row.NotMatched a what judged reading at is = part_used boot slot ad s a.run at
activate_changes boot slot ad s row.Starts a what None reading at is = refl
activate_changes boot slot ad s row.Starts a what (Some judged) reading at is =
    part_begun boot slot ad s a judged at is ∙ sym (part_moved boot slot ad (next_of s.pair cue.Begin) reading (with_run (run_of a judged) (with_number a.run.number s)))

part_lengthened : (boot : ℕ) (slot : SlotId) (ad : Attributes) (s : SlotState) (until reading : ℕ)
    → part_after_all (goes_on (running_of s) slot until reading) (part_of_state boot slot ad s) ≡ part_of_state boot slot ad (with_running (lengthened until reading) s)
part_lengthened boot slot ad s until reading = by_held s.held
  where
    by_late : (h : Held) (r : Running) (b : Bool)
        → part_after_all (if b then ExtendRun (run_in_slot slot r) until ∷ [] else []) (part_of_state boot slot ad (record s { held = Some (record h { running = Some r }) }))
        ≡ part_of_state boot slot ad (record s { held = Some (record h { running = Some (if b then record r { until = max r.until until } else r) }) })
    by_late h r true = own_is (ExtendRun (run_in_slot slot r) until) (part_of_state boot slot ad (record s { held = Some (record h { running = Some r }) })) (same_slot-same slot)
    by_late h r false = refl

    by_running : (h : Held) (o : Option Running) → part_after_all (goes_on o slot until reading) (part_of_state boot slot ad (record s { held = Some (record h { running = o }) }))
        ≡ part_of_state boot slot ad (with_running (lengthened until reading) (record s { held = Some (record h { running = o }) }))
    by_running h None = refl
    by_running h (Some r) = by_late h r (nat_lt reading until)

    by_held : (o : Option Held) → part_after_all (goes_on (running_in o) slot until reading) (part_of_state boot slot ad (record s { held = o }))
        ≡ part_of_state boot slot ad (with_running (lengthened until reading) (record s { held = o }))
    by_held None = refl
    by_held (Some h) = by_running h h.running

pub alive_changes : (boot : ℕ) (slot : SlotId) (ad : Attributes) (s : SlotState) (k : KnownRun) (run : RunNo) (until reading : ℕ) → run.claim.slot ≡ slot
    → part_after_all (moves_of_alive k s slot run until reading) (part_of_state boot slot ad s) ≡ part_of_state boot slot ad (after_alive_of k run until reading s).state
alive_changes boot slot ad s known.Running run until reading at = part_lengthened boot slot ad s until reading
alive_changes boot slot ad s (known.Ended how) run until reading at = refl
alive_changes boot slot ad s known.OfHeldClaim run until reading at = part_used boot slot ad s run at
alive_changes boot slot ad s known.Spent run until reading at = refl
alive_changes boot slot ad s known.Unknown run until reading at = refl

pub stop_changes : (boot : ℕ) (slot : SlotId) (ad : Attributes) (s : SlotState) (k : KnownRun) (run : RunNo) → run.claim.slot ≡ slot
    → part_after_all (moves_of_word k run) (part_of_state boot slot ad s) ≡ part_of_state boot slot ad (after_stop_of k run s).state
stop_changes boot slot ad s known.Running run at = sym (part_marked boot slot ad s stopped (λ r. refl))
stop_changes boot slot ad s (known.Ended how) run at = refl
stop_changes boot slot ad s known.OfHeldClaim run at = part_used boot slot ad s run at
stop_changes boot slot ad s known.Spent run at = refl
stop_changes boot slot ad s known.Unknown run at = refl

holds_some : (o : Option Held) (claim : ClaimNo) → is_held_in o claim ≡ true → IsSome o
holds_some None claim is = absurd (true≢false (sym is))
holds_some (Some h) claim is = refl

-- the held claim ends, and nobody has the slot
pub finish_changes : (boot : ℕ) (slot : SlotId) (ad : Attributes) (s : SlotState) (reading : ℕ) → IsSome s.held → running_of s ≡ None → IsConsistent boot slot s
    → part_after_all (claim_ends s.held []) (part_of_state boot slot ad s) ≡ part_of_state boot slot ad (after_cue cue.Finish reading (without_claim s))
finish_changes boot slot ad s reading some none c =
    let h = holding s some in
    ends_to boot slot ad s h.claim [] c h.is none ∙ sym (part_moved boot slot ad (next_of s.pair cue.Finish) reading (without_claim s))

pub release_changes : (boot : ℕ) (slot : SlotId) (ad : Attributes) (s : SlotState) (r : ReleaseRow) (claim : ClaimNo) (reading : ℕ) → ReleaseKnown s claim r → IsConsistent boot slot s
    → part_after_all (moves_of_release r s) (part_of_state boot slot ad s) ≡ part_of_state boot slot ad (after_release_row r reading s)
release_changes boot slot ad s release.Finished claim reading is c = finish_changes boot slot ad s reading (holds_some s.held claim is.0) is.1 c
release_changes boot slot ad s release.Retiring claim reading is c = sym (part_moved boot slot ad (next_of s.pair cue.Retire) reading s)
release_changes boot slot ad s release.RivalGone claim reading is c = refl
release_changes boot slot ad s release.Nothing claim reading is c = refl

-- ---- the end of a run
part_stopped : (boot : ℕ) (slot : SlotId) (ad : Attributes) (s : SlotState) (h : Held) (r : Running) (run : RunNo) (how : How) (told : Option How) (reading : ℕ) → s.held ≡ Some h
    → part_after (StopRun (run_in_slot slot r) told) (part_of_state boot slot ad s) ≡ part_of_state boot slot ad (without_run run how reading s)
part_stopped boot slot ad s h r run how told reading held = own_is (StopRun (run_in_slot slot r) told) (part_of_state boot slot ad s) (same_slot-same slot)
    ∙ subst (λ o. own_part_after (part_of_state boot slot ad (record s { held = o })) (StopRun (run_in_slot slot r) told) ≡ part_of_state boot slot ad (without_run run how reading (record s { held = o }))) (sym held) refl

last_changes : (boot : ℕ) (slot : SlotId) (ad : Attributes) (s : SlotState) (o : Option Rival) (told : Mail) (reading : ℕ) → s.held ≡ None → IfSome o (λ v. v.claim.no.slot ≡ slot)
    → part_after_all (rival_holds o) (part_of_state boot slot ad s) ≡ part_of_state boot slot ad (after_last_run o told reading s).state
last_changes boot slot ad s None told reading none at = sym (part_moved boot slot ad (next_of s.pair cue.Finish) reading s)
last_changes boot slot ad s (Some v) told reading none at =
    part_held boot slot ad (record s { rival = None }) v.claim v.user v.rank reading s.offer at none
    ∙ sym (part_moved boot slot ad (next_of s.pair cue.Handover) reading (with_claim v.claim v.user v.rank reading (record s { rival = None })))

-- the claim of a run that has left
ended_part : (boot : ℕ) (slot : SlotId) (ad : Attributes) (s : SlotState) (h : Held) (run : RunNo) (how : How) (reading : ℕ) → s.held ≡ Some h → h.claim.no.slot ≡ slot → s.passed < h.claim.no.seq
    → part_after (EndClaim h.claim.no) (part_of_state boot slot ad (without_run run how reading s)) ≡ part_of_state boot slot ad (without_claim (without_run run how reading s))
ended_part boot slot ad s h run how reading held at passed =
    part_ended boot slot ad (without_run run how reading s) (record h { running = None; ended = Some (run, how); heard = reading })
    (ap (option_map (λ (h : Held). record h { running = None; ended = Some (run, how); heard = reading })) held) at passed
    (subst (λ o. running_of (without_run run how reading (record s { held = o })) ≡ None) (sym held) refl)

rival_at : (boot : ℕ) (slot : SlotId) (s : SlotState) (o : Option Rival) (P : Rival → Type 0) (Q : Type 0) → IfSome o (λ v. (IsOwnClaim boot slot s v.claim.no × P v) × Q) → IfSome o (λ v. v.claim.no.slot ≡ slot)
rival_at boot slot s None P Q own = tt
rival_at boot slot s (Some v) P Q own = own.0.0.0

pub end_changes : (boot : ℕ) (slot : SlotId) (ad : Attributes) (s : SlotState) (h : Held) (r : Running) (run : RunNo) (how : How) (told : Option How) (mail : Mail) (reading : ℕ) (busy : Bool)
    → s.held ≡ Some h → h.running ≡ Some r → IsConsistent boot slot s
    → part_after_all (run_stops (running_of s) slot told (if busy then [] else claim_ends s.held (rival_holds s.rival))) (part_of_state boot slot ad s)
    ≡ part_of_state boot slot ad (if busy then says (after_cue cue.Rest reading (without_run run how reading s)) (mail ∷ []) else after_last_run s.rival mail reading (without_claim (without_run run how reading s))).state
end_changes boot slot ad s h r run how told mail reading true held running c =
    ap (λ o. part_after_all (run_stops o slot told []) (part_of_state boot slot ad s)) (ap running_in held ∙ running)
    ∙ (part_stopped boot slot ad s h r run how told reading held ∙ sym (part_moved boot slot ad (next_of s.pair cue.Rest) reading (without_run run how reading s)))
end_changes boot slot ad s h r run how told mail reading false held running c =
    let own = held_own boot slot s h held c in
    ap (λ o. part_after_all (run_stops o slot told (claim_ends s.held (rival_holds s.rival))) (part_of_state boot slot ad s)) (ap running_in held ∙ running)
    ∙ (ap (part_after_all (claim_ends s.held (rival_holds s.rival))) (part_stopped boot slot ad s h r run how told reading held)
    ∙ (ap (λ o. part_after_all (claim_ends o (rival_holds s.rival)) (part_of_state boot slot ad (without_run run how reading s))) held
    ∙ (ap (part_after_all (rival_holds s.rival)) (ended_part boot slot ad s h run how reading held own.0.0 own.0.2)
    ∙ last_changes boot slot ad (without_claim (without_run run how reading s)) s.rival mail reading refl (rival_at boot slot s s.rival (λ v. IfSome s.held (λ h. h.claim.no.seq < v.claim.no.seq)) (IsTrue (is_leaving s.pair)) c.rival))))
