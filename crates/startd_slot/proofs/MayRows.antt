-- The moves of each row may be made: what they want of the protocol is what the slot shows, and what was told.
use Rattle.std.proofs.Common.{◌≡◌, ◌≢◌, ℕ, ◌<◌, ◌≤◌, Bool, true, false, ◌&&◌, ◌||◌, ◌==◌, nat_lt, nat_le, [], ◌∷◌, Option, Some, None, IfSome, IsSome, IsSomeAnd, IsTrue, option_map, true≢false, inl, inr, refl, sym, ◌∙◌, ap, subst, if◌then◌else◌}
use Rattle.std.proofs.lemmas.Bool.{eqb-true, leb-true, ltb-true, or_cases, and_parts}
use Rattle.ad_tree.specs.Ad.{Attributes}
use Rattle.ad_eval.specs.Judgement.{Judgement}
use Rattle.claim_id.specs.declared.numbers.ClaimId.{ClaimId}
use Rattle.claim_id.specs.declared.numbers.ClaimNo.{ClaimNo}
use Rattle.claim_id.specs.declared.numbers.RunNo.{RunNo}
use Rattle.claim_id.specs.declared.numbers.SlotId.{SlotId}
use Rattle.pool_mail.specs.declared.end.How.{How}
use Rattle.pool_view.specs.Facts.{Facts}
use Rattle.pool_view.specs.Protocol.{Lease, Protocol, Holds, HoldsBefore, IsHeldBefore, IsHeldIn}
use Rattle.pool_view.specs.ProtocolMove.{EndClaim, ExtendRun, HoldClaim, Reboot, SayGone, StartRun, StopRun, HasNoRun, IsFreeFor, MayAll}
use Rattle.pool_view.specs.SlotPart.{IsPart}
use Rattle.pool_view.proofs.Parts.{mark_known, free_known, not_run_known}
use Rattle.pool_view.proofs.SeveralMoves.{hand_over, burn_new, burn_old, end_run, end_run_hand_over, reboot_run}
use Rattle.pool_view.specs.AbstractPool.{IsIn, IsSpentAt, IsUsed}
use Rattle.pool_view.specs.Ads.{core_of}
use Rattle.pool_view.specs.Safe.{Safe}
use Rattle.pool_view.specs.Numbers.{same_claim, same_run}
use Rattle.pool_view.specs.declared.run.Run.{Run}
use Rattle.pool_view.proofs.Sameness.{same_run-same}
use Rattle.startd_slot.specs.declared.ask.AskRow.{AskRow}
use Rattle.startd_slot.specs.declared.ask.AskRow.TheVariants as asked_row
use Rattle.startd_slot.specs.declared.ask.ReleaseRow.{ReleaseRow}
use Rattle.startd_slot.specs.declared.ask.ReleaseRow.TheVariants as release
use Rattle.startd_slot.specs.declared.held.Held.{Held}
use Rattle.startd_slot.specs.declared.held.Rival.{Rival}
use Rattle.startd_slot.specs.declared.held.Running.{Running}
use Rattle.startd_slot.specs.declared.run_mails.Activation.{Activation}
use Rattle.startd_slot.specs.declared.run_mails.ActivateRow.{ActivateRow}
use Rattle.startd_slot.specs.declared.run_mails.ActivateRow.TheVariants as row
use Rattle.startd_slot.specs.declared.run_mails.KnownRun.{KnownRun}
use Rattle.startd_slot.specs.declared.run_mails.KnownRun.TheVariants as known
use Rattle.startd_slot.specs.declared.slot.SlotState.{SlotState}
use Rattle.startd_slot.specs.ActivateTable.{run_of}
use Rattle.startd_slot.specs.Consistent.{IsConsistent, IsOwnClaim, IsOwnRun, is_leaving}
use Rattle.startd_slot.specs.SlotMoves.{held_mark, mark_of, run_in_slot, part_of_state, claim_ends, moves_of_ask, says_gone_where, moves_of_activate, moves_of_word, goes_on, moves_of_alive, moves_of_release, burns, rival_holds, run_stops}
use Rattle.startd_slot.specs.SlotStates.{held_of, is_run, is_spent, is_used_in, running_in, running_of, runs_on}
use Rattle.startd_slot.proofs.MoveRows.{held_own, holding, idle_has_none, offer_own}
use Rattle.startd_slot.proofs.OverRows.{held_for, not_here}
use Rattle.startd_slot.proofs.Rows.{AskKnown, ActivateKnown, IsNewOf, RunKnown, ReleaseKnown}
use Rattle.startd_slot.proofs.SameNumbers.{same_claim-true, same_run-true}

-- ---- a spent run
used_at : (o : Option Held) (run : RunNo) → is_used_in o run ≡ true → IsUsed (option_map held_mark o) run
used_at None run is = absurd (true≢false (sym is))
used_at (Some h) run is =
    let both = and_parts (same_claim h.claim.no run.claim) (nat_le run.number h.last) is in
    (same_claim-true h.claim.no run.claim both.0, leb-true run.number h.last both.1)

pub spent_at : (boot : ℕ) (s : SlotState) (run : RunNo) → is_spent s boot run ≡ true → IsSpentAt run (mark_of boot s)
spent_at boot s run is = elim (or_cases (nat_lt run.claim.boot boot || ((run.claim.boot == boot) && nat_le run.claim.seq s.passed)) (is_used_in s.held run) is) [
  | inl early ↦ elim (or_cases (nat_lt run.claim.boot boot) ((run.claim.boot == boot) && nat_le run.claim.seq s.passed) early) [
    | inl below ↦ inl (ltb-true run.claim.boot boot below)
    | inr passed ↦ (let both = and_parts (run.claim.boot == boot) (nat_le run.claim.seq s.passed) passed in inr (inl (eqb-true run.claim.boot boot both.0, leb-true run.claim.seq s.passed both.1)))
  ]
  | inr used ↦ inr (inr (used_at s.held run used))
]

-- a run that isn't on the slot isn't the part's
other_run : (slot : SlotId) (o : Option Running) (run : RunNo) → is_run o run ≡ false → (r : Run) → option_map (run_in_slot slot) o ≡ Some r → r.run ≢ run
other_run slot None run off r is = λ same. cc
other_run slot (Some x) run off r is = λ same.
    (let one : run_in_slot slot x ≡ r = cc in
    let its : x.run ≡ run = ap (λ (y : Run). y.run) one ∙ same in
    let itself : same_run x.run run ≡ true = subst (λ (y : RunNo). same_run x.run y ≡ true) its (same_run-same x.run) in
    true≢false (sym itself ∙ off))

-- ---- the pieces
gone_may : (p : Protocol) (boot : ℕ) (slot : SlotId) (ad : Attributes) (s : SlotState) (run : RunNo) → IsPart p (part_of_state boot slot ad s) → run.claim.slot ≡ slot → is_spent s boot run ≡ true → runs_on s run ≡ false
    → MayAll p (SayGone run ∷ [])
gone_may p boot slot ad s run part at spent off = (
  (
    mark_known p (part_of_state boot slot ad s) run.claim.slot (IsSpentAt run) part (sym at) (spent_at boot s run spent),
    not_run_known p (part_of_state boot slot ad s) run part (sym at) (other_run slot (running_of s) run off),
  ),
  tt,
)

burns_old : (p : Protocol) (boot : ℕ) (slot : SlotId) (ad : Attributes) (s : SlotState) (run : RunNo) (h : Held) → IsPart p (part_of_state boot slot ad s) → run.claim.slot ≡ slot → s.held ≡ Some h → h.claim.no ≡ run.claim → runs_on s run ≡ false
    → MayAll p (burns run)
burns_old p boot slot ad s run h part at held its off =
    burn_old p run (mark_known p (part_of_state boot slot ad s) run.claim.slot (λ m. IsHeldIn m run.claim) part (sym at) (subst (λ o. IsSomeAnd (option_map held_mark o) (λ k. k.claim ≡ run.claim)) (sym held) its))
    (not_run_known p (part_of_state boot slot ad s) run part (sym at) (other_run slot (running_of s) run off))

held_before_at : (p : Protocol) (boot : ℕ) (slot : SlotId) (ad : Attributes) (s : SlotState) (run : RunNo) → IsPart p (part_of_state boot slot ad s) → run.claim.slot ≡ slot → IsNewOf s run → HoldsBefore p.pool.marks run
held_before_at p boot slot ad s run part at new =
    let f = held_for s run.claim (λ h. h.last < run.number) new in
    mark_known p (part_of_state boot slot ad s) run.claim.slot (λ m. IsHeldBefore m run) part (sym at)
    (subst (λ o. IsSomeAnd (option_map held_mark o) (λ k. (k.claim ≡ run.claim) × (k.last < run.number))) (sym f.is) (f.its, f.known))

holds_at : (p : Protocol) (boot : ℕ) (slot : SlotId) (ad : Attributes) (s : SlotState) (h : Held) → IsPart p (part_of_state boot slot ad s) → h.claim.no.slot ≡ slot → s.held ≡ Some h → Holds p.pool.marks h.claim.no
holds_at p boot slot ad s h part at held =
    mark_known p (part_of_state boot slot ad s) h.claim.no.slot (λ m. IsHeldIn m h.claim.no) part (sym at) (subst (λ o. IsSomeAnd (option_map held_mark o) (λ k. k.claim ≡ h.claim.no)) (sym held) refl)

no_run_at : (p : Protocol) (boot : ℕ) (slot other : SlotId) (ad : Attributes) (s : SlotState) → IsPart p (part_of_state boot slot ad s) → other ≡ slot → running_of s ≡ None → HasNoRun p.pool other
no_run_at p boot slot other ad s part at none = free_known p (part_of_state boot slot ad s) other part (sym at) (ap (option_map (run_in_slot slot)) none)

-- ---- rows
pub ask_may : (p : Protocol) (boot : ℕ) (slot : SlotId) (ad : Attributes) (s : SlotState) (r : AskRow) (claim : ClaimId) → AskKnown s claim r → IsConsistent boot slot s → Facts p → IsPart p (part_of_state boot slot ad s)
    → MayAll p (moves_of_ask r claim s)
ask_may p boot slot ad s asked_row.NotOffered claim is c facts part = tt
ask_may p boot slot ad s asked_row.NotMatched claim is c facts part = tt
ask_may p boot slot ad s asked_row.Granted claim is c facts part =
    let own = (offer_own boot slot s claim is.0 c).0 in
    (mark_known p (part_of_state boot slot ad s) claim.no.slot (IsFreeFor claim.no) part (sym own.0) (own.1, own.2, ap (option_map held_mark) is.1), tt)
ask_may p boot slot ad s (asked_row.RankTooLow old new) claim is c facts part = tt
ask_may p boot slot ad s asked_row.HandedOver claim is c facts part =
    let h = holding s is.2 in
    let next = offer_own boot slot s claim is.0 c in
    let own = (held_own boot slot s h.claim h.is c).0 in
    let later : h.claim.claim.no.seq < claim.no.seq = subst (λ o. IfSome o (λ h. h.claim.no.seq < claim.no.seq)) h.is next.1 in
    subst (λ o. MayAll p (claim_ends o (HoldClaim claim.no ∷ []))) (sym h.is)
    (hand_over p h.claim.claim.no claim.no facts (holds_at p boot slot ad s h.claim part own.0 h.is) (no_run_at p boot slot h.claim.claim.no.slot ad s part own.0 (idle_has_none boot slot s is.1 c)) (next.0.0 ∙ sym own.0) (next.0.1 ∙ sym own.1) later)
ask_may p boot slot ad s asked_row.MadeRival claim is c facts part = tt

-- an Activate
gone_where_may : (p : Protocol) (boot : ℕ) (slot : SlotId) (ad : Attributes) (s : SlotState) (run : RunNo) (spent : Bool) → is_spent s boot run ≡ spent → runs_on s run ≡ false → IsPart p (part_of_state boot slot ad s) → run.claim.slot ≡ slot
    → MayAll p (says_gone_where spent run)
gone_where_may p boot slot ad s run true is off part at = gone_may p boot slot ad s run part at is off
gone_where_may p boot slot ad s run false is off part at = tt

-- the lease that an Activate tells of
abbrev pub ToldLease : Protocol → Activation → Attributes → Type 0
ToldLease p a job_ad = (l : Lease) × IsIn l p.leases × (l.run ≡ a.run) × (l.job ≡ a.job) × (l.core ≡ core_of job_ad) × (a.until ≤ l.until)

starts_may : (p : Protocol) (boot : ℕ) (slot : SlotId) (ad job_ad : Attributes) (s : SlotState) (a : Activation) (judged : Judgement) → a.run.claim.slot ≡ slot
    → IsSomeAnd (held_of s a.run.claim) (λ h. (h.last < a.run.number) × (h.running ≡ None)) → (judged.job ≡ job_ad) × (judged.slot ≡ ad) → ToldLease p a job_ad → IsPart p (part_of_state boot slot ad s)
    → MayAll p (StartRun (run_in_slot slot (run_of a judged)) ∷ [])
starts_may p boot slot ad job_ad s a judged at ready is told part =
    let f = held_for s a.run.claim (λ h. (h.last < a.run.number) × (h.running ≡ None)) ready in (
      record {
        slot = sym at;
        held = mark_known p (part_of_state boot slot ad s) a.run.claim.slot (λ m. IsHeldBefore m a.run) part (sym at) (subst (λ o. IsSomeAnd (option_map held_mark o) (λ k. (k.claim ≡ a.run.claim) × (k.last < a.run.number))) (sym f.is) (f.its, f.known.0));
        free = no_run_at p boot slot slot ad s part refl (ap running_in f.is ∙ f.known.1);
        lease = told.0;
        sent = told.1;
        its_run = told.2;
        its_job = told.3;
        its_core = told.4 ∙ ap core_of (sym is.0);
        its_until = told.5;
        slot_ad = part.ad ∙ ap (λ x. Some x) (sym is.1);
        match = judged.fits;
      },
      tt,
    )

-- what is known of the slot where a run starts
abbrev pub StartKnown : SlotState → RunNo → ActivateRow → Type 0
StartKnown s run (row.NotHeld spent) = Unit {0}
StartKnown s run (row.Spent last) = Unit {0}
StartKnown s run (row.Occupied other) = Unit {0}
StartKnown s run row.Past = Unit {0}
StartKnown s run row.NotMatched = Unit {0}
StartKnown s run row.Starts = IsSomeAnd (held_of s run.claim) (λ h. (h.last < run.number) × (h.running ≡ None))

pub activate_may : (p : Protocol) (boot : ℕ) (slot : SlotId) (ad job_ad : Attributes) (s : SlotState) (r : ActivateRow) (a : Activation) (judged : Option Judgement) → ActivateKnown s boot a.run r → StartKnown s a.run r
    → a.run.claim.slot ≡ slot → IfSome judged (λ j. (j.job ≡ job_ad) × (j.slot ≡ ad)) → ToldLease p a job_ad → IsConsistent boot slot s → Facts p → IsPart p (part_of_state boot slot ad s)
    → MayAll p (moves_of_activate r slot a judged)
activate_may p boot slot ad job_ad s (row.NotHeld spent) a judged is ready at fits told c facts part = gone_where_may p boot slot ad s a.run spent is.0 (not_here boot slot s a.run is.1 c) part at
activate_may p boot slot ad job_ad s (row.Spent last) a judged is ready at fits told c facts part = tt
activate_may p boot slot ad job_ad s (row.Occupied run) a judged is ready at fits told c facts part = burn_new p a.run facts (held_before_at p boot slot ad s a.run part at is)
activate_may p boot slot ad job_ad s row.Past a judged is ready at fits told c facts part = burn_new p a.run facts (held_before_at p boot slot ad s a.run part at is)
activate_may p boot slot ad job_ad s row.NotMatched a judged is ready at fits told c facts part = burn_new p a.run facts (held_before_at p boot slot ad s a.run part at is)
activate_may p boot slot ad job_ad s row.Starts a None is ready at fits told c facts part = tt
activate_may p boot slot ad job_ad s row.Starts a (Some judged) is ready at fits told c facts part = starts_may p boot slot ad job_ad s a judged at ready fits told part

-- a word of a run that isn't here
some_and : (o : Option Held) → IsSome o → IsSomeAnd o (λ h. Unit {0})
some_and None is = absurd (true≢false (sym is))
some_and (Some h) is = tt

pub word_may : (p : Protocol) (boot : ℕ) (slot : SlotId) (ad : Attributes) (s : SlotState) (k : KnownRun) (run : RunNo) → RunKnown s boot run k → run.claim.slot ≡ slot → IsPart p (part_of_state boot slot ad s)
    → MayAll p (moves_of_word k run)
word_may p boot slot ad s known.Running run is at part = tt
word_may p boot slot ad s (known.Ended how) run is at part = tt
word_may p boot slot ad s known.OfHeldClaim run is at part =
    let f = held_for s run.claim (λ h. Unit {0}) (some_and (held_of s run.claim) is.0) in
    burns_old p boot slot ad s run f.held part at f.is f.its is.1
word_may p boot slot ad s known.Spent run is at part = gone_may p boot slot ad s run part at is.0 is.2
word_may p boot slot ad s known.Unknown run is at part = tt

-- an Alive of the run that is here
goes_on_may : (p : Protocol) (boot : ℕ) (slot : SlotId) (ad : Attributes) (s : SlotState) (run : RunNo) (until reading : ℕ) → runs_on s run ≡ true → ((l : Lease) × IsIn l p.leases × (l.run ≡ run) × (until ≤ l.until)) → IsPart p (part_of_state boot slot ad s)
    → MayAll p (goes_on (running_of s) slot until reading)
goes_on_may p boot slot ad s run until reading here told part = by_running (running_of s) refl here
  where
    by_late : (r : Running) (b : Bool) → running_of s ≡ Some r → r.run ≡ run → MayAll p (if b then ExtendRun (run_in_slot slot r) until ∷ [] else [])
    by_late r true is same = ((part.own (run_in_slot slot r) (ap (option_map (run_in_slot slot)) is), (told.0, told.1, told.2 ∙ sym same, told.3)), tt)
    by_late r false is same = tt

    by_running : (o : Option Running) → running_of s ≡ o → is_run o run ≡ true → MayAll p (goes_on o slot until reading)
    by_running None is here = tt
    by_running (Some r) is here = by_late r (nat_lt reading until) is (same_run-true r.run run here)

pub alive_may : (p : Protocol) (boot : ℕ) (slot : SlotId) (ad : Attributes) (s : SlotState) (k : KnownRun) (run : RunNo) (until reading : ℕ) → RunKnown s boot run k → run.claim.slot ≡ slot → ((l : Lease) × IsIn l p.leases × (l.run ≡ run) × (until ≤ l.until)) → IsPart p (part_of_state boot slot ad s)
    → MayAll p (moves_of_alive k s slot run until reading)
alive_may p boot slot ad s known.Running run until reading is at told part = goes_on_may p boot slot ad s run until reading is told part
alive_may p boot slot ad s (known.Ended how) run until reading is at told part = tt
alive_may p boot slot ad s known.OfHeldClaim run until reading is at told part = word_may p boot slot ad s known.OfHeldClaim run is at part
alive_may p boot slot ad s known.Spent run until reading is at told part = word_may p boot slot ad s known.Spent run is at part
alive_may p boot slot ad s known.Unknown run until reading is at told part = tt

-- the held claim ends, without run
pub finish_may : (p : Protocol) (boot : ℕ) (slot : SlotId) (ad : Attributes) (s : SlotState) → running_of s ≡ None → IsConsistent boot slot s → IsPart p (part_of_state boot slot ad s)
    → MayAll p (claim_ends s.held [])
finish_may p boot slot ad s none c part = by_held s.held refl
  where
    by_held : (o : Option Held) → s.held ≡ o → MayAll p (claim_ends o [])
    by_held None held = tt
    by_held (Some h) held = (let own = (held_own boot slot s h held c).0 in ((holds_at p boot slot ad s h part own.0 held, no_run_at p boot slot h.claim.no.slot ad s part own.0 none), tt))

pub release_may : (p : Protocol) (boot : ℕ) (slot : SlotId) (ad : Attributes) (s : SlotState) (r : ReleaseRow) (claim : ClaimNo) → ReleaseKnown s claim r → IsConsistent boot slot s → IsPart p (part_of_state boot slot ad s)
    → MayAll p (moves_of_release r s)
release_may p boot slot ad s release.Finished claim is c part = finish_may p boot slot ad s is.1 c part
release_may p boot slot ad s release.Retiring claim is c part = tt
release_may p boot slot ad s release.RivalGone claim is c part = tt
release_may p boot slot ad s release.Nothing claim is c part = tt

-- ---- the end of a run
end_with : (p : Protocol) (slot : SlotId) (h : Held) (r : Running) (how : Option How) (o : Option Rival) (boot : ℕ) (s : SlotState) → r.run.claim ≡ h.claim.no → IfSome o (λ v. (IsOwnClaim boot slot s v.claim.no × (h.claim.no.seq < v.claim.no.seq)) × IsTrue (is_leaving s.pair))
    → IsOwnClaim boot slot s h.claim.no → Facts p → Safe p.pool → IsIn (run_in_slot slot r) p.pool.runs
    → MayAll p (StopRun (run_in_slot slot r) how ∷ EndClaim h.claim.no ∷ rival_holds o)
end_with p slot h r how None boot s its next own facts safe there =
    subst (λ (k : ClaimNo). MayAll p (StopRun (run_in_slot slot r) how ∷ EndClaim k ∷ [])) its (end_run p (run_in_slot slot r) how facts safe there)
end_with p slot h r how (Some v) boot s its next own facts safe there =
    subst (λ (k : ClaimNo). MayAll p (StopRun (run_in_slot slot r) how ∷ EndClaim k ∷ HoldClaim v.claim.no ∷ [])) its
    (end_run_hand_over p (run_in_slot slot r) how v.claim.no facts safe there (next.0.0.0 ∙ (sym own.0 ∙ ap (λ (k : ClaimNo). k.slot) (sym its))) (next.0.0.1 ∙ (sym own.1 ∙ ap (λ (k : ClaimNo). k.boot) (sym its)))
    (subst (λ (k : ClaimNo). k.seq < v.claim.no.seq) (sym its) next.0.1))

rival_after : (boot : ℕ) (slot : SlotId) (s : SlotState) (h : Held) → s.held ≡ Some h → IsConsistent boot slot s → IfSome s.rival (λ v. (IsOwnClaim boot slot s v.claim.no × (h.claim.no.seq < v.claim.no.seq)) × IsTrue (is_leaving s.pair))
rival_after boot slot s h held c = subst (λ o. IfSome s.rival (λ v. (IsOwnClaim boot slot s v.claim.no × IfSome o (λ h. h.claim.no.seq < v.claim.no.seq)) × IsTrue (is_leaving s.pair))) held c.rival

pub end_may : (p : Protocol) (boot : ℕ) (slot : SlotId) (ad : Attributes) (s : SlotState) (h : Held) (r : Running) (how : Option How) (busy : Bool) → s.held ≡ Some h → h.running ≡ Some r → IsConsistent boot slot s → Facts p → Safe p.pool → IsPart p (part_of_state boot slot ad s)
    → MayAll p (run_stops (running_of s) slot how (if busy then [] else claim_ends s.held (rival_holds s.rival)))
end_may p boot slot ad s h r how busy held running c facts safe part =
    subst (λ o. MayAll p (run_stops o slot how (if busy then [] else claim_ends s.held (rival_holds s.rival)))) (sym its) (by_busy busy)
  where
    its : running_of s ≡ Some r
    its = ap running_in held ∙ running

    by_busy : (busy : Bool) → MayAll p (StopRun (run_in_slot slot r) how ∷ (if busy then [] else claim_ends s.held (rival_holds s.rival)))
    by_busy true = (part.own (run_in_slot slot r) (ap (option_map (run_in_slot slot)) (ap running_in held ∙ running)), tt)
    by_busy false = subst (λ o. MayAll p (StopRun (run_in_slot slot r) how ∷ claim_ends o (rival_holds s.rival))) (sym held)
        (end_with p slot h r how s.rival boot s (subst (λ o. IfSome o (λ r. IsOwnRun h r.run)) running (held_own boot slot s h held c).1.0).0 (rival_after boot slot s h held c) (held_own boot slot s h held c).0 facts safe (part.own (run_in_slot slot r) (ap (option_map (run_in_slot slot)) (ap running_in held ∙ running))))

-- ---- a boot
pub boot_may : (p : Protocol) (boot next : ℕ) (slot : SlotId) (ad : Attributes) (s : SlotState) → boot < next → Safe p.pool → IsPart p (part_of_state boot slot ad s)
    → MayAll p (run_stops (running_of s) slot None (Reboot slot next ∷ []))
boot_may p boot next slot ad s later safe part = by_running (running_of s) refl
  where
    by_running : (o : Option Running) → running_of s ≡ o → MayAll p (run_stops o slot None (Reboot slot next ∷ []))
    by_running None is = ((mark_known p (part_of_state boot slot ad s) slot (λ m. m.boot < next) part refl later, no_run_at p boot slot slot ad s part refl is), tt)
    by_running (Some r) is = reboot_run p (run_in_slot slot r) next safe (part.own (run_in_slot slot r) (ap (option_map (run_in_slot slot)) is)) (mark_known p (part_of_state boot slot ad s) slot (λ m. m.boot < next) part refl later)
