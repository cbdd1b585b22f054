-- What a mail, the end of a run and a boot make of a slot are the moves that are named for them.
use Rattle.std.proofs.Common.{◌≡◌, ℕ, ◌<◌, Bool, true, false, ◌&&◌, Option, Some, None, IfSome, IsSome, IsSomeAnd, is_some, true≢false, refl, sym, ◌∙◌, ap, if◌then◌else◌}
use Rattle.ad_tree.specs.Ad.{Attributes}
use Rattle.ad_eval.specs.Judgement.{Judgement}
use Rattle.ad_eval.specs.Match.{rank_of}
use Rattle.claim_id.specs.declared.numbers.ClaimNo.{ClaimNo}
use Rattle.claim_id.specs.declared.numbers.RunNo.{RunNo}
use Rattle.claim_id.specs.declared.numbers.SlotId.{SlotId}
use Rattle.job_launch.specs.Launches.{launch_of}
use Rattle.pool_mail.specs.Ads.{owner_of}
use Rattle.pool_mail.specs.declared.end.Ending.{Ending}
use Rattle.pool_mail.specs.declared.mail.Mail.{Mail}
use Rattle.pool_mail.specs.declared.mail.Mail.TheVariants.{Update, Matched, Ask, Granted, Denied, Activate, Alive, Seen, Stop, Release, Gone, Ended, Remove, Hold, Resume}
use Rattle.pool_view.specs.Facts.{Facts}
use Rattle.pool_view.specs.Protocol.{Protocol}
use Rattle.pool_view.specs.ProtocolMove.{MayAll}
use Rattle.pool_view.specs.SlotPart.{IsPart, part_after_all}
use Rattle.pool_view.specs.Safe.{Safe}
use Rattle.claim_id.specs.declared.pair.Cue.TheVariants as cue
use Rattle.claim_id.specs.SlotTable.{next_of}
use Rattle.startd_slot.specs.declared.ask.Asked.{Asked}
use Rattle.startd_slot.specs.declared.held.Held.{Held}
use Rattle.startd_slot.specs.declared.held.Running.{Running}
use Rattle.startd_slot.specs.declared.run_mails.Activation.{Activation}
use Rattle.startd_slot.specs.declared.run_mails.ActivateRow.{ActivateRow}
use Rattle.startd_slot.specs.declared.run_mails.ActivateRow.TheVariants as row
use Rattle.startd_slot.specs.declared.run_mails.KnownRun.{KnownRun}
use Rattle.startd_slot.specs.declared.run_mails.KnownRun.TheVariants as known
use Rattle.startd_slot.specs.declared.slot.Slot.{Slot}
use Rattle.startd_slot.specs.declared.slot.SlotState.{SlotState}
use Rattle.startd_slot.specs.ActivateTable.{activate_row}
use Rattle.startd_slot.specs.AskTable.{ask_row, is_unclaimed}
use Rattle.startd_slot.specs.Consistent.{IsConsistent}
use Rattle.startd_slot.specs.EndingTable.{after_ending, how_of, mark_in}
use Rattle.startd_slot.specs.Mails.{asked_claim, reaction_to}
use Rattle.startd_slot.specs.ReleaseTable.{is_busy, release_row}
use Rattle.startd_slot.specs.RunTable.{known_run}
use Rattle.startd_slot.specs.SlotMoves.{part_of, part_of_state, moves_of_activate, moves_of_alive, moves_of_mail, moves_of_end, goes_on, IsTold, IsJudgedHere}
use Rattle.startd_slot.specs.SlotStates.{held_of, after_cue, is_run, running_in, running_of, runs_on, heard_of, offers_claim}
use Rattle.startd_slot.proofs.MayRows.{ask_may, activate_may, StartKnown, word_may, alive_may, release_may, end_may}
use Rattle.startd_slot.proofs.MoveRows.{part_moved, part_heard, ask_changes, IsStarting, activate_changes, alive_changes, stop_changes, release_changes, end_changes}
use Rattle.startd_slot.proofs.OverRows.{heard_same, held_heard}
use Rattle.startd_slot.proofs.Rows.{ask_known, activate_known, run_known, release_known}
use Rattle.startd_slot.proofs.Starts.{IsStart, held_starts}

-- ---- a Matched
match_changes : (boot : ℕ) (slot : SlotId) (ad : Attributes) (s : SlotState) (b : Bool) (reading : ℕ) → part_of_state boot slot ad s ≡ part_of_state boot slot ad (if b then after_cue cue.Match reading s else s)
match_changes boot slot ad s true reading = sym (part_moved boot slot ad (next_of s.pair cue.Match) reading s)
match_changes boot slot ad s false reading = refl

-- ---- an Activate
ready_known : (s : SlotState) (run : RunNo) (r : ActivateRow) → (IsStart r → IsSomeAnd (held_of s run.claim) (λ h. (h.last < run.number) × (h.running ≡ None))) → StartKnown s run r
ready_known s run (row.NotHeld spent) ready = tt
ready_known s run (row.Spent last) ready = tt
ready_known s run (row.Occupied other) ready = tt
ready_known s run row.Past ready = tt
ready_known s run row.NotMatched ready = tt
ready_known s run row.Starts ready = ready tt

some_held : (o : Option Held) (Q : Held → Type 0) → IsSomeAnd o Q → IsSome o
some_held None Q q = absurd q
some_held (Some h) Q q = refl

starting_heard : (s : SlotState) (run : RunNo) (r : ActivateRow) (reading : ℕ) → StartKnown s run r → IsStarting (heard_of run.claim reading s) run r
starting_heard s run (row.NotHeld spent) reading is = tt
starting_heard s run (row.Spent last) reading is = tt
starting_heard s run (row.Occupied other) reading is = tt
starting_heard s run row.Past reading is = tt
starting_heard s run row.NotMatched reading is = tt
starting_heard s run row.Starts reading is =
    some_held (held_of (heard_of run.claim reading s) run.claim) (λ h. (h.last < run.number) × (h.running ≡ None))
    (held_heard (λ h. (h.last < run.number) × (h.running ≡ None)) s run.claim run.claim reading (λ h x q. q) is)

start_known : (s : SlotState) (boot : ℕ) (a : Activation) (judged : Option Judgement) (reading : ℕ) → StartKnown s a.run (activate_row s boot a (is_some judged) reading)
start_known s boot a judged reading =
    ready_known s a.run (activate_row s boot a (is_some judged) reading) (λ start. (held_starts (held_of s a.run.claim) _ a (is_some judged) reading start).0)

-- ---- an Alive
alive_heard : (k : KnownRun) (s : SlotState) (slot : SlotId) (run : RunNo) (claim : ClaimNo) (until reading : ℕ) → moves_of_alive k (heard_of claim reading s) slot run until reading ≡ moves_of_alive k s slot run until reading
alive_heard known.Running s slot run claim until reading = heard_same (λ o. goes_on (running_in o) slot until reading ≡ goes_on (running_of s) slot until reading) s claim reading (λ h x is. is) refl
alive_heard (known.Ended how) s slot run claim until reading = refl
alive_heard known.OfHeldClaim s slot run claim until reading = refl
alive_heard known.Spent s slot run claim until reading = refl
alive_heard known.Unknown s slot run claim until reading = refl

-- ---- all mails
pub mail_changes : (boot : ℕ) (slot : Slot) (mail : Mail) (judged : Option Judgement) (reading : ℕ) → IsConsistent boot slot.id slot.state → IfSome (asked_claim mail) (λ c. c.slot ≡ slot.id)
    → part_after_all (moves_of_mail boot slot mail judged reading) (part_of boot slot) ≡ part_of boot (record slot { state = (reaction_to boot slot mail judged reading).state })
unfolding reaction_to moves_of_mail
mail_changes boot slot (Matched found) judged reading c at = match_changes boot slot.id slot.ad slot.state (is_unclaimed slot.state.pair && offers_claim slot.state found.claim) reading
mail_changes boot slot (Ask claim job ad by_priority) judged reading c at =
    let asked : Asked = record { claim = claim; job = job; by_priority = by_priority } in
    ask_changes boot slot.id slot.ad slot.state (ask_row slot.state asked (is_some judged) (rank_of slot.ad ad reading)) asked (owner_of ad) (rank_of slot.ad ad reading) reading
    (ask_known slot.state asked (is_some judged) (rank_of slot.ad ad reading)) c
mail_changes boot slot (Activate run job ad until) judged reading c at =
    let a : Activation = record { run = run; job = job; until = until } in
    ap (part_after_all (moves_of_activate (activate_row slot.state boot a (is_some judged) reading) slot.id a judged)) (sym (part_heard boot slot.id slot.ad run.claim reading slot.state))
    ∙ activate_changes boot slot.id slot.ad (heard_of run.claim reading slot.state) (activate_row slot.state boot a (is_some judged) reading) a (launch_of ad) judged reading at
    (starting_heard slot.state run (activate_row slot.state boot a (is_some judged) reading) reading (start_known slot.state boot a judged reading))
mail_changes boot slot (Alive run until) judged reading c at =
    ap (λ ms. part_after_all ms (part_of boot slot)) (sym (alive_heard (known_run slot.state boot run) slot.state slot.id run run.claim until reading))
    ∙ (ap (part_after_all (moves_of_alive (known_run slot.state boot run) (heard_of run.claim reading slot.state) slot.id run until reading)) (sym (part_heard boot slot.id slot.ad run.claim reading slot.state))
    ∙ alive_changes boot slot.id slot.ad (heard_of run.claim reading slot.state) (known_run slot.state boot run) run until reading at)
mail_changes boot slot (Stop run) judged reading c at = stop_changes boot slot.id slot.ad slot.state (known_run slot.state boot run) run at
mail_changes boot slot (Release claim) judged reading c at = release_changes boot slot.id slot.ad slot.state (release_row slot.state claim) claim reading (release_known slot.state claim) c
mail_changes boot slot (Update s) judged reading c at = refl
mail_changes boot slot (Granted claim job) judged reading c at = refl
mail_changes boot slot (Denied claim run job why) judged reading c at = refl
mail_changes boot slot (Seen run until) judged reading c at = refl
mail_changes boot slot (Gone run kept) judged reading c at = refl
mail_changes boot slot (Ended run how) judged reading c at = refl
mail_changes boot slot (Remove job) judged reading c at = refl
mail_changes boot slot (Hold job) judged reading c at = refl
mail_changes boot slot (Resume job) judged reading c at = refl

pub mail_may : (p : Protocol) (boot : ℕ) (slot : Slot) (mail : Mail) (judged : Option Judgement) (reading : ℕ) → IsConsistent boot slot.id slot.state → IfSome (asked_claim mail) (λ c. c.slot ≡ slot.id)
    → Facts p → IsPart p (part_of boot slot) → IsTold p mail → IfSome judged (IsJudgedHere slot mail) → MayAll p (moves_of_mail boot slot mail judged reading)
unfolding moves_of_mail
mail_may p boot slot (Matched found) judged reading c at facts part told fits = tt
mail_may p boot slot (Ask claim job ad by_priority) judged reading c at facts part told fits =
    let asked : Asked = record { claim = claim; job = job; by_priority = by_priority } in
    ask_may p boot slot.id slot.ad slot.state (ask_row slot.state asked (is_some judged) (rank_of slot.ad ad reading)) claim (ask_known slot.state asked (is_some judged) (rank_of slot.ad ad reading)) c facts part
mail_may p boot slot (Activate run job ad until) judged reading c at facts part told fits =
    let a : Activation = record { run = run; job = job; until = until } in
    activate_may p boot slot.id slot.ad ad slot.state (activate_row slot.state boot a (is_some judged) reading) a judged (activate_known slot.state boot a (is_some judged) reading) (start_known slot.state boot a judged reading) at fits told c facts part
mail_may p boot slot (Alive run until) judged reading c at facts part told fits =
    alive_may p boot slot.id slot.ad slot.state (known_run slot.state boot run) run until reading (run_known slot.state boot run) at told part
mail_may p boot slot (Stop run) judged reading c at facts part told fits = word_may p boot slot.id slot.ad slot.state (known_run slot.state boot run) run (run_known slot.state boot run) at part
mail_may p boot slot (Release claim) judged reading c at facts part told fits = release_may p boot slot.id slot.ad slot.state (release_row slot.state claim) claim (release_known slot.state claim) c part
mail_may p boot slot (Update s) judged reading c at facts part told fits = tt
mail_may p boot slot (Granted claim job) judged reading c at facts part told fits = tt
mail_may p boot slot (Denied claim run job why) judged reading c at facts part told fits = tt
mail_may p boot slot (Seen run until) judged reading c at facts part told fits = tt
mail_may p boot slot (Gone run kept) judged reading c at facts part told fits = tt
mail_may p boot slot (Ended run how) judged reading c at facts part told fits = tt
mail_may p boot slot (Remove job) judged reading c at facts part told fits = tt
mail_may p boot slot (Hold job) judged reading c at facts part told fits = tt
mail_may p boot slot (Resume job) judged reading c at facts part told fits = tt

-- ---- the end of a run
-- a slot with that run
record Here (s : SlotState) (run : RunNo) : Type 0 where
  pub held : Held
  pub running : Running
  pub is : s.held ≡ Some held
  pub its : held.running ≡ Some running

here_is : (s : SlotState) (run : RunNo) → runs_on s run ≡ true → Here s run
here_is s run here = by_held s.held refl here
  where
    by_running : (h : Held) (o : Option Running) → s.held ≡ Some h → h.running ≡ o → is_run o run ≡ true → Here s run
    by_running h None at is here = absurd (true≢false (sym here))
    by_running h (Some r) at is here = record { held = h; running = r; is = at; its = is }

    by_held : (o : Option Held) → s.held ≡ o → is_run (running_in o) run ≡ true → Here s run
    by_held None at here = absurd (true≢false (sym here))
    by_held (Some h) at here = by_running h h.running at refl here

pub ending_changes : (boot : ℕ) (slot : Slot) (ending : Ending) (reading : ℕ) → runs_on slot.state ending.run ≡ true → IsConsistent boot slot.id slot.state
    → part_after_all (moves_of_end slot ending) (part_of boot slot) ≡ part_of boot (record slot { state = (after_ending ending reading slot.state).state })
ending_changes boot slot ending reading here c =
    let h = here_is slot.state ending.run here in
    end_changes boot slot.id slot.ad slot.state h.held h.running ending.run (how_of ending.end (mark_in (running_of slot.state))) (Some (how_of ending.end (mark_in (running_of slot.state))))
    (Ended ending.run (how_of ending.end (mark_in (running_of slot.state)))) reading (is_busy slot.state.pair) h.is h.its c

pub ending_may : (p : Protocol) (boot : ℕ) (slot : Slot) (ending : Ending) → runs_on slot.state ending.run ≡ true → IsConsistent boot slot.id slot.state → Facts p → Safe p.pool → IsPart p (part_of boot slot)
    → MayAll p (moves_of_end slot ending)
ending_may p boot slot ending here c facts safe part =
    let h = here_is slot.state ending.run here in
    end_may p boot slot.id slot.ad slot.state h.held h.running (Some (how_of ending.end (mark_in (running_of slot.state)))) (is_busy slot.state.pair) h.is h.its c facts safe part
