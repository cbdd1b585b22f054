-- What a mail, or the end of a run, makes of a slot keeps it consistent.
use Rattle.std.proofs.Common.{◌≡◌, ℕ, ℤ, ◌<◌, Bool, true, false, ◌&&◌, List, Option, Some, None, IsSome, IsSomeAnd, is_some, option_map, true≢false, refl, sym, if◌then◌else◌}
use Rattle.ad_eval.specs.Judgement.{Judgement}
use Rattle.claim_id.specs.declared.numbers.ClaimNo.{ClaimNo}
use Rattle.claim_id.specs.declared.numbers.RunNo.{RunNo}
use Rattle.claim_id.specs.declared.numbers.SlotId.{SlotId}
use Rattle.pool_mail.specs.declared.end.Ending.{Ending}
use Rattle.pool_mail.specs.declared.mail.Mail.{Mail}
use Rattle.pool_mail.specs.declared.mail.Mail.TheVariants.{Update, Matched, Ask, Granted, Denied, Activate, Alive, Seen, Stop, Release, Gone, Ended, Remove, Hold, Resume}
use Rattle.job_launch.specs.Launches.{launch_of}
use Rattle.pool_mail.specs.Ads.{owner_of}
use Rattle.ad_eval.specs.Match.{rank_of}
use Rattle.pool_view.specs.Numbers.{same_claim}
use Rattle.pool_outer.specs.declared.spawner.Launch.{Launch}
use Rattle.claim_id.specs.declared.pair.Pair.{Pair}
use Rattle.claim_id.specs.declared.pair.Pair.TheVariants.{OwnerIdle, UnclaimedIdle, MatchedIdle, ClaimedIdle, ClaimedBusy, ClaimedRetiring, PreemptingVacating, PreemptingKilling}
use Rattle.claim_id.specs.declared.pair.Cue.TheVariants as cue
use Rattle.startd_slot.specs.declared.ask.AskRow.{AskRow}
use Rattle.startd_slot.specs.declared.ask.AskRow.TheVariants as asked_row
use Rattle.startd_slot.specs.declared.ask.Asked.{Asked}
use Rattle.startd_slot.specs.declared.ask.ReleaseRow.{ReleaseRow}
use Rattle.startd_slot.specs.declared.ask.ReleaseRow.TheVariants as release
use Rattle.startd_slot.specs.declared.held.Held.{Held}
use Rattle.startd_slot.specs.declared.run_mails.Activation.{Activation}
use Rattle.startd_slot.specs.declared.run_mails.ActivateRow.{ActivateRow}
use Rattle.startd_slot.specs.declared.run_mails.ActivateRow.TheVariants as row
use Rattle.startd_slot.specs.declared.run_mails.KnownRun.{KnownRun}
use Rattle.startd_slot.specs.declared.run_mails.KnownRun.TheVariants as known
use Rattle.startd_slot.specs.declared.slot.Slot.{Slot}
use Rattle.startd_slot.specs.declared.slot.SlotState.{SlotState}
use Rattle.startd_slot.specs.ActivateTable.{activate_row, after_activate_row, run_of}
use Rattle.startd_slot.specs.AskTable.{ask_row, after_ask_row, is_unclaimed}
use Rattle.startd_slot.specs.Consistent.{IsConsistent, IsSettled}
use Rattle.startd_slot.specs.EndingTable.{after_ending, how_of, mark_in}
use Rattle.startd_slot.specs.Mails.{reaction_to}
use Rattle.startd_slot.specs.ReleaseTable.{release_row, after_release_row}
use Rattle.startd_slot.specs.RunTable.{known_run, after_word_of, after_alive_of, after_stop_of}
use Rattle.startd_slot.specs.SlotStates.{held_in, held_of, is_held_in, heard_claim, heard_of, offers_claim, after_cue, running_of, runs_on, lengthened, stopped}
use Rattle.startd_slot.proofs.Keeps.{pair_kept, rival_kept, heard_kept, number_kept, running_kept, lengthened_run}
use Rattle.startd_slot.proofs.KeepsRows.{granted_kept, handover_kept, rival_made, finish_kept, retire_kept, begun_kept, run_ended}
use Rattle.startd_slot.proofs.Rows.{AskKnown, ask_known, ReleaseKnown, release_known}
use Rattle.startd_slot.proofs.Starts.{IsStart, held_starts}

-- ---- an Ask
asked_kept : (boot : ℕ) (slot : SlotId) (s : SlotState) (r : AskRow) (asked : Asked) (user : List ℕ) (rank : ℤ) (reading : ℕ)
    → AskKnown s asked.claim r → IsConsistent boot slot s → IsSettled s
    → IsConsistent boot slot (after_ask_row r asked user rank reading s).state
asked_kept boot slot s asked_row.NotOffered asked user rank reading is c settled = c
asked_kept boot slot s asked_row.NotMatched asked user rank reading is c settled = c
asked_kept boot slot s asked_row.Granted asked user rank reading is c settled =
    granted_kept boot slot s asked.claim user rank reading is.0 is.1 c settled
asked_kept boot slot s (asked_row.RankTooLow old new) asked user rank reading is c settled = c
asked_kept boot slot s asked_row.HandedOver asked user rank reading is c settled =
    handover_kept boot slot s asked.claim user rank reading is.0 is.1 is.2 c
asked_kept boot slot s asked_row.MadeRival asked user rank reading is c settled =
    rival_made boot slot s (record { claim = asked.claim; job = asked.job; user = user; rank = rank }) reading is.0 is.1 is.2 c settled

-- ---- a Matched
match_kept : (boot : ℕ) (slot : SlotId) (s : SlotState) (p : Pair) (offers : Bool) (reading : ℕ) → IsConsistent boot slot (record s { pair = p })
    → IsConsistent boot slot (if is_unclaimed p && offers then after_cue cue.Match reading (record s { pair = p }) else record s { pair = p })
match_kept boot slot s UnclaimedIdle true reading c = pair_kept boot slot (record s { pair = UnclaimedIdle }) MatchedIdle reading refl refl (λ never. absurd (true≢false (sym never))) c
match_kept boot slot s UnclaimedIdle false reading c = c
match_kept boot slot s OwnerIdle offers reading c = c
match_kept boot slot s MatchedIdle offers reading c = c
match_kept boot slot s ClaimedIdle offers reading c = c
match_kept boot slot s ClaimedBusy offers reading c = c
match_kept boot slot s ClaimedRetiring offers reading c = c
match_kept boot slot s PreemptingVacating offers reading c = c
match_kept boot slot s PreemptingKilling offers reading c = c

-- ---- an Activate
-- a slot is as ready for a run when its claim was heard of
pub still_ready : (s : SlotState) (run : RunNo) (claim : ClaimNo) (reading : ℕ) → IsSomeAnd (held_of s run.claim) (λ h. (h.last < run.number) × (h.running ≡ None))
    → IsSomeAnd (held_of (heard_of claim reading s) run.claim) (λ h. (h.last < run.number) × (h.running ≡ None))
still_ready s run claim reading ready = by_held s.held ready
  where
    by_same : (h : Held) (heard same : Bool) → IsSomeAnd (if same then Some h else None) (λ h. (h.last < run.number) × (h.running ≡ None))
        → IsSomeAnd (if same then Some (if heard then record h { heard = reading } else h) else None) (λ h. (h.last < run.number) × (h.running ≡ None))
    by_same h true true ready = ready
    by_same h false true ready = ready
    by_same h heard false ready = absurd ready

    by_heard : (h : Held) (heard : Bool) → IsSomeAnd (if same_claim h.claim.no run.claim then Some h else None) (λ h. (h.last < run.number) × (h.running ≡ None))
        → IsSomeAnd (held_in (Some (if heard then record h { heard = reading } else h)) run.claim) (λ h. (h.last < run.number) × (h.running ≡ None))
    by_heard h true ready = by_same h true (same_claim h.claim.no run.claim) ready
    by_heard h false ready = ready

    by_held : (o : Option Held) → IsSomeAnd (held_in o run.claim) (λ h. (h.last < run.number) × (h.running ≡ None))
        → IsSomeAnd (held_in (option_map (heard_claim claim reading) o) run.claim) (λ h. (h.last < run.number) × (h.running ≡ None))
    by_held None ready = absurd ready
    by_held (Some h) ready = by_heard h (same_claim h.claim.no claim) ready

activated_kept : (boot : ℕ) (slot : SlotId) (s : SlotState) (r : ActivateRow) (a : Activation) (what : Launch) (judged : Option Judgement) (reading : ℕ)
    → (IsStart r → IsSomeAnd (held_of s a.run.claim) (λ h. (h.last < a.run.number) × (h.running ≡ None))) → IsConsistent boot slot s
    → IsConsistent boot slot (after_activate_row r a what judged reading s).state
activated_kept boot slot s (row.NotHeld spent) a what judged reading ready c = c
activated_kept boot slot s (row.Spent last) a what judged reading ready c = c
activated_kept boot slot s (row.Occupied run) a what judged reading ready c = number_kept boot slot s a.run.number c
activated_kept boot slot s row.Past a what judged reading ready c = number_kept boot slot s a.run.number c
activated_kept boot slot s row.NotMatched a what judged reading ready c = number_kept boot slot s a.run.number c
activated_kept boot slot s row.Starts a what None reading ready c = c
activated_kept boot slot s row.Starts a what (Some judged) reading ready c = begun_kept boot slot s (run_of a judged) reading (ready tt) c

-- ---- an Alive, and a Stop
word_kept : (boot : ℕ) (slot : SlotId) (s : SlotState) (k : KnownRun) (run : RunNo) → IsConsistent boot slot s → IsConsistent boot slot (after_word_of k run s).state
word_kept boot slot s known.Running run c = c
word_kept boot slot s (known.Ended how) run c = c
word_kept boot slot s known.OfHeldClaim run c = number_kept boot slot s run.number c
word_kept boot slot s known.Spent run c = c
word_kept boot slot s known.Unknown run c = c

alive_kept : (boot : ℕ) (slot : SlotId) (s : SlotState) (k : KnownRun) (run : RunNo) (until reading : ℕ) → IsConsistent boot slot s → IsConsistent boot slot (after_alive_of k run until reading s).state
alive_kept boot slot s known.Running run until reading c = running_kept boot slot s (lengthened until reading) (lengthened_run until reading) c
alive_kept boot slot s (known.Ended how) run until reading c = c
alive_kept boot slot s known.OfHeldClaim run until reading c = number_kept boot slot s run.number c
alive_kept boot slot s known.Spent run until reading c = c
alive_kept boot slot s known.Unknown run until reading c = c

stop_kept : (boot : ℕ) (slot : SlotId) (s : SlotState) (k : KnownRun) (run : RunNo) → IsConsistent boot slot s → IsConsistent boot slot (after_stop_of k run s).state
stop_kept boot slot s known.Running run c = running_kept boot slot s stopped (λ r. refl) c
stop_kept boot slot s (known.Ended how) run c = c
stop_kept boot slot s known.OfHeldClaim run c = number_kept boot slot s run.number c
stop_kept boot slot s known.Spent run c = c
stop_kept boot slot s known.Unknown run c = c

-- ---- a Release
held_is_some : (o : Option Held) (claim : ClaimNo) → is_held_in o claim ≡ true → IsSome o
held_is_some None claim is = absurd (true≢false (sym is))
held_is_some (Some h) claim is = refl

released_kept : (boot : ℕ) (slot : SlotId) (s : SlotState) (r : ReleaseRow) (claim : ClaimNo) (reading : ℕ) → ReleaseKnown s claim r → IsConsistent boot slot s → IsConsistent boot slot (after_release_row r reading s)
released_kept boot slot s release.Finished claim reading is c = finish_kept boot slot s reading (held_is_some s.held claim is.0) is.1 c
released_kept boot slot s release.Retiring claim reading is c = retire_kept boot slot s reading is c
released_kept boot slot s release.RivalGone claim reading is c = rival_kept boot slot s c
released_kept boot slot s release.Nothing claim reading is c = c

-- ---- all mails
starts_ready : (s : SlotState) (boot : ℕ) (a : Activation) (judged : Option Judgement) (reading : ℕ)
    → IsStart (activate_row s boot a (is_some judged) reading) → IsSomeAnd (held_of s a.run.claim) (λ h. (h.last < a.run.number) × (h.running ≡ None))
starts_ready s boot a judged reading start = (held_starts (held_of s a.run.claim) _ a (is_some judged) reading start).0

pub reaction_kept : (boot : ℕ) (slot : Slot) (mail : Mail) (judged : Option Judgement) (reading : ℕ)
    → IsConsistent boot slot.id slot.state → IsSettled slot.state
    → IsConsistent boot slot.id (reaction_to boot slot mail judged reading).state
unfolding reaction_to
reaction_kept boot slot (Matched found) judged reading c settled =
    match_kept boot slot.id slot.state slot.state.pair (offers_claim slot.state found.claim) reading c
reaction_kept boot slot (Ask claim job ad by_priority) judged reading c settled =
    let asked : Asked = record { claim = claim; job = job; by_priority = by_priority } in
    asked_kept boot slot.id slot.state (ask_row slot.state asked (is_some judged) (rank_of slot.ad ad reading)) asked (owner_of ad) (rank_of slot.ad ad reading) reading
    (ask_known slot.state asked (is_some judged) (rank_of slot.ad ad reading)) c settled
reaction_kept boot slot (Activate run job ad until) judged reading c settled =
    let a : Activation = record { run = run; job = job; until = until } in
    activated_kept boot slot.id (heard_of run.claim reading slot.state) (activate_row slot.state boot a (is_some judged) reading) a (launch_of ad) judged reading
    (λ start. still_ready slot.state run run.claim reading (starts_ready slot.state boot a judged reading start))
    (heard_kept boot slot.id slot.state run.claim reading c)
reaction_kept boot slot (Alive run until) judged reading c settled =
    alive_kept boot slot.id (heard_of run.claim reading slot.state) (known_run slot.state boot run) run until reading (heard_kept boot slot.id slot.state run.claim reading c)
reaction_kept boot slot (Stop run) judged reading c settled = stop_kept boot slot.id slot.state (known_run slot.state boot run) run c
reaction_kept boot slot (Release claim) judged reading c settled =
    released_kept boot slot.id slot.state (release_row slot.state claim) claim reading (release_known slot.state claim) c
reaction_kept boot slot (Update s) judged reading c settled = c
reaction_kept boot slot (Granted claim job) judged reading c settled = c
reaction_kept boot slot (Denied claim run job why) judged reading c settled = c
reaction_kept boot slot (Seen run until) judged reading c settled = c
reaction_kept boot slot (Gone run kept) judged reading c settled = c
reaction_kept boot slot (Ended run how) judged reading c settled = c
reaction_kept boot slot (Remove job) judged reading c settled = c
reaction_kept boot slot (Hold job) judged reading c settled = c
reaction_kept boot slot (Resume job) judged reading c settled = c

pub ending_kept : (boot : ℕ) (slot : SlotId) (s : SlotState) (ending : Ending) (reading : ℕ)
    → runs_on s ending.run ≡ true → IsConsistent boot slot s → IsSettled s
    → IsConsistent boot slot (after_ending ending reading s).state
ending_kept boot slot s ending reading here c settled =
    run_ended boot slot s ending (how_of ending.end (mark_in (running_of s))) reading here c settled
