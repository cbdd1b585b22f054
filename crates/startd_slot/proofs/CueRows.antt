-- The table of slot states knows the cue of each row that fits.
use Rattle.std.proofs.Common.{◌≡◌, ℕ, ℤ, ◌<◌, Bool, true, false, ◌&&◌, List, [], ◌∷◌, Option, Some, None, IsSome, IsSomeAnd, is_some, true≢false, refl, sym, ◌∙◌, ap, subst, if◌then◌else◌}
use Rattle.ad_eval.specs.Judgement.{Judgement}
use Rattle.ad_eval.specs.Match.{rank_of}
use Rattle.claim_id.specs.declared.numbers.ClaimNo.{ClaimNo}
use Rattle.claim_id.specs.declared.numbers.RunNo.{RunNo}
use Rattle.claim_id.specs.declared.numbers.SlotId.{SlotId}
use Rattle.job_launch.specs.Launches.{launch_of}
use Rattle.pool_mail.specs.Ads.{owner_of}
use Rattle.pool_mail.specs.declared.end.Ending.{Ending}
use Rattle.pool_mail.specs.declared.end.How.{How}
use Rattle.pool_mail.specs.declared.mail.Mail.{Mail}
use Rattle.pool_mail.specs.declared.mail.Mail.TheVariants.{Update, Matched, Ask, Granted, Denied, Activate, Alive, Seen, Stop, Release, Gone, Ended, Remove, Hold, Resume}
use Rattle.pool_outer.specs.declared.spawner.Launch.{Launch}
use Rattle.pool_view.specs.Numbers.{same_claim}
use Rattle.claim_id.specs.declared.pair.Cue.TheVariants as cue
use Rattle.claim_id.specs.declared.pair.Pair.{Pair}
use Rattle.claim_id.specs.declared.pair.Pair.TheVariants.{OwnerIdle, UnclaimedIdle, MatchedIdle, ClaimedIdle, ClaimedBusy, ClaimedRetiring, PreemptingVacating, PreemptingKilling}
use Rattle.claim_id.specs.SlotTable.{next_of}
use Rattle.claim_id.specs.States.{has_claim, has_run}
use Rattle.startd_slot.specs.declared.ask.AskRow.{AskRow}
use Rattle.startd_slot.specs.declared.ask.AskRow.TheVariants as asked_row
use Rattle.startd_slot.specs.declared.ask.Asked.{Asked}
use Rattle.startd_slot.specs.declared.ask.ReleaseRow.{ReleaseRow}
use Rattle.startd_slot.specs.declared.ask.ReleaseRow.TheVariants as release
use Rattle.startd_slot.specs.declared.held.Held.{Held}
use Rattle.startd_slot.specs.declared.held.Rival.{Rival}
use Rattle.startd_slot.specs.declared.held.Running.{Running}
use Rattle.startd_slot.specs.declared.run_mails.Activation.{Activation}
use Rattle.startd_slot.specs.declared.run_mails.ActivateRow.{ActivateRow}
use Rattle.startd_slot.specs.declared.run_mails.ActivateRow.TheVariants as row
use Rattle.startd_slot.specs.declared.run_mails.KnownRun.{KnownRun}
use Rattle.startd_slot.specs.declared.run_mails.KnownRun.TheVariants as known
use Rattle.startd_slot.specs.declared.slot.Slot.{Slot}
use Rattle.startd_slot.specs.declared.slot.SlotState.{SlotState}
use Rattle.startd_slot.specs.ActivateTable.{activate_row, after_activate_row}
use Rattle.startd_slot.specs.AskTable.{ask_row, after_ask_row, is_unclaimed}
use Rattle.startd_slot.specs.Consistent.{IsConsistent, IsSettled}
use Rattle.startd_slot.specs.Cues.{cue_of_ask, cue_of_activate, cue_of_release, cue_of_mail, cue_of_last_run, cue_of_end, LeadsTo}
use Rattle.startd_slot.specs.EndingTable.{after_ending, after_last_run, how_of, mark_in}
use Rattle.startd_slot.specs.Mails.{reaction_to}
use Rattle.startd_slot.specs.Reactions.{says}
use Rattle.startd_slot.specs.ReleaseTable.{is_busy, release_row, after_release_row}
use Rattle.startd_slot.specs.RunTable.{known_run, after_alive_of, after_stop_of}
use Rattle.startd_slot.specs.SlotStates.{held_in, held_of, is_held_in, offers_claim, in_pair, after_cue, running_in, running_of, is_run, runs_on, is_open, heard_of, without_run, without_claim}
use Rattle.startd_slot.proofs.Rows.{AskKnown, ask_known, ReleaseKnown, release_known}
use Rattle.startd_slot.proofs.Starts.{IsStart, held_starts, start_matched}

-- where the table knows a cue, it leads to the pair that it gives
leads : (o : Option Pair) (reading : ℕ) (s : SlotState) → IsSome o → o ≡ Some (in_pair o reading s).pair
leads None reading s is = absurd (true≢false (sym is))
leads (Some p) reading s is = refl

-- ---- the cues that are known
grant_known : (s : SlotState) (p : Pair) → is_some s.offer ≡ true → is_some s.held ≡ false → is_some s.held ≡ has_claim p → is_some s.offer ≡ is_open p → IsSome (next_of p cue.Grant)
grant_known s UnclaimedIdle offer none claimed settled = refl
grant_known s MatchedIdle offer none claimed settled = refl
grant_known s OwnerIdle offer none claimed settled = absurd (true≢false (sym offer ∙ settled))
grant_known s ClaimedIdle offer none claimed settled = absurd (true≢false (sym claimed ∙ none))
grant_known s ClaimedBusy offer none claimed settled = absurd (true≢false (sym claimed ∙ none))
grant_known s ClaimedRetiring offer none claimed settled = absurd (true≢false (sym claimed ∙ none))
grant_known s PreemptingVacating offer none claimed settled = absurd (true≢false (sym claimed ∙ none))
grant_known s PreemptingKilling offer none claimed settled = absurd (true≢false (sym claimed ∙ none))

retire_known : (s : SlotState) (p : Pair) → is_some s.offer ≡ true → ((p ≡ ClaimedIdle) → ⊥) → is_some s.held ≡ true → is_some s.held ≡ has_claim p → is_some s.offer ≡ is_open p → IsSome (next_of p cue.Retire)
retire_known s ClaimedBusy offer busy held claimed settled = refl
retire_known s ClaimedIdle offer busy held claimed settled = absurd (busy refl)
retire_known s OwnerIdle offer busy held claimed settled = absurd (true≢false (sym held ∙ claimed))
retire_known s UnclaimedIdle offer busy held claimed settled = absurd (true≢false (sym held ∙ claimed))
retire_known s MatchedIdle offer busy held claimed settled = absurd (true≢false (sym held ∙ claimed))
retire_known s ClaimedRetiring offer busy held claimed settled = absurd (true≢false (sym offer ∙ settled))
retire_known s PreemptingVacating offer busy held claimed settled = absurd (true≢false (sym offer ∙ settled))
retire_known s PreemptingKilling offer busy held claimed settled = absurd (true≢false (sym offer ∙ settled))

busy_retires : (p : Pair) → is_busy p ≡ true → IsSome (next_of p cue.Retire)
busy_retires ClaimedBusy busy = refl
busy_retires ClaimedIdle busy = absurd (true≢false (sym busy))
busy_retires OwnerIdle busy = absurd (true≢false (sym busy))
busy_retires UnclaimedIdle busy = absurd (true≢false (sym busy))
busy_retires MatchedIdle busy = absurd (true≢false (sym busy))
busy_retires ClaimedRetiring busy = absurd (true≢false (sym busy))
busy_retires PreemptingVacating busy = absurd (true≢false (sym busy))
busy_retires PreemptingKilling busy = absurd (true≢false (sym busy))

-- a slot with a claim and without run is Claimed/Idle
pub idle_claim : (p : Pair) → has_claim p ≡ true → has_run p ≡ false → p ≡ ClaimedIdle
idle_claim ClaimedIdle claim none = refl
idle_claim OwnerIdle claim none = absurd (true≢false (sym claim))
idle_claim UnclaimedIdle claim none = absurd (true≢false (sym claim))
idle_claim MatchedIdle claim none = absurd (true≢false (sym claim))
idle_claim ClaimedBusy claim none = absurd (true≢false none)
idle_claim ClaimedRetiring claim none = absurd (true≢false none)
idle_claim PreemptingVacating claim none = absurd (true≢false none)
idle_claim PreemptingKilling claim none = absurd (true≢false none)

-- where a run is, its end is known: in Claimed/Busy the claim rests, elsewhere it ends
pub ends_known : (p : Pair) (o : Option Rival) → has_run p ≡ true → IsSome (next_of p (if is_busy p then cue.Rest else cue_of_last_run o))
ends_known ClaimedBusy o run = refl
ends_known ClaimedRetiring None run = refl
ends_known ClaimedRetiring (Some r) run = refl
ends_known PreemptingVacating None run = refl
ends_known PreemptingVacating (Some r) run = refl
ends_known PreemptingKilling None run = refl
ends_known PreemptingKilling (Some r) run = refl
ends_known ClaimedIdle o run = absurd (true≢false (sym run))
ends_known OwnerIdle o run = absurd (true≢false (sym run))
ends_known UnclaimedIdle o run = absurd (true≢false (sym run))
ends_known MatchedIdle o run = absurd (true≢false (sym run))

-- ---- rows
ask_leads : (boot : ℕ) (slot : SlotId) (s : SlotState) (r : AskRow) (asked : Asked) (user : List ℕ) (rank : ℤ) (reading : ℕ)
    → AskKnown s asked.claim r → IsConsistent boot slot s → IsSettled s
    → LeadsTo (cue_of_ask r) s.pair (after_ask_row r asked user rank reading s).state.pair
ask_leads boot slot s asked_row.NotOffered asked user rank reading is c settled = refl
ask_leads boot slot s asked_row.NotMatched asked user rank reading is c settled = refl
ask_leads boot slot s asked_row.Granted asked user rank reading is c settled =
    leads (next_of s.pair cue.Grant) reading _ (grant_known s s.pair (ap is_some is.0) (ap is_some is.1) c.claimed settled)
ask_leads boot slot s (asked_row.RankTooLow old new) asked user rank reading is c settled = refl
ask_leads boot slot s asked_row.HandedOver asked user rank reading is c settled =
    leads (next_of s.pair cue.Handover) reading _ (subst (λ p. IsSome (next_of p cue.Handover)) (sym is.1) refl)
ask_leads boot slot s asked_row.MadeRival asked user rank reading is c settled =
    leads (next_of s.pair cue.Retire) reading _ (retire_known s s.pair (ap is_some is.0) is.1 is.2 c.claimed settled)

match_leads : (p : Pair) (offers : Bool) (s : SlotState) (reading : ℕ)
    → LeadsTo (if is_unclaimed p && offers then Some cue.Match else None) p (if is_unclaimed p && offers then after_cue cue.Match reading (record s { pair = p }) else record s { pair = p }).pair
match_leads UnclaimedIdle true s reading = refl
match_leads UnclaimedIdle false s reading = refl
match_leads OwnerIdle offers s reading = refl
match_leads MatchedIdle offers s reading = refl
match_leads ClaimedIdle offers s reading = refl
match_leads ClaimedBusy offers s reading = refl
match_leads ClaimedRetiring offers s reading = refl
match_leads PreemptingVacating offers s reading = refl
match_leads PreemptingKilling offers s reading = refl

-- a slot that is ready for a run is Claimed/Idle
pub ready_idle : (boot : ℕ) (slot : SlotId) (s : SlotState) (run : RunNo) → IsSomeAnd (held_of s run.claim) (λ h. (h.last < run.number) × (h.running ≡ None)) → IsConsistent boot slot s → s.pair ≡ ClaimedIdle
ready_idle boot slot s run ready c = by_held s.held ready c.claimed c.busy
  where
    by_same : (h : Held) (same : Bool) → IsSomeAnd (if same then Some h else None) (λ h. (h.last < run.number) × (h.running ≡ None)) → true ≡ has_claim s.pair → is_some h.running ≡ has_run s.pair → s.pair ≡ ClaimedIdle
    by_same h true ready claimed busy = idle_claim s.pair (sym claimed) (sym busy ∙ ap is_some ready.1)
    by_same h false ready claimed busy = absurd ready

    by_held : (o : Option Held) → IsSomeAnd (held_in o run.claim) (λ h. (h.last < run.number) × (h.running ≡ None)) → is_some o ≡ has_claim s.pair → is_some (running_in o) ≡ has_run s.pair → s.pair ≡ ClaimedIdle
    by_held None ready claimed busy = absurd ready
    by_held (Some h) ready claimed busy = by_same h (same_claim h.claim.no run.claim) ready claimed busy

-- `s` is the slot whose claim was heard of
activate_leads : (s : SlotState) (r : ActivateRow) (a : Activation) (what : Launch) (judged : Option Judgement) (reading : ℕ)
    → (IsStart r → (s.pair ≡ ClaimedIdle) × IsSome judged)
    → LeadsTo (cue_of_activate r) s.pair (after_activate_row r a what judged reading s).state.pair
activate_leads s (row.NotHeld spent) a what judged reading starts = refl
activate_leads s (row.Spent last) a what judged reading starts = refl
activate_leads s (row.Occupied run) a what judged reading starts = refl
activate_leads s row.Past a what judged reading starts = refl
activate_leads s row.NotMatched a what judged reading starts = refl
activate_leads s row.Starts a what None reading starts = absurd (true≢false (sym (starts tt).1))
activate_leads s row.Starts a what (Some judged) reading starts =
    leads (next_of s.pair cue.Begin) reading _ (subst (λ p. IsSome (next_of p cue.Begin)) (sym (starts tt).0) refl)

alive_leads : (s : SlotState) (k : KnownRun) (run : RunNo) (until reading : ℕ) → (after_alive_of k run until reading s).state.pair ≡ s.pair
alive_leads s known.Running run until reading = refl
alive_leads s (known.Ended how) run until reading = refl
alive_leads s known.OfHeldClaim run until reading = refl
alive_leads s known.Spent run until reading = refl
alive_leads s known.Unknown run until reading = refl

stop_leads : (s : SlotState) (k : KnownRun) (run : RunNo) → (after_stop_of k run s).state.pair ≡ s.pair
stop_leads s known.Running run = refl
stop_leads s (known.Ended how) run = refl
stop_leads s known.OfHeldClaim run = refl
stop_leads s known.Spent run = refl
stop_leads s known.Unknown run = refl

finish_known : (boot : ℕ) (slot : SlotId) (s : SlotState) (claim : ClaimNo) → is_held_in s.held claim ≡ true → running_of s ≡ None → IsConsistent boot slot s → s.pair ≡ ClaimedIdle
finish_known boot slot s claim holds none c = idle_claim s.pair (sym c.claimed ∙ by_held s.held holds) (sym c.busy ∙ ap is_some none)
  where
    by_held : (o : Option Held) → is_held_in o claim ≡ true → is_some o ≡ true
    by_held None holds = absurd (true≢false (sym holds))
    by_held (Some h) holds = refl

release_leads : (boot : ℕ) (slot : SlotId) (s : SlotState) (r : ReleaseRow) (claim : ClaimNo) (reading : ℕ) → ReleaseKnown s claim r → IsConsistent boot slot s
    → LeadsTo (cue_of_release r) s.pair (after_release_row r reading s).pair
release_leads boot slot s release.Finished claim reading is c =
    leads (next_of s.pair cue.Finish) reading _ (subst (λ p. IsSome (next_of p cue.Finish)) (sym (finish_known boot slot s claim is.0 is.1 c)) refl)
release_leads boot slot s release.Retiring claim reading is c = leads (next_of s.pair cue.Retire) reading _ (busy_retires s.pair is)
release_leads boot slot s release.RivalGone claim reading is c = refl
release_leads boot slot s release.Nothing claim reading is c = refl

starts_known : (boot : ℕ) (slot : SlotId) (s : SlotState) (a : Activation) (judged : Option Judgement) (reading : ℕ) → IsConsistent boot slot s
    → IsStart (activate_row s boot a (is_some judged) reading) → (s.pair ≡ ClaimedIdle) × IsSome judged
starts_known boot slot s a judged reading c start =
    (ready_idle boot slot s a.run (held_starts (held_of s a.run.claim) _ a (is_some judged) reading start).0 c, start_matched (held_of s a.run.claim) _ a (is_some judged) reading start)

-- ---- all mails
pub mail_leads : (boot : ℕ) (slot : Slot) (mail : Mail) (judged : Option Judgement) (reading : ℕ)
    → IsConsistent boot slot.id slot.state → IsSettled slot.state
    → LeadsTo (cue_of_mail boot slot mail judged reading) slot.state.pair (reaction_to boot slot mail judged reading).state.pair
unfolding reaction_to cue_of_mail
mail_leads boot slot (Matched found) judged reading c settled = match_leads slot.state.pair (offers_claim slot.state found.claim) slot.state reading
mail_leads boot slot (Ask claim job ad by_priority) judged reading c settled =
    let asked : Asked = record { claim = claim; job = job; by_priority = by_priority } in
    ask_leads boot slot.id slot.state (ask_row slot.state asked (is_some judged) (rank_of slot.ad ad reading)) asked (owner_of ad) (rank_of slot.ad ad reading) reading
    (ask_known slot.state asked (is_some judged) (rank_of slot.ad ad reading)) c settled
mail_leads boot slot (Activate run job ad until) judged reading c settled =
    let a : Activation = record { run = run; job = job; until = until } in
    activate_leads (heard_of run.claim reading slot.state) (activate_row slot.state boot a (is_some judged) reading) a (launch_of ad) judged reading
    (starts_known boot slot.id slot.state a judged reading c)
mail_leads boot slot (Alive run until) judged reading c settled =
    alive_leads (heard_of run.claim reading slot.state) (known_run slot.state boot run) run until reading
mail_leads boot slot (Stop run) judged reading c settled = stop_leads slot.state (known_run slot.state boot run) run
mail_leads boot slot (Release claim) judged reading c settled =
    release_leads boot slot.id slot.state (release_row slot.state claim) claim reading (release_known slot.state claim) c
mail_leads boot slot (Update s) judged reading c settled = refl
mail_leads boot slot (Granted claim job) judged reading c settled = refl
mail_leads boot slot (Denied claim run job why) judged reading c settled = refl
mail_leads boot slot (Seen run until) judged reading c settled = refl
mail_leads boot slot (Gone run kept) judged reading c settled = refl
mail_leads boot slot (Ended run how) judged reading c settled = refl
mail_leads boot slot (Remove job) judged reading c settled = refl
mail_leads boot slot (Hold job) judged reading c settled = refl
mail_leads boot slot (Resume job) judged reading c settled = refl

-- ---- the end of a run
is_there : (o : Option Running) (run : RunNo) → is_run o run ≡ true → is_some o ≡ true
is_there None run here = absurd (true≢false (sym here))
is_there (Some r) run here = refl

last_leads : (s : SlotState) (o : Option Rival) (told : Mail) (reading : ℕ) → IsSome (next_of s.pair (cue_of_last_run o)) → LeadsTo (Some (cue_of_last_run o)) s.pair (after_last_run o told reading s).state.pair
last_leads s None told reading is = leads (next_of s.pair cue.Finish) reading _ is
last_leads s (Some v) told reading is = leads (next_of s.pair cue.Handover) reading _ is

run_leads : (s : SlotState) (ending : Ending) (how : How) (reading : ℕ) (busy : Bool) → IsSome (next_of s.pair (if busy then cue.Rest else cue_of_last_run s.rival))
    → LeadsTo (Some (if busy then cue.Rest else cue_of_last_run s.rival)) s.pair (if busy then says (after_cue cue.Rest reading (without_run ending.run how reading s)) (Ended ending.run how ∷ []) else after_last_run s.rival (Ended ending.run how) reading (without_claim (without_run ending.run how reading s))).state.pair
run_leads s ending how reading true is = leads (next_of s.pair cue.Rest) reading _ is
run_leads s ending how reading false is = last_leads (without_claim (without_run ending.run how reading s)) s.rival (Ended ending.run how) reading is

pub end_leads : (boot : ℕ) (slot : SlotId) (s : SlotState) (ending : Ending) (reading : ℕ) → runs_on s ending.run ≡ true → IsConsistent boot slot s
    → LeadsTo (Some (cue_of_end s)) s.pair (after_ending ending reading s).state.pair
end_leads boot slot s ending reading here c =
    run_leads s ending (how_of ending.end (mark_in (running_of s))) reading (is_busy s.pair)
    (ends_known s.pair s.rival (sym c.busy ∙ is_there (running_of s) ending.run here))
