-- What each row of a mail, the end of a run and a tick make of one slot: its spent runs stay so,
-- and no run comes on it but the one that is started.
use Rattle.std.proofs.Common.{◌≡◌, inl, inr, ℕ, ℤ, ◌+◌, ◌<◌, Bool, true, false, not, ◌&&◌, nat_le, List, [], ◌∷◌, Option, Some, None, IfSome, is_some, true≢false, refl, sym, ap, subst, arith, if◌then◌else◌}
use Rattle.std.specs.Prelude.{option_map}
use Rattle.ad_eval.specs.Judgement.{Judgement}
use Rattle.ad_tree.specs.Ad.{Attributes}
use Rattle.ad_eval.specs.Match.{rank_of}
use Rattle.claim_id.specs.declared.numbers.ClaimId.{ClaimId}
use Rattle.claim_id.specs.declared.numbers.ClaimNo.{ClaimNo}
use Rattle.claim_id.specs.declared.numbers.JobId.{JobId}
use Rattle.claim_id.specs.declared.numbers.RunNo.{RunNo}
use Rattle.claim_id.specs.declared.numbers.SlotId.{SlotId}
use Rattle.job_launch.specs.Launches.{launch_of}
use Rattle.pool_mail.specs.Ads.{owner_of}
use Rattle.pool_mail.specs.declared.end.Ending.{Ending}
use Rattle.pool_mail.specs.declared.end.How.{How}
use Rattle.pool_mail.specs.declared.mail.Mail.{Mail}
use Rattle.pool_mail.specs.declared.mail.Mail.TheVariants.{Update, Matched, Ask, Granted, Denied, Activate, Alive, Seen, Stop, Release, Gone, Ended, Remove, Hold, Resume}
use Rattle.pool_mail.specs.declared.settings.Settings.{Settings}
use Rattle.pool_outer.specs.declared.spawner.Launch.{Launch}
use Rattle.pool_view.proofs.Sameness.{same_run-same}
use Rattle.pool_view.specs.AbstractPool.{IsSpentAt}
use Rattle.pool_view.specs.Numbers.{same_run}
use Rattle.pool_view.specs.declared.run.Run.{Run}
use Rattle.pool_view.specs.SlotPart.{SlotPart}
use Rattle.claim_id.specs.declared.pair.Cue.TheVariants as cue
use Rattle.claim_id.specs.declared.pair.Pair.{Pair}
use Rattle.claim_id.specs.declared.pair.Pair.TheVariants.{OwnerIdle, UnclaimedIdle, MatchedIdle, ClaimedIdle, ClaimedBusy, ClaimedRetiring, PreemptingVacating, PreemptingKilling}
use Rattle.claim_id.specs.SlotTable.{next_of}
use Rattle.startd_slot.specs.declared.held.Held.{Held}
use Rattle.startd_slot.specs.declared.held.Rival.{Rival}
use Rattle.startd_slot.specs.declared.held.Running.{Running}
use Rattle.startd_slot.specs.declared.reaction.Reaction.{Reaction}
use Rattle.startd_slot.specs.declared.reaction.Task.{Task}
use Rattle.startd_slot.specs.declared.reaction.Task.TheVariants as task
use Rattle.startd_slot.specs.declared.slot.Slot.{Slot}
use Rattle.startd_slot.specs.declared.slot.SlotState.{SlotState}
use Rattle.startd_slot.specs.ActivateTable.{after_activate_row, begun, claim_row, free_row, new_row}
use Rattle.startd_slot.specs.AskTable.{after_ask_row, ask_row, contested_row, is_rank_too_low, is_unclaimed, offered_row, with_rival}
use Rattle.startd_slot.specs.EndingTable.{after_ending, after_last_run, how_of, mark_in}
use Rattle.startd_slot.specs.Mails.{reaction_to}
use Rattle.startd_slot.specs.Reactions.{becomes, says}
use Rattle.startd_slot.specs.ReleaseTable.{after_release_row, held_row, is_busy, release_row}
use Rattle.startd_slot.specs.RunTable.{after_alive_of, after_stop_of, ended_or_other, known_by_claim, known_run, unheld_run}
use Rattle.startd_slot.specs.SlotMoves.{held_mark, part_of_state, run_in_slot}
use Rattle.startd_slot.specs.SlotStates.{after_cue, claim_after_run, claim_with_number, claim_with_run, evicted, has_rival, heard_claim, heard_of, held_in, held_of, holds_claim, in_pair, is_run, is_spent, offers_claim, running_in, running_of, runs_on, slot_after_boot, stopped, with_claim, with_number, with_run, with_running, without_claim, without_run}
use Rattle.startd_core.specs.TickTable.{after_kill, after_tick_row, is_after, is_lease_past, is_start_on, is_unheard, row_in, slot_row}
use Rattle.desk.proofs.SlotCourse.{IsOfBoot, SlotGoes, Stays, claimed_stays, cue_stays, ended_stays, goes_after, goes_before, heard_stays, lengthened_run, no_run, number_stays, over_stays, running_stays, stays, stays_same}

-- ---- what a reaction does
abbrev pub is_started : Task → RunNo → Bool
is_started task.Nothing run = false
is_started (task.Launch launched job what) run = same_run launched run
is_started (task.Kill killed) run = false

-- a run that is started is on the slot then, and one that is killed was on it
abbrev pub Does : SlotState → SlotState → Task → Type 0
Does s t task.Nothing = Unit {0}
Does s t (task.Launch run job what) = runs_on t run ≡ true
Does s t (task.Kill run) = runs_on s run ≡ true

pub record ReactionGoes (boot : ℕ) (s : SlotState) (r : Reaction) : Type 0 where
  pub goes : SlotGoes boot boot (is_started r.task) s r.state
  pub does : Does s r.state r.task

pub word_goes : (boot : ℕ) (s t : SlotState) (ms : List Mail) → Stays boot s t → ReactionGoes boot s (says t ms)
word_goes boot s t ms goes = record { goes = goes; does = tt }

-- by a test, whatever is told apart
pub by_if : {R : Type 0} (F : R → Type 0) (x y : R) (b : Bool) → F x → F y → F (if b then x else y)
by_if F x y true then_x else_y = then_x
by_if F x y false then_x else_y = else_y

by_test : {R : Type 0} (F : R → Type 0) (x y : R) (b : Bool) → (b ≡ true → F x) → (b ≡ false → F y) → F (if b then x else y)
by_test F x y true then_x else_y = then_x refl
by_test F x y false then_x else_y = else_y refl

module _ (boot : ℕ) (slot : Slot) (own : IsOfBoot boot slot.state) where
  -- the slot stays so
  same_word : (ms : List Mail) → ReactionGoes boot slot.state (says slot.state ms)
  same_word ms = word_goes boot slot.state slot.state ms (stays_same boot slot.state)

  -- ---- an Ask
  rival_goes : (claim : ClaimId) (job : JobId) (by_priority : Bool) (user : List ℕ) (rank : ℤ) (reading : ℕ)
      → ReactionGoes boot slot.state (becomes (after_cue cue.Retire reading (with_rival (record { claim = claim; job = job; by_priority = by_priority }) user rank slot.state)))
  rival_goes claim job by_priority user rank reading =
      let t : SlotState = with_rival (record { claim = claim; job = job; by_priority = by_priority }) user rank slot.state in
      word_goes boot slot.state (after_cue cue.Retire reading t) []
      (goes_after boot boot _ slot.state t _ (stays boot slot.state t refl refl) (cue_stays boot (next_of t.pair cue.Retire) reading t))

  -- the claim is held where none was
  granted_goes : (t : SlotState) (claim : ClaimId) (user : List ℕ) (rank : ℤ) (o : Option Pair) (reading : ℕ) → t.held ≡ None → Stays boot t (in_pair o reading (with_claim claim user rank reading (record t { offer = None })))
  granted_goes t claim user rank o reading none =
      let u : SlotState = record t { offer = None } in
      let w : SlotState = with_claim claim user rank reading u in
      goes_after boot boot _ t u _ (stays boot t u refl refl) (goes_after boot boot _ u w _ (claimed_stays boot claim user rank reading u none) (cue_stays boot o reading w))

  contested_goes : (pair : Pair) (claim : ClaimId) (job : JobId) (by_priority : Bool) (user : List ℕ) (rank : ℤ) (reading : ℕ)
      → ReactionGoes boot slot.state (after_ask_row (contested_row pair) (record { claim = claim; job = job; by_priority = by_priority }) user rank reading slot.state)
  contested_goes ClaimedIdle claim job by_priority user rank reading =
      word_goes boot slot.state _ (Granted claim job ∷ [])
      (goes_after boot boot _ slot.state (without_claim slot.state) _ (over_stays boot slot.state own)
      (granted_goes (without_claim slot.state) claim user rank (next_of slot.state.pair cue.Handover) reading refl))
  contested_goes OwnerIdle claim job by_priority user rank reading = rival_goes claim job by_priority user rank reading
  contested_goes UnclaimedIdle claim job by_priority user rank reading = rival_goes claim job by_priority user rank reading
  contested_goes MatchedIdle claim job by_priority user rank reading = rival_goes claim job by_priority user rank reading
  contested_goes ClaimedBusy claim job by_priority user rank reading = rival_goes claim job by_priority user rank reading
  contested_goes ClaimedRetiring claim job by_priority user rank reading = rival_goes claim job by_priority user rank reading
  contested_goes PreemptingVacating claim job by_priority user rank reading = rival_goes claim job by_priority user rank reading
  contested_goes PreemptingKilling claim job by_priority user rank reading = rival_goes claim job by_priority user rank reading

  offered_goes : (o : Option Held) → slot.state.held ≡ o → (claim : ClaimId) (job : JobId) (by_priority : Bool) (user : List ℕ) (rank : ℤ) (reading : ℕ)
      → ReactionGoes boot slot.state (after_ask_row (offered_row o slot.state.pair by_priority rank) (record { claim = claim; job = job; by_priority = by_priority }) user rank reading slot.state)
  offered_goes None held claim job by_priority user rank reading =
      word_goes boot slot.state _ (Granted claim job ∷ []) (granted_goes slot.state claim user rank (next_of slot.state.pair cue.Grant) reading held)
  offered_goes (Some h) held claim job by_priority user rank reading =
      by_if (λ r. ReactionGoes boot slot.state (after_ask_row r (record { claim = claim; job = job; by_priority = by_priority }) user rank reading slot.state)) _ _ (is_rank_too_low h.rank by_priority rank)
      (same_word _) (contested_goes slot.state.pair claim job by_priority user rank reading)

  ask_goes : (claim : ClaimId) (job : JobId) (by_priority matched : Bool) (user : List ℕ) (rank : ℤ) (reading : ℕ)
      → ReactionGoes boot slot.state (after_ask_row (ask_row slot.state (record { claim = claim; job = job; by_priority = by_priority }) matched rank) (record { claim = claim; job = job; by_priority = by_priority }) user rank reading slot.state)
  ask_goes claim job by_priority matched user rank reading =
      by_if (λ r. ReactionGoes boot slot.state (after_ask_row r (record { claim = claim; job = job; by_priority = by_priority }) user rank reading slot.state)) _ _ (not (offers_claim slot.state claim))
      (same_word _)
      (by_if (λ r. ReactionGoes boot slot.state (after_ask_row r (record { claim = claim; job = job; by_priority = by_priority }) user rank reading slot.state)) _ _ (not matched)
      (same_word _) (offered_goes slot.state.held refl claim job by_priority user rank reading))

  -- ---- an Activate
  burned_goes : (number : ℕ) (t : SlotState) (ms : List Mail) → Stays boot slot.state t → ReactionGoes boot slot.state (says (with_number number t) ms)
  burned_goes number t ms goes = word_goes boot slot.state (with_number number t) ms (goes_after boot boot _ slot.state t _ goes (number_stays boot number t))

  -- a run is put on the slot
  put_goes : (r : Running) (t : SlotState) → Stays boot slot.state t → SlotGoes boot boot (same_run r.run) slot.state (with_run r t)
  put_goes r t goes = record { spent = λ run spent. by_spent run t.held (goes.spent run spent); runs = λ run here. inr (by_run run t.held here) }
    where
      by_spent : (run : RunNo) (o : Option Held) → IsSpentAt run (record { boot = boot; ended = t.passed; held = option_map held_mark o }) → IsSpentAt run (record { boot = boot; ended = t.passed; held = option_map held_mark (option_map (claim_with_run r) o) })
      by_spent run None spent = spent
      by_spent run (Some h) spent = spent

      by_run : (run : RunNo) (o : Option Held) → is_run (running_in (option_map (claim_with_run r) o)) run ≡ true → same_run r.run run ≡ true
      by_run run None here = absurd (true≢false (sym here))
      by_run run (Some h) here = here

  it_runs : (r : Running) (t : SlotState) → is_some t.held ≡ true → runs_on (with_run r t) r.run ≡ true
  it_runs r t held = by t.held held
    where
      by : (o : Option Held) → is_some o ≡ true → is_run (running_in (option_map (claim_with_run r) o)) r.run ≡ true
      by None held = absurd (true≢false (sym held))
      by (Some h) held = same_run-same r.run

  some_numbered : (number : ℕ) (o : Option Held) → is_some o ≡ true → is_some (option_map (claim_with_number number) o) ≡ true
  some_numbered number None held = held
  some_numbered number (Some h) held = refl

  cue_runs : (o : Option Pair) (reading : ℕ) (t : SlotState) (run : RunNo) → runs_on t run ≡ true → runs_on (in_pair o reading t) run ≡ true
  cue_runs None reading t run here = here
  cue_runs (Some pair) reading t run here = here

  begun_goes : (judged : Option Judgement) (run : RunNo) (job : JobId) (until : ℕ) (what : Launch) (reading : ℕ) (t : SlotState) → Stays boot slot.state t → is_some t.held ≡ true
      → ReactionGoes boot slot.state (begun judged (record { run = run; job = job; until = until }) what reading t)
  begun_goes None run job until what reading t goes held = word_goes boot slot.state t [] goes
  begun_goes (Some j) run job until what reading t goes held =
      let r : Running = record { run = run; job = job; until = until; mark = None; judged = j } in
      let n : SlotState = with_number run.number t in
      let u : SlotState = with_run r n in
      record {
        goes = goes_before boot boot (same_run run) slot.state u _ (put_goes r n (goes_after boot boot _ slot.state t n goes (number_stays boot run.number t))) (cue_stays boot (next_of u.pair cue.Begin) reading u);
        does = cue_runs (next_of u.pair cue.Begin) reading u run (it_runs r n (some_numbered run.number t.held held));
      }

  free_goes : (run : RunNo) (job : JobId) (until : ℕ) (what : Launch) (judged : Option Judgement) (reading : ℕ) (t : SlotState) → Stays boot slot.state t → is_some t.held ≡ true
      → ReactionGoes boot slot.state (after_activate_row (free_row (record { run = run; job = job; until = until }) (is_some judged) reading) (record { run = run; job = job; until = until }) what judged reading t)
  free_goes run job until what judged reading t goes held =
      by_if (λ r. ReactionGoes boot slot.state (after_activate_row r (record { run = run; job = job; until = until }) what judged reading t)) _ _ (nat_le until reading)
      (burned_goes run.number t _ goes)
      (by_if (λ r. ReactionGoes boot slot.state (after_activate_row r (record { run = run; job = job; until = until }) what judged reading t)) _ _ (not (is_some judged))
      (burned_goes run.number t _ goes) (begun_goes judged run job until what reading t goes held))

  claimed_goes : (o : Option Held) (spent : Bool) (run : RunNo) (job : JobId) (until : ℕ) (what : Launch) (judged : Option Judgement) (reading : ℕ) (t : SlotState) → Stays boot slot.state t → (is_some o ≡ true → is_some t.held ≡ true)
      → ReactionGoes boot slot.state (after_activate_row (claim_row o spent (record { run = run; job = job; until = until }) (is_some judged) reading) (record { run = run; job = job; until = until }) what judged reading t)
  claimed_goes None spent run job until what judged reading t goes held = word_goes boot slot.state t _ goes
  claimed_goes (Some h) spent run job until what judged reading t goes held =
      by_if (λ r. ReactionGoes boot slot.state (after_activate_row r (record { run = run; job = job; until = until }) what judged reading t)) _ _ (nat_le run.number h.last)
      (word_goes boot slot.state t _ goes)
      (by_running h.running)
    where
      by_running : (o : Option Running) → ReactionGoes boot slot.state (after_activate_row (new_row o (record { run = run; job = job; until = until }) (is_some judged) reading) (record { run = run; job = job; until = until }) what judged reading t)
      by_running None = free_goes run job until what judged reading t goes (held refl)
      by_running (Some r) = burned_goes run.number t _ goes

  some_heard : (claim : ClaimNo) (reading : ℕ) → is_some (held_of slot.state claim) ≡ true → is_some (heard_of claim reading slot.state).held ≡ true
  some_heard claim reading is = by slot.state.held is
    where
      by : (o : Option Held) → is_some (held_in o claim) ≡ true → is_some (option_map (heard_claim claim reading) o) ≡ true
      by None is = is
      by (Some h) is = refl

  -- ---- an Alive and a Stop
  alive_ended : (o : Option (RunNo × How)) (run : RunNo) (until reading : ℕ) (t : SlotState) → Stays boot slot.state t → ReactionGoes boot slot.state (after_alive_of (ended_or_other o run) run until reading t)
  alive_ended None run until reading t goes = burned_goes run.number t _ goes
  alive_ended (Some e) run until reading t goes = by_if (λ k. ReactionGoes boot slot.state (after_alive_of k run until reading t)) _ _ (same_run e.0 run)
      (word_goes boot slot.state t _ goes) (burned_goes run.number t _ goes)

  alive_unheld : (spent : Bool) (run : RunNo) (until reading : ℕ) (t : SlotState) → Stays boot slot.state t → ReactionGoes boot slot.state (after_alive_of (unheld_run spent) run until reading t)
  alive_unheld true run until reading t goes = word_goes boot slot.state t _ goes
  alive_unheld false run until reading t goes = word_goes boot slot.state t _ goes

  alive_held : (o : Option Held) (spent : Bool) (run : RunNo) (until reading : ℕ) (t : SlotState) → Stays boot slot.state t → ReactionGoes boot slot.state (after_alive_of (known_by_claim o spent run) run until reading t)
  alive_held None spent run until reading t goes = alive_unheld spent run until reading t goes
  alive_held (Some h) spent run until reading t goes = alive_ended h.ended run until reading t goes

  alive_goes : (run : RunNo) (until reading : ℕ) (t : SlotState) → Stays boot slot.state t → ReactionGoes boot slot.state (after_alive_of (known_run slot.state boot run) run until reading t)
  alive_goes run until reading t goes =
      by_if (λ k. ReactionGoes boot slot.state (after_alive_of k run until reading t)) _ _ (runs_on slot.state run)
      (word_goes boot slot.state _ _ (goes_after boot boot _ slot.state t _ goes (running_stays boot _ t (lengthened_run until reading))))
      (alive_held (held_of slot.state run.claim) (is_spent slot.state boot run) run until reading t goes)

  stop_ended : (o : Option (RunNo × How)) (run : RunNo) → ReactionGoes boot slot.state (after_stop_of (ended_or_other o run) run slot.state)
  stop_ended None run = burned_goes run.number slot.state _ (stays_same boot slot.state)
  stop_ended (Some e) run = by_if (λ k. ReactionGoes boot slot.state (after_stop_of k run slot.state)) _ _ (same_run e.0 run)
      (same_word _) (burned_goes run.number slot.state _ (stays_same boot slot.state))

  stop_unheld : (spent : Bool) (run : RunNo) → ReactionGoes boot slot.state (after_stop_of (unheld_run spent) run slot.state)
  stop_unheld true run = same_word _
  stop_unheld false run = same_word _

  stop_held : (o : Option Held) (spent : Bool) (run : RunNo) → ReactionGoes boot slot.state (after_stop_of (known_by_claim o spent run) run slot.state)
  stop_held None spent run = stop_unheld spent run
  stop_held (Some h) spent run = stop_ended h.ended run

  stop_goes : (run : RunNo) → ReactionGoes boot slot.state (after_stop_of (known_run slot.state boot run) run slot.state)
  stop_goes run =
      by_test (λ k. ReactionGoes boot slot.state (after_stop_of k run slot.state)) _ _ (runs_on slot.state run)
      (λ here. record { goes = running_stays boot stopped slot.state (λ r. refl); does = here })
      (λ elsewhere. stop_held (held_of slot.state run.claim) (is_spent slot.state boot run) run)

  -- ---- a Release
  held_release : (o : Option Running) (reading : ℕ) → Stays boot slot.state (after_release_row (held_row o slot.state.pair) reading slot.state)
  held_release None reading = goes_after boot boot _ slot.state (without_claim slot.state) _ (over_stays boot slot.state own) (cue_stays boot (next_of slot.state.pair cue.Finish) reading (without_claim slot.state))
  held_release (Some r) reading = by_if (λ k. Stays boot slot.state (after_release_row k reading slot.state)) _ _ (is_busy slot.state.pair)
      (cue_stays boot (next_of slot.state.pair cue.Retire) reading slot.state) (stays_same boot slot.state)

  release_goes : (claim : ClaimNo) (reading : ℕ) → Stays boot slot.state (after_release_row (release_row slot.state claim) reading slot.state)
  release_goes claim reading = by_if (λ k. Stays boot slot.state (after_release_row k reading slot.state)) _ _ (holds_claim slot.state claim) (held_release (running_of slot.state) reading)
      (by_if (λ k. Stays boot slot.state (after_release_row k reading slot.state)) _ _ (has_rival slot.state claim) (stays boot slot.state _ refl refl) (stays_same boot slot.state))

  -- ---- all mails
  matched_goes : (b : Bool) (reading : ℕ) → Stays boot slot.state (if b then after_cue cue.Match reading slot.state else slot.state)
  matched_goes true reading = cue_stays boot (next_of slot.state.pair cue.Match) reading slot.state
  matched_goes false reading = stays_same boot slot.state

  pub mail_goes : (mail : Mail) (judged : Option Judgement) (reading : ℕ) → ReactionGoes boot slot.state (reaction_to boot slot mail judged reading)
  unfolding reaction_to
  mail_goes (Ask claim job ad by_priority) judged reading = ask_goes claim job by_priority (is_some judged) (owner_of ad) (rank_of slot.ad ad reading) reading
  mail_goes (Activate run job ad until) judged reading =
      claimed_goes (held_of slot.state run.claim) (is_spent slot.state boot run) run job until (launch_of ad) judged reading (heard_of run.claim reading slot.state) (heard_stays boot run.claim reading slot.state) (some_heard run.claim reading)
  mail_goes (Alive run until) judged reading = alive_goes run until reading (heard_of run.claim reading slot.state) (heard_stays boot run.claim reading slot.state)
  mail_goes (Stop run) judged reading = stop_goes run
  mail_goes (Release claim) judged reading = word_goes boot slot.state _ [] (release_goes claim reading)
  mail_goes (Matched found) judged reading = word_goes boot slot.state _ [] (matched_goes (is_unclaimed slot.state.pair && offers_claim slot.state found.claim) reading)
  mail_goes (Update u) judged reading = same_word []
  mail_goes (Granted claim job) judged reading = same_word []
  mail_goes (Denied claim run job why) judged reading = same_word []
  mail_goes (Seen run until) judged reading = same_word []
  mail_goes (Gone run kept) judged reading = same_word []
  mail_goes (Ended run how) judged reading = same_word []
  mail_goes (Remove job) judged reading = same_word []
  mail_goes (Hold job) judged reading = same_word []
  mail_goes (Resume job) judged reading = same_word []

-- ---- the end of a run
last_goes : (boot : ℕ) (o : Option Rival) (told : Mail) (reading : ℕ) (s : SlotState) → s.held ≡ None → ReactionGoes boot s (after_last_run o told reading s)
last_goes boot None told reading s none = word_goes boot s _ _ (cue_stays boot (next_of s.pair cue.Finish) reading s)
last_goes boot (Some rival) told reading s none =
    let t : SlotState = record s { rival = None } in
    let u : SlotState = with_claim rival.claim rival.user rival.rank reading t in
    word_goes boot s _ _ (goes_after boot boot _ s t _ (stays boot s t refl refl) (goes_after boot boot _ t u _ (claimed_stays boot rival.claim rival.user rival.rank reading t none) (cue_stays boot (next_of u.pair cue.Handover) reading u)))

-- nothing is to be done
last_asks : (o : Option Rival) (told : Mail) (reading : ℕ) (s : SlotState) → (after_last_run o told reading s).task ≡ task.Nothing
last_asks None told reading s = refl
last_asks (Some rival) told reading s = refl

reaction_after : (boot : ℕ) (s t : SlotState) (r : Reaction) → Stays boot s t → ReactionGoes boot t r → r.task ≡ task.Nothing → ReactionGoes boot s r
reaction_after boot s t r stays goes none = record {
  goes = goes_after boot boot (is_started r.task) s t r.state stays goes.goes;
  does = subst (Does s r.state) (sym none) tt;
}

pub end_goes : (boot : ℕ) (s : SlotState) (ending : Ending) (reading : ℕ) → IsOfBoot boot s → ReactionGoes boot s (after_ending ending reading s)
end_goes boot s ending reading own = by_busy (is_busy s.pair) (how_of ending.end (mark_in (running_of s)))
  where
    still : (run : RunNo) (how : How) (o : Option Held) → IfSome o (λ h. h.claim.no.boot ≡ boot) → IfSome (option_map (claim_after_run run how reading) o) (λ h. h.claim.no.boot ≡ boot)
    still run how None own = tt
    still run how (Some h) own = own

    by_busy : (busy : Bool) (how : How) → ReactionGoes boot s (if busy then says (after_cue cue.Rest reading (without_run ending.run how reading s)) (Ended ending.run how ∷ [])
        else after_last_run s.rival (Ended ending.run how) reading (without_claim (without_run ending.run how reading s)))
    by_busy true how =
        let t : SlotState = without_run ending.run how reading s in
        word_goes boot s _ _ (goes_after boot boot _ s t _ (ended_stays boot ending.run how reading s) (cue_stays boot (next_of t.pair cue.Rest) reading t))
    by_busy false how =
        let t : SlotState = without_run ending.run how reading s in
        let u : SlotState = without_claim t in
        reaction_after boot s u _ (goes_after boot boot _ s t u (ended_stays boot ending.run how reading s) (over_stays boot t (still ending.run how s.held own)))
        (last_goes boot s.rival (Ended ending.run how) reading u refl) (last_asks s.rival (Ended ending.run how) reading u)

-- ---- a tick
module _ (boot : ℕ) (s : SlotState) (set : Settings) (reading : ℕ) (own : IsOfBoot boot s) where
  killed_goes : Stays boot s (after_kill reading s)
  killed_goes =
      let t : SlotState = with_running evicted s in
      goes_after boot boot _ s t _ (running_stays boot evicted s (λ r. refl)) (cue_stays boot (next_of t.pair cue.Kill) reading t)

  row_goes : (p : Pair) (start : Bool) → Stays boot s (after_tick_row (row_in p s set start reading) reading s)
  row_goes OwnerIdle start = by_if (λ r. Stays boot s (after_tick_row r reading s)) _ _ start (cue_stays boot (next_of s.pair cue.StartOn) reading s) (stays_same boot s)
  row_goes UnclaimedIdle start = by_if (λ r. Stays boot s (after_tick_row r reading s)) _ _ (not start) (cue_stays boot (next_of s.pair cue.StartOff) reading s) (stays_same boot s)
  row_goes MatchedIdle start = by_if (λ r. Stays boot s (after_tick_row r reading s)) _ _ (not start) (cue_stays boot (next_of s.pair cue.StartOff) reading s)
      (by_if (λ r. Stays boot s (after_tick_row r reading s)) _ _ (is_after s.entered set.match_timeout reading) (cue_stays boot (next_of s.pair cue.Lapse) reading s) (stays_same boot s))
  row_goes ClaimedIdle start = by_if (λ r. Stays boot s (after_tick_row r reading s)) _ _ (is_unheard s.held set.claim_lease reading)
      (goes_after boot boot _ s (without_claim s) _ (over_stays boot s own) (cue_stays boot (next_of s.pair cue.Finish) reading (without_claim s))) (stays_same boot s)
  row_goes ClaimedBusy start = by_if (λ r. Stays boot s (after_tick_row r reading s)) _ _ (is_lease_past s reading) killed_goes (stays_same boot s)
  row_goes ClaimedRetiring start = by_if (λ r. Stays boot s (after_tick_row r reading s)) _ _ (is_lease_past s reading) killed_goes
      (by_if (λ r. Stays boot s (after_tick_row r reading s)) _ _ (is_after s.entered set.retirement reading) (cue_stays boot (next_of s.pair cue.Vacate) reading s) (stays_same boot s))
  row_goes PreemptingVacating start = by_if (λ r. Stays boot s (after_tick_row r reading s)) _ _ (is_lease_past s reading) killed_goes
      (by_if (λ r. Stays boot s (after_tick_row r reading s)) _ _ (is_after s.entered set.vacate reading) killed_goes (stays_same boot s))
  row_goes PreemptingKilling start = stays_same boot s

pub tick_goes : (boot : ℕ) (slot : Slot) (set : Settings) (reading : ℕ) → IsOfBoot boot slot.state → Stays boot slot.state (after_tick_row (slot_row slot set reading) reading slot.state)
tick_goes boot slot set reading own = row_goes boot slot.state set reading own slot.state.pair (is_start_on slot.ad reading)

-- ---- a boot
pub boot_goes : (boot : ℕ) (s : SlotState) (reading : ℕ) → IsOfBoot boot s → SlotGoes boot (boot + 1) no_run s (slot_after_boot reading)
boot_goes boot s reading own = record { spent = λ run spent. inl (by run s.held own spent); runs = λ run here. absurd (true≢false (sym here)) }
  where
    by : (run : RunNo) (o : Option Held) → IfSome o (λ h. h.claim.no.boot ≡ boot) → IsSpentAt run (record { boot = boot; ended = s.passed; held = option_map held_mark o }) → run.claim.boot < boot + 1
    by run o own (inl earlier) = omega (arith, earlier)
    by run o own (inr (inl ended)) = let same = ended.0 in omega (arith, same)
    by run None own (inr (inr is_used)) = absurd is_used
    by run (Some h) own (inr (inr is_used)) = let same : h.claim.no.boot ≡ run.claim.boot = ap (λ (c : ClaimNo). c.boot) is_used.0 in omega (arith, same, own)

-- ---- a state that is the same part of the protocol
pub part_stays : (boot : ℕ) (slot : SlotId) (ad : Attributes) (s t : SlotState) → part_of_state boot slot ad t ≡ part_of_state boot slot ad s → Stays boot s t
part_stays boot slot ad s t same = record {
  spent = λ run spent. subst (λ (x : SlotPart). IsSpentAt run x.mark) (sym same) spent;
  runs = λ run here. inl (back run s (subst (λ (x : SlotPart). has_run x.run run ≡ true) same (there run t here)));
}
  where
    has_run : Option Run → RunNo → Bool
    has_run None run = false
    has_run (Some r) run = same_run r.run run

    there : (run : RunNo) (t : SlotState) → runs_on t run ≡ true → has_run (option_map (run_in_slot slot) (running_of t)) run ≡ true
    there run t here = by (running_of t) here
      where
        by : (o : Option Running) → is_run o run ≡ true → has_run (option_map (run_in_slot slot) o) run ≡ true
        by None here = here
        by (Some r) here = here

    back : (run : RunNo) (s : SlotState) → has_run (option_map (run_in_slot slot) (running_of s)) run ≡ true → runs_on s run ≡ true
    back run s here = by (running_of s) here
      where
        by : (o : Option Running) → has_run (option_map (run_in_slot slot) o) run ≡ true → is_run o run ≡ true
        by None here = here
        by (Some r) here = here
