-- A run starts by the last row of an Activate alone.
use Rattle.std.proofs.Common.{◌≡◌, ℕ, ℤ, ◌<◌, Bool, true, false, not, inl, inr, List, Option, Some, None, IsSome, IsSomeAnd, is_some, nat_le, refl, if◌then◌else◌}
use Rattle.std.proofs.lemmas.Bool.Decides.{leb_tells}
use Rattle.ad_tree.specs.Ad.{Attributes}
use Rattle.ad_eval.specs.Judgement.{Judgement}
use Rattle.claim_id.specs.declared.numbers.JobId.{JobId}
use Rattle.claim_id.specs.declared.numbers.RunNo.{RunNo}
use Rattle.job_launch.specs.Launches.{launch_of}
use Rattle.pool_mail.specs.declared.mail.Mail.TheVariants.{Update, Matched, Ask, Granted, Denied, Activate, Alive, Seen, Stop, Release, Gone, Ended, Remove, Hold, Resume}
use Rattle.pool_outer.specs.declared.spawner.Launch.{Launch}
use Rattle.startd_slot.specs.declared.ask.AskRow.{AskRow}
use Rattle.startd_slot.specs.declared.ask.AskRow.TheVariants as asked_row
use Rattle.startd_slot.specs.declared.ask.Asked.{Asked}
use Rattle.startd_slot.specs.declared.held.Held.{Held}
use Rattle.startd_slot.specs.declared.held.Running.{Running}
use Rattle.startd_slot.specs.declared.reaction.Task.TheVariants as task
use Rattle.startd_slot.specs.declared.run_mails.Activation.{Activation}
use Rattle.startd_slot.specs.declared.run_mails.ActivateRow.{ActivateRow}
use Rattle.startd_slot.specs.declared.run_mails.ActivateRow.TheVariants as row
use Rattle.startd_slot.specs.declared.run_mails.KnownRun.{KnownRun}
use Rattle.startd_slot.specs.declared.run_mails.KnownRun.TheVariants as known
use Rattle.startd_slot.specs.declared.slot.Slot.{Slot}
use Rattle.startd_slot.specs.declared.slot.SlotState.{SlotState}
use Rattle.startd_slot.specs.ActivateTable.{new_row, claim_row, activate_row, after_activate_row}
use Rattle.startd_slot.specs.AskTable.{after_ask_row}
use Rattle.startd_slot.specs.RunTable.{after_alive_of, after_stop_of}
use Rattle.startd_slot.specs.SlotStates.{held_of}
use Rattle.startd_slot.specs.Mails.{reaction_to}
use Rattle.startd_slot.specs.Starting.{IsLaunch, IsReadyFor, RunsStartMatched}

-- ---- the row that starts
abbrev pub IsStart : ActivateRow → Type 0
IsStart (row.NotHeld spent) = ⊥
IsStart (row.Spent last) = ⊥
IsStart (row.Occupied run) = ⊥
IsStart row.Past = ⊥
IsStart row.NotMatched = ⊥
IsStart row.Starts = Unit {0}

pub launch_starts
    : (r : ActivateRow) (a : Activation) (what : Launch) (judged : Option Judgement) (reading : ℕ)
    (s : SlotState) → IsLaunch (after_activate_row r a what judged reading s).task
    → IsStart r × IsSome judged
launch_starts (row.NotHeld spent) a what judged reading s h = absurd h
launch_starts (row.Spent last) a what judged reading s h = absurd h
launch_starts (row.Occupied run) a what judged reading s h = absurd h
launch_starts row.Past a what judged reading s h = absurd h
launch_starts row.NotMatched a what judged reading s h = absurd h
launch_starts row.Starts a what None reading s h = absurd h
launch_starts row.Starts a what (Some j) reading s h = (tt, refl)

-- ---- when that row fits
free_starts : (a : Activation) (matched : Bool) (reading : ℕ) (late : Bool)
    → nat_le a.until reading ≡ late
    → IsStart (if late then row.Past else (if not matched then row.NotMatched else row.Starts))
    → reading < a.until
free_starts a matched reading true e h = absurd h
free_starts a matched reading false e h =
    elim (leb_tells a.until reading) [ inl t ↦ cc | inr f ↦ f.1 ]

new_starts : (r : Option Running) (a : Activation) (matched : Bool) (reading : ℕ)
    → IsStart (new_row r a matched reading) → (r ≡ None) × (reading < a.until)
new_starts (Some r) a matched reading h = absurd h
new_starts None a matched reading h = (refl, free_starts a matched reading _ refl h)

claim_starts : (held : Held) (a : Activation) (matched : Bool) (reading : ℕ) (used : Bool)
    → nat_le a.run.number held.last ≡ used
    → IsStart (if used then row.Spent held.last else new_row held.running a matched reading)
    → (held.last < a.run.number) × (held.running ≡ None) × (reading < a.until)
claim_starts held a matched reading true e h = absurd h
claim_starts held a matched reading false e h =
    let new = new_starts held.running a matched reading h in
    let above : held.last < a.run.number =
    elim (leb_tells a.run.number held.last) [ inl t ↦ cc | inr f ↦ f.1 ] in
    (above, new.0, new.1)

pub held_starts : (held : Option Held) (spent : Bool) (a : Activation) (matched : Bool) (reading : ℕ)
    → IsStart (claim_row held spent a matched reading)
    → IsSomeAnd held (λ h. (h.last < a.run.number) × (h.running ≡ None)) × (reading < a.until)
held_starts None spent a matched reading h = absurd h
held_starts (Some held) spent a matched reading h =
    let starts = claim_starts held a matched reading _ refl h in
    ((starts.0, starts.1), starts.2)

-- ---- no other mail starts a run
ask_starts_none
    : (r : AskRow) (a : Asked) (user : List ℕ) (rank : ℤ) (reading : ℕ) (s : SlotState)
    → IsLaunch (after_ask_row r a user rank reading s).task → ⊥
ask_starts_none asked_row.NotOffered a user rank reading s h = h
ask_starts_none asked_row.NotMatched a user rank reading s h = h
ask_starts_none asked_row.Granted a user rank reading s h = h
ask_starts_none (asked_row.RankTooLow old new) a user rank reading s h = h
ask_starts_none asked_row.HandedOver a user rank reading s h = h
ask_starts_none asked_row.MadeRival a user rank reading s h = h

alive_starts_none : (k : KnownRun) (run : RunNo) (until reading : ℕ) (s : SlotState)
    → IsLaunch (after_alive_of k run until reading s).task → ⊥
alive_starts_none known.Running run until reading s h = h
alive_starts_none (known.Ended how) run until reading s h = h
alive_starts_none known.OfHeldClaim run until reading s h = h
alive_starts_none known.Spent run until reading s h = h
alive_starts_none known.Unknown run until reading s h = h

stop_starts_none : (k : KnownRun) (run : RunNo) (s : SlotState)
    → IsLaunch (after_stop_of k run s).task → ⊥
stop_starts_none known.Running run s h = h
stop_starts_none (known.Ended how) run s h = h
stop_starts_none known.OfHeldClaim run s h = h
stop_starts_none known.Spent run s h = h
stop_starts_none known.Unknown run s h = h

pub launch_is : (r : ActivateRow) (a : Activation) (what : Launch) (judged : Option Judgement) (reading : ℕ) (s : SlotState)
    → IsLaunch (after_activate_row r a what judged reading s).task → (after_activate_row r a what judged reading s).task ≡ task.Launch a.run a.job what
launch_is (row.NotHeld spent) a what judged reading s h = absurd h
launch_is (row.Spent last) a what judged reading s h = absurd h
launch_is (row.Occupied run) a what judged reading s h = absurd h
launch_is row.Past a what judged reading s h = absurd h
launch_is row.NotMatched a what judged reading s h = absurd h
launch_is row.Starts a what None reading s h = absurd h
launch_is row.Starts a what (Some j) reading s h = refl

activate_starts : (boot : ℕ) (slot : Slot) (run : RunNo) (job : JobId) (ad : Attributes) (until : ℕ)
    (judged : Option Judgement) (reading : ℕ)
    → IsLaunch (reaction_to boot slot (Activate run job ad until) judged reading).task
    → (IsReadyFor slot.state run × (reading < until) × IsSome judged)
    × ((reaction_to boot slot (Activate run job ad until) judged reading).task ≡ task.Launch run job (launch_of ad))
unfolding reaction_to
activate_starts boot slot run job ad until judged reading h =
    let asked : Activation = record { run = run; job = job; until = until } in
    let fitting = activate_row slot.state boot asked (is_some judged) reading in
    let starts = launch_starts fitting asked _ judged reading _ h in
    let fits = held_starts (held_of slot.state run.claim) _ asked (is_some judged) reading starts.0
    in
    ((fits.0, fits.1, starts.1), launch_is fitting asked _ judged reading _ h)

pub runs_start_matched : RunsStartMatched
unfolding reaction_to
runs_start_matched boot slot (Activate run job ad until) judged reading h =
    activate_starts boot slot run job ad until judged reading h
runs_start_matched boot slot (Ask claim job ad by_priority) judged reading h =
    absurd (ask_starts_none _ _ _ _ _ _ h)
runs_start_matched boot slot (Alive run until) judged reading h =
    absurd (alive_starts_none _ run until reading _ h)
runs_start_matched boot slot (Stop run) judged reading h = absurd (stop_starts_none _ run _ h)
runs_start_matched boot slot (Update s) judged reading h = absurd h
runs_start_matched boot slot (Matched found) judged reading h = absurd h
runs_start_matched boot slot (Granted claim job) judged reading h = absurd h
runs_start_matched boot slot (Denied claim run job why) judged reading h = absurd h
runs_start_matched boot slot (Seen run until) judged reading h = absurd h
runs_start_matched boot slot (Release claim) judged reading h = absurd h
runs_start_matched boot slot (Gone run kept) judged reading h = absurd h
runs_start_matched boot slot (Ended run how) judged reading h = absurd h
runs_start_matched boot slot (Remove job) judged reading h = absurd h
runs_start_matched boot slot (Hold job) judged reading h = absurd h
runs_start_matched boot slot (Resume job) judged reading h = absurd h

-- the row that starts fits only a match
free_matched : (late matched : Bool) → IsStart (if late then row.Past else (if not matched then row.NotMatched else row.Starts)) → matched ≡ true
free_matched true matched h = absurd h
free_matched false true h = refl
free_matched false false h = absurd h

new_matched : (r : Option Running) (a : Activation) (matched : Bool) (reading : ℕ) → IsStart (new_row r a matched reading) → matched ≡ true
new_matched (Some r) a matched reading h = absurd h
new_matched None a matched reading h = free_matched (nat_le a.until reading) matched h

used_matched : (held : Held) (a : Activation) (matched : Bool) (reading : ℕ) (used : Bool) → IsStart (if used then row.Spent held.last else new_row held.running a matched reading) → matched ≡ true
used_matched held a matched reading true h = absurd h
used_matched held a matched reading false h = new_matched held.running a matched reading h

pub start_matched : (held : Option Held) (spent : Bool) (a : Activation) (matched : Bool) (reading : ℕ) → IsStart (claim_row held spent a matched reading) → matched ≡ true
start_matched None spent a matched reading h = absurd h
start_matched (Some held) spent a matched reading h = used_matched held a matched reading (nat_le a.run.number held.last) h
