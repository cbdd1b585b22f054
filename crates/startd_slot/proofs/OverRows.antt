-- Which runs a slot says to be over.
use Rattle.std.proofs.Common.{◌≡◌, ℕ, ℤ, ◌<◌, ◌≤◌, Bool, true, false, ◌&&◌, ◌||◌, ◌==◌, nat_lt, nat_le, List, [], ◌∷◌, max, Option, Some, None, IfSome, IsSome, IsSomeAnd, is_some, option_map, true≢false, eq-eqb, refl, sym, ◌∙◌, ap, subst, arith, if◌then◌else◌}
use Rattle.ad_eval.specs.Judgement.{Judgement}
use Rattle.ad_eval.specs.Match.{rank_of}
use Rattle.claim_id.specs.declared.numbers.ClaimNo.{ClaimNo}
use Rattle.claim_id.specs.declared.numbers.RunNo.{RunNo}
use Rattle.claim_id.specs.declared.numbers.SlotId.{SlotId}
use Rattle.job_launch.specs.Launches.{launch_of}
use Rattle.pool_mail.specs.Ads.{owner_of}
use Rattle.pool_mail.specs.declared.end.Ending.{Ending}
use Rattle.pool_mail.specs.declared.end.How.{How}
use Rattle.pool_mail.specs.declared.mail.Mail.{Mail}
use Rattle.pool_mail.specs.declared.mail.Mail.TheVariants.{Update, Matched, Ask, Granted, Denied, Activate, Alive, Seen, Stop, Release, Gone, Ended, Remove, Hold, Resume}
use Rattle.pool_outer.specs.declared.spawner.Launch.{Launch}
use Rattle.pool_view.specs.Numbers.{same_claim, same_run}
use Rattle.claim_id.specs.declared.pair.Cue.TheVariants as cue
use Rattle.claim_id.specs.declared.pair.Pair.{Pair}
use Rattle.claim_id.specs.SlotTable.{next_of}
use Rattle.startd_slot.specs.declared.ask.AskRow.{AskRow}
use Rattle.startd_slot.specs.declared.ask.AskRow.TheVariants as asked_row
use Rattle.startd_slot.specs.declared.ask.Asked.{Asked}
use Rattle.startd_slot.specs.declared.held.Held.{Held}
use Rattle.startd_slot.specs.declared.held.Rival.{Rival}
use Rattle.startd_slot.specs.declared.held.Running.{Running}
use Rattle.startd_slot.specs.declared.run_mails.Activation.{Activation}
use Rattle.startd_slot.specs.declared.run_mails.ActivateRow.{ActivateRow}
use Rattle.startd_slot.specs.declared.run_mails.ActivateRow.TheVariants as row
use Rattle.startd_slot.specs.declared.run_mails.KnownRun.{KnownRun}
use Rattle.startd_slot.specs.declared.run_mails.KnownRun.TheVariants as known
use Rattle.startd_slot.specs.declared.slot.Slot.{Slot}
use Rattle.startd_slot.specs.declared.slot.SlotState.{SlotState}
use Rattle.startd_slot.specs.ActivateTable.{activate_row, after_activate_row, gone_where}
use Rattle.startd_slot.specs.AskTable.{ask_row, after_ask_row}
use Rattle.startd_slot.specs.Consistent.{IsConsistent, IsOwnClaim, IsOwnRun, HasOwnRuns}
use Rattle.startd_slot.specs.EndingTable.{after_ending, after_last_run, how_of, mark_in}
use Rattle.startd_slot.specs.Mails.{reaction_to}
use Rattle.startd_slot.specs.Over.{IsOver, SayOnlyOver}
use Rattle.startd_slot.specs.Reactions.{says}
use Rattle.startd_slot.specs.ReleaseTable.{is_busy}
use Rattle.startd_slot.specs.RunTable.{known_run, after_alive_of, after_stop_of}
use Rattle.startd_slot.specs.SlotStates.{held_in, held_of, in_pair, after_cue, running_in, running_of, is_run, runs_on, is_used_in, is_spent, heard_claim, heard_of, with_number, with_claim, without_run, without_claim}
use Rattle.startd_slot.proofs.Keeps.{heard_kept}
use Rattle.startd_slot.proofs.Rows.{ActivateKnown, activate_known, IsNewOf, RunKnown, run_known}
use Rattle.startd_slot.proofs.SameNumbers.{same_claim-true, same_claim-same, same_run-true}

-- ---- when a run is spent
third_true : (a b c : Bool) → c ≡ true → (a || b || c) ≡ true
third_true true true c is = refl
third_true true false c is = refl
third_true false true c is = refl
third_true false false c is = is

second_true : (a b c : Bool) → b ≡ true → (a || b || c) ≡ true
second_true true b c is = refl
second_true false true c is = refl
second_true false false c is = absurd (true≢false (sym is))

both_are : (a b : Bool) → a ≡ true → b ≡ true → (a && b) ≡ true
both_are true true p q = refl
both_are true false p q = q
both_are false b p q = p

-- its claim is held, and has used its number
used_spent : (s : SlotState) (boot : ℕ) (run : RunNo) (h : Held) → s.held ≡ Some h → h.claim.no ≡ run.claim → run.number ≤ h.last → is_spent s boot run ≡ true
used_spent s boot run h held claim used = third_true (nat_lt run.claim.boot boot) ((run.claim.boot == boot) && nat_le run.claim.seq s.passed) (is_used_in s.held run)
    (subst (λ o. is_used_in o run ≡ true) (sym held) (both_are (same_claim h.claim.no run.claim) (nat_le run.number h.last)
    (subst (λ (c : ClaimNo). same_claim c run.claim ≡ true) (sym claim) (same_claim-same run.claim)) (le_true run.number h.last used)))
  where
    le_true : (a b : ℕ) → a ≤ b → nat_le a b ≡ true
    le_true a b le = grind arith

-- its claim has ended
passed_spent : (s : SlotState) (boot : ℕ) (run : RunNo) → run.claim.boot ≡ boot → run.claim.seq ≤ s.passed → is_spent s boot run ≡ true
passed_spent s boot run same passed = second_true (nat_lt run.claim.boot boot) ((run.claim.boot == boot) && nat_le run.claim.seq s.passed) (is_used_in s.held run)
    (both_are (run.claim.boot == boot) (nat_le run.claim.seq s.passed) (eq-eqb run.claim.boot boot same) (le_true run.claim.seq s.passed passed))
  where
    le_true : (a b : ℕ) → a ≤ b → nat_le a b ≡ true
    le_true a b le = grind arith

-- ---- a claim is heard of
pub heard_same : (P : Option Held → Type 0) (s : SlotState) (claim : ClaimNo) (reading : ℕ) → ((h : Held) (x : ℕ) → P (Some h) → P (Some (record h { heard = x }))) → P s.held → P (heard_of claim reading s).held
heard_same P s claim reading each p = by_held s.held p
  where
    by_heard : (h : Held) (b : Bool) → P (Some h) → P (Some (if b then record h { heard = reading } else h))
    by_heard h true p = each h reading p
    by_heard h false p = p

    by_held : (o : Option Held) → P o → P (option_map (heard_claim claim reading) o)
    by_held None p = p
    by_held (Some h) p = by_heard h (same_claim h.claim.no claim) p

pub over_heard : (s : SlotState) (boot : ℕ) (run : RunNo) (claim : ClaimNo) (reading : ℕ) → IsOver boot s run → IsOver boot (heard_of claim reading s) run
over_heard s boot run claim reading over =
    heard_same (λ o. IsOver boot (record s { held = o }) run) s claim reading (λ h x is. is) over

-- what the slot holds for a claim
pub held_heard : (Q : Held → Type 0) (s : SlotState) (of claim : ClaimNo) (reading : ℕ) → ((h : Held) (x : ℕ) → Q h → Q (record h { heard = x })) → IsSomeAnd (held_of s of) Q → IsSomeAnd (held_of (heard_of claim reading s) of) Q
held_heard Q s of claim reading each q = heard_same (λ o. IsSomeAnd (held_in o of) Q) s claim reading by_same q
  where
    by_test : (h : Held) (x : ℕ) (same : Bool) → IsSomeAnd (if same then Some h else None) Q → IsSomeAnd (if same then Some (record h { heard = x }) else None) Q
    by_test h x true q = each h x q
    by_test h x false q = absurd q

    by_same : (h : Held) (x : ℕ) → IsSomeAnd (held_in (Some h) of) Q → IsSomeAnd (held_in (Some (record h { heard = x })) of) Q
    by_same h x q = by_test h x (same_claim h.claim.no of) q

-- ---- what is held
-- from what the slot holds for a claim, what it holds
pub record HeldFor (s : SlotState) (claim : ClaimNo) (Q : Held → Type 0) : Type 0 where
  pub held : Held
  pub is : s.held ≡ Some held
  pub its : held.claim.no ≡ claim
  pub known : Q held

pub held_for : (s : SlotState) (claim : ClaimNo) (Q : Held → Type 0) → IsSomeAnd (held_of s claim) Q → HeldFor s claim Q
held_for s claim Q q = by_held s.held refl q
  where
    by_same : (h : Held) (same : Bool) → same_claim h.claim.no claim ≡ same → s.held ≡ Some h → IsSomeAnd (if same then Some h else None) Q → HeldFor s claim Q
    by_same h true same at q = record { held = h; is = at; its = same_claim-true h.claim.no claim same; known = q }
    by_same h false same at q = absurd q

    by_held : (o : Option Held) → s.held ≡ o → IsSomeAnd (held_in o claim) Q → HeldFor s claim Q
    by_held None at q = absurd q
    by_held (Some h) at q = by_same h (same_claim h.claim.no claim) refl at q

some_and : (o : Option Held) → IsSome o → IsSomeAnd o (λ h. Unit {0})
some_and None is = absurd (true≢false (sym is))
some_and (Some h) is = tt

-- a run of a claim that isn't held isn't there
pub not_here : (boot : ℕ) (slot : SlotId) (s : SlotState) (run : RunNo) → held_of s run.claim ≡ None → IsConsistent boot slot s → runs_on s run ≡ false
not_here boot slot s run none c = by_held s.held none c.held
  where
    by_test : (h : Held) (r : Running) (here : Bool) → same_run r.run run ≡ here → (if same_claim h.claim.no run.claim then Some h else None) ≡ None → r.run.claim ≡ h.claim.no → here ≡ false
    by_test h r false is none claim = refl
    by_test h r true is none claim =
        let same : r.run ≡ run = same_run-true r.run run is in
        let its : same_claim h.claim.no run.claim ≡ true = subst (λ (x : RunNo). same_claim h.claim.no x.claim ≡ true) same (subst (λ (k : ClaimNo). same_claim h.claim.no k ≡ true) (sym claim) (same_claim-same h.claim.no)) in
        let some : Some h ≡ None = subst (λ b. (if b then Some h else None) ≡ None) its none in
        cc

    by_running : (h : Held) (o : Option Running) → (if same_claim h.claim.no run.claim then Some h else None) ≡ None → IfSome o (λ r. IsOwnRun h r.run) → is_run o run ≡ false
    by_running h None none own = refl
    by_running h (Some r) none own = by_test h r (same_run r.run run) refl none own.0

    by_held : (o : Option Held) → held_in o run.claim ≡ None → IfSome o (λ h. IsOwnClaim boot slot s h.claim.no × HasOwnRuns h) → is_run (running_in o) run ≡ false
    by_held None none own = refl
    by_held (Some h) none own = by_running h h.running none own.1.0

-- the run that is there has no number above those that its claim has used
pub new_is_not_here : (boot : ℕ) (slot : SlotId) (s : SlotState) (run : RunNo) → IsNewOf s run → IsConsistent boot slot s → runs_on s run ≡ false
new_is_not_here boot slot s run new c = by_own (held_for s run.claim (λ h. h.last < run.number) new)
  where
    by_test : (h : Held) (r : Running) (here : Bool) → same_run r.run run ≡ here → h.last < run.number → r.run.number ≤ h.last → here ≡ false
    by_test h r false is new used = refl
    by_test h r true is new used = (let same : r.run ≡ run = same_run-true r.run run is in let number : r.run.number ≡ run.number = ap (λ (x : RunNo). x.number) same in absurd (omega arith))

    by_running : (h : Held) (o : Option Running) → h.last < run.number → IfSome o (λ r. IsOwnRun h r.run) → is_run o run ≡ false
    by_running h None new own = refl
    by_running h (Some r) new own = by_test h r (same_run r.run run) refl new own.1

    by_own : HeldFor s run.claim (λ h. h.last < run.number) → runs_on s run ≡ false
    by_own f =
        let own = subst (λ o. IfSome o (λ h. IsOwnClaim boot slot s h.claim.no × HasOwnRuns h)) f.is c.held in
        subst (λ o. is_run (running_in o) run ≡ false) (sym f.is) (by_running f.held f.held.running f.known own.1.0)

-- ---- a number that is used up
running_used : (s : SlotState) (run : RunNo) (n : ℕ) → runs_on (with_number n s) run ≡ runs_on s run
running_used s run n = by_held s.held
  where
    by_held : (o : Option Held) → is_run (running_in (with_number n (record s { held = o })).held) run ≡ is_run (running_in o) run
    by_held None = refl
    by_held (Some h) = refl

-- the number of a run whose claim is held
pub used_up : (s : SlotState) (boot : ℕ) (run : RunNo) (Q : Held → Type 0) → IsSomeAnd (held_of s run.claim) Q → is_spent (with_number run.number s) boot run ≡ true
used_up s boot run Q q = by_own (held_for s run.claim Q q)
  where
    by_own : HeldFor s run.claim Q → is_spent (with_number run.number s) boot run ≡ true
    by_own f = used_spent (with_number run.number s) boot run (record f.held { last = max f.held.last run.number })
        (ap (option_map (λ (h : Held). record h { last = max h.last run.number })) f.is) f.its (omega arith)

burnt_over : (boot : ℕ) (slot : SlotId) (s : SlotState) (run : RunNo) → IsNewOf s run → IsConsistent boot slot s → IsOver boot (with_number run.number s) run
burnt_over boot slot s run new c =
    (used_up s boot run (λ h. h.last < run.number) new, running_used s run run.number ∙ new_is_not_here boot slot s run new c)

-- the last run that has ended
ended_over : (boot : ℕ) (slot : SlotId) (s : SlotState) (run : RunNo) (how : How) → IsSomeAnd (held_of s run.claim) (λ h. h.ended ≡ Some (run, how)) → runs_on s run ≡ false → IsConsistent boot slot s → IsOver boot s run
ended_over boot slot s run how ended off c = (by_own (held_for s run.claim (λ h. h.ended ≡ Some (run, how)) ended), off)
  where
    by_own : HeldFor s run.claim (λ h. h.ended ≡ Some (run, how)) → is_spent s boot run ≡ true
    by_own f =
        let own = subst (λ o. IfSome o (λ h. IsOwnClaim boot slot s h.claim.no × HasOwnRuns h)) f.is c.held in
        let last : IsOwnRun f.held run = subst (λ o. IfSome o (λ e. IsOwnRun f.held e.0)) f.known own.1.1 in
        used_spent s boot run f.held f.is f.its last.1

-- ---- rows
ask_over : (boot : ℕ) (s : SlotState) (r : AskRow) (asked : Asked) (user : List ℕ) (rank : ℤ) (reading : ℕ) → SayOnlyOver boot (after_ask_row r asked user rank reading s).state (after_ask_row r asked user rank reading s).mails
ask_over boot s asked_row.NotOffered asked user rank reading = (tt, tt)
ask_over boot s asked_row.NotMatched asked user rank reading = (tt, tt)
ask_over boot s asked_row.Granted asked user rank reading = (tt, tt)
ask_over boot s (asked_row.RankTooLow old new) asked user rank reading = (tt, tt)
ask_over boot s asked_row.HandedOver asked user rank reading = (tt, tt)
ask_over boot s asked_row.MadeRival asked user rank reading = tt

-- `s` is the slot whose claim was heard of
abbrev ActivateTold : ℕ → SlotState → RunNo → ActivateRow → Type 0
ActivateTold boot s run (row.NotHeld spent) = spent ≡ true → IsOver boot s run
ActivateTold boot s run (row.Spent last) = Unit {0}
ActivateTold boot s run (row.Occupied other) = IsNewOf s run
ActivateTold boot s run row.Past = IsNewOf s run
ActivateTold boot s run row.NotMatched = IsNewOf s run
ActivateTold boot s run row.Starts = Unit {0}

not_held_told : (boot : ℕ) (s : SlotState) (a : Activation) (spent : Bool) → (spent ≡ true → IsOver boot s a.run) → SayOnlyOver boot s (gone_where spent a.run)
not_held_told boot s a true over = (over refl, tt)
not_held_told boot s a false over = tt

activate_over : (boot : ℕ) (slot : SlotId) (s : SlotState) (r : ActivateRow) (a : Activation) (what : Launch) (judged : Option Judgement) (reading : ℕ)
    → ActivateTold boot s a.run r → IsConsistent boot slot s → SayOnlyOver boot (after_activate_row r a what judged reading s).state (after_activate_row r a what judged reading s).mails
activate_over boot slot s (row.NotHeld spent) a what judged reading told c = (tt, not_held_told boot s a spent told)
activate_over boot slot s (row.Spent last) a what judged reading told c = (tt, tt)
activate_over boot slot s (row.Occupied run) a what judged reading told c = (tt, (burnt_over boot slot s a.run told c, tt))
activate_over boot slot s row.Past a what judged reading told c = (tt, (burnt_over boot slot s a.run told c, tt))
activate_over boot slot s row.NotMatched a what judged reading told c = (tt, (burnt_over boot slot s a.run told c, tt))
activate_over boot slot s row.Starts a what None reading told c = tt
activate_over boot slot s row.Starts a what (Some judged) reading told c = (tt, tt)

new_heard : (s : SlotState) (run : RunNo) (claim : ClaimNo) (reading : ℕ) → IsNewOf s run → IsNewOf (heard_of claim reading s) run
new_heard s run claim reading new = held_heard (λ h. h.last < run.number) s run.claim claim reading (λ h x is. is) new

activate_told : (boot : ℕ) (slot : SlotId) (s : SlotState) (run : RunNo) (r : ActivateRow) (reading : ℕ) → ActivateKnown s boot run r → IsConsistent boot slot s → ActivateTold boot (heard_of run.claim reading s) run r
activate_told boot slot s run (row.NotHeld spent) reading is c = λ yes. over_heard s boot run run.claim reading (is.0 ∙ yes, not_here boot slot s run is.1 c)
activate_told boot slot s run (row.Spent last) reading is c = tt
activate_told boot slot s run (row.Occupied other) reading is c = new_heard s run run.claim reading is
activate_told boot slot s run row.Past reading is c = new_heard s run run.claim reading is
activate_told boot slot s run row.NotMatched reading is c = new_heard s run run.claim reading is
activate_told boot slot s run row.Starts reading is c = tt

-- a run that isn't here
abbrev WordTold : ℕ → SlotState → RunNo → KnownRun → Type 0
WordTold boot s run known.Running = Unit {0}
WordTold boot s run (known.Ended how) = IsOver boot s run
WordTold boot s run known.OfHeldClaim = IsOver boot (with_number run.number s) run
WordTold boot s run known.Spent = IsOver boot s run
WordTold boot s run known.Unknown = Unit {0}

word_told : (boot : ℕ) (slot : SlotId) (s : SlotState) (run : RunNo) (k : KnownRun) → RunKnown s boot run k → IsConsistent boot slot s → WordTold boot s run k
word_told boot slot s run known.Running is c = tt
word_told boot slot s run (known.Ended how) is c = ended_over boot slot s run how is.0 is.1 c
word_told boot slot s run known.OfHeldClaim is c =
    (used_up s boot run (λ h. Unit {0}) (some_and (held_of s run.claim) is.0), running_used s run run.number ∙ is.1)
word_told boot slot s run known.Spent is c = (is.0, is.2)
word_told boot slot s run known.Unknown is c = tt

number_heard : (s : SlotState) (boot : ℕ) (run : RunNo) (claim : ClaimNo) (reading : ℕ) → IsOver boot (with_number run.number s) run → IsOver boot (with_number run.number (heard_of claim reading s)) run
number_heard s boot run claim reading over =
    heard_same (λ o. IsOver boot (with_number run.number (record s { held = o })) run) s claim reading (λ h x is. is) over

word_heard : (boot : ℕ) (s : SlotState) (run : RunNo) (k : KnownRun) (claim : ClaimNo) (reading : ℕ) → WordTold boot s run k → WordTold boot (heard_of claim reading s) run k
word_heard boot s run known.Running claim reading told = tt
word_heard boot s run (known.Ended how) claim reading told = over_heard s boot run claim reading told
word_heard boot s run known.OfHeldClaim claim reading told = number_heard s boot run claim reading told
word_heard boot s run known.Spent claim reading told = over_heard s boot run claim reading told
word_heard boot s run known.Unknown claim reading told = tt

alive_over : (boot : ℕ) (s : SlotState) (k : KnownRun) (run : RunNo) (until reading : ℕ) → WordTold boot s run k → SayOnlyOver boot (after_alive_of k run until reading s).state (after_alive_of k run until reading s).mails
alive_over boot s known.Running run until reading told = (tt, tt)
alive_over boot s (known.Ended how) run until reading told = (told, tt)
alive_over boot s known.OfHeldClaim run until reading told = (told, tt)
alive_over boot s known.Spent run until reading told = (told, tt)
alive_over boot s known.Unknown run until reading told = tt

stop_over : (boot : ℕ) (s : SlotState) (k : KnownRun) (run : RunNo) → WordTold boot s run k → SayOnlyOver boot (after_stop_of k run s).state (after_stop_of k run s).mails
stop_over boot s known.Running run told = tt
stop_over boot s (known.Ended how) run told = (told, tt)
stop_over boot s known.OfHeldClaim run told = (told, tt)
stop_over boot s known.Spent run told = (told, tt)
stop_over boot s known.Unknown run told = tt

pub mail_over : (boot : ℕ) (slot : Slot) (mail : Mail) (judged : Option Judgement) (reading : ℕ) → IsConsistent boot slot.id slot.state
    → SayOnlyOver boot (reaction_to boot slot mail judged reading).state (reaction_to boot slot mail judged reading).mails
unfolding reaction_to
mail_over boot slot (Matched found) judged reading c = tt
mail_over boot slot (Ask claim job ad by_priority) judged reading c =
    let asked : Asked = record { claim = claim; job = job; by_priority = by_priority } in
    ask_over boot slot.state (ask_row slot.state asked (is_some judged) (rank_of slot.ad ad reading)) asked (owner_of ad) (rank_of slot.ad ad reading) reading
mail_over boot slot (Activate run job ad until) judged reading c =
    let a : Activation = record { run = run; job = job; until = until } in
    activate_over boot slot.id (heard_of run.claim reading slot.state) (activate_row slot.state boot a (is_some judged) reading) a (launch_of ad) judged reading
    (activate_told boot slot.id slot.state run (activate_row slot.state boot a (is_some judged) reading) reading (activate_known slot.state boot a (is_some judged) reading) c)
    (heard_kept boot slot.id slot.state run.claim reading c)
mail_over boot slot (Alive run until) judged reading c = alive_over boot (heard_of run.claim reading slot.state) (known_run slot.state boot run) run until reading
    (word_heard boot slot.state run (known_run slot.state boot run) run.claim reading (word_told boot slot.id slot.state run (known_run slot.state boot run) (run_known slot.state boot run) c))
mail_over boot slot (Stop run) judged reading c = stop_over boot slot.state (known_run slot.state boot run) run
    (word_told boot slot.id slot.state run (known_run slot.state boot run) (run_known slot.state boot run) c)
mail_over boot slot (Release claim) judged reading c = tt
mail_over boot slot (Update s) judged reading c = tt
mail_over boot slot (Granted claim job) judged reading c = tt
mail_over boot slot (Denied claim run job why) judged reading c = tt
mail_over boot slot (Seen run until) judged reading c = tt
mail_over boot slot (Gone run kept) judged reading c = tt
mail_over boot slot (Ended run how) judged reading c = tt
mail_over boot slot (Remove job) judged reading c = tt
mail_over boot slot (Hold job) judged reading c = tt
mail_over boot slot (Resume job) judged reading c = tt

-- ---- the end of a run
cue_over : (o : Option Pair) (boot : ℕ) (s : SlotState) (run : RunNo) (reading : ℕ) → IsOver boot s run → IsOver boot (in_pair o reading s) run
cue_over None boot s run reading over = over
cue_over (Some p) boot s run reading over = over

last_over : (boot : ℕ) (s : SlotState) (o : Option Rival) (run : RunNo) (how : How) (reading : ℕ) → s.held ≡ None → run.claim.boot ≡ boot → run.claim.seq ≤ s.passed
    → SayOnlyOver boot (after_last_run o (Ended run how) reading s).state (after_last_run o (Ended run how) reading s).mails
last_over boot s None run how reading none same passed =
    (cue_over (next_of s.pair cue.Finish) boot s run reading (passed_spent s boot run same passed, subst (λ o. is_run (running_in o) run ≡ false) (sym none) refl), tt)
last_over boot s (Some v) run how reading none same passed = (
  cue_over (next_of s.pair cue.Handover) boot (with_claim v.claim v.user v.rank reading (record s { rival = None })) run reading
      (passed_spent (with_claim v.claim v.user v.rank reading (record s { rival = None })) boot run same passed, refl),
  (tt, tt),
)

end_over_as : (boot : ℕ) (slot : SlotId) (s : SlotState) (h : Held) (run : RunNo) (how : How) (reading : ℕ) (busy : Bool) → s.held ≡ Some h → run.claim ≡ h.claim.no → run.number ≤ h.last → IsOwnClaim boot slot s h.claim.no
    → SayOnlyOver boot (if busy then says (after_cue cue.Rest reading (without_run run how reading s)) (Ended run how ∷ []) else after_last_run s.rival (Ended run how) reading (without_claim (without_run run how reading s))).state
    (if busy then says (after_cue cue.Rest reading (without_run run how reading s)) (Ended run how ∷ []) else after_last_run s.rival (Ended run how) reading (without_claim (without_run run how reading s))).mails
end_over_as boot slot s h run how reading true held claim used own =
    (cue_over (next_of s.pair cue.Rest) boot (without_run run how reading s) run reading (spent, off), tt)
  where
    spent : is_spent (without_run run how reading s) boot run ≡ true
    spent = used_spent (without_run run how reading s) boot run (record h { running = None; ended = Some (run, how); heard = reading })
        (ap (option_map (λ (h : Held). record h { running = None; ended = Some (run, how); heard = reading })) held) (sym claim) used

    off : runs_on (without_run run how reading s) run ≡ false
    off = subst (λ o. is_run (running_in (without_run run how reading (record s { held = o })).held) run ≡ false) (sym held) refl
end_over_as boot slot s h run how reading false held claim used own =
    last_over boot (without_claim (without_run run how reading s)) s.rival run how reading refl (ap (λ (k : ClaimNo). k.boot) claim ∙ own.1)
    (subst (λ o. run.claim.seq ≤ (without_claim (without_run run how reading (record s { held = o }))).passed) (sym held) (let seq : run.claim.seq ≡ h.claim.no.seq = ap (λ (k : ClaimNo). k.seq) claim in omega arith))

pub end_over : (boot : ℕ) (slot : SlotId) (s : SlotState) (ending : Ending) (reading : ℕ) → runs_on s ending.run ≡ true → IsConsistent boot slot s
    → SayOnlyOver boot (after_ending ending reading s).state (after_ending ending reading s).mails
end_over boot slot s ending reading here c = by_held s.held refl here c.held
  where
    by_running : (h : Held) (o : Option Running) → s.held ≡ Some h → is_run o ending.run ≡ true → IfSome o (λ r. IsOwnRun h r.run) → IsOwnClaim boot slot s h.claim.no
        → SayOnlyOver boot (after_ending ending reading s).state (after_ending ending reading s).mails
    by_running h None at here own claim = absurd (true≢false (sym here))
    by_running h (Some r) at here own claim =
        let same : r.run ≡ ending.run = same_run-true r.run ending.run here in
        let its : IsOwnRun h ending.run = subst (IsOwnRun h) same own in
        end_over_as boot slot s h ending.run (how_of ending.end (mark_in (running_of s))) reading (is_busy s.pair) at its.0 its.1 claim

    by_held : (o : Option Held) → s.held ≡ o → is_run (running_in o) ending.run ≡ true → IfSome o (λ h. IsOwnClaim boot slot s h.claim.no × HasOwnRuns h)
        → SayOnlyOver boot (after_ending ending reading s).state (after_ending ending reading s).mails
    by_held None at here own = absurd (true≢false (sym here))
    by_held (Some h) at here own = by_running h h.running at here own.1.0 own.0
