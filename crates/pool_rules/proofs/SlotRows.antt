-- What a mail and the end of a run make of one slot: moves of the slot alone, mails that are borne
-- out, and an end that was said.
use Rattle.std.proofs.Common.{◌≡◌, ◌⊎◌, inl, inr, ℕ, ℤ, Bool, true, false, not, ◌&&◌, nat_le, List, [], ◌∷◌, Option, Some, None, IfSome, is_some, refl, sym, ◌∙◌, ap, subst, if◌then◌else◌, nat_lt}
use Rattle.std.specs.Prelude.{option_map}
use Rattle.ad_eval.specs.Judgement.{Judgement}
use Rattle.ad_eval.specs.Match.{rank_of}
use Rattle.claim_id.specs.declared.numbers.ClaimId.{ClaimId}
use Rattle.claim_id.specs.declared.numbers.ClaimNo.{ClaimNo}
use Rattle.claim_id.specs.declared.numbers.JobId.{JobId}
use Rattle.claim_id.specs.declared.numbers.RunNo.{RunNo}
use Rattle.claim_id.specs.declared.numbers.SlotId.{SlotId}
use Rattle.job_launch.specs.Launches.{launch_of}
use Rattle.pool_mail.specs.Ads.{owner_of}
use Rattle.pool_mail.specs.declared.end.How.{How}
use Rattle.pool_mail.specs.declared.mail.Mail.{Mail}
use Rattle.pool_mail.specs.declared.mail.Mail.TheVariants.{Update, Matched, Ask, Granted, Denied, Activate, Alive, Seen, Stop, Release, Gone, Ended, Remove, Hold, Resume}
use Rattle.pool_outer.specs.declared.spawner.Launch.{Launch}
use Rattle.pool_view.specs.Numbers.{same_claim, same_run}
use Rattle.pool_view.specs.Protocol.{Protocol}
use Rattle.pool_view.specs.ProtocolMove.{ProtocolMove, HoldClaim, protocol_after_all}
use Rattle.claim_id.specs.declared.pair.Cue.TheVariants as cue
use Rattle.claim_id.specs.declared.pair.Pair.{Pair}
use Rattle.claim_id.specs.declared.pair.Pair.TheVariants.{OwnerIdle, UnclaimedIdle, MatchedIdle, ClaimedIdle, ClaimedBusy, ClaimedRetiring, PreemptingVacating, PreemptingKilling}
use Rattle.claim_id.specs.SlotTable.{next_of}
use Rattle.startd_slot.specs.declared.held.Held.{Held}
use Rattle.startd_slot.specs.declared.held.Running.{Running}
use Rattle.startd_slot.specs.declared.reaction.Reaction.{Reaction}
use Rattle.startd_slot.specs.declared.slot.Slot.{Slot}
use Rattle.startd_slot.specs.declared.slot.SlotState.{SlotState}
use Rattle.startd_slot.specs.ActivateTable.{after_activate_row, claim_row, free_row, gone_where, new_row}
use Rattle.startd_slot.specs.AskTable.{ask_row, after_ask_row, contested_row, is_rank_too_low, is_unclaimed, offered_row}
use Rattle.startd_slot.specs.Consistent.{IsConsistent, IsOwnClaim, HasOwnRuns}
use Rattle.startd_slot.specs.Mails.{asked_claim, reaction_to}
use Rattle.startd_slot.specs.Reactions.{becomes, says}
use Rattle.startd_slot.specs.ReleaseTable.{after_release_row, held_row, is_busy, release_row}
use Rattle.startd_slot.specs.RunTable.{known_run, known_by_claim, ended_or_other, unheld_run, after_alive_of, after_stop_of}
use Rattle.startd_slot.specs.SlotMoves.{burns, claim_ends, goes_on, moves_of_activate, moves_of_alive, moves_of_ask, moves_of_mail, moves_of_release, moves_of_word, says_gone_where}
use Rattle.startd_slot.specs.SlotStates.{after_cue, claim_with_number, claim_with_run, claim_with_running, has_rival, heard_claim, heard_of, held_in, held_of, holds_claim, in_pair, is_spent, offers_claim, running_of, runs_on, with_number}
use Rattle.startd_slot.proofs.SameNumbers.{same_run-true}
use Rattle.pool_rules.specs.Linked.{IsBorneOut, AreBorneOut, IsEndReported, ended_of}
use Rattle.pool_rules.proofs.Owned.{AreOwn, said_by_all}

-- ---- the moves are the slot's, and say no end
abbrev pub IsQuiet : SlotId → List ProtocolMove → Type 0
IsQuiet slot ms = AreOwn slot ms × (said_by_all ms ≡ [])

pub ends_quiet : (boot : ℕ) (slot : SlotId) (s : SlotState) → IsConsistent boot slot s → IsQuiet slot (claim_ends s.held [])
ends_quiet boot slot s c = by s.held c.held
  where
    by : (o : Option Held) → IfSome o (λ h. IsOwnClaim boot slot s h.claim.no × HasOwnRuns h) → IsQuiet slot (claim_ends o [])
    by None own = (tt, refl)
    by (Some h) own = ((own.0.0, tt), refl)

over_quiet : (boot : ℕ) (slot : SlotId) (s : SlotState) (claim : ClaimNo) → IsConsistent boot slot s → claim.slot ≡ slot → IsQuiet slot (claim_ends s.held (HoldClaim claim ∷ []))
over_quiet boot slot s claim c at = by s.held c.held
  where
    by : (o : Option Held) → IfSome o (λ h. IsOwnClaim boot slot s h.claim.no × HasOwnRuns h) → IsQuiet slot (claim_ends o (HoldClaim claim ∷ []))
    by None own = ((at, tt), refl)
    by (Some h) own = ((own.0.0, (at, tt)), refl)

goes_quiet : (slot : SlotId) (o : Option Running) (until reading : ℕ) → IsQuiet slot (goes_on o slot until reading)
goes_quiet slot None until reading = (tt, refl)
goes_quiet slot (Some r) until reading = by (nat_lt reading until)
  where
    by : (b : Bool) → IsQuiet slot (if b then Rattle.pool_view.specs.ProtocolMove.ExtendRun (Rattle.startd_slot.specs.SlotMoves.run_in_slot slot r) until ∷ [] else [])
    by true = ((refl, tt), refl)
    by false = (tt, refl)

-- ---- the mails are borne out
pub none_borne : (q : Protocol) → AreBorneOut q []
none_borne q m there = absurd there

pub one_borne : (q : Protocol) (m : Mail) (ms : List Mail) → IsBorneOut q m → AreBorneOut q ms → AreBorneOut q (m ∷ ms)
one_borne q m ms its rest n (inl same) = subst (IsBorneOut q) (sym same) its
one_borne q m ms its rest n (inr there) = rest n there

gone_borne : (p : Protocol) (spent : Bool) (run : RunNo) → AreBorneOut (protocol_after_all p (says_gone_where spent run)) (gone_where spent run)
gone_borne p true run = one_borne (protocol_after_all p (says_gone_where true run)) (Gone run false) [] (inl refl) (none_borne (protocol_after_all p (says_gone_where true run)))
gone_borne p false run = none_borne p

burnt_borne : (p : Protocol) (run : RunNo) (kept : Bool) → AreBorneOut (protocol_after_all p (burns run)) (Gone run kept ∷ [])
burnt_borne p run kept = one_borne (protocol_after_all p (burns run)) (Gone run kept) [] (inl refl) (none_borne (protocol_after_all p (burns run)))

-- ---- the last end that the slot keeps
-- it is as it was, or there is none
abbrev pub KeepsEnd : SlotState → SlotState → Type 0
KeepsEnd s t = (ended_of t.held ≡ ended_of s.held) ⊎ (ended_of t.held ≡ None)

pub cue_held : (o : Option Pair) (reading : ℕ) (s : SlotState) → (in_pair o reading s).held ≡ s.held
cue_held None reading s = refl
cue_held (Some pair) reading s = refl

pub same_end : (change : Held → Held) (o : Option Held) → ((h : Held) → (change h).ended ≡ h.ended) → ended_of (option_map change o) ≡ ended_of o
same_end change None keeps = refl
same_end change (Some h) keeps = keeps h

heard_end : (claim : ClaimNo) (reading : ℕ) (h : Held) → (heard_claim claim reading h).ended ≡ h.ended
heard_end claim reading h = by (same_claim h.claim.no claim)
  where
    by : (b : Bool) → (let x : Held = (if b then record h { heard = reading } else h) in x.ended) ≡ h.ended
    by true = refl
    by false = refl

-- ---- what a row does
pub record RowFacts (p : Protocol) (slot : SlotId) (s : SlotState) (ms : List ProtocolMove) (r : Reaction) : Type 0 where
  pub quiet : IsQuiet slot ms
  pub borne : AreBorneOut (protocol_after_all p ms) r.mails
  pub ends : KeepsEnd s r.state

-- by a test, whatever is told apart
pub by_if : {R : Type 0} (F : R → Type 0) (x y : R) (b : Bool) → F x → F y → F (if b then x else y)
by_if F x y true then_x else_y = then_x
by_if F x y false then_x else_y = else_y

by_test : {R : Type 0} (F : R → Type 0) (x y : R) (b : Bool) → (b ≡ true → F x) → (b ≡ false → F y) → F (if b then x else y)
by_test F x y true then_x else_y = then_x refl
by_test F x y false then_x else_y = else_y refl

module _ (p : Protocol) (boot : ℕ) (slot : Slot) (c : IsConsistent boot slot.id slot.state) where
  -- nothing happens that a protocol sees, and a mail is sent that tells nothing
  one_word : (m : Mail) → IsBorneOut p m → RowFacts p slot.id slot.state [] (says slot.state (m ∷ []))
  one_word m its = record { quiet = (tt, refl); borne = one_borne p m [] its (none_borne p); ends = inl refl }

  no_word : RowFacts p slot.id slot.state [] (says slot.state [])
  no_word = record { quiet = (tt, refl); borne = none_borne p; ends = inl refl }

  -- a row whose mails tell nothing
  plain : (ms : List ProtocolMove) (r : Reaction) → IsQuiet slot.id ms → ((q : Protocol) → AreBorneOut q r.mails) → KeepsEnd slot.state r.state → RowFacts p slot.id slot.state ms r
  plain ms r quiet borne ends = record { quiet = quiet; borne = borne (protocol_after_all p ms); ends = ends }

  -- ---- an Ask
  contested_facts : (pair : Pair) (claim : ClaimId) (job : JobId) (by_priority : Bool) (user : List ℕ) (rank : ℤ) (reading : ℕ) → claim.no.slot ≡ slot.id
      → RowFacts p slot.id slot.state (moves_of_ask (contested_row pair) claim slot.state) (after_ask_row (contested_row pair) (record { claim = claim; job = job; by_priority = by_priority }) user rank reading slot.state)
  contested_facts ClaimedIdle claim job by_priority user rank reading at = plain _ _ (over_quiet boot slot.id slot.state claim.no c at) (λ q. one_borne q (Granted claim job) [] tt (none_borne q))
      (inr (ap ended_of (cue_held (next_of slot.state.pair cue.Handover) reading _)))
  contested_facts OwnerIdle claim job by_priority user rank reading at = record { quiet = (tt, refl); borne = none_borne p; ends = inl (ap ended_of (cue_held (next_of slot.state.pair cue.Retire) reading _)) }
  contested_facts UnclaimedIdle claim job by_priority user rank reading at = record { quiet = (tt, refl); borne = none_borne p; ends = inl (ap ended_of (cue_held (next_of slot.state.pair cue.Retire) reading _)) }
  contested_facts MatchedIdle claim job by_priority user rank reading at = record { quiet = (tt, refl); borne = none_borne p; ends = inl (ap ended_of (cue_held (next_of slot.state.pair cue.Retire) reading _)) }
  contested_facts ClaimedBusy claim job by_priority user rank reading at = record { quiet = (tt, refl); borne = none_borne p; ends = inl (ap ended_of (cue_held (next_of slot.state.pair cue.Retire) reading _)) }
  contested_facts ClaimedRetiring claim job by_priority user rank reading at = record { quiet = (tt, refl); borne = none_borne p; ends = inl (ap ended_of (cue_held (next_of slot.state.pair cue.Retire) reading _)) }
  contested_facts PreemptingVacating claim job by_priority user rank reading at = record { quiet = (tt, refl); borne = none_borne p; ends = inl (ap ended_of (cue_held (next_of slot.state.pair cue.Retire) reading _)) }
  contested_facts PreemptingKilling claim job by_priority user rank reading at = record { quiet = (tt, refl); borne = none_borne p; ends = inl (ap ended_of (cue_held (next_of slot.state.pair cue.Retire) reading _)) }

  offered_facts : (o : Option Held) (claim : ClaimId) (job : JobId) (by_priority : Bool) (user : List ℕ) (rank : ℤ) (reading : ℕ) → claim.no.slot ≡ slot.id
      → RowFacts p slot.id slot.state (moves_of_ask (offered_row o slot.state.pair by_priority rank) claim slot.state) (after_ask_row (offered_row o slot.state.pair by_priority rank) (record { claim = claim; job = job; by_priority = by_priority }) user rank reading slot.state)
  offered_facts None claim job by_priority user rank reading at = plain _ _ ((at, tt), refl) (λ q. one_borne q (Granted claim job) [] tt (none_borne q))
      (inr (ap ended_of (cue_held (next_of slot.state.pair cue.Grant) reading _)))
  offered_facts (Some h) claim job by_priority user rank reading at =
      by_if (λ r. RowFacts p slot.id slot.state (moves_of_ask r claim slot.state) (after_ask_row r (record { claim = claim; job = job; by_priority = by_priority }) user rank reading slot.state)) _ _ (is_rank_too_low h.rank by_priority rank)
      (one_word _ tt) (contested_facts slot.state.pair claim job by_priority user rank reading at)

  ask_facts : (claim : ClaimId) (job : JobId) (by_priority matched : Bool) (user : List ℕ) (rank : ℤ) (reading : ℕ) → claim.no.slot ≡ slot.id
      → RowFacts p slot.id slot.state (moves_of_ask (ask_row slot.state (record { claim = claim; job = job; by_priority = by_priority }) matched rank) claim slot.state)
      (after_ask_row (ask_row slot.state (record { claim = claim; job = job; by_priority = by_priority }) matched rank) (record { claim = claim; job = job; by_priority = by_priority }) user rank reading slot.state)
  ask_facts claim job by_priority matched user rank reading at =
      by_if (λ r. RowFacts p slot.id slot.state (moves_of_ask r claim slot.state) (after_ask_row r (record { claim = claim; job = job; by_priority = by_priority }) user rank reading slot.state)) _ _ (not (offers_claim slot.state claim))
      (one_word _ tt)
      (by_if (λ r. RowFacts p slot.id slot.state (moves_of_ask r claim slot.state) (after_ask_row r (record { claim = claim; job = job; by_priority = by_priority }) user rank reading slot.state)) _ _ (not matched)
      (one_word _ tt) (offered_facts slot.state.held claim job by_priority user rank reading at))

  -- ---- an Activate
  -- its claim is heard of
  heard_is : (claim : ClaimNo) (reading : ℕ) → ended_of (heard_of claim reading slot.state).held ≡ ended_of slot.state.held
  heard_is claim reading = same_end (heard_claim claim reading) slot.state.held (heard_end claim reading)

  burned_facts : (run : RunNo) (t : SlotState) (ms : List Mail) → run.claim.slot ≡ slot.id → ended_of t.held ≡ ended_of slot.state.held → AreBorneOut (protocol_after_all p (burns run)) ms
      → RowFacts p slot.id slot.state (burns run) (says (with_number run.number t) ms)
  burned_facts run t ms at same borne = record { quiet = ((at, (tt, tt)), refl); borne = borne; ends = inl (same_end (claim_with_number run.number) t.held (λ h. refl) ∙ same) }

  burned_word : (run : RunNo) (t : SlotState) (m : Mail) → run.claim.slot ≡ slot.id → ended_of t.held ≡ ended_of slot.state.held → ((q : Protocol) → IsBorneOut q m)
      → RowFacts p slot.id slot.state (burns run) (says (with_number run.number t) (m ∷ Gone run true ∷ []))
  burned_word run t m at same its = burned_facts run t (m ∷ Gone run true ∷ []) at same (one_borne (protocol_after_all p (burns run)) m (Gone run true ∷ []) (its (protocol_after_all p (burns run))) (burnt_borne p run true))

  free_facts : (run : RunNo) (job : JobId) (until : ℕ) (what : Launch) (judged : Option Judgement) (reading : ℕ) (t : SlotState) → run.claim.slot ≡ slot.id → ended_of t.held ≡ ended_of slot.state.held
      → RowFacts p slot.id slot.state (moves_of_activate (free_row (record { run = run; job = job; until = until }) (is_some judged) reading) slot.id (record { run = run; job = job; until = until }) judged)
      (after_activate_row (free_row (record { run = run; job = job; until = until }) (is_some judged) reading) (record { run = run; job = job; until = until }) what judged reading t)
  free_facts run job until what judged reading t at same = by judged
    where
      by : (j : Option Judgement) → RowFacts p slot.id slot.state (moves_of_activate (free_row (record { run = run; job = job; until = until }) (is_some j) reading) slot.id (record { run = run; job = job; until = until }) j)
          (after_activate_row (free_row (record { run = run; job = job; until = until }) (is_some j) reading) (record { run = run; job = job; until = until }) what j reading t)
      by None = by_if (λ r. RowFacts p slot.id slot.state (moves_of_activate r slot.id (record { run = run; job = job; until = until }) None) (after_activate_row r (record { run = run; job = job; until = until }) what None reading t)) _ _ (nat_le until reading)
          (burned_word run t _ at same (λ q. tt))
          (burned_word run t _ at same (λ q. tt))
      by (Some j) = by_if (λ r. RowFacts p slot.id slot.state (moves_of_activate r slot.id (record { run = run; job = job; until = until }) (Some j)) (after_activate_row r (record { run = run; job = job; until = until }) what (Some j) reading t)) _ _ (nat_le until reading)
          (burned_word run t _ at same (λ q. tt))
          (plain _ _ ((refl, tt), refl) (λ q. one_borne q (Seen run until) [] tt (none_borne q))
          (inl (ap ended_of (cue_held (next_of t.pair cue.Begin) reading _)
          ∙ (same_end (claim_with_run _) (option_map (claim_with_number run.number) t.held) (λ h. refl) ∙ (same_end (claim_with_number run.number) t.held (λ h. refl) ∙ same)))))

  claimed_gone : (run : RunNo) (m : Mail) (t : SlotState) → ((q : Protocol) → IsBorneOut q m) → ended_of t.held ≡ ended_of slot.state.held → RowFacts p slot.id slot.state (says_gone_where true run) (says t (m ∷ Gone run false ∷ []))
  claimed_gone run m t its same = record {
    quiet = ((tt, tt), refl);
    borne = one_borne (protocol_after_all p (says_gone_where true run)) m (Gone run false ∷ []) (its (protocol_after_all p (says_gone_where true run))) (gone_borne p true run);
    ends = inl same;
  }

  claimed_facts : (o : Option Held) (spent : Bool) (run : RunNo) (job : JobId) (until : ℕ) (what : Launch) (judged : Option Judgement) (reading : ℕ) (t : SlotState) → run.claim.slot ≡ slot.id → ended_of t.held ≡ ended_of slot.state.held
      → RowFacts p slot.id slot.state (moves_of_activate (claim_row o spent (record { run = run; job = job; until = until }) (is_some judged) reading) slot.id (record { run = run; job = job; until = until }) judged)
      (after_activate_row (claim_row o spent (record { run = run; job = job; until = until }) (is_some judged) reading) (record { run = run; job = job; until = until }) what judged reading t)
  claimed_facts None true run job until what judged reading t at same = claimed_gone run _ t (λ q. tt) same
  claimed_facts None false run job until what judged reading t at same = record { quiet = (tt, refl); borne = one_borne p _ [] tt (none_borne p); ends = inl same }
  claimed_facts (Some h) spent run job until what judged reading t at same =
      by_if (λ r. RowFacts p slot.id slot.state (moves_of_activate r slot.id (record { run = run; job = job; until = until }) judged) (after_activate_row r (record { run = run; job = job; until = until }) what judged reading t)) _ _ (nat_le run.number h.last)
      (record { quiet = (tt, refl); borne = one_borne p _ [] tt (none_borne p); ends = inl same })
      (by_running h.running)
    where
      by_running : (o : Option Running) → RowFacts p slot.id slot.state (moves_of_activate (new_row o (record { run = run; job = job; until = until }) (is_some judged) reading) slot.id (record { run = run; job = job; until = until }) judged)
          (after_activate_row (new_row o (record { run = run; job = job; until = until }) (is_some judged) reading) (record { run = run; job = job; until = until }) what judged reading t)
      by_running None = free_facts run job until what judged reading t at same
      by_running (Some r) = burned_word run t _ at same (λ q. tt)

  -- ---- an Alive and a Stop
  -- a word of a run that isn't here, by what is known of its claim
  ended_heard : (run : RunNo) (e : RunNo × How) → IsEndReported p (Some e) → same_run e.0 run ≡ true → IsBorneOut p (Ended run e.1)
  ended_heard run e told same = subst (λ r. IsBorneOut p (Ended r e.1)) (same_run-true e.0 run same) told

  kept_facts : (run : RunNo) (t : SlotState) → run.claim.slot ≡ slot.id → ended_of t.held ≡ ended_of slot.state.held → RowFacts p slot.id slot.state (burns run) (says (with_number run.number t) (Gone run true ∷ []))
  kept_facts run t at same = burned_facts run t (Gone run true ∷ []) at same (burnt_borne p run true)

  alive_ended : (o : Option (RunNo × How)) (run : RunNo) (until reading : ℕ) (t : SlotState) → IsEndReported p o → run.claim.slot ≡ slot.id → ended_of t.held ≡ ended_of slot.state.held
      → RowFacts p slot.id slot.state (moves_of_alive (ended_or_other o run) slot.state slot.id run until reading) (after_alive_of (ended_or_other o run) run until reading t)
  alive_ended None run until reading t told at same = kept_facts run t at same
  alive_ended (Some e) run until reading t told at same = by_test (λ k. RowFacts p slot.id slot.state (moves_of_alive k slot.state slot.id run until reading) (after_alive_of k run until reading t)) _ _ (same_run e.0 run)
      (λ is. record { quiet = (tt, refl); borne = one_borne p (Ended run e.1) [] (ended_heard run e told is) (none_borne p); ends = inl same })
      (λ is. kept_facts run t at same)

  alive_unheld : (spent : Bool) (run : RunNo) (until reading : ℕ) (t : SlotState) → ended_of t.held ≡ ended_of slot.state.held → RowFacts p slot.id slot.state (moves_of_alive (unheld_run spent) slot.state slot.id run until reading) (after_alive_of (unheld_run spent) run until reading t)
  alive_unheld true run until reading t same = record { quiet = ((tt, tt), refl); borne = gone_borne p true run; ends = inl same }
  alive_unheld false run until reading t same = record { quiet = (tt, refl); borne = none_borne p; ends = inl same }

  alive_held : (o : Option Held) (spent : Bool) (run : RunNo) (until reading : ℕ) (t : SlotState) → IsEndReported p (ended_of o) → run.claim.slot ≡ slot.id → ended_of t.held ≡ ended_of slot.state.held
      → RowFacts p slot.id slot.state (moves_of_alive (known_by_claim (held_in o run.claim) spent run) slot.state slot.id run until reading) (after_alive_of (known_by_claim (held_in o run.claim) spent run) run until reading t)
  alive_held None spent run until reading t told at same = alive_unheld spent run until reading t same
  alive_held (Some h) spent run until reading t told at same = by (same_claim h.claim.no run.claim)
    where
      by : (b : Bool) → RowFacts p slot.id slot.state (moves_of_alive (known_by_claim (if b then Some h else None) spent run) slot.state slot.id run until reading) (after_alive_of (known_by_claim (if b then Some h else None) spent run) run until reading t)
      by true = alive_ended h.ended run until reading t told at same
      by false = alive_unheld spent run until reading t same

  alive_facts : (run : RunNo) (until reading : ℕ) (t : SlotState) → IsEndReported p (ended_of slot.state.held) → run.claim.slot ≡ slot.id → ended_of t.held ≡ ended_of slot.state.held
      → RowFacts p slot.id slot.state (moves_of_alive (known_run slot.state boot run) slot.state slot.id run until reading) (after_alive_of (known_run slot.state boot run) run until reading t)
  alive_facts run until reading t told at same =
      by_if (λ k. RowFacts p slot.id slot.state (moves_of_alive k slot.state slot.id run until reading) (after_alive_of k run until reading t)) _ _ (runs_on slot.state run)
      (plain _ _ (goes_quiet slot.id (running_of slot.state) until reading) (λ q. one_borne q _ [] tt (none_borne q)) (inl (same_end (claim_with_running _) t.held (λ h. refl) ∙ same)))
      (alive_held slot.state.held (is_spent slot.state boot run) run until reading t told at same)

  stop_ended : (o : Option (RunNo × How)) (run : RunNo) (t : SlotState) → IsEndReported p o → run.claim.slot ≡ slot.id → ended_of t.held ≡ ended_of slot.state.held
      → RowFacts p slot.id slot.state (moves_of_word (ended_or_other o run) run) (after_stop_of (ended_or_other o run) run t)
  stop_ended None run t told at same = kept_facts run t at same
  stop_ended (Some e) run t told at same = by_test (λ k. RowFacts p slot.id slot.state (moves_of_word k run) (after_stop_of k run t)) _ _ (same_run e.0 run)
      (λ is. record { quiet = (tt, refl); borne = one_borne p (Ended run e.1) [] (ended_heard run e told is) (none_borne p); ends = inl same })
      (λ is. kept_facts run t at same)

  stop_unheld : (spent : Bool) (run : RunNo) (t : SlotState) → ended_of t.held ≡ ended_of slot.state.held → RowFacts p slot.id slot.state (moves_of_word (unheld_run spent) run) (after_stop_of (unheld_run spent) run t)
  stop_unheld true run t same = record { quiet = ((tt, tt), refl); borne = gone_borne p true run; ends = inl same }
  stop_unheld false run t same = record { quiet = (tt, refl); borne = none_borne p; ends = inl same }

  stop_held : (o : Option Held) (spent : Bool) (run : RunNo) (t : SlotState) → IsEndReported p (ended_of o) → run.claim.slot ≡ slot.id → ended_of t.held ≡ ended_of slot.state.held
      → RowFacts p slot.id slot.state (moves_of_word (known_by_claim (held_in o run.claim) spent run) run) (after_stop_of (known_by_claim (held_in o run.claim) spent run) run t)
  stop_held None spent run t told at same = stop_unheld spent run t same
  stop_held (Some h) spent run t told at same = by (same_claim h.claim.no run.claim)
    where
      by : (b : Bool) → RowFacts p slot.id slot.state (moves_of_word (known_by_claim (if b then Some h else None) spent run) run) (after_stop_of (known_by_claim (if b then Some h else None) spent run) run t)
      by true = stop_ended h.ended run t told at same
      by false = stop_unheld spent run t same

  stop_facts : (run : RunNo) (t : SlotState) → IsEndReported p (ended_of slot.state.held) → run.claim.slot ≡ slot.id → ended_of t.held ≡ ended_of slot.state.held
      → RowFacts p slot.id slot.state (moves_of_word (known_run slot.state boot run) run) (after_stop_of (known_run slot.state boot run) run t)
  stop_facts run t told at same =
      by_if (λ k. RowFacts p slot.id slot.state (moves_of_word k run) (after_stop_of k run t)) _ _ (runs_on slot.state run)
      (record { quiet = (tt, refl); borne = none_borne p; ends = inl (same_end (claim_with_running _) t.held (λ h. refl) ∙ same) })
      (stop_held slot.state.held (is_spent slot.state boot run) run t told at same)

  -- ---- a Release
  held_release : (o : Option Running) (reading : ℕ) → RowFacts p slot.id slot.state (moves_of_release (held_row o slot.state.pair) slot.state) (becomes (after_release_row (held_row o slot.state.pair) reading slot.state))
  held_release None reading = plain _ _ (ends_quiet boot slot.id slot.state c) (λ q. none_borne q) (inr (ap ended_of (cue_held (next_of slot.state.pair cue.Finish) reading _)))
  held_release (Some r) reading = by_if (λ k. RowFacts p slot.id slot.state (moves_of_release k slot.state) (becomes (after_release_row k reading slot.state))) _ _ (is_busy slot.state.pair)
      (record { quiet = (tt, refl); borne = none_borne p; ends = inl (ap ended_of (cue_held (next_of slot.state.pair cue.Retire) reading _)) })
      no_word

  release_facts : (claim : ClaimNo) (reading : ℕ) → RowFacts p slot.id slot.state (moves_of_release (release_row slot.state claim) slot.state) (becomes (after_release_row (release_row slot.state claim) reading slot.state))
  release_facts claim reading = by_if (λ k. RowFacts p slot.id slot.state (moves_of_release k slot.state) (becomes (after_release_row k reading slot.state))) _ _ (holds_claim slot.state claim) (held_release (running_of slot.state) reading)
      (by_if (λ k. RowFacts p slot.id slot.state (moves_of_release k slot.state) (becomes (after_release_row k reading slot.state))) _ _ (has_rival slot.state claim) (record { quiet = (tt, refl); borne = none_borne p; ends = inl refl }) no_word)

  -- ---- all mails
  matched_facts : (b : Bool) (reading : ℕ) → RowFacts p slot.id slot.state [] (becomes (if b then after_cue cue.Match reading slot.state else slot.state))
  matched_facts true reading = record { quiet = (tt, refl); borne = none_borne p; ends = inl (ap ended_of (cue_held (next_of slot.state.pair cue.Match) reading _)) }
  matched_facts false reading = no_word

  pub mail_facts : (mail : Mail) (judged : Option Judgement) (reading : ℕ) → IfSome (asked_claim mail) (λ k. k.slot ≡ slot.id) → IsEndReported p (ended_of slot.state.held)
      → RowFacts p slot.id slot.state (moves_of_mail boot slot mail judged reading) (reaction_to boot slot mail judged reading)
  unfolding moves_of_mail reaction_to
  mail_facts (Ask claim job ad by_priority) judged reading at told = ask_facts claim job by_priority (is_some judged) (owner_of ad) (rank_of slot.ad ad reading) reading at
  mail_facts (Activate run job ad until) judged reading at told =
      claimed_facts (held_of slot.state run.claim) (is_spent slot.state boot run) run job until (launch_of ad) judged reading (heard_of run.claim reading slot.state) at (heard_is run.claim reading)
  mail_facts (Alive run until) judged reading at told = alive_facts run until reading (heard_of run.claim reading slot.state) told at (heard_is run.claim reading)
  mail_facts (Stop run) judged reading at told = stop_facts run slot.state told at refl
  mail_facts (Release claim) judged reading at told = release_facts claim reading
  mail_facts (Matched found) judged reading at told = matched_facts (is_unclaimed slot.state.pair && offers_claim slot.state found.claim) reading
  mail_facts (Update s) judged reading at told = no_word
  mail_facts (Granted claim job) judged reading at told = no_word
  mail_facts (Denied claim run job why) judged reading at told = no_word
  mail_facts (Seen run until) judged reading at told = no_word
  mail_facts (Gone run kept) judged reading at told = no_word
  mail_facts (Ended run how) judged reading at told = no_word
  mail_facts (Remove job) judged reading at told = no_word
  mail_facts (Hold job) judged reading at told = no_word
  mail_facts (Resume job) judged reading at told = no_word
