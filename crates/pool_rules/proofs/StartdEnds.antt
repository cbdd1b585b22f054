-- A startd in which a run ends keeps the links.
use Rattle.std.proofs.Common.{◌≡◌, ◌⊎◌, inl, inr, ℕ, Bool, true, false, List, [], ◌∷◌, ◌++◌, Option, Some, None, IfSome, slice_get, true≢false, refl, sym, ◌∙◌, ap, subst, if◌then◌else◌}
use Rattle.std.specs.Prelude.{option_map}
use Rattle.claim_id.specs.declared.numbers.RunNo.{RunNo}
use Rattle.claim_id.specs.declared.numbers.SlotId.{SlotId}
use Rattle.pool_mail.specs.declared.end.Ending.{Ending}
use Rattle.pool_mail.specs.declared.end.How.{How}
use Rattle.pool_mail.specs.declared.mail.Mail.TheVariants.{Ended, Granted}
use Rattle.pool_view.specs.AbstractPool.{IsIn}
use Rattle.pool_view.specs.declared.run.EndReport.{EndReport}
use Rattle.pool_view.specs.Protocol.{Protocol}
use Rattle.pool_view.specs.ProtocolMove.{ProtocolMove, MayAll, protocol_after_all}
use Rattle.claim_id.specs.declared.pair.Cue.TheVariants as cue
use Rattle.claim_id.specs.SlotTable.{next_of}
use Rattle.startd_slot.specs.declared.held.Held.{Held}
use Rattle.startd_slot.specs.declared.held.Rival.{Rival}
use Rattle.startd_slot.specs.declared.held.Running.{Running}
use Rattle.startd_slot.specs.declared.reaction.Reaction.{Reaction}
use Rattle.startd_slot.specs.declared.slot.Slot.{Slot}
use Rattle.startd_slot.specs.declared.slot.SlotState.{SlotState}
use Rattle.startd_slot.specs.Consistent.{IsConsistent, IsOwnClaim, IsNextClaim, HasOwnRuns, is_leaving}
use Rattle.startd_slot.specs.EndingTable.{after_ending, after_last_run, after_run, how_of, mark_in}
use Rattle.startd_slot.specs.Reactions.{says}
use Rattle.startd_slot.specs.ReleaseTable.{is_busy}
use Rattle.startd_slot.specs.SlotMoves.{claim_ends, moves_of_end, part_of, rival_holds, run_stops}
use Rattle.startd_slot.specs.SlotStates.{after_cue, claim_after_run, is_run, running_of, runs_on, without_claim, without_run}
use Rattle.startd_slot.proofs.MoveMails.{ending_changes, ending_may}
use Rattle.startd_slot.proofs.SameNumbers.{same_run-true}
use Rattle.startd_core.specs.Sound.{IsSound}
use Rattle.startd_core.specs.Startds.{StartdValue, after_end, after_made, answer_of, concluded, ended_at, ended_in, ended_where, made_by, nothing_done, place_of, put_at, put_in, slot_in}
use Rattle.startd_core.proofs.Stays.{end_put}
use Rattle.pool_rules.specs.Linked.{IsBorneOut, AreBorneOut, IsEndReported, IsLinked, IsStartdAt, StayLinked, ended_of}
use Rattle.pool_rules.specs.PoolParts.{PoolParts}
use Rattle.pool_rules.specs.StartdEvents.{ends_in_slot, ends_where, moves_of_ended_run, end_report_of, report_where, reports_in_slot, reports_of_end, parts_with_startd}
use Rattle.pool_rules.proofs.Kept.{in_first}
use Rattle.pool_rules.proofs.Machines.{at_place}
use Rattle.pool_rules.proofs.Owned.{AreOwn, own_are_startd, own_moves_say, said_by_all}
use Rattle.pool_rules.proofs.SlotRows.{cue_held, none_borne, one_borne}
use Rattle.pool_rules.proofs.StartdMails.{in_pool, slot_event, stays}

-- ---- the moves
-- what follows the end of the run says no end
after_quiet : (boot : ℕ) (slot : SlotId) (s : SlotState) (busy : Bool) → IsConsistent boot slot s
    → AreOwn slot (if busy then [] else claim_ends s.held (rival_holds s.rival)) × (said_by_all (if busy then [] else claim_ends s.held (rival_holds s.rival)) ≡ [])
after_quiet boot slot s true c = (tt, refl)
after_quiet boot slot s false c = by s.held s.rival c.held c.rival
  where
    by : (o : Option Held) (r : Option Rival) → IfSome o (λ h. IsOwnClaim boot slot s h.claim.no × HasOwnRuns h)
        → IfSome r (λ x. IsNextClaim boot slot s x.claim.no × Rattle.std.specs.Prelude.IsTrue (is_leaving s.pair))
        → AreOwn slot (claim_ends o (rival_holds r)) × (said_by_all (claim_ends o (rival_holds r)) ≡ [])
    by None None own next = (tt, refl)
    by None (Some x) own next = ((next.0.0.0, tt), refl)
    by (Some h) None own next = ((own.0.0, tt), refl)
    by (Some h) (Some x) own next = ((own.0.0, (next.0.0.0, tt)), refl)

-- the end is said, and nothing else
abbrev SaysEnd : SlotId → List ProtocolMove → List EndReport → Type 0
SaysEnd slot ms reports = AreOwn slot ms × (said_by_all ms ≡ reports)

end_says_it : (boot : ℕ) (slot : Slot) (ending : Ending) → IsConsistent boot slot.id slot.state → SaysEnd slot.id (moves_of_end slot ending) (end_report_of (running_of slot.state) ending)
end_says_it boot slot ending c = by (running_of slot.state) (if is_busy slot.state.pair then [] else claim_ends slot.state.held (rival_holds slot.state.rival)) (after_quiet boot slot.id slot.state (is_busy slot.state.pair) c)
  where
    by : (o : Option Running) (rest : List ProtocolMove) → AreOwn slot.id rest × (said_by_all rest ≡ []) → SaysEnd slot.id (run_stops o slot.id (Some (how_of ending.end (mark_in o))) rest) (end_report_of o ending)
    by None rest quiet = quiet
    by (Some r) rest quiet = ((refl, quiet.0), ap (λ xs. xs ++ end_report_of (Some r) ending) quiet.1)

-- ---- the end that the slot keeps, and the mails
-- none, or that of the run
abbrev IsOfEnd : RunNo → How → SlotState → Type 0
IsOfEnd run how s = (ended_of s.held ≡ None) ⊎ (ended_of s.held ≡ Some (run, how))

end_kept : (s : SlotState) (ending : Ending) (how : How) (reading : ℕ) → IsOfEnd ending.run how (after_run ending how reading s).state
end_kept s ending how reading = by (is_busy s.pair) s.rival
  where
    run_left : (o : Option Held) → (ended_of (option_map (claim_after_run ending.run how reading) o) ≡ None) ⊎ (ended_of (option_map (claim_after_run ending.run how reading) o) ≡ Some (ending.run, how))
    run_left None = inl refl
    run_left (Some h) = inr refl

    moved : (t : SlotState) (held : Option Held) → t.held ≡ held → (ended_of held ≡ None) ⊎ (ended_of held ≡ Some (ending.run, how)) → IsOfEnd ending.run how t
    moved t held is (inl none) = inl (ap ended_of is ∙ none)
    moved t held is (inr its) = inr (ap ended_of is ∙ its)

    last : (o : Option Rival) → IsOfEnd ending.run how (after_last_run o (Ended ending.run how) reading (without_claim (without_run ending.run how reading s))).state
    last None = inl (ap ended_of (cue_held (next_of s.pair cue.Finish) reading _))
    last (Some rival) = inl (ap ended_of (cue_held (next_of s.pair cue.Handover) reading _))

    by : (busy : Bool) (o : Option Rival) → IsOfEnd ending.run how
        (if busy then says (after_cue cue.Rest reading (without_run ending.run how reading s)) (Ended ending.run how ∷ []) else after_last_run o (Ended ending.run how) reading (without_claim (without_run ending.run how reading s))).state
    by true o = moved (after_cue cue.Rest reading (without_run ending.run how reading s)) (option_map (claim_after_run ending.run how reading) s.held) (cue_held (next_of s.pair cue.Rest) reading _) (run_left s.held)
    by false o = last o

end_mails : (q : Protocol) (s : SlotState) (ending : Ending) (how : How) (reading : ℕ) → IsBorneOut q (Ended ending.run how) → AreBorneOut q (after_run ending how reading s).mails
end_mails q s ending how reading said = by (is_busy s.pair) s.rival
  where
    last : (o : Option Rival) → AreBorneOut q (after_last_run o (Ended ending.run how) reading (without_claim (without_run ending.run how reading s))).mails
    last None = one_borne q (Ended ending.run how) [] said (none_borne q)
    last (Some rival) = one_borne q (Ended ending.run how) (Granted rival.claim rival.job ∷ []) said (one_borne q (Granted rival.claim rival.job) [] tt (none_borne q))

    by : (busy : Bool) (o : Option Rival) → AreBorneOut q
        (if busy then says (after_cue cue.Rest reading (without_run ending.run how reading s)) (Ended ending.run how ∷ []) else after_last_run o (Ended ending.run how) reading (without_claim (without_run ending.run how reading s))).mails
    by true o = one_borne q (Ended ending.run how) [] said (none_borne q)
    by false o = last o

-- the report is there
end_said : (p : Protocol) (boot : ℕ) (slot : Slot) (ending : Ending) → IsConsistent boot slot.id slot.state → runs_on slot.state ending.run ≡ true
    → IsBorneOut (protocol_after_all p (moves_of_end slot ending)) (Ended ending.run (how_of ending.end (mark_in (running_of slot.state))))
end_said p boot slot ending c here = by (running_of slot.state) here (λ s there. subst (IsIn s) (sym reports) (in_first s (end_report_of (running_of slot.state) ending) p.pool.reports there))
  where
    q : Protocol
    q = protocol_after_all p (moves_of_end slot ending)

    its : SaysEnd slot.id (moves_of_end slot ending) (end_report_of (running_of slot.state) ending)
    its = end_says_it boot slot ending c

    reports : q.pool.reports ≡ end_report_of (running_of slot.state) ending ++ p.pool.reports
    reports = own_moves_say p (moves_of_end slot ending) (own_are_startd slot.id (moves_of_end slot ending) its.0) ∙ ap (λ xs. xs ++ p.pool.reports) its.1

    by : (o : Option Running) → is_run o ending.run ≡ true → ((s : EndReport) → IsIn s (end_report_of o ending) → IsIn s q.pool.reports) → IsBorneOut q (Ended ending.run (how_of ending.end (mark_in o)))
    by None h there = absurd (true≢false (sym h))
    by (Some r) h there = subst (λ run. IsBorneOut q (Ended run (how_of ending.end r.mark))) (same_run-true r.run ending.run h) (r.job, there _ (inl refl))

-- ---- the event
pub end_linked : (p : Protocol) (a : PoolParts) (machine : ℕ) (v : StartdValue) (ending : Ending) (reading : ℕ) → IsLinked p a → slice_get a.startds machine ≡ Some v
    → StayLinked p (moves_of_ended_run v ending) (parts_with_startd machine (after_end v ending reading) (reports_of_end v ending) a)
unfolding put_at made_by
end_linked p a machine v ending reading linked at = by_place (place_of v ending.run.claim.slot)
  where
    l : IsStartdAt p machine v
    l = linked.startds machine v at

    at_slot : (place : ℕ) (slot : Slot) → runs_on slot.state ending.run ≡ true → slice_get v.slots place ≡ Some slot
        → StayLinked p (moves_of_end slot ending) (parts_with_startd machine (after_made v place (made_by v.machine v.offers slot (after_ending ending reading slot.state) reading)) (end_report_of (running_of slot.state) ending) a)
    at_slot place slot here there =
        let r : Reaction = after_ending ending reading slot.state in
        let ms : List ProtocolMove = moves_of_end slot ending in
        let how : How = how_of ending.end (mark_in (running_of slot.state)) in
        let its = l.sound.slots place slot there in
        let may : MayAll p ms = ending_may p v.machine.boot slot ending here its.consistent linked.facts linked.safe (linked.slots.each (part_of v.machine.boot slot) (in_pool a.startds machine v slot at (at_place slot v.slots place there))) in
        let quiet = end_says_it v.machine.boot slot ending its.consistent in
        let said = end_said p v.machine.boot slot ending its.consistent here in
        subst (λ o. StayLinked p ms (parts_with_startd machine (record { startd = put_in v place o (concluded v.machine slot v.offers r reading); step = record { mails = (concluded v.machine slot v.offers r reading).mails; answer = answer_of r.task } }) (end_report_of (running_of slot.state) ending) a)) (sym there)
        (slot_event p a machine place v slot r (answer_of r.task) reading (end_report_of (running_of slot.state) ending) ms linked at there may quiet.0 quiet.1
        (ending_changes v.machine.boot slot ending reading here its.consistent)
        (subst (λ o. IsSound (put_in v place o (concluded v.machine slot v.offers r reading))) there (end_put v place slot ending reading there here l.sound))
        (reported slot.state r.state ms how said (end_kept slot.state ending how reading))
        (end_mails (protocol_after_all p ms) slot.state ending how reading said))
      where
        reported : (s t : SlotState) (ms : List ProtocolMove) (how : How) → IsBorneOut (protocol_after_all p ms) (Ended ending.run how) → IsOfEnd ending.run how t → IsEndReported (protocol_after_all p ms) (ended_of t.held)
        reported s t ms how said (inl none) = subst (IsEndReported (protocol_after_all p ms)) (sym none) tt
        reported s t ms how said (inr its) = subst (IsEndReported (protocol_after_all p ms)) (sym its) said

    by_run : (place : ℕ) (slot : Slot) (here : Bool) → runs_on slot.state ending.run ≡ here → slice_get v.slots place ≡ Some slot
        → StayLinked p (ends_where here slot ending) (parts_with_startd machine (ended_where here v place slot ending reading) (report_where here slot ending) a)
    by_run place slot true here there = at_slot place slot here there
    by_run place slot false here there = stays p a machine v nothing_done linked at (none_borne p)

    by_slot : (place : ℕ) (o : Option Slot) → slice_get v.slots place ≡ o → StayLinked p (ends_in_slot o ending) (parts_with_startd machine (ended_at v place o ending reading) (reports_in_slot o ending) a)
    by_slot place None there = stays p a machine v nothing_done linked at (none_borne p)
    by_slot place (Some slot) there = by_run place slot (runs_on slot.state ending.run) refl there

    by_place : (o : Option ℕ) → StayLinked p (ends_in_slot (slot_in v o) ending) (parts_with_startd machine (ended_in v o ending reading) (reports_in_slot (slot_in v o) ending) a)
    by_place None = stays p a machine v nothing_done linked at (none_borne p)
    by_place (Some place) = by_slot place (slice_get v.slots place) refl
