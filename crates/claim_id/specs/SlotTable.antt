-- What leads a slot from one state and activity to another (HTCondor manual, "Policy Configuration
-- for Execution Points": Machine States, Machine Activities, State and Activity Transitions).
use Rattle.std.specs.Prelude.{Bool, true, false, List, [], ◌∷◌, Option}
use Rattle.std.specs.Map.{lookup}
use Rattle.claim_id.specs.declared.pair.Cue.{Cue}
use Rattle.claim_id.specs.declared.pair.Cue.TheVariants.{StartOn, StartOff, Match, Lapse, Grant, Begin, Rest, Retire, Vacate, Kill, Handover, Finish}
use Rattle.claim_id.specs.declared.pair.Pair.{Pair}
use Rattle.claim_id.specs.declared.pair.Pair.TheVariants.{OwnerIdle, UnclaimedIdle, MatchedIdle, ClaimedIdle, ClaimedBusy, ClaimedRetiring, PreemptingVacating, PreemptingKilling}

-- a way out of a state and activity: the cue for it, and where it leads
infix 6 ◌⇒◌
abbrev pub ◌⇒◌ : Cue → Pair → Cue × Pair
cue ⇒ to = (cue, to)

-- the table
abbrev pub ways_from : Pair → List (Cue × Pair)
ways_from OwnerIdle = (StartOn ⇒ UnclaimedIdle) ∷ []
ways_from UnclaimedIdle =
    (StartOff ⇒ OwnerIdle) ∷ (Match ⇒ MatchedIdle) ∷ (Grant ⇒ ClaimedIdle) ∷ []
ways_from MatchedIdle =
    (StartOff ⇒ OwnerIdle) ∷ (Lapse ⇒ OwnerIdle) ∷ (Grant ⇒ ClaimedIdle) ∷ []
ways_from ClaimedIdle =
    (Begin ⇒ ClaimedBusy) ∷ (Finish ⇒ OwnerIdle) ∷ (Handover ⇒ ClaimedIdle) ∷ []
ways_from ClaimedBusy =
    (Rest ⇒ ClaimedIdle) ∷ (Retire ⇒ ClaimedRetiring) ∷ (Kill ⇒ PreemptingKilling) ∷ []
ways_from ClaimedRetiring =
    (Vacate ⇒ PreemptingVacating) ∷ (Kill ⇒ PreemptingKilling)
    ∷ (Finish ⇒ OwnerIdle) ∷ (Handover ⇒ ClaimedIdle) ∷ []
ways_from PreemptingVacating =
    (Kill ⇒ PreemptingKilling) ∷ (Finish ⇒ OwnerIdle) ∷ (Handover ⇒ ClaimedIdle) ∷ []
ways_from PreemptingKilling = (Finish ⇒ OwnerIdle) ∷ (Handover ⇒ ClaimedIdle) ∷ []

abbrev pub same_cue : Cue → Cue → Bool
same_cue StartOn StartOn = true
same_cue StartOff StartOff = true
same_cue Match Match = true
same_cue Lapse Lapse = true
same_cue Grant Grant = true
same_cue Begin Begin = true
same_cue Rest Rest = true
same_cue Retire Retire = true
same_cue Vacate Vacate = true
same_cue Kill Kill = true
same_cue Handover Handover = true
same_cue Finish Finish = true
same_cue _ _ = false

-- where a cue leads from a state and activity, looked up in the table
abbrev pub next_of : Pair → Cue → Option Pair
next_of pair cue = lookup (same_cue cue) (ways_from pair)
