-- What the states of a slot, and the cues, are called in cases.
use Rattle.std.specs.Prelude.{ℕ, List, codes}
use Rattle.claim_id.specs.declared.pair.Cue.{Cue}
use Rattle.claim_id.specs.declared.pair.Cue.TheVariants as cue
use Rattle.claim_id.specs.declared.pair.Pair.{Pair}
use Rattle.claim_id.specs.declared.pair.Pair.TheVariants as pair

-- a state and its activity
abbrev pub pair_name : Pair → List ℕ
pair_name pair.OwnerIdle = codes "Owner/Idle"
pair_name pair.UnclaimedIdle = codes "Unclaimed/Idle"
pair_name pair.MatchedIdle = codes "Matched/Idle"
pair_name pair.ClaimedIdle = codes "Claimed/Idle"
pair_name pair.ClaimedBusy = codes "Claimed/Busy"
pair_name pair.ClaimedRetiring = codes "Claimed/Retiring"
pair_name pair.PreemptingVacating = codes "Preempting/Vacating"
pair_name pair.PreemptingKilling = codes "Preempting/Killing"

-- the name of the variant
abbrev pub cue_name : Cue → List ℕ
cue_name cue.StartOn = codes "StartOn"
cue_name cue.StartOff = codes "StartOff"
cue_name cue.Match = codes "Match"
cue_name cue.Lapse = codes "Lapse"
cue_name cue.Grant = codes "Grant"
cue_name cue.Begin = codes "Begin"
cue_name cue.Rest = codes "Rest"
cue_name cue.Retire = codes "Retire"
cue_name cue.Vacate = codes "Vacate"
cue_name cue.Kill = codes "Kill"
cue_name cue.Handover = codes "Handover"
cue_name cue.Finish = codes "Finish"
