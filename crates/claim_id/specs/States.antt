-- What a pair of state and activity says of a slot (HTCondor manual, "Policy Configuration for
-- Execution Points": Machine States, Machine Activities).
use Rattle.std.specs.Prelude.{ℕ, Bool, true, false}
use Rattle.claim_id.specs.declared.pair.Pair.{Pair}
use Rattle.claim_id.specs.declared.pair.Pair.TheVariants.{OwnerIdle, UnclaimedIdle, MatchedIdle, ClaimedIdle, ClaimedBusy, ClaimedRetiring, PreemptingVacating, PreemptingKilling}

-- somebody has a claim on the slot: its state is Claimed or Preempting
abbrev pub has_claim : Pair → Bool
has_claim OwnerIdle = false
has_claim UnclaimedIdle = false
has_claim MatchedIdle = false
has_claim ClaimedIdle = true
has_claim ClaimedBusy = true
has_claim ClaimedRetiring = true
has_claim PreemptingVacating = true
has_claim PreemptingKilling = true

-- the claim has a run: the activity isn't Idle
abbrev pub has_run : Pair → Bool
has_run OwnerIdle = false
has_run UnclaimedIdle = false
has_run MatchedIdle = false
has_run ClaimedIdle = false
has_run ClaimedBusy = true
has_run ClaimedRetiring = true
has_run PreemptingVacating = true
has_run PreemptingKilling = true

-- how far a run has come on its way out of the slot
abbrev pub urgency : Pair → ℕ
urgency ClaimedRetiring = 1
urgency PreemptingVacating = 2
urgency PreemptingKilling = 3
urgency _ = 0
