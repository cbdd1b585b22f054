-- What always holds of a slot between two events: its pair, its claims and its run agree.
use Rattle.std.specs.Prelude.{◌≡◌, ℕ, ◌<◌, ◌≤◌, Bool, true, false, IfSome, IsTrue, is_some}
use Rattle.claim_id.specs.declared.numbers.ClaimNo.{ClaimNo}
use Rattle.claim_id.specs.declared.numbers.RunNo.{RunNo}
use Rattle.claim_id.specs.declared.numbers.SlotId.{SlotId}
use Rattle.claim_id.specs.declared.pair.Pair.{Pair}
use Rattle.claim_id.specs.declared.pair.Pair.TheVariants.{OwnerIdle, UnclaimedIdle, MatchedIdle, ClaimedIdle, ClaimedBusy, ClaimedRetiring, PreemptingVacating, PreemptingKilling}
use Rattle.claim_id.specs.States.{has_claim, has_run}
use Rattle.startd_slot.specs.declared.held.Held.{Held}
use Rattle.startd_slot.specs.declared.slot.SlotState.{SlotState}
use Rattle.startd_slot.specs.SlotStates.{running_of, is_open}

-- a claim of that slot and of its machine's boot, offered after all that have ended, and counted
abbrev pub IsOwnClaim : ℕ → SlotId → SlotState → ClaimNo → Type 0
IsOwnClaim boot slot s claim =
    (claim.slot ≡ slot) × (claim.boot ≡ boot) × (s.passed < claim.seq) × (claim.seq ≤ s.issued)

-- and after the one that is held
abbrev pub IsNextClaim : ℕ → SlotId → SlotState → ClaimNo → Type 0
IsNextClaim boot slot s claim =
    IsOwnClaim boot slot s claim × IfSome s.held (λ h. h.claim.no.seq < claim.seq)

-- a run of a claim, whose number the claim has used
abbrev pub IsOwnRun : Held → RunNo → Type 0
IsOwnRun h run = (run.claim ≡ h.claim.no) × (run.number ≤ h.last)

-- the run of a claim is its own, and so is the one that ended last under it, which came before
abbrev pub HasOwnRuns : Held → Type 0
HasOwnRuns h = IfSome h.running (λ r. IsOwnRun h r.run)
    × IfSome h.ended (λ e. IsOwnRun h e.0)
    × IfSome h.ended (λ e. IfSome h.running (λ r. e.0.number < r.run.number))

-- the claim of the slot is told to go
abbrev pub is_leaving : Pair → Bool
is_leaving OwnerIdle = false
is_leaving UnclaimedIdle = false
is_leaving MatchedIdle = false
is_leaving ClaimedIdle = false
is_leaving ClaimedBusy = false
is_leaving ClaimedRetiring = true
is_leaving PreemptingVacating = true
is_leaving PreemptingKilling = true

pub record IsConsistent (boot : ℕ) (slot : SlotId) (s : SlotState) : Type 0 where
  -- the pair says whether a claim is held, and whether a run is there
  pub claimed : is_some s.held ≡ has_claim s.pair
  pub busy : is_some (running_of s) ≡ has_run s.pair
  -- every claim that has ended was counted
  pub counted : s.passed ≤ s.issued
  -- the claims that are held, offered and waiting
  pub held : IfSome s.held (λ h. IsOwnClaim boot slot s h.claim.no × HasOwnRuns h)
  pub offer : IfSome s.offer (λ c. IsNextClaim boot slot s c.no)
  pub rival : IfSome s.rival
      (λ r. IsNextClaim boot slot s r.claim.no × IsTrue (is_leaving s.pair))

-- a claim is offered in just the pairs in which one is to be
abbrev pub IsSettled : SlotState → Type 0
IsSettled s = is_some s.offer ≡ is_open s.pair
