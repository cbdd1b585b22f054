-- Whether what was judged is what there is.
use Rattle.std.specs.Prelude.{◌≡◌, ◌⊎◌, ℕ, Bool, true, false, ◌&&◌, ◌||◌, not, List, [], ◌∷◌, ◌++◌, Option, Some, None, is_some, slice_get, IfSome, IsSomeAnd, MatchOption}
use Rattle.ad_eval.specs.Judgement.{Judgement, Mismatch, IsJudgementOf, IsMismatchOf}
use Rattle.ad_tree.specs.Ad.{Attributes}
use Rattle.claim_id.specs.declared.numbers.ClaimId.{ClaimId}
use Rattle.claim_id.specs.declared.numbers.JobId.{JobId}
use Rattle.claim_id.specs.declared.numbers.SlotId.{SlotId}
use Rattle.pool_shown.specs.Slots.{slot_ads, slot_at}
use Rattle.pool_mail.specs.Ads.{request_ad}
use Rattle.pool_mail.specs.declared.mail.Mail.{Mail}
use Rattle.pool_mail.specs.declared.mail.Mail.TheVariants as mail
use Rattle.pool_mail.specs.declared.matching.Match.{Match}
use Rattle.pool_outer.specs.declared.gate.Daemon.TheVariants.{Startd}
use Rattle.pool_state.specs.declared.state.PoolState.{PoolState}
use Rattle.pool_state.specs.PoolJobs.{is_engaged}
use Rattle.pool_tables.specs.DaemonTables.{is_up, daemon_state}
use Rattle.queue_tx.specs.declared.key.Key.TheVariants.{Proc}
use Rattle.queue_tx.specs.declared.kind.JobKind.TheVariants.{Idle}
use Rattle.queue_tx.specs.Kinds.{kind_of}
use Rattle.queue_tx.specs.Queues.{KeyedAds, ad_at}
use Rattle.startd_core.specs.Startds.{StartdValue, judges}
use Rattle.startd_slot.specs.declared.slot.Slot.{Slot}
use Rattle.startd_slot.specs.SlotStates.{offers_claim}

-- ---- a mail and its slot
-- the ad of a mail that is judged, and the slot with whose ad it is
abbrev pub judged_in : Mail → Option (Attributes × SlotId)
judged_in (mail.Ask claim job ad by_priority) = Some (ad, claim.no.slot)
judged_in (mail.Activate run job ad until) = Some (ad, run.claim.slot)
judged_in _ = None

-- neither a match nor the want of one
abbrev pub nothing_given : Option Judgement → Option Mismatch → Bool
nothing_given judged mismatch = not (is_some judged || is_some mismatch)

abbrev pub is_judged_at : Option StartdValue → Mail → ℕ → Bool
is_judged_at None m reading = false
is_judged_at (Some v) m reading = is_some (judges v m reading)

-- what is given is of the two ads alone, at the reading
pub record IsFair (ad slot : Attributes) (reading : ℕ) (judged : Option Judgement)
    (mismatch : Option Mismatch) : Type 0 where
  pub match_is : IfSome judged (IsJudgementOf ad slot reading)
  pub none_is : IfSome mismatch (IsMismatchOf (ad ∷ []) (slot ∷ []) reading)

-- What is given with a mail whose ad is judged with that of the slot is fair, and something is
-- given where it is asked for.
pub record IsFairOf (s : PoolState) (m : Mail) (ad : Attributes) (slot : SlotId) (reading : ℕ)
    (judged : Option Judgement) (mismatch : Option Mismatch) : Type 0 where
  pub fair : MatchOption (slot_at slot s.machines)
      (nothing_given judged mismatch ≡ true)
      (λ sl. IsFair ad sl.ad reading judged mismatch)
  pub given : is_judged_at (slice_get s.machines slot.machine) m reading ≡ true
      → nothing_given judged mismatch ≡ false

-- ---- a match
abbrev pub offers_in : Option Slot → ClaimId → Bool
offers_in None claim = false
offers_in (Some slot) claim = offers_claim slot.state claim

-- a slot whose startd is up offers the claim
abbrev pub is_offered : ClaimId → PoolState → Bool
is_offered claim s = is_up (daemon_state (Startd claim.no.slot.machine) s.daemons)
    && offers_in (slot_at claim.no.slot s.machines) claim

-- the ads of a match are those that its job and its slot have, at the reading
pub record IsLive (s : PoolState) (m : Match) (judged : Judgement) (reading : ℕ) : Type 0 where
  pub idle : IsSomeAnd (ad_at (Proc m.job) s.queue)
      (λ ad. (kind_of ad ≡ Some Idle) × (judged.job ≡ request_ad ad))
  pub free : is_engaged m.job s ≡ false
  pub offered : is_offered m.claim s ≡ true
  pub slot : IsSomeAnd (slot_at m.claim.no.slot s.machines) (λ sl. judged.slot ≡ sl.ad)
  pub at : judged.at ≡ reading

-- one of the matches is live
abbrev pub IsSomeLive : PoolState → List Match → List Judgement → ℕ → Type 0
IsSomeLive s [] js reading = ⊥
IsSomeLive s (m ∷ ms) [] reading = ⊥
IsSomeLive s (m ∷ ms) (j ∷ js) reading = IsLive s m j reading ⊎ IsSomeLive s ms js reading

-- ---- the end
abbrev pub asked_ad : Option Attributes → List Attributes
asked_ad None = []
asked_ad (Some ad) = request_ad ad ∷ []

-- what jobs ask for
abbrev pub asked_ads : KeyedAds → List JobId → List Attributes
asked_ads q [] = []
asked_ads q (job ∷ jobs) = asked_ad (ad_at (Proc job) q) ++ asked_ads q jobs

-- the jobs that are idle and the slots, as they are at the reading
abbrev pub IsOfAll : PoolState → List JobId → Mismatch → ℕ → Type 0
IsOfAll s idle mismatch reading =
    IsMismatchOf (asked_ads s.queue idle) (slot_ads s.machines) reading mismatch
