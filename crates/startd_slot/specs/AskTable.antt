-- What becomes of an Ask and of a Matched: the first row that fits, and what it does (HTCondor
-- manual, "Policy Configuration for Execution Points", State and Activity Transitions).
use Rattle.std.specs.Prelude.{ℕ, ℤ, Bool, true, false, not, ◌&&◌, ◌||◌, List, [], ◌∷◌, Option, Some, None, int_lt, if◌then◌else◌}
use Rattle.std.specs.Ordering.{int_eq}
use Rattle.ad_tree.specs.Ad.{Attributes}
use Rattle.ad_eval.specs.Match.{rank_of}
use Rattle.claim_id.specs.declared.numbers.ClaimId.{ClaimId}
use Rattle.pool_mail.specs.Ads.{owner_of}
use Rattle.pool_mail.specs.declared.mail.Mail.{Mail}
use Rattle.pool_mail.specs.declared.mail.Mail.TheVariants.{Granted, Denied}
use Rattle.pool_mail.specs.declared.why.Why.{Why}
use Rattle.pool_mail.specs.declared.why.Why.TheVariants.{NoSuchClaim, NotMatched, RankTooLow}
use Rattle.claim_id.specs.declared.pair.Cue.{Cue}
use Rattle.claim_id.specs.declared.pair.Cue.TheVariants.{Match, Grant, Handover, Retire}
use Rattle.claim_id.specs.declared.pair.Pair.{Pair}
use Rattle.claim_id.specs.declared.pair.Pair.TheVariants.{OwnerIdle, UnclaimedIdle, MatchedIdle, ClaimedIdle, ClaimedBusy, ClaimedRetiring, PreemptingVacating, PreemptingKilling}
use Rattle.startd_slot.specs.declared.ask.AskRow.{AskRow}
use Rattle.startd_slot.specs.declared.ask.AskRow.TheVariants as row
use Rattle.startd_slot.specs.declared.ask.Asked.{Asked}
use Rattle.startd_slot.specs.declared.held.Held.{Held}
use Rattle.startd_slot.specs.declared.reaction.Reaction.{Reaction}
use Rattle.startd_slot.specs.declared.slot.Slot.{Slot}
use Rattle.startd_slot.specs.declared.slot.SlotState.{SlotState}
use Rattle.startd_slot.specs.Reactions.{says, becomes}
use Rattle.startd_slot.specs.SlotStates.{offers_claim, after_cue, with_claim, without_claim}

-- ---- which row fits
-- a slot that is claimed, by what it does
abbrev pub contested_row : Pair → AskRow
contested_row ClaimedIdle = row.HandedOver
contested_row OwnerIdle = row.MadeRival
contested_row UnclaimedIdle = row.MadeRival
contested_row MatchedIdle = row.MadeRival
contested_row ClaimedBusy = row.MadeRival
contested_row ClaimedRetiring = row.MadeRival
contested_row PreemptingVacating = row.MadeRival
contested_row PreemptingKilling = row.MadeRival

-- the rank is not above the held one, and not equal where the user's priority is the better one
abbrev pub is_rank_too_low : ℤ → Bool → ℤ → Bool
is_rank_too_low old by_priority new = int_lt new old || (int_eq new old && not by_priority)

abbrev pub offered_row : Option Held → Pair → Bool → ℤ → AskRow
offered_row None pair by_priority rank = row.Granted
offered_row (Some held) pair by_priority rank = if is_rank_too_low held.rank by_priority rank
    then row.RankTooLow held.rank rank
    else contested_row pair

abbrev pub ask_row : SlotState → Asked → Bool → ℤ → AskRow
ask_row s asked matched rank = if not (offers_claim s asked.claim) then row.NotOffered
    else (if not matched then row.NotMatched
    else offered_row s.held s.pair asked.by_priority rank)

-- ---- what it does
abbrev pub ask_denied : Asked → Why → Mail
ask_denied asked why = Denied asked.claim.no None asked.job why

-- the claim is held from now on
abbrev pub granted_to : Asked → List ℕ → ℤ → Cue → ℕ → SlotState → SlotState
granted_to asked user rank cue reading s =
    after_cue cue reading (with_claim asked.claim user rank reading (record s { offer = None }))

-- the claim waits for the slot's run to leave
abbrev pub with_rival : Asked → List ℕ → ℤ → SlotState → SlotState
with_rival asked user rank s = record s {
  rival = Some (record { claim = asked.claim; job = asked.job; user = user; rank = rank });
  offer = None;
}

abbrev pub after_ask_row : AskRow → Asked → List ℕ → ℤ → ℕ → SlotState → Reaction
after_ask_row row.NotOffered asked user rank reading s = says s (ask_denied asked NoSuchClaim ∷ [])
after_ask_row row.NotMatched asked user rank reading s = says s (ask_denied asked NotMatched ∷ [])
after_ask_row row.Granted asked user rank reading s =
    says (granted_to asked user rank Grant reading s) (Granted asked.claim asked.job ∷ [])
after_ask_row (row.RankTooLow old new) asked user rank reading s =
    says s (ask_denied asked (RankTooLow old new) ∷ [])
after_ask_row row.HandedOver asked user rank reading s =
    says (granted_to asked user rank Handover reading (without_claim s))
    (Granted asked.claim asked.job ∷ [])
after_ask_row row.MadeRival asked user rank reading s =
    becomes (after_cue Retire reading (with_rival asked user rank s))

-- an Ask with a job's ad, which matches the slot's or doesn't
abbrev pub after_ask : Slot → Asked → Attributes → Bool → ℕ → Reaction
after_ask slot asked ad matched reading =
    let rank = rank_of slot.ad ad reading in
    after_ask_row (ask_row slot.state asked matched rank) asked (owner_of ad) rank reading
    slot.state

-- ---- a Matched
abbrev pub is_unclaimed : Pair → Bool
is_unclaimed UnclaimedIdle = true
is_unclaimed _ = false

-- Match, where the claim is the offer of an Unclaimed/Idle slot
abbrev pub after_matched : ClaimId → ℕ → SlotState → Reaction
after_matched claim reading s = becomes (if is_unclaimed s.pair && offers_claim s claim
    then after_cue Match reading s
    else s)
