-- What a slot offers, and what is told of it.
use Rattle.std.specs.Prelude.{ℕ, ℤ, pos, ◌+◌, ◌==◌, Bool, true, false, not, ◌&&◌, ◌||◌, List, Option, Some, None, if◌then◌else◌}
use Rattle.claim_id.specs.declared.numbers.ClaimId.{ClaimId}
use Rattle.claim_id.specs.declared.numbers.SlotId.{SlotId}
use Rattle.pool_mail.specs.declared.mail.Mail.{Mail}
use Rattle.pool_mail.specs.declared.mail.Mail.TheVariants.{Update}
use Rattle.claim_id.specs.declared.pair.Pair.{Pair}
use Rattle.claim_id.specs.declared.pair.Pair.TheVariants.{OwnerIdle, UnclaimedIdle, MatchedIdle, ClaimedIdle, ClaimedBusy, ClaimedRetiring, PreemptingVacating, PreemptingKilling}
use Rattle.startd_slot.specs.declared.held.Held.{Held}
use Rattle.startd_core.specs.declared.offers.Machine.{Machine}
use Rattle.startd_slot.specs.declared.slot.Slot.{Slot}
use Rattle.startd_slot.specs.declared.slot.SlotState.{SlotState}
use Rattle.startd_core.specs.Secrets.{secret_of}
use Rattle.startd_slot.specs.SlotStates.{is_open, same_claim_id}

-- ---- the offer, once the pair is settled
-- a slot, and how many claims its machine has offered over all its boots
pub record Settled : Type 0 where
  pub state : SlotState
  pub offers : ℕ

-- the next offer: the next seq, and a new secret
abbrev pub next_offer : Machine → SlotId → SlotState → ℕ → ClaimId
next_offer m slot s offers = record {
  no = record { slot = slot; boot = m.boot; seq = s.issued + 1 };
  secret = secret_of m.secret_key m.number offers;
}

abbrev pub with_offer : ClaimId → SlotState → SlotState
with_offer claim s = record s { issued = s.issued + 1; offer = Some claim }

-- in a pair in which claims are offered
abbrev pub settled_open : Machine → SlotId → Option ClaimId → SlotState → ℕ → Settled
settled_open m slot (Some offer) s offers = record { state = s; offers = offers }
settled_open m slot None s offers = record {
  state = with_offer (next_offer m slot s offers) s;
  offers = offers + 1;
}

abbrev pub settled : Machine → SlotId → SlotState → ℕ → Settled
settled m slot s offers = if is_open s.pair
    then settled_open m slot s.offer s offers
    else record { state = record s { offer = None }; offers = offers }

-- ---- what is told
abbrev pub user_in : Option Held → Option (List ℕ)
user_in None = None
user_in (Some held) = Some held.user

abbrev pub rank_in : Option Held → ℤ
rank_in None = pos 0
rank_in (Some held) = held.rank

abbrev pub update_of : Slot → SlotState → ℕ → Mail
update_of slot s reading = Update (record {
  slot = slot.id;
  name = slot.name;
  claim = s.offer;
  pair = s.pair;
  user = user_in s.held;
  rank = rank_in s.held;
  at = reading;
  ad = slot.ad;
})

-- the slot has told how it stands
abbrev pub with_told : ℕ → SlotState → SlotState
with_told reading s = record s { told = Some reading }

-- the place of a pair in the table of slot states
abbrev pub pair_place : Pair → ℕ
pair_place OwnerIdle = 0
pair_place UnclaimedIdle = 1
pair_place MatchedIdle = 2
pair_place ClaimedIdle = 3
pair_place ClaimedBusy = 4
pair_place ClaimedRetiring = 5
pair_place PreemptingVacating = 6
pair_place PreemptingKilling = 7

abbrev pub same_pair : Pair → Pair → Bool
same_pair a b = pair_place a == pair_place b

abbrev pub same_offer : Option ClaimId → Option ClaimId → Bool
same_offer None None = true
same_offer (Some a) (Some b) = same_claim_id a b
same_offer None (Some b) = false
same_offer (Some a) None = false

-- what others are told of the slot differs
abbrev pub has_changed : SlotState → SlotState → Bool
has_changed old new = not (same_pair old.pair new.pair) || not (same_offer old.offer new.offer)

-- a tick looks at it soon: Owner, Retiring and Vacating
abbrev pub is_brief : Pair → Bool
is_brief OwnerIdle = true
is_brief UnclaimedIdle = false
is_brief MatchedIdle = false
is_brief ClaimedIdle = false
is_brief ClaimedBusy = false
is_brief ClaimedRetiring = true
is_brief PreemptingVacating = true
is_brief PreemptingKilling = false

-- the slot has entered such a pair
abbrev pub has_entered : SlotState → SlotState → Bool
has_entered old new = not (same_pair old.pair new.pair) && is_brief new.pair
