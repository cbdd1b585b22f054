-- What is known of an event that is accepted.
use Rattle.std.proofs.Common.{◌≡◌, ◌≢◌, ℕ, nat_eq, Bool, true, false, List, [], ◌∷◌, Option, Some, None, refl, sym}
use Rattle.std.proofs.lemmas.Bool.{eqb-false, eqb-true}
use Rattle.std.proofs.lemmas.Option.{none-some}
use Rattle.pool_parts.specs.declared.event.Event.{Event}
use Rattle.pool_parts.specs.declared.pending.Pending.{Pending}
use Rattle.pool_parts.specs.Receipts.{IsKeptRefusal, IsReceiptRefusal, still_pending}
use Rattle.pool_rules.specs.Refusals.{IsEventRefusal, IsRefusal, Refusal, Then, closed_refusal, events_refusal, first_of}
use Rattle.pool_state.specs.declared.state.PoolState.{PoolState}
use Rattle.queue_tx.specs.Operations.{Operation}
use Rattle.receipt_roll.specs.Values.{ReceiptValue}

-- ---- of several causes none
pub none_first : (o : Refusal) (Next : Refusal → Type 0) → Then o Next None → o ≡ None
none_first None Next h = refl
none_first (Some e) Next h = absurd (none-some e h)

pub none_then : (o : Refusal) (Next : Refusal → Type 0) → Then o Next None → Next None
none_then None Next h = h
none_then (Some e) Next h = absurd (none-some e h)

pub none_head : (o : Refusal) (rs : List Refusal) → first_of (o ∷ rs) ≡ None → o ≡ None
none_head None rs h = refl
none_head (Some e) rs h = absurd (none-some e (sym h))

pub none_rest : (o : Refusal) (rs : List Refusal) → first_of (o ∷ rs) ≡ None → first_of rs ≡ None
none_rest None rs h = h
none_rest (Some e) rs h = absurd (none-some e (sym h))

pub its_refusal : (e : Event) (s : PoolState) → IsRefusal e s None → IsEventRefusal e s None
its_refusal e s h = none_then (first_of (closed_refusal s ∷ events_refusal s ∷ [])) (IsEventRefusal e s) h

-- ---- of the unfinished transaction
pub not_pending : (o : Option Pending) → still_pending o ≡ None → o ≡ None
not_pending None h = refl
not_pending (Some p) h = absurd (none-some _ (sym h))

-- a receipt that is accepted is of the unfinished transaction
pub record IsOfPending (p : Option Pending) (number : ℕ) : Type 0 where
  pub pending : Pending
  pub is : p ≡ Some pending
  pub its : number ≡ pending.number

same_number : (a b : ℕ) → (a ≢ b → ⊥) → a ≡ b
same_number a b not_other = by (nat_eq a b) refl
  where
    by : (t : Bool) → nat_eq a b ≡ t → a ≡ b
    by true is = eqb-true a b is
    by false is = absurd (not_other (eqb-false a b is))

pub of_pending : (o : Option Pending) (t : ReceiptValue (List Operation)) → IsReceiptRefusal o t None → IsOfPending o t.number
of_pending None t h = absurd (none-some _ h)
of_pending (Some p) t h = record { pending = p; is = refl; its = same_number t.number p.number (λ other. none-some _ (h.other other)) }

pub kept_pending : (o : Option Pending) (t : ReceiptValue (List Operation)) → IsKeptRefusal o (Some t) None → IsOfPending o t.number
kept_pending o t h = of_pending o t h
