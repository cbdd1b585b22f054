-- A queue that has room keeps it, whatever transaction is done.
use Rattle.std.proofs.Common.{◌≡◌, ℕ, ◌+◌, Bool, true, false, cond, List, [], ◌∷◌, Option, Some, None, Result, Ok, Err, refl, sym, subst}
use Rattle.std.specs.Prelude.{IfSome}
use Rattle.std.specs.List.Sorted.{IsStrictlySortedBy}
use Rattle.ad_tree.specs.Ad.{Attributes}
use Rattle.queue_tx.specs.declared.error.ApplyError.{ApplyError}
use Rattle.queue_tx.specs.declared.key.Key.{Key}
use Rattle.queue_tx.specs.Keys.{same_key}
use Rattle.queue_tx.specs.Operations.{Operation, new_ad, destroy_ad, set_attr, delete_attr, key_of}
use Rattle.queue_tx.specs.Printable.{HasPrintableKeys, IsPrintableKey, IsPrintableQueue}
use Rattle.queue_tx.specs.Queues.{KeyedAds, IsQueue, ad_at, ad_after, put_back, with_ad, after_op, after_ops, after_rest, queue_after, queue_after_all, QueueOf}
use Rattle.queue_tx.specs.Roomy.{HasRoom, IsRoomy}
use Rattle.queue_tx.proofs.Queues.{ordered_with}
use Rattle.queue_tx.proofs.RoomKept.{ad_has_room}
use Rattle.queue_tx.proofs.Transactions.{same_keys, changes_its_key, leaves_other_keys, stays_a_queue}
use Rattle.pool_parts.specs.Loggable.{IsLoggableQueue, BringsPrintableKey, BringsPrintableKeys}

-- ---- what holds of what stands under each key, and what each operation leaves so under its own
abbrev Everywhere : (Key → Option Attributes → Type 0) → KeyedAds → Type 0
Everywhere P q = (key : Key) → P key (ad_at key q)

op_keeps : (P : Key → Option Attributes → Type 0) (n : ℕ) (q new : KeyedAds) (o : Operation) → IsQueue q
    → ((a made : Option Attributes) → P (key_of o) a → ad_after n a o ≡ Ok made → P (key_of o) made)
    → Everywhere P q → after_op n q o ≡ Ok new → Everywhere P new
op_keeps P n q new o s keeps all h key = by (same_key (key_of o) key) refl
  where
    by : (b : Bool) → same_key (key_of o) key ≡ b → P key (ad_at key new)
    by true is = subst (λ k. P k (ad_at k new)) (same_keys (key_of o) key is) (keeps (ad_at (key_of o) q) (ad_at (key_of o) new) (all (key_of o)) (changes_its_key n q new o s h))
    by false is = subst (P key) (sym (leaves_other_keys n q new o key s h is)) (all key)

op_ordered : (n : ℕ) (q new : KeyedAds) (o : Operation) → IsQueue q → after_op n q o ≡ Ok new → IsQueue new
op_ordered n q new o s h = by (ad_after n (ad_at (key_of o) q) o) h
  where
    by : (r : Result (Option Attributes) ApplyError) → put_back (key_of o) q r ≡ Ok new → IsQueue new
    by (Ok made) h = let same : with_ad (key_of o) made q ≡ new = cc in subst IsQueue same (ordered_with (key_of o) made q s)
    by (Err f) h = cc

abbrev All : (Operation → Type 0) → List Operation → Type 0
All B [] = Unit {0}
All B (o ∷ os) = B o × All B os

ops_keep : (P : Key → Option Attributes → Type 0) (B : Operation → Type 0)
    → ((n : ℕ) (o : Operation) (a made : Option Attributes) → B o → P (key_of o) a → ad_after n a o ≡ Ok made → P (key_of o) made)
    → (n : ℕ) (q new : KeyedAds) (os : List Operation) → All B os → IsQueue q → Everywhere P q → after_ops n q os ≡ Ok new → Everywhere P new
ops_keep P B keeps n q new [] bs s all h = let same : q ≡ new = cc in subst (Everywhere P) same all
ops_keep P B keeps n q new (o ∷ os) bs s all h = by (after_op n q o) refl h (λ p t each g. ops_keep P B keeps (n + 1) p new os bs.1 t each g)
  where
    by : (r : Result KeyedAds ApplyError) → after_op n q o ≡ r → after_rest (λ p. after_ops (n + 1) p os) r ≡ Ok new
        → ((p : KeyedAds) → IsQueue p → Everywhere P p → after_ops (n + 1) p os ≡ Ok new → Everywhere P new) → Everywhere P new
    by (Ok p) is h rest = rest p (op_ordered n q p o s is) (op_keeps P n q p o s (λ a made. keeps n o a made bs.0) all is) h
    by (Err f) is h rest = cc

-- ---- room
nothing : (os : List Operation) → All (λ o. Unit {0}) os
nothing [] = tt
nothing (o ∷ os) = (tt, nothing os)

pub room_stays : (q new : KeyedAds) (tx : List Operation) → IsQueue q → IsRoomy q → queue_after q tx ≡ Ok new → IsRoomy new
room_stays q new tx s room h =
    ops_keep (λ key o. IfSome o (HasRoom key)) (λ o. Unit {0}) (λ n o a made u. ad_has_room n o a made) 0 q new tx (nothing tx) s room h

-- ---- keys
key_keeps : (n : ℕ) (o : Operation) (a made : Option Attributes) → BringsPrintableKey o → IfSome a (λ ad. IsPrintableKey (key_of o)) → ad_after n a o ≡ Ok made → IfSome made (λ ad. IsPrintableKey (key_of o))
key_keeps n o a None b p h = tt
key_keeps n (new_ad key kind other) a (Some made) b p h = b
key_keeps n (destroy_ad key) None (Some made) b p h = cc
key_keeps n (destroy_ad key) (Some ad) (Some made) b p h = p
key_keeps n (set_attr key name e) None (Some made) b p h = cc
key_keeps n (set_attr key name e) (Some ad) (Some made) b p h = p
key_keeps n (delete_attr key name) None (Some made) b p h = cc
key_keeps n (delete_attr key name) (Some ad) (Some made) b p h = p

as_all : (os : List Operation) → BringsPrintableKeys os → All BringsPrintableKey os
as_all [] h = tt
as_all (o ∷ os) h = (h.0, as_all os h.1)

pub keys_stay : (q new : KeyedAds) (tx : List Operation) → IsQueue q → HasPrintableKeys q → BringsPrintableKeys tx → queue_after q tx ≡ Ok new → HasPrintableKeys new
keys_stay q new tx s keys brings h =
    ops_keep (λ key o. IfSome o (λ ad. IsPrintableKey key)) BringsPrintableKey key_keeps 0 q new tx (as_all tx brings) s keys h

-- ---- a queue that transactions build
built : (txs : List (List Operation)) (q new : KeyedAds) → IsQueue q → IsRoomy q → queue_after_all q txs ≡ Ok new → IsRoomy new
built [] q new s r h = let same : q ≡ new = cc in subst IsRoomy same r
built (tx ∷ txs) q new s r h = by (queue_after q tx) refl h (λ p t k g. built txs p new t k g)
  where
    by : (o : Result KeyedAds ApplyError) → queue_after q tx ≡ o → after_rest (λ p. queue_after_all p txs) o ≡ Ok new
        → ((p : KeyedAds) → IsQueue p → IsRoomy p → queue_after_all p txs ≡ Ok new → IsRoomy new) → IsRoomy new
    by (Ok p) is h rest = rest p (stays_a_queue q p tx s is) (room_stays q p tx s r is) h
    by (Err f) is h rest = cc

no_keys : IsQueue []
unfolding IsStrictlySortedBy
no_keys = tt

pub built_has_room : (txs : List (List Operation)) (q : KeyedAds) → QueueOf txs q → IsRoomy q
built_has_room txs q h = built txs [] q no_keys (λ key. tt) h

-- ---- and one that can be printed
keys_print : (q : KeyedAds) → IsPrintableQueue q → (key : Key) → IfSome (ad_at key q) (λ ad. IsPrintableKey key)
keys_print [] h key = tt
keys_print (e ∷ q) h key = by (same_key key e.0) refl (keys_print q h.2 key)
  where
    by : (b : Bool) → same_key key e.0 ≡ b → IfSome (ad_at key q) (λ ad. IsPrintableKey key) → IfSome (cond b (Some e.1) (ad_at key q)) (λ ad. IsPrintableKey key)
    by true is rest = subst IsPrintableKey (sym (same_keys key e.0 is)) h.0
    by false is rest = rest

pub built_is_loggable : (txs : List (List Operation)) (q : KeyedAds) → QueueOf txs q → IsPrintableQueue q → IsLoggableQueue q
built_is_loggable txs q h prints = record { roomy = built_has_room txs q h; keys = keys_print q prints }
