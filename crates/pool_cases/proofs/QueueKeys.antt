-- A walk over the keys of a queue, by which each can be printed.
use Rattle.std.proofs.Common.{◌≡◌, ◌<◌, Bool, true, false, cond, [], ◌∷◌, length, Option, Some, None, IfSome, refl, sym, subst}
use Rattle.pool_parts.proofs.Walks.{all_at_first, next_key, no_key, rest_of}
use Rattle.queue_tx.specs.declared.key.Key.{Key}
use Rattle.queue_tx.proofs.Transactions.{same_keys}
use Rattle.queue_tx.specs.Keys.{same_key}
use Rattle.queue_tx.specs.Printable.{HasPrintableKeys, IsPrintableKey}
use Rattle.queue_tx.specs.Queues.{IsQueue, KeyedAds, ad_at, key_after}

-- each key of a list can be printed
abbrev pub CanAllBePrinted : KeyedAds → Type 0
CanAllBePrinted [] = Unit {0}
CanAllBePrinted (e ∷ es) = IsPrintableKey e.0 × CanAllBePrinted es

keys_are : (q : KeyedAds) → CanAllBePrinted q → HasPrintableKeys q
keys_are [] all key = tt
keys_are (e ∷ q) all key = by (same_key key e.0) refl (keys_are q all.1 key)
  where
    by : (b : Bool) → same_key key e.0 ≡ b → IfSome (ad_at key q) (λ ad. IsPrintableKey key) → IfSome (cond b (Some e.1) (ad_at key q)) (λ ad. IsPrintableKey key)
    by true is rest = subst IsPrintableKey (sym (same_keys key e.0 is)) all.0
    by false is rest = rest

-- where the keys of the rest can be printed, all can
abbrev pub WouldBePrinted : Option Key → KeyedAds → Type 0
WouldBePrinted last q = CanAllBePrinted (rest_of last q) → CanAllBePrinted q

pub keys_begin : (q : KeyedAds) → WouldBePrinted None q
keys_begin q all = subst CanAllBePrinted (all_at_first q) all

pub keys_end : (last : Option Key) (q : KeyedAds) → None ≡ key_after last q → WouldBePrinted last q → HasPrintableKeys q
keys_end last q h so_far = keys_are q (so_far (subst CanAllBePrinted (sym (no_key last q h)) tt))

pub keys_next : (last : Option Key) (q : KeyedAds) (key : Key) → IsQueue q → Some key ≡ key_after last q → IsPrintableKey key → WouldBePrinted last q → WouldBePrinted (Some key) q
keys_next last q key s h here so_far rest =
    let n = next_key last q key s h in
    so_far (subst CanAllBePrinted (sym n.rest) (here, rest))

pub fewer_keys : (last : Option Key) (q : KeyedAds) (key : Key) → IsQueue q → Some key ≡ key_after last q → length (rest_of (Some key) q) < length (rest_of last q)
fewer_keys last q key s h = (next_key last q key s h).fewer
