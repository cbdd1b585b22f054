-- The queue as contracts see it, and what transactions make of it.
use Rattle.std.specs.Prelude.{◌≡◌, ℕ, ◌+◌, List, [], ◌∷◌, find, Option, Some, None, Result, Ok, Err, if◌then◌else◌}
use Rattle.std.specs.BTreeMap.{insert_entry}
use Rattle.std.specs.List.Sorted.{IsStrictlySortedBy}
use Rattle.std.specs.Map.{lookup, remove_entry, keys_of}
use Rattle.std.specs.Coded.{Coded, coded_list, coded×, coded_option}
use Rattle.ad_tree.specs.TreeCode.{attributes_code}
use Rattle.ad_tree.specs.Ad.{Attributes, with_attribute, without}
use Rattle.queue_tx.specs.declared.error.ApplyError.{ApplyError}
use Rattle.queue_tx.specs.declared.error.ApplyError.TheVariants.{NoKey, KeyThere, Full}
use Rattle.queue_tx.specs.declared.key.Key.{Key}
use Rattle.queue_tx.specs.Keys.{key_cmp, same_key, is_above}
use Rattle.queue_tx.specs.OperationCode.{key_code}
use Rattle.queue_tx.specs.Operations.{Operation, new_ad, destroy_ad, set_attr, delete_attr, key_of}
use Rattle.queue_tx.specs.Room.{lacks_room}

-- a map from keys to ads: a list in order of key
abbrev pub KeyedAds : Type 0
KeyedAds = List (Key × Attributes)

abbrev pub IsQueue : KeyedAds → Type 0
IsQueue q = IsStrictlySortedBy key_cmp (keys_of q)

-- the ad under a key
abbrev pub ad_at : Key → KeyedAds → Option Attributes
ad_at key q = lookup (same_key key) q

-- the least key above a bound, or the least of all
abbrev pub key_after : Option Key → KeyedAds → Option Key
key_after bound q = find (is_above bound) (keys_of q)

-- that ad, or none, under a key
abbrev pub with_ad : Key → Option Attributes → KeyedAds → KeyedAds
with_ad key None q = remove_entry (same_key key) q
with_ad key (Some ad) q = insert_entry key_cmp q key ad

-- What an operation, at a place of its transaction, makes of what stands under its key, or why it
-- can't be done.
abbrev pub ad_after : ℕ → Option Attributes → Operation → Result (Option Attributes) ApplyError
ad_after op None (new_ad key kind other) = Ok (Some [])
ad_after op (Some ad) (new_ad key kind other) = Err (KeyThere op)
ad_after op None (destroy_ad key) = Err (NoKey op)
ad_after op (Some ad) (destroy_ad key) = Ok None
ad_after op None (set_attr key name e) = Err (NoKey op)
ad_after op (Some ad) (set_attr key name e) =
    if lacks_room key name ad then Err (Full op) else Ok (Some (with_attribute name e ad))
ad_after op None (delete_attr key name) = Err (NoKey op)
ad_after op (Some ad) (delete_attr key name) = Ok (Some (without name ad))

-- the queue once that is done, or why it can't be
abbrev pub put_back
    : Key → KeyedAds → Result (Option Attributes) ApplyError → Result KeyedAds ApplyError
put_back key q (Ok ad) = Ok (with_ad key ad q)
put_back key q (Err e) = Err e

abbrev pub after_op : ℕ → KeyedAds → Operation → Result KeyedAds ApplyError
after_op op q o = put_back (key_of o) q (ad_after op (ad_at (key_of o) q) o)

abbrev pub after_rest
    : (KeyedAds → Result KeyedAds ApplyError) → Result KeyedAds ApplyError
    → Result KeyedAds ApplyError
after_rest more (Ok q) = more q
after_rest more (Err e) = Err e

-- operations in order, the first of which stands at this place
abbrev pub after_ops : ℕ → KeyedAds → List Operation → Result KeyedAds ApplyError
after_ops op q [] = Ok q
after_ops op q (o ∷ os) = after_rest (λ p. after_ops (op + 1) p os) (after_op op q o)

-- a transaction done, or why its first operation that can't be done can't be
abbrev pub queue_after : KeyedAds → List Operation → Result KeyedAds ApplyError
queue_after q tx = after_ops 0 q tx

-- transactions one after the other
abbrev pub queue_after_all : KeyedAds → List (List Operation) → Result KeyedAds ApplyError
queue_after_all q [] = Ok q
queue_after_all q (tx ∷ txs) = after_rest (λ p. queue_after_all p txs) (queue_after q tx)

-- the queue that transactions build
abbrev pub QueueOf : List (List Operation) → KeyedAds → Type 0
QueueOf txs q = queue_after_all [] txs ≡ Ok q

-- ---- what a transaction that is prepared changes

-- an ad, or none, for each key that is changed
abbrev pub Changes : Type 0
Changes = List (Key × Option Attributes)

abbrev pub with_changes : KeyedAds → Changes → KeyedAds
with_changes q [] = q
with_changes q (c ∷ cs) = with_changes (with_ad c.0 c.1 q) cs

-- ---- codes, by which a proof tells queues and changes apart

abbrev pub queue_code : Coded KeyedAds
queue_code = coded_list (coded× key_code attributes_code)

abbrev pub changes_code : Coded Changes
changes_code = coded_list (coded× key_code (coded_option attributes_code))
