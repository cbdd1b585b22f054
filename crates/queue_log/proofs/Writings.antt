-- What transactions leave in a queue can be written.
use Rattle.std.proofs.Common.{◌≡◌, ◌≤◌, ℕ, ◌+◌, Bool, true, false, cond, not, ◌||◌, leb, ltb, List, [], ◌∷◌, length, Option, Some, None, Result, Ok, Err, IfSome, refl, ap, sym, ◌∙◌, subst}
use Rattle.std.specs.Option.{option_map}
use Rattle.std.specs.BTreeMap.{insert_entry}
use Rattle.std.specs.Map.{lookup, remove_entry}
use Rattle.std.specs.declared.cmp.Ordering.{Ordering}
use Rattle.std.specs.declared.cmp.Ordering.TheVariants.{Less, Equal, Greater}
use Rattle.std.specs.Ordering.{match_ordering}
use Rattle.std.proofs.lemmas.Bool.{leb-true}
use Rattle.ad_value.specs.Names.{same_name}
use Rattle.ad_tree.specs.Tree.{Tree}
use Rattle.ad_tree.specs.Ad.{Attributes, with_attribute, without}
use Rattle.ad_parse.specs.Canon.{canon}
use Rattle.queue_tx.specs.declared.error.ApplyError.{ApplyError}
use Rattle.queue_tx.specs.declared.error.ApplyError.TheVariants.{Full}
use Rattle.queue_tx.specs.declared.key.Key.{Key}
use Rattle.queue_tx.specs.Keys.{key_cmp, same_key}
use Rattle.queue_tx.specs.Operations.{Operation, key_of, new_ad, destroy_ad, set_attr, delete_attr}
use Rattle.queue_tx.specs.Printable.{HasPrintableKeys, IsPrintable, IsPrintableOp, IsPrintableKey, IsPrintableName}
use Rattle.queue_tx.specs.Queues.{KeyedAds, ad_at, ad_after, with_ad, put_back, after_op, after_ops, after_rest, queue_after}
use Rattle.queue_tx.specs.Room.{lacks_room}
use Rattle.queue_tx.proofs.Transactions.{same_keys}
use Rattle.queue_record.specs.Texts.{first_long, is_long, op_line}
use Rattle.queue_log.specs.Writable.{IsWritableTree, IsWritableAd, IsWritableQueue, PutsWritable, AllPutWritable}

-- ---- an ad

found_ad : (p : Key → Bool) (q : KeyedAds) → IsWritableQueue q → IfSome (lookup p q) IsWritableAd
found_ad p [] w = tt
found_ad p (e ∷ q) w = by (p e.0) (found_ad p q w.2)
  where
    by : (b : Bool) → IfSome (lookup p q) IsWritableAd → IfSome (cond b (Some e.1) (lookup p q)) IsWritableAd
    by true rest = w.1
    by false rest = rest

with_name : (x : List ℕ) (e : Tree) (ad : Attributes) → IsPrintableName x → IsWritableTree e → IsWritableAd ad → IsWritableAd (with_attribute x e ad)
with_name x e [] name tree w = (name, tree, tt)
with_name x e (a ∷ ad) name tree w = by (same_name x a.0) (with_name x e ad name tree w.2)
  where
    by : (b : Bool) → IsWritableAd (with_attribute x e ad) → IsWritableAd (cond b ((a.0, e) ∷ ad) (a ∷ with_attribute x e ad))
    by true rest = (w.0, tree, w.2)
    by false rest = (w.0, w.1, rest)

without_name : (x : List ℕ) (ad : Attributes) → IsWritableAd ad → IsWritableAd (without x ad)
without_name x [] w = tt
without_name x (a ∷ ad) w = by (same_name x a.0) (without_name x ad w.2)
  where
    by : (b : Bool) → IsWritableAd (without x ad) → IsWritableAd (cond b ad (a ∷ without x ad))
    by true rest = w.2
    by false rest = (w.0, w.1, rest)

-- what an operation leaves under its key, and that the key can be written where something is left
made_writable : (n : ℕ) (a : Option Attributes) (o : Operation) (made : Option Attributes) → IfSome a IsWritableAd → PutsWritable o → ad_after n a o ≡ Ok made
    → IfSome made (λ ad. IsPrintableKey (key_of o) × IsWritableAd ad)
made_writable n None (new_ad key kind other) made w p h =
    let same : Some [] ≡ made = cc in subst (λ m. IfSome m (λ ad. IsPrintableKey key × IsWritableAd ad)) same (p, tt)
made_writable n (Some ad) (new_ad key kind other) made w p h = absurd (cc h)
made_writable n None (destroy_ad key) made w p h = absurd (cc h)
made_writable n (Some ad) (destroy_ad key) made w p h =
    let same : None ≡ made = cc in subst (λ m. IfSome m (λ ad. IsPrintableKey key × IsWritableAd ad)) same tt
made_writable n None (set_attr key name e) made w p h = absurd (cc h)
made_writable n (Some ad) (set_attr key name e) made w p h = by (lacks_room key name ad) h
  where
    by : (b : Bool) → cond b (Err (Full n)) (Ok (Some (with_attribute name e ad))) ≡ Ok made → IfSome made (λ ad. IsPrintableKey key × IsWritableAd ad)
    by true g = absurd (cc g)
    by false g =
        let same : Some (with_attribute name e ad) ≡ made = cc in
        subst (λ m. IfSome m (λ ad. IsPrintableKey key × IsWritableAd ad)) same (p.0, with_name name e ad p.1 p.2 w)
made_writable n None (delete_attr key name) made w p h = absurd (cc h)
made_writable n (Some ad) (delete_attr key name) made w p h =
    let same : Some (without name ad) ≡ made = cc in
    subst (λ m. IfSome m (λ ad. IsPrintableKey key × IsWritableAd ad)) same (p, without_name name ad w)

-- ---- a queue

inserted : (k : Key) (ad : Attributes) (q : KeyedAds) → IsPrintableKey k → IsWritableAd ad → IsWritableQueue q → IsWritableQueue (insert_entry key_cmp q k ad)
inserted k ad [] key a w = (key, a, tt)
inserted k ad (e ∷ q) key a w = by (key_cmp k e.0) (inserted k ad q key a w.2)
  where
    by : (r : Ordering) → IsWritableQueue (insert_entry key_cmp q k ad) → IsWritableQueue (match_ordering r ((k, ad) ∷ e ∷ q) ((e.0, ad) ∷ q) (e ∷ insert_entry key_cmp q k ad))
    by Less rest = (key, a, w)
    by Equal rest = (w.0, a, w.2)
    by Greater rest = (w.0, w.1, rest)

removed : (p : Key → Bool) (q : KeyedAds) → IsWritableQueue q → IsWritableQueue (remove_entry p q)
removed p [] w = tt
removed p (e ∷ q) w = by (p e.0) (removed p q w.2)
  where
    by : (b : Bool) → IsWritableQueue (remove_entry p q) → IsWritableQueue (cond b q (e ∷ remove_entry p q))
    by true rest = w.2
    by false rest = (w.0, w.1, rest)

put : (k : Key) (made : Option Attributes) (q : KeyedAds) → IfSome made (λ ad. IsPrintableKey k × IsWritableAd ad) → IsWritableQueue q → IsWritableQueue (with_ad k made q)
put k None q m w = removed (same_key k) q w
put k (Some ad) q m w = inserted k ad q m.0 m.1 w

op_writable : (n : ℕ) (q new : KeyedAds) (o : Operation) → IsWritableQueue q → PutsWritable o → after_op n q o ≡ Ok new → IsWritableQueue new
op_writable n q new o w p h = by (ad_after n (ad_at (key_of o) q) o) refl h
  where
    by : (r : Result (Option Attributes) ApplyError) → ad_after n (ad_at (key_of o) q) o ≡ r → put_back (key_of o) q r ≡ Ok new → IsWritableQueue new
    by (Ok made) e g =
        let same : with_ad (key_of o) made q ≡ new = cc in
        subst IsWritableQueue same (put (key_of o) made q (made_writable n (ad_at (key_of o) q) o made (found_ad (same_key (key_of o)) q w) p e) w)
    by (Err f) e g = absurd (cc g)

ops_writable : (n : ℕ) (q new : KeyedAds) (os : List Operation) → IsWritableQueue q → AllPutWritable os → after_ops n q os ≡ Ok new → IsWritableQueue new
ops_writable n q new [] w p h = let same : q ≡ new = cc in subst IsWritableQueue same w
ops_writable n q new (o ∷ os) w p h = by (after_op n q o) refl h (λ r v g. ops_writable (n + 1) r new os v p.1 g)
  where
    by : (r : Result KeyedAds ApplyError) → after_op n q o ≡ r → after_rest (λ p. after_ops (n + 1) p os) r ≡ Ok new
        → ((s : KeyedAds) → IsWritableQueue s → after_ops (n + 1) s os ≡ Ok new → IsWritableQueue new) → IsWritableQueue new
    by (Ok s) e g rest = rest s (op_writable n q s o w p.0 e) g
    by (Err f) e g rest = absurd (cc g)

pub writable_after : (q new : KeyedAds) (tx : List Operation) → IsWritableQueue q → AllPutWritable tx → queue_after q tx ≡ Ok new → IsWritableQueue new
writable_after q new tx w p h = ops_writable 0 q new tx w p h

-- ---- a transaction that is written

one_written : (o : Operation) → IsPrintableOp o → is_long o ≡ false → PutsWritable o
one_written (new_ad key kind other) p h = p.0
one_written (destroy_ad key) p h = tt
one_written (set_attr key name e) p h = (p.0, p.1, record { printable = p.2; short = by (leb (length (canon e)) 8192) refl h })
  where
    by : (b : Bool) → leb (length (canon e)) 8192 ≡ b → is_long (set_attr key name e) ≡ false → length (canon e) ≤ 8192
    by true is g = leb-true (length (canon e)) 8192 is
    by false is g =
        let long : is_long (set_attr key name e) ≡ true = ap (λ (t : Bool). not t || ltb 16384 (length (op_line (set_attr key name e)))) is in
        let clash : true ≡ false = sym long ∙ g in
        absurd (cc clash)
one_written (delete_attr key name) p h = p.0

first_fits : (o : Operation) (os : List Operation) → first_long (o ∷ os) ≡ None → (is_long o ≡ false) × (first_long os ≡ None)
first_fits o os h = by (is_long o) refl (first_long os) refl h
  where
    by : (b : Bool) → is_long o ≡ b → (m : Option ℕ) → first_long os ≡ m → cond b (Some 0) (option_map (λ n. n + 1) m) ≡ None → (is_long o ≡ false) × (first_long os ≡ None)
    by true e m f g = absurd (cc g)
    by false e None f g = (e, f)
    by false e (Some k) f g = absurd (cc g)

pub printed_puts : (os : List Operation) → IsPrintable os → first_long os ≡ None → AllPutWritable os
printed_puts [] p h = tt
printed_puts (o ∷ os) p h = let fits = first_fits o os h in (one_written o p.0 fits.0, printed_puts os p.1 fits.1)

-- ---- the keys of a queue that can be written
pub keys_printable : (q : KeyedAds) → IsWritableQueue q → HasPrintableKeys q
keys_printable [] w key = tt
keys_printable (e ∷ q) w key = by (same_key key e.0) refl (keys_printable q w.2 key)
  where
    by : (b : Bool) → same_key key e.0 ≡ b → IfSome (ad_at key q) (λ ad. IsPrintableKey key) → IfSome (cond b (Some e.1) (ad_at key q)) (λ ad. IsPrintableKey key)
    by true is rest = subst IsPrintableKey (sym (same_keys key e.0 is)) w.0
    by false is rest = rest
