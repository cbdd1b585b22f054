-- Operations one after the other.
use Rattle.std.proofs.Common.{◌≡◌, ℕ, zero, suc, ◌+◌, ◌<◌, ◌≤◌, List, [], ◌∷◌, length, map, drop, get_or, Option, Ok, Err, refl, ap, sym, ◌∙◌, arith}
use Rattle.std.specs.Map.{remove_entry}
use Rattle.std.specs.BTreeMap.{insert_entry}
use Rattle.ad_tree.specs.Ad.{Attributes}
use Rattle.queue_tx.specs.declared.error.ApplyError.{ApplyError}
use Rattle.queue_tx.specs.declared.key.Key.{Key}
use Rattle.queue_tx.specs.declared.op.Op.{Op}
use Rattle.queue_tx.specs.Keys.{key_cmp, same_key}
use Rattle.queue_tx.specs.Operations.{Operation, operation, key_of}
use Rattle.queue_tx.specs.Queues.{KeyedAds, Changes, IsQueue, ad_at, ad_after, with_changes, put_back, after_op, after_ops, after_rest}
use Rattle.queue_tx.proofs.Queues.{AreChanges, changed_again}

-- ---- an operation over changes

pub op_done : (place : ℕ) (q : KeyedAds) (cs new : Changes) (o : Operation) (k : Key) (ad made : Option Attributes) → k ≡ key_of o → IsQueue q → AreChanges cs
    → ad ≡ ad_at k (with_changes q cs) → ad_after place ad o ≡ Ok made → new ≡ insert_entry key_cmp (remove_entry (same_key k) cs) k made
    → after_op place (with_changes q cs) o ≡ Ok (with_changes q new)
op_done place q cs new o k ad made key s t found done changed =
    ap (λ j. put_back j (with_changes q cs) (ad_after place (ad_at j (with_changes q cs)) o)) (sym key)
    ∙ ap (λ a. put_back k (with_changes q cs) (ad_after place a o)) (sym found)
    ∙ ap (put_back k (with_changes q cs)) done
    ∙ ap Ok (sym (changed_again k made q cs s t) ∙ ap (with_changes q) (sym changed))

pub op_refused : (place : ℕ) (q : KeyedAds) (o : Operation) (k : Key) (ad : Option Attributes) (e : ApplyError) → k ≡ key_of o
    → ad ≡ ad_at k q → ad_after place ad o ≡ Err e → after_op place q o ≡ Err e
op_refused place q o k ad e key found refused =
    ap (λ j. put_back j q (ad_after place (ad_at j q) o)) (sym key)
    ∙ ap (λ a. put_back k q (ad_after place a o)) (sym found)
    ∙ ap (put_back k q) refused

-- ---- operations in order

drop_item : (os : List Op) (i : ℕ) (o : Op) → i < length os → o ≡ get_or os i o → drop i os ≡ o ∷ drop (i + 1) os
drop_item [] i o h e = absurd (omega arith)
drop_item (x ∷ os) zero o h e = ap (λ (y : Op). y ∷ os) (sym e)
drop_item (x ∷ os) (suc i) o h e =
    let next : suc (i + 1) ≡ suc i + 1 = omega arith in
    drop_item os i o (omega arith) e ∙ ap (λ n. o ∷ drop n (x ∷ os)) next

pub ops_step : (i : ℕ) (q new : KeyedAds) (os : List Op) (o : Op) → i < length os → o ≡ get_or os i o → after_op i q (operation o) ≡ Ok new
    → after_ops (i + 1) new (map operation (drop (i + 1) os)) ≡ after_ops i q (map operation (drop i os))
ops_step i q new os o h e done =
    sym (
    ap (λ (l : List Op). after_ops i q (map operation l)) (drop_item os i o h e)
    ∙ ap (after_rest (λ p. after_ops (i + 1) p (map operation (drop (i + 1) os)))) done)

pub ops_refused : (i : ℕ) (q : KeyedAds) (os : List Op) (o : Op) (f : ApplyError) → i < length os → o ≡ get_or os i o → after_op i q (operation o) ≡ Err f
    → after_ops i q (map operation (drop i os)) ≡ Err f
ops_refused i q os o f h e refused =
    ap (λ (l : List Op). after_ops i q (map operation l)) (drop_item os i o h e)
    ∙ ap (after_rest (λ p. after_ops (i + 1) p (map operation (drop (i + 1) os)))) refused

pub ops_end : (i : ℕ) (q : KeyedAds) (os : List Op) → length os ≤ i → after_ops i q (map operation (drop i os)) ≡ Ok q
ops_end zero q [] h = refl
ops_end (suc i) q [] h = refl
ops_end zero q (o ∷ os) h = absurd (omega arith)
ops_end (suc i) q (o ∷ os) h = shorter i (suc i) q os (omega arith)
  where
    shorter : (i n : ℕ) (q : KeyedAds) (os : List Op) → length os ≤ i → after_ops n q (map operation (drop i os)) ≡ Ok q
    shorter zero n q [] h = refl
    shorter (suc i) n q [] h = refl
    shorter zero n q (o ∷ os) h = absurd (omega arith)
    shorter (suc i) n q (o ∷ os) h = shorter i n q os (omega arith)
