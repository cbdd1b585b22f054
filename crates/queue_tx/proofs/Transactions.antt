-- Transactions by their operations.
use Rattle.std.proofs.Common.{◌≡◌, ℕ, suc, ◌+◌, Bool, true, false, cond, List, [], ◌∷◌, ◌++◌, length, Option, Some, None, Result, Ok, Err, refl, ap, sym, ◌∙◌, subst, arith}
use Rattle.std.specs.Ordering.{is_eq}
use Rattle.std.specs.declared.cmp.Ordering.{Ordering}
use Rattle.std.specs.declared.cmp.Ordering.TheVariants.{Less, Equal, Greater}
use Rattle.ad_tree.specs.Ad.{Attributes, with_attribute}
use Rattle.queue_tx.specs.declared.error.ApplyError.{ApplyError}
use Rattle.queue_tx.specs.declared.error.ApplyError.TheVariants.{Full}
use Rattle.queue_tx.specs.Keys.{key_cmp, same_key_laws}
use Rattle.queue_tx.specs.Operations.{Operation, key_of, new_ad, destroy_ad, set_attr, delete_attr}
use Rattle.queue_tx.specs.Queues.{KeyedAds, IsQueue, ad_at, ad_after, with_ad, put_back, after_op, after_ops, after_rest}
use Rattle.queue_tx.specs.Room.{lacks_room}
use Rattle.queue_tx.specs.Laws.{SameKeysAreEqual, ChangesItsKey, LeavesOtherKeys, StaysAQueue, SequenceIsOne, RefusesTheFirst}
use Rattle.queue_tx.proofs.Queues.{exact_keys, found_with, ordered_with}

pub same_keys : SameKeysAreEqual
same_keys a b h = exact_keys a b (by (key_cmp a b) h)
  where
    by : (r : Ordering) → is_eq r ≡ true → r ≡ Equal
    by Less h = cc
    by Equal h = refl
    by Greater h = cc

-- what an operation that is done makes
record Done (place : ℕ) (q new : KeyedAds) (o : Operation) : Type 0 where
  pub made : Option Attributes
  pub is : ad_after place (ad_at (key_of o) q) o ≡ Ok made
  pub leaves : new ≡ with_ad (key_of o) made q

done_of : (place : ℕ) (q new : KeyedAds) (o : Operation) → after_op place q o ≡ Ok new → Done place q new o
done_of place q new o h = by (ad_after place (ad_at (key_of o) q) o) refl h
  where
    by : (r : Result (Option Attributes) ApplyError) → ad_after place (ad_at (key_of o) q) o ≡ r → put_back (key_of o) q r ≡ Ok new → Done place q new o
    by (Ok made) e h = record { made = made; is = e; leaves = cc }
    by (Err f) e h = cc

pub changes_its_key : ChangesItsKey
changes_its_key place q new o s h =
    let d = done_of place q new o h in
    d.is ∙ ap Ok (sym (ap (ad_at (key_of o)) d.leaves ∙ found_with (key_of o) (key_of o) d.made q s ∙ ap (λ b. cond b d.made (ad_at (key_of o) q)) (same_key_laws.refl (key_of o))))

pub leaves_other_keys : LeavesOtherKeys
leaves_other_keys place q new o key s h apart =
    let d = done_of place q new o h in
    ap (ad_at key) d.leaves ∙ found_with key (key_of o) d.made q s ∙ ap (λ b. cond b d.made (ad_at key q)) apart

ordered_after : (n : ℕ) (q new : KeyedAds) (tx : List Operation) → IsQueue q → after_ops n q tx ≡ Ok new → IsQueue new
ordered_after n q new [] s h = let same : q ≡ new = cc in subst IsQueue same s
ordered_after n q new (o ∷ os) s h = by (after_op n q o) refl h (λ p t g. ordered_after (n + 1) p new os t g)
  where
    by : (r : Result KeyedAds ApplyError) → after_op n q o ≡ r → after_rest (λ p. after_ops (n + 1) p os) r ≡ Ok new
        → ((p : KeyedAds) → IsQueue p → after_ops (n + 1) p os ≡ Ok new → IsQueue new) → IsQueue new
    by (Ok p) e h rest = let d = done_of n q p o e in rest p (subst IsQueue (sym d.leaves) (ordered_with (key_of o) d.made q s)) h
    by (Err f) e h rest = cc

pub stays_a_queue : StaysAQueue
stays_a_queue q new tx s h = ordered_after 0 q new tx s h

-- ---- places show in refusals alone

ad_anywhere : (m n : ℕ) (a : Option Attributes) (made : Option Attributes) (o : Operation) → ad_after m a o ≡ Ok made → ad_after n a o ≡ Ok made
ad_anywhere m n None made (new_ad key kind other) h = h
ad_anywhere m n (Some ad) made (new_ad key kind other) h = cc
ad_anywhere m n None made (destroy_ad key) h = cc
ad_anywhere m n (Some ad) made (destroy_ad key) h = h
ad_anywhere m n None made (set_attr key name e) h = cc
ad_anywhere m n (Some ad) made (set_attr key name e) h = by (lacks_room key name ad) (Ok (Some (with_attribute name e ad))) h
  where
    by : (b : Bool) (r : Result (Option Attributes) ApplyError) → cond b (Err (Full m)) r ≡ Ok made → cond b (Err (Full n)) r ≡ Ok made
    by true r h = cc
    by false r h = h
ad_anywhere m n None made (delete_attr key name) h = cc
ad_anywhere m n (Some ad) made (delete_attr key name) h = h

op_anywhere : (m n : ℕ) (q new : KeyedAds) (o : Operation) → after_op m q o ≡ Ok new → after_op n q o ≡ Ok new
op_anywhere m n q new o h =
    let d = done_of m q new o h in
    ap (put_back (key_of o) q) (ad_anywhere m n (ad_at (key_of o) q) d.made o d.is) ∙ ap Ok (sym d.leaves)

ops_anywhere : (m n : ℕ) (q new : KeyedAds) (os : List Operation) → after_ops m q os ≡ Ok new → after_ops n q os ≡ Ok new
ops_anywhere m n q new [] h = h
ops_anywhere m n q new (o ∷ os) h = by (after_op m q o) refl h (λ p g. ops_anywhere (m + 1) (n + 1) p new os g)
  where
    by : (r : Result KeyedAds ApplyError) → after_op m q o ≡ r → after_rest (λ p. after_ops (m + 1) p os) r ≡ Ok new
        → ((p : KeyedAds) → after_ops (m + 1) p os ≡ Ok new → after_ops (n + 1) p os ≡ Ok new) → after_rest (λ p. after_ops (n + 1) p os) (after_op n q o) ≡ Ok new
    by (Ok p) e h rest = ap (after_rest (λ p. after_ops (n + 1) p os)) (op_anywhere m n q p o e) ∙ rest p h
    by (Err f) e h rest = cc

-- operations behind others go on where those ended
after_append : (n : ℕ) (q new : KeyedAds) (xs ys : List Operation) → after_ops n q xs ≡ Ok new → after_ops n q (xs ++ ys) ≡ after_ops (n + length xs) new ys
after_append n q new [] ys h =
    let same : q ≡ new = cc in
    let here : n ≡ n + 0 = omega arith in
    ap (λ p. after_ops n p ys) same ∙ ap (λ k. after_ops k new ys) here
after_append n q new (o ∷ os) ys h = by (after_op n q o) refl h (λ p g. after_append (n + 1) p new os ys g)
  where
    further : n + 1 + length os ≡ n + suc (length os)
    further = omega arith

    by : (r : Result KeyedAds ApplyError) → after_op n q o ≡ r → after_rest (λ p. after_ops (n + 1) p os) r ≡ Ok new
        → ((p : KeyedAds) → after_ops (n + 1) p os ≡ Ok new → after_ops (n + 1) p (os ++ ys) ≡ after_ops (n + 1 + length os) new ys)
        → after_rest (λ p. after_ops (n + 1) p (os ++ ys)) (after_op n q o) ≡ after_ops (n + suc (length os)) new ys
    by (Ok p) e h rest = ap (after_rest (λ p. after_ops (n + 1) p (os ++ ys))) e ∙ rest p h ∙ ap (λ k. after_ops k new ys) further
    by (Err f) e h rest = cc

pub sequence_is_one : SequenceIsOne
sequence_is_one q new tx more h last =
    let joined = after_append 0 q new tx more h in
    (λ g. joined ∙ ops_anywhere 0 (0 + length tx) new last more g, λ g. ops_anywhere (0 + length tx) 0 new last more (sym joined ∙ g))

-- ---- the first that can't be done

record Refused (n : ℕ) (q : KeyedAds) (tx : List Operation) (e : ApplyError) : Type 0 where
  pub before : List Operation
  pub refused : Operation
  pub rest : List Operation
  pub between : KeyedAds
  pub parts : tx ≡ before ++ refused ∷ rest
  pub done : after_ops n q before ≡ Ok between
  pub cause : after_op (n + length before) between refused ≡ Err e

first_refused : (n : ℕ) (q : KeyedAds) (tx : List Operation) (e : ApplyError) → after_ops n q tx ≡ Err e → Refused n q tx e
first_refused n q [] e h = cc
first_refused n q (o ∷ os) e h = by (after_op n q o) refl h (λ p g. first_refused (n + 1) p os e g)
  where
    by : (r : Result KeyedAds ApplyError) → after_op n q o ≡ r → after_rest (λ p. after_ops (n + 1) p os) r ≡ Err e
        → ((p : KeyedAds) → after_ops (n + 1) p os ≡ Err e → Refused (n + 1) p os e) → Refused n q (o ∷ os) e
    by (Err f) is h rest =
        let same : f ≡ e = cc in
        let here : n ≡ n + 0 = omega arith in
        record { before = []; refused = o; rest = os; between = q; parts = refl; done = refl; cause = ap (λ k. after_op k q o) (sym here) ∙ is ∙ ap Err same }
    by (Ok p) is h rest =
        let r = rest p h in
        let further : n + suc (length r.before) ≡ n + 1 + length r.before = omega arith in
        record {
          before = o ∷ r.before;
          refused = r.refused;
          rest = r.rest;
          between = r.between;
          parts = ap (λ (l : List Operation). o ∷ l) r.parts;
          done = ap (after_rest (λ p. after_ops (n + 1) p r.before)) is ∙ r.done;
          cause = ap (λ k. after_op k r.between r.refused) further ∙ r.cause;
        }

pub refuses_the_first : RefusesTheFirst
refuses_the_first q tx e h =
    let r = first_refused 0 q tx e h in
    let here : length r.before ≡ 0 + length r.before = omega arith in
    record { before = r.before; refused = r.refused; rest = r.rest; between = r.between; parts = r.parts; done = r.done; cause = ap (λ k. after_op k r.between r.refused) here ∙ r.cause }
