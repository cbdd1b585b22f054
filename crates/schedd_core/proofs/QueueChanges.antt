-- What a transaction leaves under each key of a queue.
use Rattle.std.proofs.Common.{◌≡◌, ℕ, ◌+◌, Bool, true, false, cond, List, [], ◌∷◌, ◌++◌, Option, Some, None, Result, Ok, Err, refl, ap, sym, ◌∙◌, subst}
use Rattle.std.specs.List.Sorted.{IsStrictlySortedBy}
use Rattle.claim_id.specs.declared.numbers.JobId.{JobId}
use Rattle.ad_tree.specs.Ad.{Attributes, with_attribute, without, AreDistinct}
use Rattle.ad_tree.proofs.AdLemmas.{AreDistinct-with_attribute, AreDistinct-without}
use Rattle.pool_view.specs.Numbers.{same_job}
use Rattle.pool_view.proofs.Sameness.{same_job-true, same_job-same}
use Rattle.queue_tx.specs.declared.error.ApplyError.{ApplyError}
use Rattle.queue_tx.specs.declared.error.ApplyError.TheVariants.{Full}
use Rattle.queue_tx.specs.declared.key.Key.{Key}
use Rattle.queue_tx.specs.declared.key.Key.TheVariants.{Header, Proc}
use Rattle.queue_tx.specs.Keys.{same_key, same_key_laws}
use Rattle.queue_tx.specs.Operations.{Operation, key_of, new_ad, destroy_ad, set_attr, delete_attr}
use Rattle.queue_tx.specs.Queues.{KeyedAds, IsQueue, ad_at, ad_after, with_ad, put_back, after_op, after_ops, after_rest, queue_after, queue_after_all, QueueOf}
use Rattle.queue_tx.specs.Room.{lacks_room}
use Rattle.queue_tx.proofs.Queues.{found_with, ordered_with}
use Rattle.queue_tx.proofs.Transactions.{same_keys}
use Rattle.schedd_core.specs.ScheddParts.{DoNamesDiffer, IsOrdered}

-- what an operation that is done makes of what stands under its key
abbrev pub made : Option Attributes → Operation → Option Attributes
made a (new_ad key kind other) = Some []
made a (destroy_ad key) = None
made None (set_attr key name e) = None
made (Some ad) (set_attr key name e) = Some (with_attribute name e ad)
made None (delete_attr key name) = None
made (Some ad) (delete_attr key name) = Some (without name ad)

op_made : (n : ℕ) (a b : Option Attributes) (o : Operation) → ad_after n a o ≡ Ok b → b ≡ made a o
op_made n None b (new_ad key kind other) h = cc
op_made n (Some ad) b (new_ad key kind other) h = cc
op_made n None b (destroy_ad key) h = cc
op_made n (Some ad) b (destroy_ad key) h = cc
op_made n None b (set_attr key name e) h = cc
op_made n (Some ad) b (set_attr key name e) h = by (lacks_room key name ad) h
  where
    by : (full : Bool) → cond full (Err (Full n)) (Ok (Some (with_attribute name e ad))) ≡ Ok b → b ≡ Some (with_attribute name e ad)
    by true h = cc
    by false h = cc
op_made n None b (delete_attr key name) h = cc
op_made n (Some ad) b (delete_attr key name) h = cc

-- what several make of what stands under a key
abbrev pub made_at : Key → Option Attributes → List Operation → Option Attributes
made_at p a [] = a
made_at p a (o ∷ os) = made_at p (cond (same_key (key_of o) p) (made a o) a) os

-- a queue after an operation that is done
record Done (n : ℕ) (q new : KeyedAds) (o : Operation) : Type 0 where
  pub under : Option Attributes
  pub is : under ≡ made (ad_at (key_of o) q) o
  pub leaves : new ≡ with_ad (key_of o) under q

done_of : (n : ℕ) (q new : KeyedAds) (o : Operation) → after_op n q o ≡ Ok new → Done n q new o
done_of n q new o h = by (ad_after n (ad_at (key_of o) q) o) refl h
  where
    by : (r : Result (Option Attributes) ApplyError) → ad_after n (ad_at (key_of o) q) o ≡ r → put_back (key_of o) q r ≡ Ok new → Done n q new o
    by (Ok under) e h = record { under = under; is = op_made n (ad_at (key_of o) q) under o e; leaves = cc }
    by (Err f) e h = cc

after_done : (n : ℕ) (q new : KeyedAds) (o : Operation) (p : Key) → IsQueue q → Done n q new o → ad_at p new ≡ cond (same_key (key_of o) p) (made (ad_at p q) o) (ad_at p q)
after_done n q new o p s d = ap (ad_at p) d.leaves ∙ found_with p (key_of o) d.under q s ∙ by (same_key (key_of o) p) refl
  where
    by : (b : Bool) → same_key (key_of o) p ≡ b → cond b d.under (ad_at p q) ≡ cond b (made (ad_at p q) o) (ad_at p q)
    by true is = d.is ∙ ap (λ k. made (ad_at k q) o) (same_keys (key_of o) p is)
    by false is = refl

pub ops_at : (p : Key) (n : ℕ) (q new : KeyedAds) (os : List Operation) → IsQueue q → after_ops n q os ≡ Ok new → ad_at p new ≡ made_at p (ad_at p q) os
ops_at p n q new [] s h = let same : q ≡ new = cc in ap (ad_at p) (sym same)
ops_at p n q new (o ∷ os) s h = by (after_op n q o) refl h (λ m t g. ops_at p (n + 1) m new os t g)
  where
    by : (r : Result KeyedAds ApplyError) → after_op n q o ≡ r → after_rest (λ m. after_ops (n + 1) m os) r ≡ Ok new
        → ((m : KeyedAds) → IsQueue m → after_ops (n + 1) m os ≡ Ok new → ad_at p new ≡ made_at p (ad_at p m) os)
        → ad_at p new ≡ made_at p (cond (same_key (key_of o) p) (made (ad_at p q) o) (ad_at p q)) os
    by (Ok m) e h rest =
        let d = done_of n q m o e in
        rest m (subst IsQueue (sym d.leaves) (ordered_with (key_of o) d.under q s)) h ∙ ap (λ a. made_at p a os) (after_done n q m o p s d)
    by (Err f) e h rest = cc

-- ---- names go on to differ
abbrev AreOptionDistinct : Option Attributes → Type 0
AreOptionDistinct None = Unit {0}
AreOptionDistinct (Some ad) = AreDistinct ad

made_distinct : (a : Option Attributes) (o : Operation) → AreOptionDistinct a → AreOptionDistinct (made a o)
made_distinct a (new_ad key kind other) d = tt
made_distinct a (destroy_ad key) d = tt
made_distinct None (set_attr key name e) d = tt
made_distinct (Some ad) (set_attr key name e) d = AreDistinct-with_attribute name e ad d
made_distinct None (delete_attr key name) d = tt
made_distinct (Some ad) (delete_attr key name) d = AreDistinct-without name ad d

made_at_distinct : (p : Key) (a : Option Attributes) (os : List Operation) → AreOptionDistinct a → AreOptionDistinct (made_at p a os)
made_at_distinct p a [] d = d
made_at_distinct p a (o ∷ os) d = made_at_distinct p (cond (same_key (key_of o) p) (made a o) a) os (by (same_key (key_of o) p))
  where
    by : (b : Bool) → AreOptionDistinct (cond b (made a o) a)
    by true = made_distinct a o d
    by false = d

distinct_at : (p : Key) (q : KeyedAds) → DoNamesDiffer q → AreOptionDistinct (ad_at p q)
distinct_at p q names = by (ad_at p q) refl
  where
    by : (a : Option Attributes) → ad_at p q ≡ a → AreOptionDistinct a
    by None is = tt
    by (Some ad) is = names p ad is

ordered_ops : (n : ℕ) (q new : KeyedAds) (os : List Operation) → IsQueue q → after_ops n q os ≡ Ok new → IsQueue new
ordered_ops n q new [] s h = let same : q ≡ new = cc in subst IsQueue same s
ordered_ops n q new (o ∷ os) s h = by (after_op n q o) refl h (λ m t g. ordered_ops (n + 1) m new os t g)
  where
    by : (r : Result KeyedAds ApplyError) → after_op n q o ≡ r → after_rest (λ m. after_ops (n + 1) m os) r ≡ Ok new
        → ((m : KeyedAds) → IsQueue m → after_ops (n + 1) m os ≡ Ok new → IsQueue new) → IsQueue new
    by (Ok m) e h rest = let d = done_of n q m o e in rest m (subst IsQueue (sym d.leaves) (ordered_with (key_of o) d.under q s)) h
    by (Err f) e h rest = cc

pub ordered_after : (q new : KeyedAds) (os : List Operation) → IsOrdered q → queue_after q os ≡ Ok new → IsOrdered new
ordered_after q new os o h = record {
  keys = ordered_ops 0 q new os o.keys h;
  names = λ key ad is. subst AreOptionDistinct (sym (ops_at key 0 q new os o.keys h) ∙ is) (made_at_distinct key (ad_at key q) os (distinct_at key q o.names));
}

-- a queue that transactions build
no_ads : IsOrdered []
unfolding IsStrictlySortedBy
no_ads = record { keys = tt; names = λ key ad is. cc }

ordered_after_all : (q new : KeyedAds) (txs : List (List Operation)) → IsOrdered q → queue_after_all q txs ≡ Ok new → IsOrdered new
ordered_after_all q new [] o h = let same : q ≡ new = cc in subst IsOrdered same o
ordered_after_all q new (tx ∷ txs) o h = by (queue_after q tx) refl h (λ m r g. ordered_after_all m new txs r g)
  where
    by : (r : Result KeyedAds ApplyError) → queue_after q tx ≡ r → after_rest (λ m. queue_after_all m txs) r ≡ Ok new
        → ((m : KeyedAds) → IsOrdered m → queue_after_all m txs ≡ Ok new → IsOrdered new) → IsOrdered new
    by (Ok m) e h rest = rest m (ordered_after q m tx o e) h
    by (Err f) e h rest = cc

pub built_ordered : (txs : List (List Operation)) (q : KeyedAds) → QueueOf txs q → IsOrdered q
built_ordered txs q h = ordered_after_all [] q txs no_ads h

-- ---- operations on one key
abbrev pub AllHere : Key → List Operation → Type 0
AllHere p [] = Unit {0}
AllHere p (o ∷ os) = (same_key (key_of o) p ≡ true) × AllHere p os

abbrev pub AllElsewhere : Key → List Operation → Type 0
AllElsewhere p [] = Unit {0}
AllElsewhere p (o ∷ os) = (same_key (key_of o) p ≡ false) × AllElsewhere p os

abbrev pub made_all : Option Attributes → List Operation → Option Attributes
made_all a [] = a
made_all a (o ∷ os) = made_all (made a o) os

pub made_here : (p : Key) (a : Option Attributes) (os : List Operation) → AllHere p os → made_at p a os ≡ made_all a os
made_here p a [] here = refl
made_here p a (o ∷ os) here = ap (λ b. made_at p (cond b (made a o) a) os) here.0 ∙ made_here p (made a o) os here.1

pub made_elsewhere : (p : Key) (a : Option Attributes) (os : List Operation) → AllElsewhere p os → made_at p a os ≡ a
made_elsewhere p a [] far = refl
made_elsewhere p a (o ∷ os) far = ap (λ b. made_at p (cond b (made a o) a) os) far.0 ∙ made_elsewhere p a os far.1

pub made_appended : (p : Key) (a : Option Attributes) (os ps : List Operation) → made_at p a (os ++ ps) ≡ made_at p (made_at p a os) ps
made_appended p a [] ps = refl
made_appended p a (o ∷ os) ps = made_appended p (cond (same_key (key_of o) p) (made a o) a) os ps

-- ---- keys of jobs
pub same_proc : (a b : JobId) → same_key (Proc a) (Proc b) ≡ same_job b a
same_proc a b = by (same_key (Proc a) (Proc b)) refl (same_job b a) refl
  where
    job_in : Key → JobId
    job_in Header = a
    job_in (Proc job) = job

    by : (k : Bool) → same_key (Proc a) (Proc b) ≡ k → (j : Bool) → same_job b a ≡ j → k ≡ j
    by true is true also = refl
    by false is false also = refl
    by true is false also =
        let same : a ≡ b = ap job_in (same_keys (Proc a) (Proc b) is) in
        let clash = subst (λ x. same_job b x ≡ true) (sym same) (same_job-same b) in cc
    by false is true also =
        let same : b ≡ a = same_job-true b a also in
        let clash = subst (λ x. same_key (Proc a) (Proc x) ≡ true) (sym same) (same_key_laws.refl (Proc a)) in cc
