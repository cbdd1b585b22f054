-- That the queue keeps the jobs with a periodic expression.
use Rattle.std.proofs.Common.{◌≡◌, Bool, true, false, cond, List, [], Option, Some, None, is_some, refl, ap, sym, ◌∙◌, subst}
use Rattle.std.specs.Prelude.{find}
use Rattle.std.specs.Option.{option_map}
use Rattle.std.specs.declared.ops.Bound.{Bound}
use denote.Ref.{Bor}
use Rattle.std.specs.List.Sorted.{IsStrictlySortedBy}
use Rattle.std.specs.Map.{keys_of}
use Rattle.ad_tree.specs.Ad.{Attributes}
use Rattle.ordered_map.specs.Trees.{is_past}
use Rattle.ordered_map.proofs.Firsts.{none_found_past, found_is_first}
use Rattle.queue_tx.specs.declared.key.Key.{Key}
use Rattle.queue_tx.specs.declared.key.Key.TheVariants.{Header, Proc}
use Rattle.queue_tx.specs.declared.kept.Here.{Here}
use Rattle.queue_tx.specs.Keys.{key_cmp, key_cmp_total, same_key}
use Rattle.queue_tx.specs.Jobs.{IsFirstKey}
use Rattle.queue_tx.specs.Kept.{has_key, SetsKey}
use Rattle.queue_tx.specs.Periodic.{is_periodic, IsPeriodic, ArePeriodic, IsReadyPeriodic, KeepsKey}
use Rattle.queue_tx.specs.Queues.{KeyedAds, IsQueue, ad_at, with_ad}
use Rattle.queue_tx.proofs.Queues.{found_with}
use Rattle.queue_tx.proofs.Transactions.{same_keys}

-- ---- the set of a queue

not_there : (p : Key) → is_periodic p None ≡ false
not_there Header = refl
not_there (Proc job) = refl

pub no_periodic : (keys : List (Key × Here)) (q : KeyedAds) → keys ≡ [] → q ≡ [] → ArePeriodic keys q
no_periodic keys q none empty p =
    ap (has_key p) none ∙ sym (ap (λ r. is_periodic p (ad_at p r)) empty ∙ not_there p)

module _ (q r : KeyedAds) (key : Key) (ad : Option Attributes) (s : IsQueue q) (changed : r ≡ with_ad key ad q) (old new : List (Key × Here)) (are : ArePeriodic old q) where
  set_to : (there : Bool) → SetsKey key there old new → there ≡ is_periodic key ad → ArePeriodic new r
  set_to there sets is p =
      sets p
      ∙ by (same_key key p) refl
      ∙ ap (is_periodic p) (sym (ap (ad_at p) changed ∙ found_with p key ad q s))
    where
      by : (b : Bool) → same_key key p ≡ b → cond b there (has_key p old) ≡ is_periodic p (cond b ad (ad_at p q))
      by true h = is ∙ ap (λ x. is_periodic x ad) (same_keys key p h)
      by false h = are p

pub periodic_with : (q r : KeyedAds) (ad : Key × Attributes) → IsQueue q → r ≡ with_ad ad.0 (Some ad.1) q → (old new : List (Key × Here)) → ArePeriodic old q → (entry : Option (Key × Here)) → IsReadyPeriodic ad entry → KeepsKey ad.0 entry old new → ArePeriodic new r
periodic_with q r ad s changed old new are entry ready keeps = by (is_periodic ad.0 (Some ad.1)) refl entry ready keeps
  where
    by : (b : Bool) → is_periodic ad.0 (Some ad.1) ≡ b → (e : Option (Key × Here)) → option_map (λ e. e.0) e ≡ cond b (Some ad.0) None → KeepsKey ad.0 e old new → ArePeriodic new r
    by true is None h keeps = cc
    by true is (Some e) h keeps =
        let same : e.0 ≡ ad.0 = cc in
        set_to q r ad.0 (Some ad.1) s changed old new are true (subst (λ k. SetsKey k true old new) same keeps) (sym is)
    by false is None h keeps = set_to q r ad.0 (Some ad.1) s changed old new are false keeps (sym is)
    by false is (Some e) h keeps = cc

pub periodic_without : (q r : KeyedAds) (key : Key) → IsQueue q → r ≡ with_ad key None q → (old new : List (Key × Here)) → ArePeriodic old q → SetsKey key false old new → ArePeriodic new r
periodic_without q r key s changed old new are sets = set_to q r key None s changed old new are false sets (sym (not_there key))

-- ---- the first of them

module _ (q : KeyedAds) (start : Bound (Bor Key)) (keys : List (Key × Here)) (are : ArePeriodic keys q) where
  pub first_of_them : (f : Key × Here) → IsStrictlySortedBy key_cmp (keys_of keys) → Some f ≡ find (λ e. is_past key_cmp start e.0) keys → IsFirstKey (IsPeriodic q) start f.0
  first_of_them f s h =
      let r = found_is_first key_cmp_total start keys f s (sym h) in
      record {
        meant = sym (are f.0) ∙ ap is_some r.there;
        past = r.past;
        first = λ k p past. r.first k (are k ∙ p) past;
      }

  pub none_of_them : None ≡ find (λ e. is_past key_cmp start e.0) keys → (k : Key) → IsPeriodic q k → is_past key_cmp start k ≡ false
  none_of_them h k p = none_found_past key_cmp_total start keys k (sym h) (are k ∙ p)

pub periodic_is_there : (q : KeyedAds) (key : Key) → IsPeriodic q key → is_some (ad_at key q) ≡ true
periodic_is_there q key h = by key (ad_at key q) h
  where
    by : (p : Key) (o : Option Attributes) → is_periodic p o ≡ true → is_some o ≡ true
    by Header o h = cc
    by (Proc job) None h = cc
    by (Proc job) (Some ad) h = refl
