-- A schedd fits its queue when the pool opens, and when it comes back after a crash.
use Rattle.std.proofs.Common.{◌≡◌, ◌⊎◌, inl, inr, true, false, true≢false, List, [], ◌∷◌, Option, Some, None, refl, ap, sym, ◌∙◌, subst}
use Rattle.std.specs.declared.cmp.Ordering.{Ordering}
use Rattle.std.specs.declared.cmp.Ordering.TheVariants.{Less, Equal, Greater}
use Rattle.std.specs.Ordering.{is_lt, is_gt}
use Rattle.ad_tree.specs.Ad.{Attributes}
use Rattle.claim_id.specs.declared.numbers.JobId.{JobId}
use Rattle.pool_mail.specs.declared.settings.Settings.{Settings}
use Rattle.pool_view.specs.AbstractPool.{IsIn}
use Rattle.queue_tx.specs.declared.key.Key.{Key}
use Rattle.queue_tx.specs.declared.key.Key.TheVariants.{Header, Proc}
use Rattle.queue_tx.specs.declared.kind.JobKind.TheVariants as kind
use Rattle.queue_tx.specs.Jobs.{IsJobOf, kind_under}
use Rattle.queue_tx.specs.Keys.{key_cmp}
use Rattle.queue_tx.specs.Queues.{KeyedAds, ad_at}
use Rattle.queue_tx.proofs.Queues.{exact_keys}
use Rattle.schedd_state.specs.Reopening.{is_under_kind, under_by, is_under_at}
use Rattle.schedd_core.specs.ScheddParts.{IsOrdered, Fits}
use Rattle.schedd_state.specs.Schedds.{ScheddValue, IsOpened}
use Rattle.schedd_state.specs.Searches.{is_later, AreUnder}
use Rattle.schedd_core.proofs.PlanJobs.{under_ad}
use Rattle.schedd_core.proofs.PlanMay.{in_left}

-- ---- the jobs under a claim, in a list
pub job_under : (q : KeyedAds) (job : JobId) → is_under_at q job ≡ true → IsJobOf kind.Under q (Proc job)
job_under q job h = let u = under_ad q job h in ap (kind_under (Proc job)) u.ad_is ∙ u.kind_is

under_job : (q : KeyedAds) (job : JobId) → IsJobOf kind.Under q (Proc job) → is_under_at q job ≡ true
under_job q job h = by (ad_at (Proc job) q) h
  where
    by : (o : Option Attributes) → kind_under (Proc job) o ≡ Some kind.Under → under_by o ≡ true
    by None h = cc
    by (Some ad) h = ap is_under_kind h

same_keys : (a b : JobId) → Proc a ≡ Proc b → a ≡ b
same_keys a b e = ap job_in e
  where
    job_in : Key → JobId
    job_in Header = a
    job_in (Proc job) = job

-- each job that is later is in the list
pub listed : (q : KeyedAds) (last : Option JobId) (jobs : List JobId) → AreUnder q last jobs → (job : JobId) → IsJobOf kind.Under q (Proc job) → is_later last (Proc job) ≡ true → IsIn job jobs
listed q last [] under job is later = absurd (true≢false (sym later ∙ under (Proc job) is))
listed q last (x ∷ xs) under job is later =
    by (key_cmp (Proc x) (Proc job)) refl (under.0.first (Proc job) is later) (λ after. listed q (Some x) xs under.1 job is after)
  where
    by : (r : Ordering) → key_cmp (Proc x) (Proc job) ≡ r → is_gt r ≡ false → (is_lt (key_cmp (Proc x) (Proc job)) ≡ true → IsIn job xs) → (job ≡ x) ⊎ IsIn job xs
    by Less e before rest = inr (rest (ap is_lt e))
    by Equal e before rest = inl (sym (same_keys x job (exact_keys (Proc x) (Proc job) e)))
    by Greater e before rest = absurd (true≢false before)

-- each job of the list is under a claim
pub of_list : (q : KeyedAds) (last : Option JobId) (jobs : List JobId) → AreUnder q last jobs → (job : JobId) → IsIn job jobs → is_under_at q job ≡ true
of_list q last [] under job there = absurd there
of_list q last (x ∷ xs) under job (inl same) = ap (is_under_at q) same ∙ under_job q x under.0.under
of_list q last (x ∷ xs) under job (inr there) = of_list q (Some x) xs under.1 job there

pub opening_fits : (q : KeyedAds) (set : Settings) (v : ScheddValue) → IsOrdered q → IsOpened q set v → Fits q v
opening_fits q set v ordered o = subst (Fits q) (sym o.1) (record {
  queue = ordered;
  each = λ r there. absurd there;
  one = tt;
  all = λ job under not_left.
      (let clash : true ≡ false = sym (in_left job v.left (listed q None v.left o.0 job (job_under q job under) refl)) ∙ not_left in cc);
  under = λ job there. of_list q None v.left o.0 job there;
  valid = λ c there. absurd there;
})
