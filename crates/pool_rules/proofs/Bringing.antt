-- A transaction that makes the ads of new jobs brings them into the queue, and changes no other.
use Rattle.std.proofs.Common.{◌≡◌, inl, inr, ℕ, Bool, true, false, List, [], ◌∷◌, ◌++◌, map, Option, Some, IsSomeAnd, refl, sym, ◌∙◌, ap, subst}
use Rattle.std.specs.Prelude.{Ok}
use Rattle.std.proofs.lemmas.List.{append_assoc}
use Rattle.ad_tree.specs.Ad.{AreDistinct, Attributes}
use Rattle.ad_tree.proofs.AdLemmas.{lookup-before, with_attribute-new}
use Rattle.claim_id.specs.declared.numbers.JobId.{JobId}
use Rattle.pool_view.specs.Protocol.{NewJob}
use Rattle.pool_view.specs.AbstractPool.{IsIn}
use Rattle.pool_view.specs.Ads.{core_of}
use Rattle.pool_view.specs.Numbers.{same_job}
use Rattle.pool_view.proofs.Sameness.{same_job-true}
use Rattle.queue_tx.specs.declared.key.Key.TheVariants.{Proc}
use Rattle.queue_tx.specs.declared.kind.JobKind.TheVariants.{Idle}
use Rattle.queue_tx.specs.Keys.{same_key, same_key_laws}
use Rattle.queue_tx.specs.Kinds.{kind_of}
use Rattle.queue_tx.specs.Operations.{Operation}
use Rattle.queue_tx.specs.Queues.{KeyedAds, ad_at, queue_after}
use Rattle.schedd_core.specs.ScheddParts.{IsOrdered}
use Rattle.schedd_core.proofs.QueueChanges.{AllElsewhere, AllHere, made_all, made_appended, made_at, made_elsewhere, made_here, ops_at, ordered_after, same_proc}
use Rattle.pool_rules.specs.Bringing.{AreIdleJobs, AreOfHeader, JobAd, all_bringing_ops, bringing_ops, job_of_ad, new_job_of, setting_op}
use Rattle.pool_rules.specs.Linked.{BringsJobs}
use Rattle.pool_rules.specs.ScheddEvents.{IsNotAmong}

apart_job : (a b : JobId) → (a ≡ b → ⊥) → same_job a b ≡ false
apart_job a b other = by (same_job a b) refl
  where
    by : (t : Bool) → same_job a b ≡ t → t ≡ false
    by true is = absurd (other (same_job-true a b is))
    by false is = refl

-- ---- one job's ad
-- the rest of the attributes are set behind those that were
rest_set : (job : JobId) (done rest : Attributes) → AreDistinct (done ++ rest) → made_all (Some done) (map (setting_op job) rest) ≡ Some (done ++ rest)
rest_set job done [] distinct = ap (λ ad. Some ad) (sym (append-nil done))
  where
    append-nil : (xs : Attributes) → xs ++ [] ≡ xs
    append-nil [] = refl
    append-nil (x ∷ xs) = ap (λ ys. x ∷ ys) (append-nil xs)
rest_set job done (a ∷ rest) distinct =
    ap (λ ad. made_all (Some ad) (map (setting_op job) rest)) (with_attribute-new a.0 a.1 done (lookup-before done a rest distinct))
    ∙ (rest_set job (done ++ a ∷ []) rest (subst AreDistinct (sym (append_assoc done (a ∷ []) rest)) distinct)
    ∙ ap (λ ad. Some ad) (append_assoc done (a ∷ []) rest))

settings_here : (job : JobId) (ad : Attributes) → AllHere (Proc job) (map (setting_op job) ad)
settings_here job [] = tt
settings_here job (a ∷ ad) = (same_key_laws.refl (Proc job), settings_here job ad)

settings_far : (job k : JobId) (ad : Attributes) → same_job k job ≡ false → AllElsewhere (Proc k) (map (setting_op job) ad)
settings_far job k [] far = tt
settings_far job k (a ∷ ad) far = (same_proc job k ∙ far, settings_far job k ad far)

brought_here : (kind other : List ℕ) (b : JobAd) (a : Option Attributes) → AreDistinct b.1 → made_at (Proc b.0) a (bringing_ops kind other b) ≡ Some b.1
brought_here kind other b a distinct =
    made_here (Proc b.0) a (bringing_ops kind other b) (same_key_laws.refl (Proc b.0), settings_here b.0 b.1) ∙ rest_set b.0 [] b.1 distinct

brought_far : (kind other : List ℕ) (b : JobAd) (k : JobId) (a : Option Attributes) → same_job k b.0 ≡ false → made_at (Proc k) a (bringing_ops kind other b) ≡ a
brought_far kind other b k a far = made_elsewhere (Proc k) a (bringing_ops kind other b) (same_proc b.0 k ∙ far, settings_far b.0 k b.1 far)

-- ---- all jobs
all_far : (kind other : List ℕ) (bs : List JobAd) (k : JobId) (a : Option Attributes) → ((b : JobAd) → IsIn b bs → same_job k b.0 ≡ false) → made_at (Proc k) a (all_bringing_ops kind other bs) ≡ a
all_far kind other [] k a far = refl
all_far kind other (b ∷ bs) k a far =
    made_appended (Proc k) a (bringing_ops kind other b) (all_bringing_ops kind other bs)
    ∙ (ap (λ x. made_at (Proc k) x (all_bringing_ops kind other bs)) (brought_far kind other b k a (far b (inl refl)))
    ∙ all_far kind other bs k a (λ c there. far c (inr there)))

not_among : (k : JobId) (bs : List JobAd) → IsNotAmong k (map job_of_ad bs) → (b : JobAd) → IsIn b bs → k ≡ b.0 → ⊥
not_among k [] far b there is = absurd there
not_among k (c ∷ cs) far b (inl same) is = far.0 (is ∙ ap (λ (x : JobAd). x.0) same)
not_among k (c ∷ cs) far b (inr there) is = not_among k cs far.1 b there is

one_here : (kind other : List ℕ) (bs : List JobAd) (b : JobAd) (a : Option Attributes) → AreIdleJobs bs → IsIn b bs → made_at (Proc b.0) a (all_bringing_ops kind other bs) ≡ Some b.1
one_here kind other [] b a idle there = absurd there
one_here kind other (c ∷ cs) b a idle (inl same) =
    subst (λ x. made_at (Proc x.0) a (all_bringing_ops kind other (c ∷ cs)) ≡ Some x.1) (sym same)
    (made_appended (Proc c.0) a (bringing_ops kind other c) (all_bringing_ops kind other cs)
    ∙ (ap (λ x. made_at (Proc c.0) x (all_bringing_ops kind other cs)) (brought_here kind other c a idle.0)
    ∙ all_far kind other cs c.0 (Some c.1) (λ d there. apart_job c.0 d.0 (not_among c.0 cs idle.2 d there))))
one_here kind other (c ∷ cs) b a idle (inr there) =
    made_appended (Proc b.0) a (bringing_ops kind other c) (all_bringing_ops kind other cs)
    ∙ (ap (λ x. made_at (Proc b.0) x (all_bringing_ops kind other cs)) (brought_far kind other c b.0 a (apart_job b.0 c.0 (λ is. not_among c.0 cs idle.2 b there (sym is))))
    ∙ one_here kind other cs b a idle.3 there)

header_far : (os : List Operation) (k : JobId) → AreOfHeader os → AllElsewhere (Proc k) os
header_far [] k of = tt
header_far (o ∷ os) k of = (ap (λ key. same_key key (Proc k)) of.0, header_far os k of.1)

idle_one : (bs : List JobAd) (b : JobAd) → AreIdleJobs bs → IsIn b bs → kind_of b.1 ≡ Some Idle
idle_one [] b idle there = absurd there
idle_one (c ∷ cs) b idle (inl same) = ap (λ (x : JobAd). kind_of x.1) same ∙ idle.1
idle_one (c ∷ cs) b idle (inr there) = idle_one cs b idle.3 there

mapped : (bs : List JobAd) (j : NewJob) → IsIn j (map new_job_of bs) → (b : JobAd) × IsIn b bs × (j ≡ new_job_of b)
mapped [] j there = absurd there
mapped (b ∷ bs) j (inl same) = (b, inl refl, same)
mapped (b ∷ bs) j (inr there) = let found = mapped bs j there in (found.0, inr found.1, found.2)

in_mapped : (bs : List JobAd) (b : JobAd) → IsIn b bs → IsIn (new_job_of b) (map new_job_of bs)
in_mapped [] b there = absurd there
in_mapped (c ∷ cs) b (inl same) = inl (ap new_job_of same)
in_mapped (c ∷ cs) b (inr there) = inr (in_mapped cs b there)

pub brings_jobs : (q new : KeyedAds) (before : List Operation) (kind other : List ℕ) (jobs : List JobAd) → IsOrdered q → AreOfHeader before → AreIdleJobs jobs → queue_after q (before ++ all_bringing_ops kind other jobs) ≡ Ok new
    → BringsJobs q (map new_job_of jobs) new
brings_jobs q new before kind other jobs ordered of idle h = record {
  queue = ordered_after q new (before ++ all_bringing_ops kind other jobs) ordered h;
  each = λ j there. (let found = mapped jobs j there in
      subst (λ (x : NewJob). IsSomeAnd (ad_at (Proc x.job) new) (λ ad. (core_of ad ≡ x.core) × (kind_of ad ≡ Some Idle))) (sym found.2)
      (subst (λ o. IsSomeAnd o (λ ad. (core_of ad ≡ core_of found.0.1) × (kind_of ad ≡ Some Idle)))
      (sym (at found.0.0 ∙ one_here kind other jobs found.0 (ad_at (Proc found.0.0) q) idle found.1))
      (refl, idle_one jobs found.0 idle found.1)));
  others = λ job none. at job ∙ all_far kind other jobs job (ad_at (Proc job) q) (λ b there. apart_job job b.0 (λ is. none (new_job_of b) (in_mapped jobs b there) is));
}
  where
    at : (k : JobId) → ad_at (Proc k) new ≡ made_at (Proc k) (ad_at (Proc k) q) (all_bringing_ops kind other jobs)
    at k =
        ops_at (Proc k) 0 q new (before ++ all_bringing_ops kind other jobs) ordered.keys h
        ∙ (made_appended (Proc k) (ad_at (Proc k) q) before (all_bringing_ops kind other jobs)
        ∙ ap (λ x. made_at (Proc k) x (all_bringing_ops kind other jobs)) (made_elsewhere (Proc k) (ad_at (Proc k) q) before (header_far before k of)))
