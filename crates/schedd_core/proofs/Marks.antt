-- That all jobs up to the mark of a schedd were looked at.
use Rattle.std.proofs.Common.{◌≡◌, ℕ, Bool, true, false, true≢false, cond, ◌&&◌, ◌||◌, List, [], ◌∷◌, Option, Some, None, is_some, Ok, refl, ap, sym, ◌∙◌, subst}
use Rattle.std.specs.Prelude.{IsSome}
use Rattle.std.specs.declared.cmp.Ordering.{Ordering}
use Rattle.std.specs.declared.cmp.Ordering.TheVariants.{Less, Equal, Greater}
use Rattle.std.specs.Ordering.{is_lt, is_gt, ordering_reverse}
use Rattle.std.specs.Map.{lookup, remove_entry}
use Rattle.ad_value.specs.declared.names.job.TheConstants.{JOB_STATUS, PERIODIC_HOLD, PERIODIC_REMOVE, PERIODIC_RELEASE}
use Rattle.ad_value.specs.declared.names.pool.TheConstants.{HOLD_REASON, RUN_CLAIM, RUN_NUMBER, LEASE_UNTIL}
use Rattle.ad_rows.specs.Rows.{integer_literal, text_literal}
use Rattle.ad_tree.specs.Ad as ad
use Rattle.ad_tree.specs.Ad.{Attributes, with_attribute, without}
use Rattle.ad_tree.specs.Tree.{Tree}
use Rattle.ad_value.specs.Names.{same_name}
use Rattle.claim_id.specs.declared.numbers.ClaimId.{ClaimId}
use Rattle.claim_id.specs.declared.numbers.JobId.{JobId}
use Rattle.claim_id.specs.Texts.{claim_text}
use Rattle.pool_mail.specs.declared.settings.Settings.{Settings}
use Rattle.pool_view.specs.Numbers.{same_job}
use Rattle.pool_view.proofs.Sameness.{same_job-true}
use Rattle.ordered_map.proofs.Splits.{greater_from_less}
use Rattle.queue_tx.specs.declared.key.Key.{Key}
use Rattle.queue_tx.specs.declared.key.Key.TheVariants.{Header, Proc}
use Rattle.queue_tx.specs.declared.kind.JobKind.{JobKind}
use Rattle.queue_tx.specs.Keys.{key_cmp, key_cmp_total, same_key, is_above}
use Rattle.queue_tx.specs.Kinds.{kind_of}
use Rattle.queue_tx.specs.Periodic.{has_periodic, is_periodic, IsPeriodic}
use Rattle.queue_tx.specs.Queues.{KeyedAds, ad_at, queue_after}
use Rattle.queue_tx.proofs.Queues.{exact_keys}
use Rattle.queue_tx.proofs.Transactions.{same_keys}
use Rattle.schedd_plan.specs.declared.plan.JobPlan.{JobPlan}
use Rattle.schedd_plan.specs.declared.plan.JobPlan.TheVariants as plan
use Rattle.schedd_plan.specs.declared.reason.Reason.{Reason}
use Rattle.schedd_plan.specs.Plans.{job_of, plan_ops}
use Rattle.schedd_plan.specs.JobAttributes.{reason_text}
use Rattle.schedd_state.specs.DueChecks.{was_checked, IsPassedTo, IsPassed, Passes, with_new}
use Rattle.schedd_core.specs.Logging.{after_plan, reopened, IsReopened}
use Rattle.schedd_state.specs.Reopening.{IsReader}
use Rattle.schedd_state.specs.Schedds.{ScheddValue, IsOpened}
use Rattle.schedd_core.specs.ScheddParts.{IsFitting, IsOrdered}
use Rattle.schedd_core.proofs.AdChanges.{set_elsewhere, removed_elsewhere}
use Rattle.schedd_core.proofs.FitsAfter.{ad_by}
use Rattle.schedd_state.proofs.Fresh.{less_from}
use Rattle.schedd_core.proofs.LostPlans.{GoesOn}
use Rattle.schedd_core.proofs.PlanAds.{with_status, marked_held, runless, lengthened, granted}
use Rattle.schedd_core.proofs.PlanJobs.{plan_ad, ad_of_plan, ad_elsewhere, plan_there}
use Rattle.schedd_core.proofs.QueueChanges.{same_proc}

-- ---- no mark, or one that stays
none_passed : (q : KeyedAds) (looks : List (Key × ℕ)) (passed : Option Key) → passed ≡ None → IsPassedTo q looks passed
none_passed q looks passed none key periodic below =
    let clash : true ≡ false = sym (ap (λ o. is_above o key) none) ∙ below in cc

pub opened_passed : (q : KeyedAds) (settings : Settings) (v : ScheddValue) → IsOpened q settings v → IsPassed q v
opened_passed q settings v o = none_passed q v.checked v.passed (ap (λ (w : ScheddValue). w.passed) o.1)

pub reopened_passed : (read : List ℕ → Option ClaimId) → IsReader read → (q : KeyedAds) (v back : ScheddValue) (reading : ℕ) → IsReopened v q reading back → IsPassed q back
unfolding reopened
reopened_passed read reads q v back reading r = none_passed q back.checked back.passed (ap (λ (w : ScheddValue). w.passed) (r.schedd read reads))

pub going_passed : (q : KeyedAds) (v w : ScheddValue) → GoesOn v w → IsPassed q v → IsPassed q w
going_passed q v w on to key periodic below = on.1 key (to key periodic (ap (λ o. is_above o key) (sym on.0) ∙ below))

pub moved_passed : (q : KeyedAds) (v : ScheddValue) (passed : Option Key) → Passes q v.checked v.passed passed → IsPassed q v → IsPassed q (record v { passed = passed })
moved_passed q v passed p to = p.passed to

-- ---- jobs that are new to the queue
-- what is not above a key that is below another is below that
below_first : (k first key : Key) → is_lt (key_cmp k first) ≡ true → is_lt (key_cmp k key) ≡ false → is_gt (key_cmp first key) ≡ true
below_first k first key is below = by (key_cmp k key) refl below
  where
    by : (r : Ordering) → key_cmp k key ≡ r → is_lt r ≡ false → is_gt (key_cmp first key) ≡ true
    by Less at below = absurd (true≢false below)
    by Equal at below = ap is_gt (greater_from_less key_cmp_total key first (subst (λ x. key_cmp x first ≡ Less) (exact_keys k key at) (less_from (key_cmp k first) is)))
    by Greater at below =
        let under : key_cmp key k ≡ Less = key_cmp_total.antisymm key k ∙ ap ordering_reverse at in
        ap is_gt (greater_from_less key_cmp_total key first (key_cmp_total.trans key k first under (less_from (key_cmp k first) is)))

pub new_passed : (q new : KeyedAds) (v : ScheddValue) (first : Key) → ((key : Key) → IsPeriodic new key → is_gt (key_cmp first key) ≡ true → IsPeriodic q key) → IsPassed q v → IsPassed new (with_new first v)
new_passed q new v first old to key periodic below = by (is_above v.passed first) refl below
  where
    lower : (o : Option Key) → is_above o first ≡ true → is_above o key ≡ false → is_gt (key_cmp first key) ≡ true
    lower None is below = cc
    lower (Some k) is below = below_first k first key is below

    by : (b : Bool) → is_above v.passed first ≡ b → is_above (cond b v.passed None) key ≡ false → was_checked v.checked key ≡ true
    by false is below = cc
    by true is below = to key (old key periodic (lower v.passed is below)) below

-- ---- what a plan leaves of the periodic expressions
abbrev SameNamed : Attributes → Attributes → Type 0
SameNamed a b =
    (ad.lookup PERIODIC_HOLD.now a ≡ ad.lookup PERIODIC_HOLD.now b)
    × (ad.lookup PERIODIC_REMOVE.now a ≡ ad.lookup PERIODIC_REMOVE.now b)
    × (ad.lookup PERIODIC_RELEASE.now a ≡ ad.lookup PERIODIC_RELEASE.now b)

further : (a b c : Attributes) → SameNamed a b → SameNamed b c → SameNamed a c
further a b c h g = (h.0 ∙ g.0, h.1 ∙ g.1, h.2 ∙ g.2)

set_named : (x : List ℕ) (e : Tree) (a : Attributes) → same_name PERIODIC_HOLD.now x ≡ false → same_name PERIODIC_REMOVE.now x ≡ false → same_name PERIODIC_RELEASE.now x ≡ false → SameNamed (with_attribute x e a) a
set_named x e a h r l = (set_elsewhere x PERIODIC_HOLD.now e a h, set_elsewhere x PERIODIC_REMOVE.now e a r, set_elsewhere x PERIODIC_RELEASE.now e a l)

removed_named : (x : List ℕ) (a : Attributes) → same_name PERIODIC_HOLD.now x ≡ false → same_name PERIODIC_REMOVE.now x ≡ false → same_name PERIODIC_RELEASE.now x ≡ false → SameNamed (without x a) a
removed_named x a h r l = (removed_elsewhere x PERIODIC_HOLD.now a h, removed_elsewhere x PERIODIC_REMOVE.now a r, removed_elsewhere x PERIODIC_RELEASE.now a l)

status_named : (n : ℕ) (a : Attributes) → SameNamed (with_status n a) a
status_named n a = set_named JOB_STATUS.now (integer_literal n) a refl refl refl

marked_named : (reason : Reason) (a : Attributes) → SameNamed (marked_held reason a) a
marked_named reason a = further (marked_held reason a) (with_status 5 a) a (set_named HOLD_REASON.now (text_literal (reason_text reason)) (with_status 5 a) refl refl refl) (status_named 5 a)

runless_named : (a : Attributes) → SameNamed (runless a) a
runless_named a =
    let no_claim : Attributes = without RUN_CLAIM.now a in
    let no_number : Attributes = without RUN_NUMBER.now no_claim in
    further (runless a) no_number a (removed_named LEASE_UNTIL.now no_number refl refl refl)
    (further no_number no_claim a (removed_named RUN_NUMBER.now no_claim refl refl refl) (removed_named RUN_CLAIM.now a refl refl refl))

lengthened_named : (until : ℕ) (a : Attributes) → SameNamed (lengthened until a) a
lengthened_named until a = set_named LEASE_UNTIL.now (integer_literal until) a refl refl refl

granted_named : (claim : ClaimId) (number until : ℕ) (a : Attributes) → SameNamed (granted claim number until a) a
granted_named claim number until a =
    let claimed : Attributes = with_attribute RUN_CLAIM.now (text_literal (claim_text claim)) (with_status 2 a) in
    let numbered : Attributes = with_attribute RUN_NUMBER.now (integer_literal number) claimed in
    further (lengthened until numbered) numbered a (lengthened_named until numbered)
    (further numbered claimed a (set_named RUN_NUMBER.now (integer_literal number) claimed refl refl refl)
    (further claimed (with_status 2 a) a (set_named RUN_CLAIM.now (text_literal (claim_text claim)) (with_status 2 a) refl refl refl) (status_named 2 a)))

plan_named : (p : JobPlan) (a new : Attributes) → plan_ad p a ≡ Some new → SameNamed new a
unfolding plan_ad
plan_named (plan.PutIdle job) a new is =
    let same : runless (with_status 1 a) ≡ new = cc in
    subst (λ x. SameNamed x a) same (further (runless (with_status 1 a)) (with_status 1 a) a (runless_named (with_status 1 a)) (status_named 1 a))
plan_named (plan.PutHeld job reason) a new is =
    let same : runless (marked_held reason a) ≡ new = cc in
    subst (λ x. SameNamed x a) same (further (runless (marked_held reason a)) (marked_held reason a) a (runless_named (marked_held reason a)) (marked_named reason a))
plan_named (plan.Complete job completion) a new is = cc
plan_named (plan.Remove job) a new is = cc
plan_named (plan.MarkRemoved job) a new is =
    let same : with_status 3 a ≡ new = cc in subst (λ x. SameNamed x a) same (status_named 3 a)
plan_named (plan.MarkHeld job reason) a new is =
    let same : marked_held reason a ≡ new = cc in subst (λ x. SameNamed x a) same (marked_named reason a)
plan_named (plan.MarkRunning job) a new is =
    let same : with_status 2 a ≡ new = cc in subst (λ x. SameNamed x a) same (status_named 2 a)
plan_named (plan.Lengthen job until) a new is =
    let same : lengthened until a ≡ new = cc in subst (λ x. SameNamed x a) same (lengthened_named until a)
plan_named (plan.Grant job claim number until header) a new is =
    let same : granted claim number until a ≡ new = cc in subst (λ x. SameNamed x a) same (granted_named claim number until a)

abbrev named : Option Tree → Option Tree → Option Tree → Bool
named hold remove release = is_some hold || is_some remove || is_some release

was_periodic : (a new : Attributes) → IsSome (kind_of a) → SameNamed new a → has_periodic new ≡ true → has_periodic a ≡ true
was_periodic a new job same h =
    ap (λ b. b && named (ad.lookup PERIODIC_HOLD.now a) (ad.lookup PERIODIC_REMOVE.now a) (ad.lookup PERIODIC_RELEASE.now a)) (is_job (kind_of a) job)
    ∙ ap (λ o. named o (ad.lookup PERIODIC_REMOVE.now a) (ad.lookup PERIODIC_RELEASE.now a)) (sym same.0)
    ∙ ap (λ o. named (ad.lookup PERIODIC_HOLD.now new) o (ad.lookup PERIODIC_RELEASE.now a)) (sym same.1)
    ∙ ap (λ o. named (ad.lookup PERIODIC_HOLD.now new) (ad.lookup PERIODIC_REMOVE.now new) o) (sym same.2)
    ∙ second (is_some (kind_of new)) (named (ad.lookup PERIODIC_HOLD.now new) (ad.lookup PERIODIC_REMOVE.now new) (ad.lookup PERIODIC_RELEASE.now new)) h
  where
    is_job : (k : Option JobKind) → IsSome k → is_some k ≡ true
    is_job None h = cc
    is_job (Some kind) h = refl

    second : (b c : Bool) → (b && c) ≡ true → c ≡ true
    second true c h = h
    second false c h = cc

-- ---- what it leaves of the looks
checked_apart : (k key : Key) (looks : List (Key × ℕ)) → same_key k key ≡ false → was_checked looks key ≡ true → was_checked (remove_entry (same_key k) looks) key ≡ true
checked_apart k key [] apart h = h
checked_apart k key (e ∷ es) apart h = by (same_key k e.0) refl (same_key key e.0) refl h (checked_apart k key es apart)
  where
    by : (b : Bool) → same_key k e.0 ≡ b → (c : Bool) → same_key key e.0 ≡ c → is_some (cond c (Some e.1) (lookup (same_key key) es)) ≡ true
        → (was_checked es key ≡ true → was_checked (remove_entry (same_key k) es) key ≡ true)
        → was_checked (cond b es (e ∷ remove_entry (same_key k) es)) key ≡ true
    by true one true other h rest =
        let clash : true ≡ false = sym one ∙ (ap (same_key k) (sym (same_keys key e.0 other)) ∙ apart) in cc
    by true one false other h rest = h
    by false one true other h rest = ap (λ c. is_some (cond c (Some e.1) (lookup (same_key key) (remove_entry (same_key k) es)))) other
    by false one false other h rest = ap (λ c. is_some (cond c (Some e.1) (lookup (same_key key) (remove_entry (same_key k) es)))) other ∙ rest h

same_mark : (p : JobPlan) (v : ScheddValue) → (after_plan p v).passed ≡ v.passed
unfolding after_plan
same_mark (plan.PutIdle job) v = refl
same_mark (plan.PutHeld job reason) v = refl
same_mark (plan.Complete job completion) v = refl
same_mark (plan.Remove job) v = refl
same_mark (plan.MarkRemoved job) v = refl
same_mark (plan.MarkHeld job reason) v = refl
same_mark (plan.MarkRunning job) v = refl
same_mark (plan.Lengthen job until) v = refl
same_mark (plan.Grant job claim number until header) v = refl

-- of a job that is still there, or of another
still_checked : (p : JobPlan) (v : ScheddValue) (a new : Attributes) (key : Key) → plan_ad p a ≡ Some new → was_checked v.checked key ≡ true → was_checked (after_plan p v).checked key ≡ true
unfolding after_plan plan_ad
still_checked (plan.PutIdle job) v a new key is h = h
still_checked (plan.PutHeld job reason) v a new key is h = h
still_checked (plan.Complete job completion) v a new key is h = cc
still_checked (plan.Remove job) v a new key is h = cc
still_checked (plan.MarkRemoved job) v a new key is h = h
still_checked (plan.MarkHeld job reason) v a new key is h = h
still_checked (plan.MarkRunning job) v a new key is h = h
still_checked (plan.Lengthen job until) v a new key is h = h
still_checked (plan.Grant job claim number until header) v a new key is h = h

checked_elsewhere : (p : JobPlan) (v : ScheddValue) (key : Key) → same_key (Proc (job_of p)) key ≡ false → was_checked v.checked key ≡ true → was_checked (after_plan p v).checked key ≡ true
unfolding after_plan
checked_elsewhere (plan.PutIdle job) v key apart h = h
checked_elsewhere (plan.PutHeld job reason) v key apart h = h
checked_elsewhere (plan.Complete job completion) v key apart h = checked_apart (Proc job) key v.checked apart h
checked_elsewhere (plan.Remove job) v key apart h = checked_apart (Proc job) key v.checked apart h
checked_elsewhere (plan.MarkRemoved job) v key apart h = h
checked_elsewhere (plan.MarkHeld job reason) v key apart h = h
checked_elsewhere (plan.MarkRunning job) v key apart h = h
checked_elsewhere (plan.Lengthen job until) v key apart h = h
checked_elsewhere (plan.Grant job claim number until header) v key apart h = h

-- ---- once a plan is logged
module _ (q new : KeyedAds) (v : ScheddValue) (p : JobPlan) (o : IsOrdered q) (fits : IsFitting q v.left p) (h : queue_after q (plan_ops p) ≡ Ok new) (to : IsPassed q v) where
  its_own : is_periodic (Proc (job_of p)) (ad_at (Proc (job_of p)) new) ≡ true → is_above v.passed (Proc (job_of p)) ≡ false → was_checked (after_plan p v).checked (Proc (job_of p)) ≡ true
  its_own periodic below =
      let at = ad_by q (job_of p) (plan_there q v.left p fits) in
      let made = ad_of_plan q new p at.0 o.keys h at.1 in
      by at (plan_ad p at.0) refl (sym (ap (is_periodic (Proc (job_of p))) made) ∙ periodic)
    where
      by : (at : (a : Attributes) × (ad_at (Proc (job_of p)) q ≡ Some a) × IsSome (kind_of a)) (m : Option Attributes) → plan_ad p at.0 ≡ m → is_periodic (Proc (job_of p)) m ≡ true → was_checked (after_plan p v).checked (Proc (job_of p)) ≡ true
      by at None is periodic = cc
      by at (Some b) is periodic =
          let was : has_periodic at.0 ≡ true = was_periodic at.0 b at.2 (plan_named p at.0 b is) periodic in
          still_checked p v at.0 b (Proc (job_of p)) is (to (Proc (job_of p)) (ap (is_periodic (Proc (job_of p))) at.1 ∙ was) below)

  of_job : (k : JobId) → is_periodic (Proc k) (ad_at (Proc k) new) ≡ true → is_above v.passed (Proc k) ≡ false → was_checked (after_plan p v).checked (Proc k) ≡ true
  of_job k periodic below = by (same_job k (job_of p)) refl
    where
      by : (b : Bool) → same_job k (job_of p) ≡ b → was_checked (after_plan p v).checked (Proc k) ≡ true
      by true is =
          let same = same_job-true k (job_of p) is in
          subst (λ x. was_checked (after_plan p v).checked (Proc x) ≡ true) (sym same)
          (its_own (subst (λ x. is_periodic (Proc x) (ad_at (Proc x) new) ≡ true) same periodic) (subst (λ x. is_above v.passed (Proc x) ≡ false) same below))
      by false is =
          checked_elsewhere p v (Proc k) (same_proc (job_of p) k ∙ is)
          (to (Proc k) (ap (is_periodic (Proc k)) (sym (ad_elsewhere q new p k o.keys h is)) ∙ periodic) below)

  pub logged_passed : IsPassed new (after_plan p v)
  logged_passed key periodic below = by key periodic (ap (λ m. is_above m key) (sym (same_mark p v)) ∙ below)
    where
      by : (key : Key) → is_periodic key (ad_at key new) ≡ true → is_above v.passed key ≡ false → was_checked (after_plan p v).checked key ≡ true
      by Header periodic below = cc
      by (Proc k) periodic below = of_job k periodic below
