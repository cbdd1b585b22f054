-- A schedd that comes back after a crash fits its queue.
use Rattle.std.proofs.Common.{◌≡◌, ◌≢◌, ◌⊎◌, inl, inr, ℕ, Bool, true, false, List, [], ◌∷◌, ◌++◌, Option, Some, None, IsSomeAnd, refl, ap, sym, ◌∙◌, subst}
use Rattle.std.specs.declared.cmp.Ordering.{Ordering}
use Rattle.std.specs.declared.cmp.Ordering.TheVariants.{Less, Equal, Greater}
use Rattle.std.specs.Ordering.{is_lt, is_eq}
use Rattle.ad_value.specs.Content.{text}
use Rattle.ad_value.specs.declared.names.pool.TheConstants.{RUN_CLAIM}
use Rattle.ad_rows.specs.Rows.{text_literal}
use Rattle.ad_tree.specs.Tree.{Tree, literal}
use Rattle.ad_tree.specs.Ad.{Attributes, lookup}
use Rattle.claim_id.specs.declared.numbers.ClaimId.{ClaimId}
use Rattle.claim_id.specs.declared.numbers.JobId.{JobId}
use Rattle.claim_id.specs.Texts.{claim_text, IsClaim}
use Rattle.pool_view.specs.AbstractPool.{IsIn}
use Rattle.pool_view.proofs.Members.{passes, passing_in}
use Rattle.queue_tx.specs.declared.key.Key.TheVariants.{Proc}
use Rattle.queue_tx.specs.Keys.{key_cmp, key_cmp_total, same_key_laws}
use Rattle.queue_tx.specs.Queues.{KeyedAds, ad_at}
use Rattle.schedd_plan.specs.JobAttributes.{run_number}
use Rattle.schedd_plan.specs.declared.claims.KeptClaim.{KeptClaim}
use Rattle.schedd_plan.specs.declared.runs.KeptRun.{KeptRun}
use Rattle.schedd_plan.specs.JobPlaces.{is_left}
use Rattle.schedd_core.specs.JobStates.{NamesRun}
use Rattle.schedd_core.specs.Logging.{reopened, IsReopened}
use Rattle.schedd_state.specs.Reopening.{IsReader, claim_by, claim_in, run_named, run_by, found_run, one_run, found_behind, found_runs, one_claim, claims_behind, found_claims, under_by, is_under_at, still_left}
use Rattle.schedd_core.specs.ScheddParts.{IsUnderRun, AreOfDifferentJobs, FitsWith, Fits}
use Rattle.schedd_state.specs.Schedds.{ScheddValue}
use Rattle.schedd_state.specs.Searches.{AreUnder}
use Rattle.schedd_core.proofs.OpenFits.{listed, of_list, job_under}
use Rattle.schedd_core.proofs.PlanMay.{in_left, left_in}

-- ---- lists
pub in_both : {A : Type 0} (x : A) (xs ys : List A) → IsIn x (xs ++ ys) → IsIn x xs ⊎ IsIn x ys
in_both x [] ys there = inr there
in_both x (z ∷ zs) ys (inl same) = inl (inl same)
in_both x (z ∷ zs) ys (inr there) = by (in_both x zs ys there)
  where
    by : IsIn x zs ⊎ IsIn x ys → IsIn x (z ∷ zs) ⊎ IsIn x ys
    by (inl h) = inl (inr h)
    by (inr h) = inr h

in_first : {A : Type 0} (x : A) (xs ys : List A) → IsIn x xs → IsIn x (xs ++ ys)
in_first x [] ys there = absurd there
in_first x (z ∷ zs) ys (inl same) = inl same
in_first x (z ∷ zs) ys (inr there) = inr (in_first x zs ys there)

in_second : {A : Type 0} (x : A) (xs ys : List A) → IsIn x ys → IsIn x (xs ++ ys)
in_second x [] ys there = there
in_second x (z ∷ zs) ys there = inr (in_second x zs ys there)

different_one : (runs : List KeptRun) (o : Option KeptRun) → AreOfDifferentJobs runs → ((s r : KeptRun) → IsIn s runs → o ≡ Some r → s.job ≢ r.job) → AreOfDifferentJobs (runs ++ one_run o)
different_one [] None one apart = tt
different_one [] (Some r) one apart = (λ s h. absurd h, tt)
different_one (x ∷ xs) o one apart = (λ s there. by s (in_both s xs (one_run o) there), different_one xs o one.1 (λ s r there is. apart s r (inr there) is))
  where
    last : (s : KeptRun) (o : Option KeptRun) → ((s r : KeptRun) → IsIn s (x ∷ xs) → o ≡ Some r → s.job ≢ r.job) → IsIn s (one_run o) → s.job ≢ x.job
    last s None apart h = absurd h
    last s (Some r) apart (inl same) = λ e. apart x r (inl refl) refl (sym e ∙ ap (λ k. k.job) same)
    last s (Some r) apart (inr h) = absurd h

    by : (s : KeptRun) → IsIn s xs ⊎ IsIn s (one_run o) → s.job ≢ x.job
    by s (inl there) = one.0 s there
    by s (inr there) = last s o apart there

-- ---- jobs in order are apart
less : (r : Ordering) → is_lt r ≡ true → r ≡ Less
less Less h = refl
less Equal h = cc
less Greater h = cc

abbrev AreApart : List JobId → Type 0
AreApart [] = Unit {0}
AreApart (x ∷ xs) = ((k : JobId) → IsIn k xs → k ≢ x) × AreApart xs

later_all : (q : KeyedAds) (x : JobId) (last : JobId) (jobs : List JobId) → is_lt (key_cmp (Proc x) (Proc last)) ≡ true → AreUnder q (Some last) jobs → (k : JobId) → IsIn k jobs → is_lt (key_cmp (Proc x) (Proc k)) ≡ true
later_all q x last [] before under k there = absurd there
later_all q x last (y ∷ ys) before under k there = by there (λ h. later_all q x y ys after under.1 k h)
  where
    after : is_lt (key_cmp (Proc x) (Proc y)) ≡ true
    after = ap is_lt (key_cmp_total.trans (Proc x) (Proc last) (Proc y) (less (key_cmp (Proc x) (Proc last)) before) (less (key_cmp (Proc last) (Proc y)) under.0.later))

    by : (k ≡ y) ⊎ IsIn k ys → (IsIn k ys → is_lt (key_cmp (Proc x) (Proc k)) ≡ true) → is_lt (key_cmp (Proc x) (Proc k)) ≡ true
    by (inl same) rest = ap (λ j. is_lt (key_cmp (Proc x) (Proc j))) same ∙ after
    by (inr h) rest = rest h

not_itself : (x : JobId) → is_lt (key_cmp (Proc x) (Proc x)) ≡ true → ⊥
not_itself x h = by (key_cmp (Proc x) (Proc x)) refl h
  where
    by : (r : Ordering) → key_cmp (Proc x) (Proc x) ≡ r → is_lt r ≡ true → ⊥
    by Less e h = let clash : false ≡ true = ap is_eq (sym e) ∙ same_key_laws.refl (Proc x) in cc
    by Equal e h = cc
    by Greater e h = cc

apart_jobs : (q : KeyedAds) (last : Option JobId) (jobs : List JobId) → AreUnder q last jobs → AreApart jobs
apart_jobs q last [] under = tt
apart_jobs q last (x ∷ xs) under = (λ k there same. not_itself x (ap (λ j. is_lt (key_cmp (Proc x) (Proc j))) (sym same) ∙ after xs under.1 k there), apart_jobs q (Some x) xs under.1)
  where
    after : (ys : List JobId) → AreUnder q (Some x) ys → (k : JobId) → IsIn k ys → is_lt (key_cmp (Proc x) (Proc k)) ≡ true
    after [] u k there = absurd there
    after (y ∷ ys) u k (inl same) = ap (λ j. is_lt (key_cmp (Proc x) (Proc j))) same ∙ u.0.later
    after (y ∷ ys) u k (inr there) = later_all q x y ys u.0.later u.1 k there

none_is : {P : Type 0} (claim : ClaimId) → None ≡ Some claim → P
none_is claim h = cc

module _ (read : List ℕ → Option ClaimId) (reads : IsReader read) (q : KeyedAds) (reading : ℕ) (left : List JobId) where
  -- ---- where the runs that are found come from
  abbrev Origin : List JobId → KeptRun → Type 0
  Origin jobs r = (job : JobId) × IsIn job jobs × (found_run read q left reading job ≡ Some r)

  of_one : (o : Option KeptRun) (r : KeptRun) → IsIn r (one_run o) → o ≡ Some r
  of_one None r h = absurd h
  of_one (Some x) r (inl same) = ap Some (sym same)
  of_one (Some x) r (inr h) = absurd h

  origin : (jobs : List JobId) (runs : List KeptRun) (r : KeptRun) → IsIn r (found_behind read q left reading jobs runs) → IsIn r runs ⊎ Origin jobs r
  origin [] runs r there = inl there
  origin (j ∷ js) runs r there = by (origin js (runs ++ one_run (found_run read q left reading j)) r there)
    where
      first : IsIn r runs ⊎ IsIn r (one_run (found_run read q left reading j)) → IsIn r runs ⊎ Origin (j ∷ js) r
      first (inl h) = inl h
      first (inr h) = inr (j, inl refl, of_one (found_run read q left reading j) r h)

      by : IsIn r (runs ++ one_run (found_run read q left reading j)) ⊎ Origin js r → IsIn r runs ⊎ Origin (j ∷ js) r
      by (inl h) = first (in_both r runs (one_run (found_run read q left reading j)) h)
      by (inr o) = inr (o.0, inr o.1, o.2)

  kept_behind : (jobs : List JobId) (runs : List KeptRun) (r : KeptRun) → IsIn r runs → IsIn r (found_behind read q left reading jobs runs)
  kept_behind [] runs r there = there
  kept_behind (j ∷ js) runs r there = kept_behind js (runs ++ one_run (found_run read q left reading j)) r (in_first r runs (one_run (found_run read q left reading j)) there)

  is_found : (jobs : List JobId) (runs : List KeptRun) (job : JobId) (r : KeptRun) → IsIn job jobs → found_run read q left reading job ≡ Some r → IsIn r (found_behind read q left reading jobs runs)
  is_found [] runs job r there is = absurd there
  is_found (j ∷ js) runs job r (inl same) is =
      kept_behind js (runs ++ one_run (found_run read q left reading j)) r (in_second r runs (one_run (found_run read q left reading j))
      (subst (λ o. IsIn r (one_run o)) (sym (ap (found_run read q left reading) (sym same) ∙ is)) (inl refl)))
  is_found (j ∷ js) runs job r (inr there) is = is_found js (runs ++ one_run (found_run read q left reading j)) job r there is

  -- ---- what they are
  record Told (job : JobId) (r : KeptRun) : Type 0 where
    pub job_is : r.job ≡ job
    pub not_left : is_left job left ≡ false
    pub ad : Attributes
    pub ad_is : ad_at (Proc job) q ≡ Some ad
    pub claim_is : claim_in read ad ≡ Some r.claim
    pub number_is : run_number ad ≡ Some r.number

  run_is : (a b : KeptRun) → Some a ≡ Some b → a ≡ b
  run_is a b e = cc

  told : (job : JobId) (r : KeptRun) → found_run read q left reading job ≡ Some r → Told job r
  told job r is = by (is_left job left) refl (ad_at (Proc job) q) refl is
    where
      named : (ad : Attributes) → is_left job left ≡ false → ad_at (Proc job) q ≡ Some ad → (c : Option ClaimId) → claim_in read ad ≡ c → (n : Option ℕ) → run_number ad ≡ n → run_named c n job reading ≡ Some r → Told job r
      named ad l a None ce n ne h = cc
      named ad l a (Some claim) ce None ne h = cc
      named ad l a (Some claim) ce (Some number) ne h =
          let same = run_is (record { job = job; claim = claim; number = number; alive = reading; found = true }) r h in
          record {
            job_is = sym (ap (λ k. k.job) same);
            not_left = l;
            ad = ad;
            ad_is = a;
            claim_is = ce ∙ ap (λ k. Some k.claim) same;
            number_is = ne ∙ ap (λ k. Some k.number) same;
          }

      by : (b : Bool) → is_left job left ≡ b → (o : Option Attributes) → ad_at (Proc job) q ≡ o → run_by read b o job reading ≡ Some r → Told job r
      by true l o a h = cc
      by false l None a h = cc
      by false l (Some ad) a h = named ad l a (claim_in read ad) refl (run_number ad) refl h

  -- the claim that an ad names
  claim_named : (ad : Attributes) (claim : ClaimId) → claim_in read ad ≡ Some claim → IsClaim claim × (lookup RUN_CLAIM.now ad ≡ Some (text_literal (claim_text claim)))
  claim_named ad claim is = by (lookup RUN_CLAIM.now ad) refl is
    where
      of_text : (bytes : List ℕ) → lookup RUN_CLAIM.now ad ≡ Some (literal (text bytes)) → read bytes ≡ Some claim → IsClaim claim × (lookup RUN_CLAIM.now ad ≡ Some (text_literal (claim_text claim)))
      of_text bytes e h = let of = (reads bytes claim).0 h in (of.0, e ∙ ap (λ b. Some (literal (text b))) of.1)

      by : (o : Option Tree) → lookup RUN_CLAIM.now ad ≡ o → claim_by read o ≡ Some claim → IsClaim claim × (lookup RUN_CLAIM.now ad ≡ Some (text_literal (claim_text claim)))
      by None e h = none_is claim h
      by (Some (literal (text bytes))) e h = of_text bytes e h
      by (Some t) e h = none_is claim h

  -- ---- the runs of the jobs that are under a claim
  module _ (v : ScheddValue) (fit : Fits q v) (left_is : left ≡ still_left q v.left) (jobs : List JobId) (under : AreUnder q None jobs) where
    was_not_left : (job : JobId) → is_under_at q job ≡ true → is_left job left ≡ false → is_left job v.left ≡ false
    was_not_left job u l = by (is_left job v.left) refl
      where
        by : (b : Bool) → is_left job v.left ≡ b → b ≡ false
        by true e =
            let there : IsIn job left = subst (IsIn job) (sym left_is) (passing_in (is_under_at q) job v.left (left_in job v.left e) u) in
            let clash : true ≡ false = sym (in_left job left there) ∙ l in cc
        by false e = refl

    ad_of_run : (t : KeptRun) (job : JobId) (ad : Attributes) → t.job ≡ job → ad_at (Proc job) q ≡ Some ad → IsUnderRun q v.left t → (end : ℕ) × NamesRun ad t.claim t.number end
    ad_of_run t job ad same is at = (subst (λ o. IsSomeAnd o (λ ad. (is_left t.job v.left ≡ false) × ((end : ℕ) × NamesRun ad t.claim t.number end))) (ap (λ j. ad_at (Proc j) q) same ∙ is) at).1

    each : (r : KeptRun) → IsIn r (found_runs read q left reading jobs) → IsUnderRun q left r
    each r there = by (origin jobs [] r there)
      where
        from : Origin jobs r → IsUnderRun q left r
        from o =
            let t = told o.0 r o.2 in
            let named = claim_named t.ad r.claim t.claim_is in
            let is_under = of_list q None jobs under o.0 o.1 in
            let was = fit.all o.0 is_under (was_not_left o.0 is_under t.not_left) in
            let lease = ad_of_run was.0 o.0 t.ad was.2 t.ad_is (fit.each was.0 was.1) in
            subst (λ j. IsSomeAnd (ad_at (Proc j) q) (λ ad. (is_left j left ≡ false) × ((end : ℕ) × NamesRun ad r.claim r.number end))) (sym t.job_is)
            (subst (λ a. IsSomeAnd a (λ ad. (is_left o.0 left ≡ false) × ((end : ℕ) × NamesRun ad r.claim r.number end))) (sym t.ad_is)
            (t.not_left, (lease.0, record { valid = named.0; claim_is = named.1; number_is = t.number_is; end_is = lease.1.end_is })))

        by : IsIn r [] ⊎ Origin jobs r → IsUnderRun q left r
        by (inl h) = absurd h
        by (inr o) = from o

    one_each : (js : List JobId) (runs : List KeptRun) → AreApart js → AreOfDifferentJobs runs → ((s : KeptRun) (k : JobId) → IsIn s runs → IsIn k js → s.job ≢ k) → AreOfDifferentJobs (found_behind read q left reading js runs)
    one_each [] runs apart one far = one
    one_each (j ∷ js) runs apart one far =
        one_each js (runs ++ one_run (found_run read q left reading j)) apart.1
        (different_one runs (found_run read q left reading j) one (λ s r there is. λ same. far s j there (inl refl) (same ∙ (told j r is).job_is)))
        (λ s k there later. by s k later (in_both s runs (one_run (found_run read q left reading j)) there))
      where
        by : (s : KeptRun) (k : JobId) → IsIn k js → IsIn s runs ⊎ IsIn s (one_run (found_run read q left reading j)) → s.job ≢ k
        by s k later (inl there) = far s k there (inr later)
        by s k later (inr there) = λ same. apart.0 k later (sym same ∙ (told j s (of_one (found_run read q left reading j) s there)).job_is)

    all : (job : JobId) → is_under_at q job ≡ true → is_left job left ≡ false → (r : KeptRun) × IsIn r (found_runs read q left reading jobs) × (r.job ≡ job)
    all job u l =
        let was = fit.all job u (was_not_left job u l) in
        by was.0 was.2 (fit.each was.0 was.1) (ad_at (Proc job) q) refl
      where
        there_is : IsIn job jobs
        there_is = listed q None jobs under job (job_under q job u) refl

        by : (t : KeptRun) → t.job ≡ job → IsUnderRun q v.left t → (o : Option Attributes) → ad_at (Proc job) q ≡ o → (r : KeptRun) × IsIn r (found_runs read q left reading jobs) × (r.job ≡ job)
        by t same at None is = let clash : false ≡ true = sym (ap under_by is) ∙ u in cc
        by t same at (Some ad) is =
            let names = (ad_of_run t job ad same is at).1 in
            let claim : claim_in read ad ≡ Some t.claim = ap (claim_by read) names.claim_is ∙ (reads (claim_text t.claim) t.claim).1 (names.valid, refl) in
            let r : KeptRun = record { job = job; claim = t.claim; number = t.number; alive = reading; found = true } in
            let found : found_run read q left reading job ≡ Some r =
            ap (λ b. run_by read b (ad_at (Proc job) q) job reading) l ∙ (ap (λ o. run_by read false o job reading) is ∙ (ap (λ c. run_named c (run_number ad) job reading) claim ∙ ap (λ n. run_named (Some t.claim) n job reading) names.number_is)) in
            (r, is_found jobs [] job r there_is found, refl)

    -- their claims
    valid_behind : (rs : List KeptRun) (claims : List KeptClaim) → ((c : KeptClaim) → IsIn c claims → IsClaim c.claim) → ((r : KeptRun) → IsIn r rs → IsClaim r.claim) → (c : KeptClaim) → IsIn c (claims_behind q rs claims) → IsClaim c.claim
    valid_behind [] claims old new = old
    valid_behind (r ∷ rs) claims old new = valid_behind rs (claims ++ one_claim (ad_at (Proc r.job) q) r) (λ c there. by c (in_both c claims (one_claim (ad_at (Proc r.job) q) r) there)) (λ s there. new s (inr there))
      where
        last : (c : KeptClaim) (o : Option Attributes) → IsIn c (one_claim o r) → IsClaim c.claim
        last c None h = absurd h
        last c (Some ad) (inl same) = subst (λ x. IsClaim x.claim) (sym same) (new r (inl refl))
        last c (Some ad) (inr h) = absurd h

        by : (c : KeptClaim) → IsIn c claims ⊎ IsIn c (one_claim (ad_at (Proc r.job) q) r) → IsClaim c.claim
        by c (inl there) = old c there
        by c (inr there) = last c (ad_at (Proc r.job) q) there

    valid_run : (r : KeptRun) → IsUnderRun q left r → IsClaim r.claim
    valid_run r at = by (ad_at (Proc r.job) q) at
      where
        by : (o : Option Attributes) → IsSomeAnd o (λ ad. (is_left r.job left ≡ false) × ((end : ℕ) × NamesRun ad r.claim r.number end)) → IsClaim r.claim
        by None h = absurd h
        by (Some ad) h = h.1.1.valid

    back_fits : FitsWith q left (found_runs read q left reading jobs) (found_claims q (found_runs read q left reading jobs))
    back_fits = record {
      queue = fit.queue;
      each = each;
      one = one_each jobs [] (apart_jobs q None jobs under) tt (λ s k there later. absurd there);
      all = all;
      under = λ job there. passes (is_under_at q) job v.left (subst (IsIn job) left_is there);
      valid = valid_behind (found_runs read q left reading jobs) [] (λ c there. absurd there) (λ r there. valid_run r (each r there));
    }

pub reopened_fits : (read : List ℕ → Option ClaimId) → IsReader read → (q : KeyedAds) (reading : ℕ) (v new : ScheddValue) → Fits q v → IsReopened v q reading new → Fits q new
unfolding reopened
reopened_fits read reads q reading v new fit r =
    subst (Fits q) (sym (r.schedd read reads)) (back_fits read reads q reading (still_left q v.left) v fit refl r.jobs r.under)
