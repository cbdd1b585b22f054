-- Lists in which nothing comes twice, and the jobs of a queue as such a list.
use Rattle.std.proofs.Common.{◌≡◌, ◌⊎◌, inl, inr, ℕ, suc, ◌≤◌, Bool, true, false, cond, List, [], ◌∷◌, ◌++◌, length, Option, Some, None, is_some, IsSomeAnd, refl, sym, ◌∙◌, ap, subst, arith, true≢false}
use Rattle.std.specs.Prelude.{IsSome}
use Rattle.std.specs.Cmp.{tied_itself}
use Rattle.std.specs.List.Sorted.{IsStrictlySortedBy}
use Rattle.std.specs.Ordering.{is_gt, is_lt}
use Rattle.std.specs.declared.cmp.Ordering.{Ordering}
use Rattle.std.specs.declared.cmp.Ordering.TheVariants.{Less, Equal, Greater}
use Rattle.ad_tree.specs.Ad.{Attributes}
use Rattle.claim_id.specs.declared.numbers.JobId.{JobId}
use Rattle.ordered_map.proofs.Splits.{KeysAll, lookup_short}
use Rattle.pool_parts.specs.Listings.{AreJobs, is_past_job}
use Rattle.pool_state.specs.Openings.{AreListed, IsJobCount}
use Rattle.pool_view.specs.AbstractPool.{IsIn}
use Rattle.queue_tx.specs.Jobs.{IsJobOf, kind_under}
use Rattle.queue_tx.specs.Kept.{is_kind}
use Rattle.queue_tx.specs.Keys.{key_cmp, key_cmp_total, same_key, same_key_laws}
use Rattle.queue_tx.specs.Kinds.{kind_of}
use Rattle.queue_tx.specs.Queues.{IsQueue, KeyedAds, ad_at}
use Rattle.queue_tx.specs.declared.key.Key.{Key}
use Rattle.queue_tx.specs.declared.key.Key.TheVariants.{Header, Proc}
use Rattle.queue_tx.specs.declared.kind.JobKind.{JobKind}
use Rattle.queue_tx.specs.declared.kind.JobKind.TheVariants.{Idle, Held, Under}
use Rattle.queue_tx.proofs.Asking.{job_is_there}
use Rattle.queue_tx.proofs.KeptJobs.{kind_from, kind_itself}
use Rattle.queue_tx.proofs.Queues.{exact_keys}
use Rattle.queue_tx.proofs.Transactions.{same_keys}
use Rattle.schedd_core.specs.ScheddParts.{IsThere}
use Rattle.pool_rules.proofs.Kept.{in_both, in_first, in_second}

-- ---- lists in which nothing comes twice
abbrev pub AreApart : {A : Type 0} → List A → Type 0
AreApart [] = Unit {0}
AreApart (x ∷ xs) = (IsIn x xs → ⊥) × AreApart xs

-- a list without one of its members
pub record Without {A : Type 0} (x : A) (xs : List A) : Type 0 where
  pub rest : List A
  pub one_less : length xs ≡ suc (length rest)
  pub others : (y : A) → IsIn y xs → (y ≡ x → ⊥) → IsIn y rest
  pub within : (y : A) → IsIn y rest → IsIn y xs
  pub apart : AreApart xs → AreApart rest
  pub gone : AreApart xs → IsIn x rest → ⊥

module _ {A : Type 0} where
  without_first : (x z : A) (zs : List A) → x ≡ z → Without x (z ∷ zs)
  without_first x z zs same = record {
    rest = zs;
    one_less = refl;
    others = others;
    within = λ y h. inr h;
    apart = λ a. a.1;
    gone = λ a h. a.0 (subst (λ w. IsIn w zs) same h);
  }
    where
      others : (y : A) → IsIn y (z ∷ zs) → (y ≡ x → ⊥) → IsIn y zs
      others y (inl is) other = absurd (other (is ∙ sym same))
      others y (inr h) other = h

  without_later : (x z : A) (zs : List A) → IsIn x zs → Without x zs → Without x (z ∷ zs)
  without_later x z zs there more = record {
    rest = z ∷ more.rest;
    one_less = ap suc more.one_less;
    others = others;
    within = within;
    apart = λ a. (λ h. a.0 (more.within z h), more.apart a.1);
    gone = gone;
  }
    where
      others : (y : A) → IsIn y (z ∷ zs) → (y ≡ x → ⊥) → IsIn y (z ∷ more.rest)
      others y (inl is) other = inl is
      others y (inr h) other = inr (more.others y h other)

      within : (y : A) → IsIn y (z ∷ more.rest) → IsIn y (z ∷ zs)
      within y (inl is) = inl is
      within y (inr h) = inr (more.within y h)

      gone : AreApart (z ∷ zs) → IsIn x (z ∷ more.rest) → ⊥
      gone a (inl same) = a.0 (subst (λ w. IsIn w zs) same there)
      gone a (inr h) = more.gone a.1 h

  pub without : (x : A) (xs : List A) → IsIn x xs → Without x xs
  without x [] there = absurd there
  without x (z ∷ zs) (inl same) = without_first x z zs same
  without x (z ∷ zs) (inr there) = without_later x z zs there (without x zs there)

  no_longer : (xs ys : List A) → AreApart xs → ((x : A) → IsIn x xs → IsIn x ys) → length xs ≤ length ys
  no_longer [] ys apart within = omega arith
  no_longer (x ∷ xs) ys apart within =
      let w = without x ys (within x (inl refl)) in
      let less = no_longer xs w.rest apart.1 (λ y h. w.others y (within y (inr h)) (λ same. apart.0 (subst (λ z. IsIn z xs) same h))) in
      let one = w.one_less in omega (arith, less, one)

  pub apart_both : (xs ys : List A) → AreApart xs → AreApart ys → ((x : A) → IsIn x xs → IsIn x ys → ⊥) → AreApart (xs ++ ys)
  apart_both [] ys a b far = b
  apart_both (x ∷ xs) ys a b far = (λ there. by (in_both x xs ys there), apart_both xs ys a.1 b (λ y h k. far y (inr h) k))
    where
      by : IsIn x xs ⊎ IsIn x ys → ⊥
      by (inl h) = a.0 h
      by (inr h) = far x (inl refl) h

-- ---- all jobs of a queue, none of them twice
pub record AreAll (q : KeyedAds) (jobs : List JobId) : Type 0 where
  pub apart : AreApart jobs
  pub there : (job : JobId) → IsIn job jobs → IsThere q job
  pub all : (job : JobId) → IsThere q job → IsIn job jobs

as_many : (q : KeyedAds) (xs ys : List JobId) → AreAll q xs → AreAll q ys → length xs ≡ length ys
as_many q xs ys a b =
    let less = no_longer xs ys a.apart (λ job h. b.all job (a.there job h)) in
    let more = no_longer ys xs b.apart (λ job h. a.all job (b.there job h)) in omega (arith, less, more)

-- ---- the order of jobs
less_from : (r : Ordering) → is_lt r ≡ true → r ≡ Less
less_from Less h = refl
less_from Equal h = cc
less_from Greater h = cc

past_both : (last : Option JobId) (j : JobId) (key : Key) → is_past_job last (Proc j) ≡ true → is_past_job (Some j) key ≡ true → is_past_job last key ≡ true
past_both None j key h g = refl
past_both (Some l) j key h g = ap is_lt (key_cmp_total.trans (Proc l) (Proc j) key (less_from (key_cmp (Proc l) (Proc j)) h) (less_from (key_cmp (Proc j) key) g))

never_itself : (key : Key) → is_lt (key_cmp key key) ≡ true → ⊥
never_itself key h = let clash : false ≡ true = sym (ap is_lt (tied_itself key_cmp_total key)) ∙ h in cc

of_proc : (a b : JobId) → Proc a ≡ Proc b → a ≡ b
of_proc a b h = cc

-- ---- those of a kind, as the list has them
module _ (kind : JobKind) (q : KeyedAds) where
  of_list : (last : Option JobId) (jobs : List JobId) → AreJobs kind q last jobs → (job : JobId) → IsIn job jobs → IsJobOf kind q (Proc job) × (is_past_job last (Proc job) ≡ true)
  of_list last [] are job there = absurd there
  of_list last (j ∷ js) are job (inl same) = subst (λ k. IsJobOf kind q (Proc k) × (is_past_job last (Proc k) ≡ true)) (sym same) (are.0.meant, are.0.later)
  of_list last (j ∷ js) are job (inr there) = let r = of_list (Some j) js are.1 job there in (r.0, past_both last j (Proc job) are.0.later r.1)

  in_list : (last : Option JobId) (jobs : List JobId) → AreJobs kind q last jobs → (job : JobId) → IsJobOf kind q (Proc job) → is_past_job last (Proc job) ≡ true → IsIn job jobs
  in_list last [] none job is past = absurd (true≢false (sym past ∙ none (Proc job) is))
  in_list last (j ∷ js) are job is past = by (key_cmp (Proc j) (Proc job)) refl (are.0.first (Proc job) is past) (λ later. in_list (Some j) js are.1 job is later)
    where
      by : (r : Ordering) → key_cmp (Proc j) (Proc job) ≡ r → is_gt r ≡ false → (is_past_job (Some j) (Proc job) ≡ true → IsIn job js) → IsIn job (j ∷ js)
      by Less e h rest = inr (rest (ap is_lt e))
      by Equal e h rest = inl (sym (of_proc j job (exact_keys (Proc j) (Proc job) e)))
      by Greater e h rest = absurd (true≢false h)

  list_apart : (last : Option JobId) (jobs : List JobId) → AreJobs kind q last jobs → AreApart jobs
  list_apart last [] none = tt
  list_apart last (j ∷ js) are = (λ there. never_itself (Proc j) (of_list (Some j) js are.1 j there).1, list_apart (Some j) js are.1)

-- ---- a job is of one kind
there_of : (kind : JobKind) (q : KeyedAds) (job : JobId) → IsJobOf kind q (Proc job) → IsThere q job
there_of kind q job h = by (ad_at (Proc job) q) h
  where
    by : (o : Option Attributes) → kind_under (Proc job) o ≡ Some kind → IsSomeAnd o (λ ad. IsSome (kind_of ad))
    by None h = cc
    by (Some ad) h = ap is_some h

record KindOf (q : KeyedAds) (job : JobId) : Type 0 where
  kind : JobKind
  is : IsJobOf kind q (Proc job)

kind_there : (q : KeyedAds) (job : JobId) → IsThere q job → KindOf q job
kind_there q job there = by (ad_at (Proc job) q) refl there
  where
    of : (ad : Attributes) → ad_at (Proc job) q ≡ Some ad → (k : Option JobKind) → kind_of ad ≡ k → IsSome k → KindOf q job
    of ad is None of_ad h = cc
    of ad is (Some kind) of_ad h = record { kind = kind; is = ap (kind_under (Proc job)) is ∙ of_ad }

    by : (o : Option Attributes) → ad_at (Proc job) q ≡ o → IsSomeAnd o (λ ad. IsSome (kind_of ad)) → KindOf q job
    by None is h = absurd h
    by (Some ad) is h = of ad is (kind_of ad) refl h

one_kind : (a b : JobKind) (q : KeyedAds) (job : JobId) → IsJobOf a q (Proc job) → IsJobOf b q (Proc job) → a ≡ b
one_kind a b q job h g = let same : Some a ≡ Some b = sym h ∙ g in cc

-- ---- what is listed are all
pub listed_all : (q : KeyedAds) (jobs : List JobId) → AreListed q jobs → AreAll q jobs
listed_all q jobs (idle, held, under, i, h, u, is) = subst (AreAll q) (sym is) (record { apart = apart; there = there; all = all })
  where
    idle_held : (job : JobId) → IsIn job idle → IsIn job held → ⊥
    idle_held job x y = let same = one_kind Idle Held q job (of_list Idle q None idle i job x).0 (of_list Held q None held h job y).0 in cc

    idle_under : (job : JobId) → IsIn job idle → IsIn job under → ⊥
    idle_under job x y = let same = one_kind Idle Under q job (of_list Idle q None idle i job x).0 (of_list Under q None under u job y).0 in cc

    held_under : (job : JobId) → IsIn job held → IsIn job under → ⊥
    held_under job x y = let same = one_kind Held Under q job (of_list Held q None held h job x).0 (of_list Under q None under u job y).0 in cc

    both_under : (job : JobId) → IsIn job idle ⊎ IsIn job held → IsIn job under → ⊥
    both_under job (inl x) y = idle_under job x y
    both_under job (inr x) y = held_under job x y

    apart : AreApart (idle ++ held ++ under)
    apart = apart_both (idle ++ held) under
        (apart_both idle held (list_apart Idle q None idle i) (list_apart Held q None held h) idle_held)
        (list_apart Under q None under u) (λ job x y. both_under job (in_both job idle held x) y)

    of_first : (job : JobId) → IsIn job idle ⊎ IsIn job held → IsThere q job
    of_first job (inl x) = there_of Idle q job (of_list Idle q None idle i job x).0
    of_first job (inr x) = there_of Held q job (of_list Held q None held h job x).0

    of_both : (job : JobId) → IsIn job (idle ++ held) ⊎ IsIn job under → IsThere q job
    of_both job (inl x) = of_first job (in_both job idle held x)
    of_both job (inr x) = there_of Under q job (of_list Under q None under u job x).0

    there : (job : JobId) → IsIn job (idle ++ held ++ under) → IsThere q job
    there job x = of_both job (in_both job (idle ++ held) under x)

    by_kind : (job : JobId) (kind : JobKind) → IsJobOf kind q (Proc job) → IsIn job (idle ++ held ++ under)
    by_kind job Idle x = in_first job (idle ++ held) under (in_first job idle held (in_list Idle q None idle i job x refl))
    by_kind job Held x = in_first job (idle ++ held) under (in_second job idle held (in_list Held q None held h job x refl))
    by_kind job Under x = in_second job (idle ++ held) under (in_list Under q None under u job x refl)

    all : (job : JobId) → IsThere q job → IsIn job (idle ++ held ++ under)
    all job x = let k = kind_there q job x in by_kind job k.kind k.is

-- ---- each queue has a list of the jobs of a kind
module _ (kind : JobKind) where
  -- of two queues that have the same jobs after the last one
  along : (q r : KeyedAds) (last : Option JobId) (jobs : List JobId)
      → ((key : Key) → is_past_job last key ≡ true → (IsJobOf kind q key → IsJobOf kind r key) × (IsJobOf kind r key → IsJobOf kind q key))
      → AreJobs kind q last jobs → AreJobs kind r last jobs
  along q r last [] same none = λ key is. by key is (is_past_job last key) refl
    where
      by : (key : Key) → IsJobOf kind r key → (b : Bool) → is_past_job last key ≡ b → is_past_job last key ≡ false
      by key is true past = let clash : false ≡ true = sym (none key ((same key past).1 is)) ∙ past in cc
      by key is false past = past
  along q r last (j ∷ js) same are = (
    record {
      meant = (same (Proc j) are.0.later).0 are.0.meant;
      later = are.0.later;
      first = λ other is past. are.0.first other ((same other past).1 is) past;
    },
    along q r (Some j) js (λ key past. same key (past_both last j key are.0.later past)) are.1,
  )

  -- where all come after a job
  after : (q : KeyedAds) (job : JobId) (jobs : List JobId) → ((key : Key) → IsJobOf kind q key → is_past_job (Some job) key ≡ true) → AreJobs kind q None jobs → AreJobs kind q (Some job) jobs
  after q job [] past none = λ key is. (let clash : true ≡ false = none key is in cc)
  after q job (j ∷ js) past are = (
    record {
      meant = are.0.meant;
      later = past (Proc j) are.0.meant;
      first = λ other is later. are.0.first other is refl;
    },
    are.1,
  )

  record Listing (q : KeyedAds) : Type 0 where
    jobs : List JobId
    are : AreJobs kind q None jobs

  none_under : (key : Key) → kind_under key None ≡ Some kind → ⊥
  none_under Header h = cc
  none_under (Proc job) h = cc

  module _ (k : Key) (ad : Attributes) (q : KeyedAds) (s : IsQueue ((k, ad) ∷ q)) where
    none_behind : ad_at k q ≡ None
    unfolding IsStrictlySortedBy
    none_behind = lookup_short key_cmp k q s.0

    -- a job of the others comes after it
    above : (key : Key) (es : KeyedAds) → KeysAll (λ x. key_cmp k x ≡ Less) es → is_some (ad_at key es) ≡ true → key_cmp k key ≡ Less
    above key [] a some = cc
    above key (e ∷ es) a some = by (same_key key e.0) refl some (λ h. above key es a.1 h)
      where
        by : (b : Bool) → same_key key e.0 ≡ b → is_some (cond b (Some e.1) (ad_at key es)) ≡ true → (is_some (ad_at key es) ≡ true → key_cmp k key ≡ Less) → key_cmp k key ≡ Less
        by true is some rest = subst (λ x. key_cmp k x ≡ Less) (sym (same_keys key e.0 is)) a.0
        by false is some rest = rest some

    behind : (key : Key) → IsJobOf kind q key → key_cmp k key ≡ Less
    unfolding IsStrictlySortedBy
    behind key is = above key q s.0 (job_is_there kind q key is)

    -- any key but that of a job of the kind
    same_for : (key : Key) → (kind_under k (Some ad) ≡ Some kind → key ≡ k → ⊥) → (IsJobOf kind q key → IsJobOf kind ((k, ad) ∷ q) key) × (IsJobOf kind ((k, ad) ∷ q) key → IsJobOf kind q key)
    same_for key none = by (same_key key k) refl
      where
        at : (b : Bool) → Option Attributes
        at b = cond b (Some ad) (ad_at key q)

        clash_to : key ≡ k → IsJobOf kind q key → ⊥
        clash_to same is = none_under key (sym (ap (kind_under key) (ap (λ x. ad_at x q) same ∙ none_behind)) ∙ is)

        clash_back : key ≡ k → kind_under key (Some ad) ≡ Some kind → ⊥
        clash_back same is = none (sym (ap (λ x. kind_under x (Some ad)) same) ∙ is) same

        by : (b : Bool) → same_key key k ≡ b → (IsJobOf kind q key → kind_under key (at b) ≡ Some kind) × (kind_under key (at b) ≡ Some kind → IsJobOf kind q key)
        by true is = (λ h. absurd (clash_to (same_keys key k is) h), λ h. absurd (clash_back (same_keys key k is) h))
        by false is = (λ h. h, λ h. h)

  with_other : (k : Key) (ad : Attributes) (q : KeyedAds) → IsQueue ((k, ad) ∷ q) → (kind_under k (Some ad) ≡ Some kind → ⊥) → Listing q → Listing ((k, ad) ∷ q)
  with_other k ad q s other rest = record {
    jobs = rest.jobs;
    are = along q ((k, ad) ∷ q) None rest.jobs (λ key past. same_for k ad q s key (λ is same. other is)) rest.are;
  }

  with_job : (job : JobId) (ad : Attributes) (q : KeyedAds) → IsQueue ((Proc job, ad) ∷ q) → kind_of ad ≡ Some kind → Listing q → Listing ((Proc job, ad) ∷ q)
  with_job job ad q s is rest = record {
    jobs = job ∷ rest.jobs;
    are = (
      record { meant = meant; later = refl; first = λ other of past. first other (same_key other (Proc job)) refl of },
      along q ((Proc job, ad) ∷ q) (Some job) rest.jobs
          (λ key past. same_for (Proc job) ad q s key (λ of same. never_itself (Proc job) (subst (λ x. is_lt (key_cmp (Proc job) x) ≡ true) same past)))
          (after q job rest.jobs (λ key of. ap is_lt (behind (Proc job) ad q s key of)) rest.are),
    );
  }
    where
      meant : IsJobOf kind ((Proc job, ad) ∷ q) (Proc job)
      meant = ap (λ b. kind_under (Proc job) (cond b (Some ad) (ad_at (Proc job) q))) (same_key_laws.refl (Proc job)) ∙ is

      first : (other : Key) (b : Bool) → same_key other (Proc job) ≡ b → kind_under other (cond b (Some ad) (ad_at other q)) ≡ Some kind → is_gt (key_cmp (Proc job) other) ≡ false
      first other true same of = ap is_gt (subst (λ x. key_cmp (Proc job) x ≡ Equal) (sym (same_keys other (Proc job) same)) (tied_itself key_cmp_total (Proc job)))
      first other false same of = ap is_gt (behind (Proc job) ad q s other of)

  with_first : (k : Key) (ad : Attributes) (q : KeyedAds) → IsQueue ((k, ad) ∷ q) → Listing q → Listing ((k, ad) ∷ q)
  with_first Header ad q s rest = with_other Header ad q s (λ is. cc) rest
  with_first (Proc job) ad q s rest = by (is_kind kind (kind_of ad)) refl
    where
      by : (b : Bool) → is_kind kind (kind_of ad) ≡ b → Listing ((Proc job, ad) ∷ q)
      by true is = with_job job ad q s (kind_from kind (kind_of ad) is) rest
      by false is = with_other (Proc job) ad q s (λ of. (let clash : false ≡ true = sym is ∙ (ap (is_kind kind) of ∙ kind_itself kind) in cc)) rest

  listing : (q : KeyedAds) → IsQueue q → Listing q
  unfolding IsStrictlySortedBy
  listing [] s = record { jobs = []; are = λ key is. absurd (none_under key is) }
  listing (e ∷ q) s = with_first e.0 e.1 q s (listing q s.1)

some_listed : (q : KeyedAds) → IsQueue q → (jobs : List JobId) × AreListed q jobs
some_listed q s =
    let i = listing Idle q s in
    let h = listing Held q s in
    let u = listing Under q s in
    (i.jobs ++ h.jobs ++ u.jobs, (i.jobs, h.jobs, u.jobs, i.are, h.are, u.are, refl))

-- so the count of a queue's jobs is the length of any list of them
pub counted : (q : KeyedAds) (jobs : List JobId) → IsQueue q → AreAll q jobs → IsJobCount q (length jobs)
counted q jobs s are =
    let l = some_listed q s in
    (l.0, l.1, as_many q jobs l.0 are (listed_all q l.0 l.1))

-- there is such a count, and one
pub some_count : (q : KeyedAds) → IsQueue q → (n : ℕ) × IsJobCount q n
some_count q s = let l = some_listed q s in (length l.0, (l.0, l.1, refl))

pub one_count : (q : KeyedAds) (m n : ℕ) → IsJobCount q m → IsJobCount q n → m ≡ n
one_count q m n (xs, a, is) (ys, b, are) = is ∙ (as_many q xs ys (listed_all q xs a) (listed_all q ys b) ∙ sym are)
