-- The keys of a map of jobs as a list in order.
use Rattle.std.proofs.Common.{◌≡◌, ◌<◌, ◌+◌, ℕ, length, drop, get_or, arith, Bool, true, false, not, ◌||◌, cond, List, [], ◌∷◌, ◌++◌, append_assoc, Option, Some, None, MatchOption, is_some, refl, ap, sym, ◌∙◌, subst, slice_get}
use Rattle.std.specs.Prelude.{find, filter}
use Rattle.std.specs.declared.cmp.Ordering.{Ordering}
use Rattle.std.specs.declared.cmp.Ordering.TheVariants.{Less, Equal, Greater}
use Rattle.std.specs.declared.ops.Bound.TheVariants.{Unbounded}
use Rattle.std.specs.Cmp.{IsTotalOrder, then_total, on_total, nat_cmp_total, tied_itself}
use Rattle.std.specs.Ordering.{is_eq, is_lt, ordering_reverse, match_ordering}
use Rattle.std.specs.BTreeMap.{insert_entry, is_at}
use Rattle.std.specs.List.{AllByRecursion}
use Rattle.std.specs.List.Sorted.{IsStrictlySortedBy}
use Rattle.std.specs.Map.{lookup, remove_entry, keys_of}
use Rattle.std.proofs.lemmas.Bool.Decides.{nat_tests}
use Rattle.std.proofs.lemmas.List.{drop_more}
use Rattle.claim_id.specs.declared.numbers.JobId.{JobId}
use Rattle.ordered_map.specs.Trees.{is_past}
use Rattle.pool_view.specs.Numbers.{same_job}
use Rattle.schedd_plan.specs.declared.left.NotedJob.{NotedJob}
use Rattle.schedd_plan.specs.JobPlaces.{is_left, taken_off}
use Rattle.schedd_plan.specs.LeftOrder.{AreInOrder, IsNextJob, job_cluster, job_cmp, later_jobs, job_proc}

pub job_cmp_total : IsTotalOrder job_cmp
job_cmp_total = then_total (on_total job_cluster nat_cmp_total) (on_total job_proc nat_cmp_total)

same_at : (job other : JobId) → is_eq (job_cmp job other) ≡ same_job other job
same_at job other = grind (arith, nat_tests)

-- ---- a job is found where it is one of them
pub found_left : (job : JobId) (es : List (JobId × NotedJob)) → is_some (lookup (is_at (job_cmp job)) es) ≡ is_left job (keys_of es)
found_left job [] = refl
found_left job (e ∷ es) = by (is_at (job_cmp job) e.0) (same_job e.0 job) (same_at job e.0) (found_left job es)
  where
    by : (b c : Bool) → b ≡ c → is_some (lookup (is_at (job_cmp job)) es) ≡ is_left job (keys_of es)
        → is_some (cond b (Some e.1) (lookup (is_at (job_cmp job)) es)) ≡ (c || is_left job (keys_of es))
    by true true same rest = refl
    by true false same rest = cc
    by false true same rest = cc
    by false false same rest = rest

-- ---- one is taken off
module _ (job : JobId) where
  -- none of those that come after it is it
  none_off : (k : JobId) (ks : List JobId) → is_eq (job_cmp job k) ≡ true → AllByRecursion (λ y. job_cmp k y ≡ Less) ks → taken_off job ks ≡ ks
  none_off k [] at above = refl
  none_off k (x ∷ ks) at above = by (same_job x job) apart (none_off k ks at above.1)
    where
      -- job is k, and so comes before x
      less : (r : Ordering) → job_cmp job k ≡ r → is_eq r ≡ true → job_cmp job x ≡ Less
      less Equal same h = job_cmp_total.congr job k x same ∙ above.0
      less Less same h = cc
      less Greater same h = cc

      apart : same_job x job ≡ false
      apart = sym (same_at job x) ∙ ap is_eq (less (job_cmp job k) refl at)

      by : (b : Bool) → b ≡ false → taken_off job ks ≡ ks → cond (not b) (x ∷ taken_off job ks) (taken_off job ks) ≡ x ∷ ks
      by true h rest = cc
      by false h rest = ap (λ xs. x ∷ xs) rest

  pub removed_left : (es : List (JobId × NotedJob)) → IsStrictlySortedBy job_cmp (keys_of es) → keys_of (remove_entry (is_at (job_cmp job)) es) ≡ taken_off job (keys_of es)
  unfolding IsStrictlySortedBy
  removed_left [] s = refl
  removed_left (e ∷ es) s = by (is_at (job_cmp job) e.0) refl (same_job e.0 job) (same_at job e.0) (removed_left es s.1)
    where
      by : (b : Bool) → is_at (job_cmp job) e.0 ≡ b → (c : Bool) → b ≡ c → keys_of (remove_entry (is_at (job_cmp job)) es) ≡ taken_off job (keys_of es)
          → keys_of (cond b es (e ∷ remove_entry (is_at (job_cmp job)) es)) ≡ cond (not c) (e.0 ∷ taken_off job (keys_of es)) (taken_off job (keys_of es))
      by true at true same rest = sym (none_off e.0 (keys_of es) at s.0)
      by true at false same rest = cc
      by false at true same rest = cc
      by false at false same rest = ap (λ xs. e.0 ∷ xs) rest

-- ---- the first of them
pub none_first : (es : List (JobId × NotedJob)) → None ≡ find (λ (e : JobId × NotedJob). is_past job_cmp Unbounded e.0) es → None ≡ slice_get (keys_of es) 0
none_first [] h = refl
none_first (e ∷ es) h = cc

pub some_first : (es : List (JobId × NotedJob)) (f : JobId × NotedJob) → Some f ≡ find (λ (e : JobId × NotedJob). is_past job_cmp Unbounded e.0) es → Some f.0 ≡ slice_get (keys_of es) 0
some_first [] f h = cc
some_first (e ∷ es) f h = let same : f ≡ e = cc in ap (λ (x : JobId × NotedJob). Some x.0) same

-- ---- one after the other
pub is_less : (r : Ordering) → is_lt r ≡ true → r ≡ Less
is_less Less h = refl
is_less Equal h = cc
is_less Greater h = cc

all_later : (job : JobId) (ks : List JobId) → AllByRecursion (λ y. job_cmp job y ≡ Less) ks → filter (λ other. is_lt (job_cmp job other)) ks ≡ ks
all_later job [] above = refl
all_later job (k ∷ ks) above = by (is_lt (job_cmp job k)) (ap is_lt above.0) (all_later job ks above.1)
  where
    by : (b : Bool) → b ≡ true → filter (λ other. is_lt (job_cmp job other)) ks ≡ ks → cond b (k ∷ filter (λ other. is_lt (job_cmp job other)) ks) (filter (λ other. is_lt (job_cmp job other)) ks) ≡ k ∷ ks
    by true h rest = ap (λ xs. k ∷ xs) rest
    by false h rest = cc

pub above_less : (last job : JobId) (ks : List JobId) → job_cmp last job ≡ Less → AllByRecursion (λ y. job_cmp job y ≡ Less) ks → AllByRecursion (λ y. job_cmp last y ≡ Less) ks
above_less last job [] less above = tt
above_less last job (k ∷ ks) less above = (job_cmp_total.trans last job k less above.0, above_less last job ks less above.1)

-- those that come after the first
after_first : (job : JobId) (ks : List JobId) → AllByRecursion (λ y. job_cmp job y ≡ Less) ks → later_jobs (Some job) (job ∷ ks) ≡ ks
after_first job ks above =
    ap (λ (r : Ordering). cond (is_lt r) (job ∷ later_jobs (Some job) ks) (later_jobs (Some job) ks)) (tied_itself job_cmp_total job)
    ∙ all_later job ks above

-- the next one is after the last one, too
abbrev IsNextLater : JobId → List JobId → Option JobId → Type 0
IsNextLater last ks found = MatchOption found
    (later_jobs (Some last) ks ≡ [])
    (λ job. (later_jobs (Some last) ks ≡ job ∷ later_jobs (Some job) ks) × (is_lt (job_cmp last job) ≡ true))

abbrev key_found : Option (JobId × NotedJob) → Option JobId
key_found None = None
key_found (Some f) = Some f.0

module _ (last : JobId) where
  abbrev first_later : List (JobId × NotedJob) → Option (JobId × NotedJob)
  first_later es = find (λ (e : JobId × NotedJob). is_lt (job_cmp last e.0)) es

  next_later : (es : List (JobId × NotedJob)) → IsStrictlySortedBy job_cmp (keys_of es) → IsNextLater last (keys_of es) (key_found (first_later es))
  unfolding IsStrictlySortedBy
  next_later [] s = refl
  next_later (e ∷ es) s = by (is_lt (job_cmp last e.0)) refl (next_later es s.1)
    where
      -- one behind that is after the last one is not before this one, which isn't
      not_before : (job : JobId) → is_lt (job_cmp last e.0) ≡ false → is_lt (job_cmp last job) ≡ true → (b : Bool) → is_lt (job_cmp job e.0) ≡ b → b ≡ false
      not_before job early late false h = refl
      not_before job early late true h =
          let less = job_cmp_total.trans last job e.0 (is_less (job_cmp last job) late) (is_less (job_cmp job e.0) h) in
          let clash : true ≡ false = sym (ap is_lt less) ∙ early in cc

      behind : is_lt (job_cmp last e.0) ≡ false → (found : Option (JobId × NotedJob)) → IsNextLater last (keys_of es) (key_found found)
          → MatchOption (key_found found) (later_jobs (Some last) (keys_of es) ≡ [])
          (λ job. (later_jobs (Some last) (keys_of es) ≡ job ∷ later_jobs (Some job) (e.0 ∷ keys_of es)) × (is_lt (job_cmp last job) ≡ true))
      behind early None rest = rest
      behind early (Some f) rest = (
        rest.0 ∙ sym (ap (λ (b : Bool). f.0 ∷ cond b (e.0 ∷ later_jobs (Some f.0) (keys_of es)) (later_jobs (Some f.0) (keys_of es))) (not_before f.0 early rest.1 (is_lt (job_cmp f.0 e.0)) refl)),
        rest.1,
      )

      by : (b : Bool) → is_lt (job_cmp last e.0) ≡ b → IsNextLater last (keys_of es) (key_found (first_later es))
          → MatchOption (key_found (cond b (Some e) (first_later es)))
          (cond b (e.0 ∷ later_jobs (Some last) (keys_of es)) (later_jobs (Some last) (keys_of es)) ≡ [])
          (λ job. (cond b (e.0 ∷ later_jobs (Some last) (keys_of es)) (later_jobs (Some last) (keys_of es)) ≡ job ∷ later_jobs (Some job) (e.0 ∷ keys_of es)) × (is_lt (job_cmp last job) ≡ true))
      by true h rest = (
        ap (λ xs. e.0 ∷ xs) (all_later last (keys_of es) (above_less last e.0 (keys_of es) (is_less (job_cmp last e.0) h) s.0) ∙ sym (after_first e.0 (keys_of es) s.0)),
        h,
      )
      by false h rest = behind h (first_later es) rest

pub first_is_next : (es : List (JobId × NotedJob)) → IsStrictlySortedBy job_cmp (keys_of es) → (found : Option (JobId × NotedJob)) → found ≡ find (λ (e : JobId × NotedJob). is_past job_cmp Unbounded e.0) es → IsNextJob None (keys_of es) (key_found found)
unfolding IsStrictlySortedBy
first_is_next [] s found is = subst (λ (o : Option (JobId × NotedJob)). IsNextJob None [] (key_found o)) (sym is) refl
first_is_next (e ∷ es) s found is = subst (λ (o : Option (JobId × NotedJob)). IsNextJob None (keys_of (e ∷ es)) (key_found o)) (sym is) (ap (λ xs. e.0 ∷ xs) (sym (after_first e.0 (keys_of es) s.0)))

pub after_is_next : (last : JobId) (es : List (JobId × NotedJob)) → IsStrictlySortedBy job_cmp (keys_of es) → (found : Option (JobId × NotedJob)) → found ≡ find (λ (e : JobId × NotedJob). is_lt (job_cmp last e.0)) es → IsNextJob (Some last) (keys_of es) (key_found found)
after_is_next last es s found is = subst (λ (o : Option (JobId × NotedJob)). IsNextJob (Some last) (keys_of es) (key_found o)) (sym is) (by (first_later last es) (next_later last es s))
  where
    by : (o : Option (JobId × NotedJob)) → IsNextLater last (keys_of es) (key_found o) → IsNextJob (Some last) (keys_of es) (key_found o)
    by None h = h
    by (Some f) h = h.0

-- ---- they come one after the other
at_middle : (P : JobId → Type 0) (ks : List JobId) (job : JobId) (rest : List JobId) → AllByRecursion P (ks ++ job ∷ rest) → P job
at_middle P [] job rest all = all.0
at_middle P (k ∷ ks) job rest all = at_middle P ks job rest all.1

pub put_end : (es : List (JobId × NotedJob)) (job : JobId) (v : NotedJob) (rest : List JobId) → IsStrictlySortedBy job_cmp (keys_of es ++ job ∷ rest) → keys_of (insert_entry job_cmp es job v) ≡ keys_of es ++ job ∷ []
unfolding IsStrictlySortedBy
put_end [] job v rest s = refl
put_end (e ∷ es) job v rest s =
    ap (λ (r : Ordering). keys_of (match_ordering r ((job, v) ∷ e ∷ es) ((e.0, v) ∷ es) (e ∷ insert_entry job_cmp es job v))) greater
    ∙ ap (λ xs. e.0 ∷ xs) (put_end es job v rest s.1)
  where
    greater : job_cmp job e.0 ≡ Greater
    greater = job_cmp_total.antisymm job e.0 ∙ ap ordering_reverse (at_middle (λ y. job_cmp e.0 y ≡ Less) (keys_of es) job rest s.0)

-- ---- the list so far, and what is yet to come
pub listed_more : (last : Option JobId) (left : List JobId) (job : JobId) (done : List JobId) → done ++ later_jobs last left ≡ left → later_jobs last left ≡ job ∷ later_jobs (Some job) left
    → (done ++ job ∷ []) ++ later_jobs (Some job) left ≡ left
listed_more last left job done all next = append_assoc done (job ∷ []) (later_jobs (Some job) left) ∙ ap (λ xs. done ++ xs) (sym next) ∙ all

pub fewer : (last : Option JobId) (left : List JobId) (job : JobId) → later_jobs last left ≡ job ∷ later_jobs (Some job) left → length (later_jobs (Some job) left) < length (later_jobs last left)
fewer last left job next = let size = ap length next in omega arith

pub put_next : (jobs : List JobId) (i : ℕ) (d : JobId) (es new : List (JobId × NotedJob)) (entry : JobId × NotedJob) → AreInOrder jobs → i < length jobs → entry.0 ≡ get_or jobs i d → keys_of es ++ drop i jobs ≡ jobs → new ≡ insert_entry job_cmp es entry.0 entry.1
    → keys_of new ++ drop (i + 1) jobs ≡ jobs
put_next jobs i d es new entry sorted there is all put =
    let next : drop i jobs ≡ entry.0 ∷ drop (i + 1) jobs = drop_more jobs i d there ∙ ap (λ (job : JobId). job ∷ drop (i + 1) jobs) (sym is) in
    let whole : keys_of es ++ entry.0 ∷ drop (i + 1) jobs ≡ jobs = ap (λ xs. keys_of es ++ xs) (sym next) ∙ all in
    let end = put_end es entry.0 entry.1 (drop (i + 1) jobs) (subst (λ (xs : List JobId). AreInOrder xs) (sym whole) sorted) in
    ap (λ xs. keys_of xs ++ drop (i + 1) jobs) put ∙ ap (λ xs. xs ++ drop (i + 1) jobs) end ∙ append_assoc (keys_of es) (entry.0 ∷ []) (drop (i + 1) jobs) ∙ whole
