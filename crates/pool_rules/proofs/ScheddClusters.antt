-- The next cluster is free, since few are used.
use Rattle.std.proofs.Common.{◌≡◌, ◌⊎◌, inl, inr, ℕ, zero, suc, ◌+◌, ◌-◌, ◌<◌, ◌≤◌, Bool, true, false, ◌&&◌, List, [], ◌∷◌, length, Option, Some, None, if◌then◌else◌, nat_le, nat_lt, ltb-true, add-one, suc-add, zero-add, leb-true, lt-ltb, refl, sym, ◌∙◌, ap, subst, arith}
use Rattle.std.proofs.lemmas.Bool.{cases_lt}
use Rattle.ad_tree.specs.Ad.{Attributes}
use Rattle.pool_parts.specs.Clusters.{IsNextCluster, cluster_after, cluster_by, clusters_on, first_cluster, first_cluster_by, is_used}
use Rattle.pool_parts.specs.declared.clusters.TheConstants.{LAST_CLUSTER}
use Rattle.pool_parts.specs.declared.finished.FinishedJob.{FinishedJob}
use Rattle.pool_view.specs.AbstractPool.{IsIn}
use Rattle.pool_view.proofs.Sameness.{both_true}
use Rattle.queue_tx.specs.declared.key.Key.{Key}
use Rattle.queue_tx.specs.declared.key.Key.TheVariants.{Header}
use Rattle.queue_tx.specs.declared.names.TheConstants.{NEXT_CLUSTER_NUM}
use Rattle.queue_tx.specs.Queues.{KeyedAds, ad_at}
use Rattle.schedd_plan.specs.JobAttributes.{natural_at}

-- ---- numbers in a list
record Taken (x : ℕ) (xs : List ℕ) : Type 0 where
  rest : List ℕ
  one_less : length xs ≡ suc (length rest)
  others : (y : ℕ) → IsIn y xs → (y ≡ x → ⊥) → IsIn y rest

taken_first : (x z : ℕ) (zs : List ℕ) → x ≡ z → Taken x (z ∷ zs)
taken_first x z zs same = record { rest = zs; one_less = refl; others = by }
  where
    by : (y : ℕ) → IsIn y (z ∷ zs) → (y ≡ x → ⊥) → IsIn y zs
    by y (inl is) other = absurd (other (is ∙ sym same))
    by y (inr h) other = h

taken_later : (x z : ℕ) (zs : List ℕ) → Taken x zs → Taken x (z ∷ zs)
taken_later x z zs more = record { rest = z ∷ more.rest; one_less = ap suc more.one_less; others = by }
  where
    by : (y : ℕ) → IsIn y (z ∷ zs) → (y ≡ x → ⊥) → IsIn y (z ∷ more.rest)
    by y (inl is) other = inl is
    by y (inr h) other = inr (more.others y h other)

taken : (x : ℕ) (xs : List ℕ) → IsIn x xs → Taken x xs
taken x [] there = absurd there
taken x (z ∷ zs) (inl same) = taken_first x z zs same
taken x (z ∷ zs) (inr there) = taken_later x z zs (taken x zs there)

-- a list that has all numbers up to one is as long
up_to : (m : ℕ) (xs : List ℕ) → ((c : ℕ) → 1 ≤ c → c ≤ m → IsIn c xs) → m ≤ length xs
up_to zero xs all = omega arith
up_to (suc m) xs all =
    let t = taken (suc m) xs (all (suc m) (omega arith) (omega arith)) in
    let less = up_to m t.rest (λ c low high. t.others c (all c low (omega (arith, high))) (λ same. omega (arith, same, high))) in
    let longer = t.one_less in omega (arith, less, longer)

-- ---- the numbers in turn
after_low : (c : ℕ) → c < LAST_CLUSTER → cluster_after c ≡ suc c
after_low c low = ap (λ b. if b then c + 1 else 1) (lt-ltb c LAST_CLUSTER low) ∙ add-one c

upward : (n from : ℕ) → n + from ≤ LAST_CLUSTER → clusters_on n from ≡ n + from
upward zero from low = sym (zero-add from)
upward (suc n) from low =
    let next : suc n + from ≡ suc (n + from) = suc-add n from in
    ap cluster_after (upward n from (omega (arith, low))) ∙ (after_low (n + from) (omega (arith, low)) ∙ sym next)

-- past the last one they begin again
abbrev up_from : ℕ → ℕ
up_from from = LAST_CLUSTER - from

around : (c from : ℕ) → from ≤ LAST_CLUSTER → c < LAST_CLUSTER → clusters_on (suc (c + up_from from)) from ≡ suc c
around zero from within low =
    let last : up_from from + from ≡ LAST_CLUSTER = omega (arith, within) in
    ap cluster_after (ap (λ n. clusters_on n from) (zero-add (up_from from)) ∙ (upward (up_from from) from (omega (arith, within)) ∙ last))
around (suc c) from within low =
    ap cluster_after (ap (λ n. clusters_on n from) (suc-add c (up_from from)) ∙ around c from within (omega (arith, low))) ∙ after_low (suc c) low

record Met (from c : ℕ) : Type 0 where
  steps : ℕ
  few : steps < LAST_CLUSTER
  is : clusters_on steps from ≡ c

each_met : (from c : ℕ) → 1 ≤ from → from ≤ LAST_CLUSTER → 1 ≤ c → c ≤ LAST_CLUSTER → Met from c
each_met from c one within low high = by (cases_lt c from)
  where
    by_one : (d : ℕ) → c ≡ suc d → c < from → Met from c
    by_one d next less = record {
      steps = suc (d + up_from from);
      few = omega (arith, next, less, within);
      is = around d from within (omega (arith, next, high)) ∙ sym next;
    }

    from_suc : (n : ℕ) → c ≡ n → c < from → Met from c
    from_suc zero is less = absurd (omega (arith, is, low))
    from_suc (suc d) is less = by_one d is less

    by : (c < from) ⊎ (from ≤ c) → Met from c
    by (inl less) = from_suc c refl less
    by (inr most) = record {
      steps = c - from;
      few = omega (arith, one, low, high, most);
      is = upward (c - from) from (omega (arith, high, most)) ∙ (let same : (c - from) + from ≡ c = omega (arith, most) in same);
    }

-- ---- where they begin
record IsCluster (c : ℕ) : Type 0 where
  low : 1 ≤ c
  high : c ≤ LAST_CLUSTER

by_number : (o : Option ℕ) → IsCluster (cluster_by o)
by_number None = record { low = omega arith; high = omega arith }
by_number (Some n) = by (nat_le 1 n && nat_le n LAST_CLUSTER) refl
  where
    by : (b : Bool) → (nat_le 1 n && nat_le n LAST_CLUSTER) ≡ b → IsCluster (if b then n else 1)
    by true is =
        let both = both_true (nat_le 1 n) (nat_le n LAST_CLUSTER) is in
        record { low = leb-true 1 n both.0; high = leb-true n LAST_CLUSTER both.1 }
    by false is = record { low = omega arith; high = omega arith }

by_header : (o : Option Attributes) → IsCluster (first_cluster_by o)
by_header None = record { low = omega arith; high = omega arith }
by_header (Some header) = by_number (natural_at NEXT_CLUSTER_NUM.now header)

-- ---- the next one
pub next_is_free : (q : KeyedAds) (finished : List (Key × FinishedJob)) (cluster : ℕ) (xs : List ℕ) → length xs < LAST_CLUSTER → ((c : ℕ) → is_used q finished c ≡ true → IsIn c xs) → IsNextCluster q finished cluster → is_used q finished cluster ≡ false
next_is_free q finished cluster xs few all next = by next.free
  where
    from : ℕ
    from = first_cluster q

    begins : IsCluster from
    begins = by_header (ad_at Header q)

    used : next.steps ≡ LAST_CLUSTER → (c : ℕ) → 1 ≤ c → c ≤ LAST_CLUSTER → IsIn c xs
    used whole c low high =
        let met = each_met from c begins.low begins.high low high in
        all c (subst (λ n. is_used q finished n ≡ true) met.is (next.before met.steps (subst (λ n. met.steps < n) (sym whole) met.few)))

    by : (is_used q finished cluster ≡ false) ⊎ (next.steps ≡ LAST_CLUSTER) → is_used q finished cluster ≡ false
    by (inl free) = free
    by (inr whole) = let long : LAST_CLUSTER ≤ length xs = up_to LAST_CLUSTER xs (used whole) in absurd (omega (arith, long, few))

after_is : (c : ℕ) → IsCluster c → IsCluster (cluster_after c)
after_is c is = by (nat_lt c LAST_CLUSTER) refl
  where
    by : (b : Bool) → nat_lt c LAST_CLUSTER ≡ b → IsCluster (if b then c + 1 else 1)
    by true less = let small = ltb-true c LAST_CLUSTER less in record { low = omega arith; high = omega (arith, small) }
    by false more = record { low = omega arith; high = omega arith }

on_is : (n from : ℕ) → IsCluster from → IsCluster (clusters_on n from)
on_is zero from is = is
on_is (suc n) from is = after_is (clusters_on n from) (on_is n from is)

-- it is a number that a cluster may have
pub next_is_number : (q : KeyedAds) (finished : List (Key × FinishedJob)) (cluster : ℕ) → IsNextCluster q finished cluster → (0 < cluster) × (cluster ≤ LAST_CLUSTER)
next_is_number q finished cluster next =
    let is = subst IsCluster (sym next.is) (on_is next.steps (first_cluster q) (by_header (ad_at Header q))) in
    let low = is.low in
    (omega (arith, low), is.high)
