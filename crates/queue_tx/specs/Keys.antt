-- The order of keys: the header comes first, then the procs by cluster and by number.
use Rattle.std.specs.Prelude.{ℕ, Bool, true, Option, Some, None}
use Rattle.std.specs.Cmp.{IsTotalOrder, then_total, on_total, nat_cmp_total, eq_by_cmp_equiv, partial_equiv_from_equiv, partial_order_from_total, IsEquivalence, IsPartialEquivalence, IsPartialOrder}
use Rattle.std.specs.Ordering.{nat_cmp, on, then_cmp, as_partial_cmp, eq_by_cmp, is_lt}
use Rattle.std.specs.declared.cmp.Ordering.{Ordering}
use Rattle.queue_tx.specs.declared.key.Key.{Key}
use Rattle.queue_tx.specs.declared.key.Key.TheVariants.{Header, Proc}

abbrev pub rank_of : Key → ℕ
rank_of Header = 0
rank_of (Proc job) = 1

abbrev pub cluster_of : Key → ℕ
cluster_of Header = 0
cluster_of (Proc job) = job.cluster

abbrev pub number_of : Key → ℕ
number_of Header = 0
number_of (Proc job) = job.proc

abbrev pub key_cmp : Key → Key → Ordering
key_cmp = then_cmp (then_cmp (on rank_of nat_cmp) (on cluster_of nat_cmp)) (on number_of nat_cmp)

abbrev pub same_key : Key → Key → Bool
same_key = eq_by_cmp key_cmp

-- a key that comes after another, or any where there is none
abbrev pub is_above : Option Key → Key → Bool
is_above None key = true
is_above (Some bound) key = is_lt (key_cmp bound key)

-- ---- its laws

pub key_cmp_total : IsTotalOrder key_cmp
key_cmp_total =
    then_total
    (then_total (on_total rank_of nat_cmp_total) (on_total cluster_of nat_cmp_total))
    (on_total number_of nat_cmp_total)

pub same_key_laws : IsEquivalence same_key
same_key_laws = eq_by_cmp_equiv key_cmp_total

pub same_key_partial : IsPartialEquivalence same_key
same_key_partial = partial_equiv_from_equiv same_key_laws

pub key_order_laws : IsPartialOrder same_key (as_partial_cmp key_cmp)
key_order_laws = partial_order_from_total key_cmp_total
