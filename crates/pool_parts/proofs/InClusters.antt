-- A cluster has a key where the first key from its first one on is of it.
use Rattle.std.proofs.Common.{◌≡◌, ℕ, zero, suc, ◌+◌, ◌<◌, ◌≤◌, Bool, true, false, not, cond, ◌||◌, ◌==◌, nat_lt, List, [], ◌∷◌, Option, Some, None, is_some, refl, ap, sym, ◌∙◌, subst, arith}
use Rattle.std.proofs.lemmas.Bool.{eq-eqb, eqb-true, ltb-false, ltb-true}
use Rattle.std.specs.Prelude.{find}
use Rattle.std.specs.List.{AllByRecursion}
use Rattle.std.specs.List.Sorted.{IsStrictlySortedBy}
use Rattle.std.specs.Map.{keys_of, lookup}
use Rattle.std.specs.Cmp.{nat_cmp_is}
use Rattle.std.specs.Ordering.{is_gt, is_lt, is_eq, nat_cmp, ordering_then}
use Rattle.std.specs.declared.cmp.Ordering.{Ordering}
use Rattle.std.specs.declared.cmp.Ordering.TheVariants.{Less, Equal, Greater}
use Rattle.queue_tx.specs.declared.key.Key.{Key}
use Rattle.queue_tx.specs.declared.key.Key.TheVariants.{Header, Proc}
use Rattle.queue_tx.specs.Keys.{key_cmp, same_key, is_above}
use Rattle.pool_parts.specs.Clusters.{cluster_after, clusters_on, has_cluster, is_of_cluster}
use Rattle.pool_parts.proofs.Walks.{found_keys, key_of_entry}

-- ---- numbers in turn
-- all numbers so far are used
abbrev pub AreUsed : (ℕ → Bool) → ℕ → ℕ → Type 0
AreUsed used from count = (n : ℕ) → n < count → used (clusters_on n from) ≡ true

pub none_used : (used : ℕ → Bool) (from : ℕ) → AreUsed used from 0
none_used used from n below = absurd (omega arith)

pub one_used : (used : ℕ → Bool) (from count : ℕ) → AreUsed used from count → used (clusters_on count from) ≡ true → AreUsed used from (count + 1)
one_used used from count all here n below = by (nat_lt n count) refl
  where
    by : (b : Bool) → nat_lt n count ≡ b → used (clusters_on n from) ≡ true
    by true less = all n (ltb-true n count less)
    by false less = let far = ltb-false n count less in let same : n ≡ count = omega (arith, far) in subst (λ m. used (clusters_on m from) ≡ true) (sym same) here

pub one_on : (n from : ℕ) → cluster_after (clusters_on n from) ≡ clusters_on (n + 1) from
one_on n from = let one : suc n ≡ n + 1 = omega arith in ap (λ m. clusters_on m from) one

-- ---- keys
abbrev pub first_key : ℕ → Key
first_key cluster = Proc (record { cluster = cluster; proc = 0 })

-- from the cluster's first key on
abbrev pub is_from : ℕ → Key → Bool
is_from cluster key = not (is_gt (key_cmp (first_key cluster) key))

less_is : (x y : ℕ) → x < y → nat_cmp x y ≡ Less
less_is x y h = sym (nat_cmp_is x y Less h)

greater_is : (x y : ℕ) → y < x → nat_cmp x y ≡ Greater
greater_is x y h = sym (nat_cmp_is x y Greater h)

equal_is : (x y : ℕ) → x ≡ y → nat_cmp x y ≡ Equal
equal_is x y h = sym (nat_cmp_is x y Equal h)

less_from_apart : (x y : ℕ) → (x == y) ≡ false → x ≤ y → x < y
less_from_apart x y apart le = by (nat_lt x y) refl
  where
    by : (b : Bool) → nat_lt x y ≡ b → x < y
    by true h = ltb-true x y h
    by false h =
        let far = ltb-false x y h in
        let same : x ≡ y = omega (arith, far, le) in
        absurd (let clash : false ≡ true = sym apart ∙ eq-eqb x y same in cc)

least_number : (n : ℕ) → not (is_gt (nat_cmp 0 n)) ≡ true
least_number zero = refl
least_number (suc n) = ap (λ (r : Ordering). not (is_gt r)) (less_is 0 (suc n) (omega arith))

of_is_from : (c : ℕ) (key : Key) → is_of_cluster c key ≡ true → is_from c key ≡ true
of_is_from c Header h = cc
of_is_from c (Proc job) h =
    let same : c ≡ job.cluster = sym (eqb-true job.cluster c h) in
    ap (λ (r : Ordering). not (is_gt (ordering_then r (nat_cmp 0 job.proc)))) (equal_is c job.cluster same)
    ∙ least_number job.proc

-- what is from the first key on and not of the cluster stands after all of it
later_not : (c : ℕ) (key next : Key) → is_from c key ≡ true → is_of_cluster c key ≡ false → key_cmp key next ≡ Less → is_of_cluster c next ≡ false
later_not c Header next from other less = absurd (let none : true ≡ false = sym from in cc)
later_not c (Proc job) Header from other less = refl
later_not c (Proc job) (Proc next) from other less = by (next.cluster == c) refl
  where
    by : (b : Bool) → (next.cluster == c) ≡ b → b ≡ false
    by false h = refl
    by true h = absurd (apart (nat_lt c job.cluster) refl)
      where
        before : c < job.cluster → ⊥
        before g =
            let clash : Greater ≡ Less =
            sym (ap (λ (r : Ordering). ordering_then r (nat_cmp job.proc next.proc)) (greater_is job.cluster next.cluster (subst (λ n. n < job.cluster) (sym (eqb-true next.cluster c h)) g))) ∙ less in
            cc

        behind : job.cluster < c → ⊥
        behind g =
            let clash : false ≡ true =
            sym (ap (λ (r : Ordering). not (is_gt (ordering_then r (nat_cmp 0 job.proc)))) (greater_is c job.cluster g)) ∙ from in
            cc

        apart : (b : Bool) → nat_lt c job.cluster ≡ b → ⊥
        apart true g = before (ltb-true c job.cluster g)
        apart false g = behind (less_from_apart job.cluster c other (ltb-false c job.cluster g))

none_later : (c : ℕ) (key : Key) (keys : List Key) → is_from c key ≡ true → is_of_cluster c key ≡ false
    → AllByRecursion (λ n. key_cmp key n ≡ Less) keys → has_cluster c keys ≡ false
none_later c key [] from other all = refl
none_later c key (n ∷ keys) from other all =
    ap (λ b. b || has_cluster c keys) (later_not c key n from other all.0) ∙ none_later c key keys from other all.1

abbrev pub of_found : ℕ → Option Key → Bool
of_found c None = false
of_found c (Some key) = is_of_cluster c key

-- the first key from the cluster's first one on tells
pub first_tells : (c : ℕ) (keys : List Key) → IsStrictlySortedBy key_cmp keys → has_cluster c keys ≡ of_found c (find (is_from c) keys)
unfolding IsStrictlySortedBy
first_tells c [] s = refl
first_tells c (key ∷ keys) s = by (is_from c key) refl (is_of_cluster c key) refl (first_tells c keys s.1)
  where
    by : (b : Bool) → is_from c key ≡ b → (d : Bool) → is_of_cluster c key ≡ d → has_cluster c keys ≡ of_found c (find (is_from c) keys)
        → d || has_cluster c keys ≡ of_found c (cond b (Some key) (find (is_from c) keys))
    by true from true is rest = sym is
    by true from false is rest = none_later c key keys from is s.0 ∙ sym is
    by false from true is rest = absurd (let clash : false ≡ true = sym from ∙ of_is_from c key is in cc)
    by false from false is rest = rest

-- ---- entries
pub entries_tell : {V : Type 0} (c : ℕ) (es : List (Key × V)) (found : Option (Key × V)) → IsStrictlySortedBy key_cmp (keys_of es)
    → found ≡ find (λ e. is_from c e.0) es → has_cluster c (keys_of es) ≡ of_found c (key_of_entry found)
entries_tell c es found s h =
    first_tells c (keys_of es) s ∙ ap (of_found c) (found_keys (is_from c) es) ∙ ap (λ f. of_found c (key_of_entry f)) (sym h)

-- ---- the first key itself, and those above it
same_is_of : (c : ℕ) (key : Key) → same_key (first_key c) key ≡ true → is_of_cluster c key ≡ true
same_is_of c Header h = cc
same_is_of c (Proc job) h = by (job.cluster == c) refl
  where
    by : (b : Bool) → (job.cluster == c) ≡ b → b ≡ true
    by true g = refl
    by false g = absurd (apart (nat_lt c job.cluster) refl)
      where
        apart : (b : Bool) → nat_lt c job.cluster ≡ b → ⊥
        apart true less =
            let clash : false ≡ true =
            sym (ap (λ (r : Ordering). is_eq (ordering_then r (nat_cmp 0 job.proc))) (less_is c job.cluster (ltb-true c job.cluster less))) ∙ h in
            cc
        apart false less =
            let below : job.cluster < c = less_from_apart job.cluster c g (ltb-false c job.cluster less) in
            let clash : false ≡ true =
            sym (ap (λ (r : Ordering). is_eq (ordering_then r (nat_cmp 0 job.proc))) (greater_is c job.cluster below)) ∙ h in
            cc

pub first_is_there : {V : Type 0} (c : ℕ) (es : List (Key × V)) → is_some (lookup (same_key (first_key c)) es) ≡ true → has_cluster c (keys_of es) ≡ true
first_is_there c [] h = cc
first_is_there c (e ∷ es) h = by (same_key (first_key c) e.0) refl h (first_is_there c es)
  where
    later : (b : Bool) → has_cluster c (keys_of es) ≡ true → b || has_cluster c (keys_of es) ≡ true
    later true h = refl
    later false h = h

    by : (b : Bool) → same_key (first_key c) e.0 ≡ b → is_some (cond b (Some e.1) (lookup (same_key (first_key c)) es)) ≡ true
        → (is_some (lookup (same_key (first_key c)) es) ≡ true → has_cluster c (keys_of es) ≡ true)
        → is_of_cluster c e.0 || has_cluster c (keys_of es) ≡ true
    by true same h rest = ap (λ b. b || has_cluster c (keys_of es)) (same_is_of c e.0 same)
    by false same h rest = later (is_of_cluster c e.0) (rest h)

from_is_above : (r : Ordering) → is_eq r ≡ false → not (is_gt r) ≡ is_lt r
from_is_above Less h = refl
from_is_above Equal h = cc
from_is_above Greater h = refl

-- where the first key isn't there, those from it on are those above it
above_alike : {V : Type 0} (c : ℕ) (es : List (Key × V)) → is_some (lookup (same_key (first_key c)) es) ≡ false
    → find (is_from c) (keys_of es) ≡ find (is_above (Some (first_key c))) (keys_of es)
above_alike c [] h = refl
above_alike c (e ∷ es) h = by (same_key (first_key c) e.0) refl h (above_alike c es)
  where
    by : (b : Bool) → same_key (first_key c) e.0 ≡ b → is_some (cond b (Some e.1) (lookup (same_key (first_key c)) es)) ≡ false
        → (is_some (lookup (same_key (first_key c)) es) ≡ false → find (is_from c) (keys_of es) ≡ find (is_above (Some (first_key c))) (keys_of es))
        → cond (is_from c e.0) (Some e.0) (find (is_from c) (keys_of es))
        ≡ cond (is_above (Some (first_key c)) e.0) (Some e.0) (find (is_above (Some (first_key c))) (keys_of es))
    by true same h rest = cc
    by false same h rest =
        ap (λ b. cond b (Some e.0) (find (is_from c) (keys_of es))) (from_is_above (key_cmp (first_key c) e.0) same)
        ∙ ap (λ f. cond (is_above (Some (first_key c)) e.0) (Some e.0) f) (rest h)

pub above_tells : {V : Type 0} (c : ℕ) (es : List (Key × V)) (found : Option Key) → IsStrictlySortedBy key_cmp (keys_of es)
    → is_some (lookup (same_key (first_key c)) es) ≡ false → found ≡ find (is_above (Some (first_key c))) (keys_of es)
    → has_cluster c (keys_of es) ≡ of_found c found
above_tells c es found s none h = first_tells c (keys_of es) s ∙ ap (of_found c) (above_alike c es none ∙ sym h)
