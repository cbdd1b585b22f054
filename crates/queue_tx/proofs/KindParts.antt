-- That the kinds part the procs.
use Rattle.std.proofs.Common.{◌≡◌, Bool, true, false, cond, List, [], ◌∷◌, ◌++◌, Option, Some, None, refl}
use Rattle.std.specs.declared.cmp.Ordering.{Ordering}
use Rattle.std.specs.declared.cmp.Ordering.TheVariants.{Less}
use Rattle.std.specs.List.{AllByRecursion, filter}
use Rattle.std.specs.List.Sorted.{IsStrictlySortedBy, IsPermutation}
use Rattle.std.specs.Map.{keys_of}
use Rattle.std.proofs.lemmas.List.Elements.{filter_passes}
use Rattle.std.proofs.lemmas.List.Sorted.{IsPermutation-refl, IsPermutation-trans, IsPermutation-cons, IsPermutation-middle, IsPermutation-append_right}
use Rattle.queue_tx.specs.declared.kind.JobKind.{JobKind}
use Rattle.queue_tx.specs.declared.kind.JobKind.TheVariants.{Idle, Held, Under}
use Rattle.queue_tx.specs.Jobs.{kind_at}
use Rattle.queue_tx.specs.Keys.{key_cmp}
use Rattle.queue_tx.specs.KindLists.{is_proc, procs, is_same_kind, KindsPartTheProcs}
use Rattle.queue_tx.proofs.KeptJobs.{kind_from}

-- ---- together they are all

module _ {X : Type 0} (kind : X → Option JobKind) where
  abbrev of : Option JobKind → List X → List X
  of k xs = filter (λ x. is_same_kind k (kind x)) xs

  pub whole_of : (xs : List X) → IsPermutation (of (Some Idle) xs ++ (of (Some Held) xs ++ (of (Some Under) xs ++ of None xs))) xs
  whole_of [] = IsPermutation-refl []
  whole_of (x ∷ xs) = by (kind x) (of (Some Idle) xs) (of (Some Held) xs) (of (Some Under) xs) (of None xs) (whole_of xs)
    where
      held : (is hs us ns : List X) → IsPermutation (is ++ (hs ++ (us ++ ns))) xs → IsPermutation (is ++ (x ∷ hs ++ (us ++ ns))) (x ∷ xs)
      held is hs us ns rest =
          IsPermutation-trans (is ++ (x ∷ hs ++ (us ++ ns))) (x ∷ (is ++ (hs ++ (us ++ ns)))) (x ∷ xs)
          (IsPermutation-middle is x (hs ++ (us ++ ns)))
          (IsPermutation-cons x (is ++ (hs ++ (us ++ ns))) xs rest)

      under : (is hs us ns : List X) → IsPermutation (is ++ (hs ++ (us ++ ns))) xs → IsPermutation (is ++ (hs ++ (x ∷ us ++ ns))) (x ∷ xs)
      under is hs us ns rest =
          IsPermutation-trans (is ++ (hs ++ (x ∷ us ++ ns))) (is ++ (x ∷ (hs ++ (us ++ ns)))) (x ∷ xs)
          (IsPermutation-append_right is (hs ++ (x ∷ us ++ ns)) (x ∷ (hs ++ (us ++ ns))) (IsPermutation-middle hs x (us ++ ns)))
          (held is hs us ns rest)

      by : (k : Option JobKind) (is hs us ns : List X) → IsPermutation (is ++ (hs ++ (us ++ ns))) xs
          → IsPermutation (cond (is_same_kind (Some Idle) k) (x ∷ is) is ++ (cond (is_same_kind (Some Held) k) (x ∷ hs) hs ++ (cond (is_same_kind (Some Under) k) (x ∷ us) us ++ cond (is_same_kind None k) (x ∷ ns) ns))) (x ∷ xs)
      by (Some Idle) is hs us ns rest = IsPermutation-cons x (is ++ (hs ++ (us ++ ns))) xs rest
      by (Some Held) is hs us ns rest = held is hs us ns rest
      by (Some Under) is hs us ns rest = under is hs us ns rest
      by None is hs us ns rest =
          IsPermutation-trans (is ++ (hs ++ (us ++ x ∷ ns))) (is ++ (hs ++ (x ∷ us ++ ns))) (x ∷ xs)
          (IsPermutation-append_right is (hs ++ (us ++ x ∷ ns)) (hs ++ (x ∷ us ++ ns)) (IsPermutation-append_right hs (us ++ x ∷ ns) (x ∷ us ++ ns) (IsPermutation-middle us x ns)))
          (under is hs us ns rest)

-- ---- each has its own

kind_same : (k other : Option JobKind) → is_same_kind k other ≡ true → other ≡ k
kind_same None None h = refl
kind_same None (Some kind) h = cc
kind_same (Some kind) other h = kind_from kind other h

-- ---- in order

module _ {X : Type 0} (R : X → X → Ordering) (p : X → Bool) where
  all_kept : (P : X → Type 0) (xs : List X) → AllByRecursion P xs → AllByRecursion P (filter p xs)
  all_kept P [] h = tt
  all_kept P (x ∷ xs) h = by (p x) (all_kept P xs h.1)
    where
      by : (b : Bool) → AllByRecursion P (filter p xs) → AllByRecursion P (cond b (x ∷ filter p xs) (filter p xs))
      by true rest = (h.0, rest)
      by false rest = rest

  order_kept : (xs : List X) → IsStrictlySortedBy R xs → IsStrictlySortedBy R (filter p xs)
  unfolding IsStrictlySortedBy
  order_kept [] s = tt
  order_kept (x ∷ xs) s = by (p x) (order_kept xs s.1)
    where
      by : (b : Bool) → IsStrictlySortedBy R (filter p xs) → IsStrictlySortedBy R (cond b (x ∷ filter p xs) (filter p xs))
      by true rest = (all_kept (λ y. R x y ≡ Less) xs s.0, rest)
      by false rest = rest

pub kinds_part_the_procs : KindsPartTheProcs
kinds_part_the_procs q s = record {
  whole = whole_of (λ key. kind_at key q) (procs q);
  alike = λ kind k d less. kind_same kind _ (filter_passes (λ key. is_same_kind kind (kind_at key q)) (procs q) k d less);
  ordered = λ kind. order_kept key_cmp (λ key. is_same_kind kind (kind_at key q)) (procs q) (order_kept key_cmp is_proc (keys_of q) s);
}
