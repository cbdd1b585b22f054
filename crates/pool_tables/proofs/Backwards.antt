-- The things of a box, from its last one backwards.
use Rattle.std.proofs.Common.{◌≡◌, ℕ, ◌<◌, ◌≤◌, suc, true, false, Bool, cond, List, length, slice_get, Option, Some, None, is_some, refl, ap, sym, ◌∙◌, subst, arith}
use Rattle.std.specs.Prelude.{nat_le, IfSome}
use Rattle.std.proofs.lemmas.Option.{slice_get_within, slice_get-get_or}
use Rattle.pool_tables.specs.Links.{IsIn, IsLastBelow, IsNext, AreLinked, last_in, at_least}

-- the last thing of the box below a bound, from a number on
abbrev pub IsLastFrom : List ℕ → ℕ → ℕ → ℕ → Option ℕ → Type 0
IsLastFrom boxes box from bound None = (n : ℕ) → from ≤ n → n < bound → ¬ IsIn boxes box n
IsLastFrom boxes box from bound (Some m) = (from ≤ m) × ((m < bound) × (IsIn boxes box m × ((n : ℕ) → m < n → n < bound → ¬ IsIn boxes box n)))

abbrev pub bound_of : List ℕ → Option ℕ → ℕ
bound_of boxes None = length boxes
bound_of boxes (Some n) = n

abbrev pub IsFound : List ℕ → ℕ → ℕ → Option ℕ → Type 0
IsFound boxes box from None = Unit {0}
IsFound boxes box from (Some n) = (from ≤ n) × IsIn boxes box n

-- what was found so far, and where it goes on
pub record Goes (boxes : List ℕ) (box from : ℕ) (found at : Option ℕ) : Type 0 where
  pub there : IsFound boxes box from found
  pub next : IsLastFrom boxes box from (bound_of boxes found) at

abbrev pub left : Option ℕ → ℕ
left None = 0
left (Some n) = suc n

within : (boxes : List ℕ) (box n : ℕ) → IsIn boxes box n → n < length boxes
within boxes box n h = slice_get_within boxes n box h

below : (boxes : List ℕ) (box from bound : ℕ) (o : Option ℕ) → IsLastBelow boxes box bound o → IsLastFrom boxes box from bound (at_least o from)
below boxes box from bound None none = λ n _ lt. none n lt
below boxes box from bound (Some m) h = by (nat_le from m) refl
  where
    by : (b : Bool) → nat_le from m ≡ b → IsLastFrom boxes box from bound (cond b (Some m) None)
    by true e = (grind arith, h)
    by false e = λ n ge lt. h.1.1 n (grind arith) lt

pub from_last : (boxes : List ℕ) (box from : ℕ) (last : Option ℕ) → IsLastBelow boxes box (length boxes) last → Goes boxes box from None (at_least last from)
from_last boxes box from last h = record { there = tt; next = below boxes box from (length boxes) last h }

before_at : (boxes : List ℕ) (before : List (Option ℕ)) (count box n : ℕ) → AreLinked count boxes before → box < count → IsIn boxes box n → IsLastBelow boxes box n (last_in (slice_get before n))
before_at boxes before count box n linked few there = by (slice_get before n) refl
  where
    by : (o : Option (Option ℕ)) → slice_get before n ≡ o → IsLastBelow boxes box n (last_in o)
    by None e =
        let few : n < length before = subst (λ k. n < k) (sym linked.long) (within boxes box n there) in
        let some = slice_get-get_or before n None few in
        let clash = sym e ∙ some in
        cc
    by (Some o) e = subst (λ p. IfSome p (IsLastBelow boxes box n)) e (linked.each n box few there)

pub step : (boxes : List ℕ) (before : List (Option ℕ)) (count box from n : ℕ) (found : Option ℕ) → AreLinked count boxes before → box < count → Goes boxes box from found (Some n) → Goes boxes box from (Some n) (at_least (last_in (slice_get before n)) from)
step boxes before count box from n found linked few goes = record {
  there = (goes.next.0, goes.next.1.1.0);
  next = below boxes box from n _ (before_at boxes before count box n linked few goes.next.1.1.0);
}

pub goes_on : (boxes : List ℕ) (before : List (Option ℕ)) (count box from n : ℕ) (found at link next : Option ℕ) → AreLinked count boxes before → box < count → Goes boxes box from found at → at ≡ Some n → link ≡ last_in (slice_get before n) → next ≡ at_least link from → Goes boxes box from (Some n) next
goes_on boxes before count box from n found at link next linked few goes is before_is next_is =
    let here : Goes boxes box from found (Some n) = subst (λ (o : Option ℕ). Goes boxes box from found o) is goes in
    let next_at : next ≡ at_least (last_in (slice_get before n)) from = next_is ∙ ap (λ (o : Option ℕ). at_least o from) before_is in
    subst (λ (o : Option ℕ). Goes boxes box from (Some n) o) (sym next_at) (step boxes before count box from n found linked few here)

-- ---- what was found in the end

pub ended : (boxes : List ℕ) (box from : ℕ) (found : Option ℕ) → Goes boxes box from found None → IsNext boxes box from found
ended boxes box from None goes = λ n ge there. goes.next n ge (within boxes box n there) there
ended boxes box from (Some m) goes = (goes.there.0, (goes.there.1, λ n ge lt. goes.next n ge lt))

pub ended_off : (boxes : List ℕ) (box from : ℕ) (found at : Option ℕ) → Goes boxes box from found at → is_some at ≡ false → IsNext boxes box from found
ended_off boxes box from found None goes off = ended boxes box from found goes
ended_off boxes box from found (Some n) goes off = let clash : true ≡ false = off in cc

pub fewer : (boxes : List ℕ) (box from n : ℕ) (found o : Option ℕ) → Goes boxes box from (Some n) o → left o < left (Some n)
fewer boxes box from n found None goes = omega arith
fewer boxes box from n found (Some m) goes = let h : m < n = goes.next.1.0 in omega arith
