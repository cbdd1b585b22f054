-- Ads in order of name, and where a name stands among them.
use Rattle.std.proofs.Common.{◌≡◌, ℕ, zero, suc, ◌+◌, ◌<◌, ◌≤◌, List, [], ◌∷◌, ◌++◌, length, get_or, take, drop, set, Bool, true, false, cond, refl, sym, ap, ◌∙◌, arith, subst, filter, Ok, Err, inl, inr}
use Rattle.std.specs.Prelude.{◌||◌, ◌⊎◌, Result, MatchResult, OnOk, OnErr, nat_lt}
use Rattle.std.specs.List.{AllByRecursion, list_any, insert}
use Rattle.std.specs.List.Sorted.{IsStrictlySortedBy, IsBinarySearchResult, IsNonDecreasingBy}
use Rattle.std.specs.declared.cmp.Ordering.{Ordering}
use Rattle.std.specs.declared.cmp.Ordering.TheVariants.{Less, Equal, Greater}
use Rattle.std.specs.Ordering.{is_lt, is_gt, is_eq, nat_cmp, ordering_index, ordering_reverse}
use Rattle.std.specs.Cmp.Lexicographic.{slice_cmp, nat_list_cmp_total}
use Rattle.std.proofs.lemmas.Bool.{false≢true, cases_eq, cases_Bool, ltb-true, ltb-false}
use Rattle.std.proofs.lemmas.List.Sums.{length-filter, count_by-le-length}
use Rattle.std.proofs.lemmas.List.{set_split, length-set, length-append, length-take-le, length-drop}
use Rattle.std.proofs.lemmas.List.Kept.{IsStrictlySortedBy-filter}
use Rattle.matchmaker.specs.declared.kept.KeptAd.{KeptAd}
use Rattle.matchmaker.specs.declared.kept.TheConstants.{MAX_NAMES}
use Rattle.matchmaker.specs.Kept.{name_order, has_name, with_ad, AreKept, IsInOrder, IsPlaceOf}

order : List ℕ → List ℕ → Ordering
order a b = slice_cmp nat_cmp a b

-- ---- the order of names

back : (a b : List ℕ) (o : Ordering) → slice_cmp nat_cmp a b ≡ o → slice_cmp nat_cmp b a ≡ ordering_reverse o
back a b o e = nat_list_cmp_total.antisymm b a ∙ ap ordering_reverse e

-- behind a lesser one
after_less : (a b n : List ℕ) (o : Ordering) → slice_cmp nat_cmp a b ≡ Less → slice_cmp nat_cmp a n ≡ o →
    (is_lt o ≡ false) → slice_cmp nat_cmp b n ≡ Greater
after_less a b n Less e f h = absurd (false≢true (sym h))
after_less a b n Equal e f h = back n b Less (sym (nat_list_cmp_total.congr a n b f) ∙ e)
after_less a b n Greater e f h = back n b Less (nat_list_cmp_total.trans n a b (back a n Greater f) e)

rises : (a b n : List ℕ) → slice_cmp nat_cmp a b ≡ Less →
    ordering_index (slice_cmp nat_cmp a n) ≤ ordering_index (slice_cmp nat_cmp b n)
rises a b n e = at (slice_cmp nat_cmp a n) refl where
  at : (o : Ordering) → slice_cmp nat_cmp a n ≡ o → ordering_index (slice_cmp nat_cmp a n) ≤ ordering_index (slice_cmp nat_cmp b n)
  at Less f = rw f (omega arith)
  at Equal f = rw (f, after_less a b n Equal e f refl) (omega arith)
  at Greater f = rw (f, after_less a b n Greater e f refl) (omega arith)

-- ---- lists in order

all_at : {A : Type 0} (P : A → Type 0) (xs : List A) (i : ℕ) (d : A) → AllByRecursion P xs → i < length xs → P (get_or xs i d)
all_at P [] i d h l = absurd (omega arith)
all_at P (x ∷ xs) zero d h l = h.0
all_at P (x ∷ xs) (suc i) d h l = all_at P xs i d h.1 (omega arith)

pub head_below : (k : KeptAd) (ks : List KeptAd) → IsInOrder (k ∷ ks) → AllByRecursion (λ (j : KeptAd). slice_cmp nat_cmp k.ad.name j.ad.name ≡ Less) ks
unfolding IsStrictlySortedBy
head_below k ks s = s.0

pub tail_order : (k : KeptAd) (ks : List KeptAd) → IsInOrder (k ∷ ks) → IsInOrder ks
unfolding IsStrictlySortedBy
tail_order k ks s = s.1

pub rising : (name : List ℕ) (ks : List KeptAd) → IsInOrder ks → IsNonDecreasingBy (λ k. ordering_index (name_order name k)) ks
rising name [] s i j d le lt = absurd (omega arith)
rising name (k ∷ ks) s zero zero d le lt = omega arith
rising name (k ∷ ks) s zero (suc j) d le lt =
    rises k.ad.name (get_or ks j d).ad.name name (all_at (λ (j : KeptAd). slice_cmp nat_cmp k.ad.name j.ad.name ≡ Less) ks j d (head_below k ks s) (omega arith))
rising name (k ∷ ks) s (suc i) zero d le lt = absurd (omega arith)
rising name (k ∷ ks) s (suc i) (suc j) d le lt = rising name ks (tail_order k ks s) i j d (omega arith) (omega arith)

-- ---- what a filter leaves where its test changes once

pub filter_is_take : {A : Type 0} (p : A → Bool) (xs : List A) (i : ℕ) → i ≤ length xs →
    ((j : ℕ) (d : A) → j < i → p (get_or xs j d) ≡ true) → ((j : ℕ) (d : A) → i ≤ j → j < length xs → p (get_or xs j d) ≡ false) →
    filter p xs ≡ take i xs
filter_is_take p [] zero le pass fail = refl
filter_is_take p [] (suc i) le pass fail = absurd (omega arith)
filter_is_take p (x ∷ xs) zero le pass fail =
    rw (fail 0 x (omega arith) (omega arith)) (filter_is_take p xs zero (omega arith) (λ j d l. absurd (omega arith)) (λ j d a b. fail (suc j) d (omega arith) (omega arith)))
filter_is_take p (x ∷ xs) (suc i) le pass fail =
    rw (pass 0 x (omega arith)) (ap (λ ys. x ∷ ys) (filter_is_take p xs i (omega arith) (λ j d l. pass (suc j) d (omega arith)) (λ j d a b. fail (suc j) d (omega arith) (omega arith))))

pub filter_is_drop : {A : Type 0} (p : A → Bool) (xs : List A) (i : ℕ) → i ≤ length xs →
    ((j : ℕ) (d : A) → j < i → p (get_or xs j d) ≡ false) → ((j : ℕ) (d : A) → i ≤ j → j < length xs → p (get_or xs j d) ≡ true) →
    filter p xs ≡ drop i xs
filter_is_drop p [] zero le fail pass = refl
filter_is_drop p [] (suc i) le fail pass = absurd (omega arith)
filter_is_drop p (x ∷ xs) zero le fail pass =
    rw (pass 0 x (omega arith) (omega arith)) (ap (λ ys. x ∷ ys) (filter_is_drop p xs zero (omega arith) (λ j d l. absurd (omega arith)) (λ j d a b. pass (suc j) d (omega arith) (omega arith))))
filter_is_drop p (x ∷ xs) (suc i) le fail pass =
    rw (fail 0 x (omega arith)) (filter_is_drop p xs i (omega arith) (λ j d l. fail (suc j) d (omega arith)) (λ j d a b. pass (suc j) d (omega arith) (omega arith)))

any_none : {A : Type 0} (p : A → Bool) (xs : List A) → ((j : ℕ) (d : A) → j < length xs → p (get_or xs j d) ≡ false) → list_any p xs ≡ false
any_none p [] fail = refl
any_none p (x ∷ xs) fail = rw (fail 0 x (omega arith)) (any_none p xs (λ j d l. fail (suc j) d (omega arith)))

any_at : {A : Type 0} (p : A → Bool) (xs : List A) (i : ℕ) (d : A) → i < length xs → p (get_or xs i d) ≡ true → list_any p xs ≡ true
any_at p [] i d l h = absurd (omega arith)
any_at p (x ∷ xs) zero d l h = rw h refl
any_at p (x ∷ xs) (suc i) d l h = either (p x) (any_at p xs i d (omega arith) h) where
  either : (b : Bool) → list_any p xs ≡ true → (b || list_any p xs) ≡ true
  either true e = refl
  either false e = e

-- ---- where a name stands

-- before the place of the name, and behind it
pub before_it : (name : List ℕ) (ks : List KeptAd) (i : ℕ) → IsInOrder ks → i < length ks → ((d : KeptAd) → name_order name (get_or ks i d) ≡ Equal) →
    (j : ℕ) (d : KeptAd) → j < i → name_order name (get_or ks j d) ≡ Less
before_it name [] i s l e j d h = absurd (omega arith)
before_it name (k ∷ ks) zero s l e j d h = absurd (omega arith)
before_it name (k ∷ ks) (suc i) s l e zero d h =
    let less = all_at (λ (j : KeptAd). slice_cmp nat_cmp k.ad.name j.ad.name ≡ Less) ks i k (head_below k ks s) (omega arith) in
    let same : slice_cmp nat_cmp (get_or ks i k).ad.name name ≡ Equal = e k in
    back name k.ad.name Greater (sym (nat_list_cmp_total.congr (get_or ks i k).ad.name name k.ad.name same) ∙ back k.ad.name (get_or ks i k).ad.name Less less)
before_it name (k ∷ ks) (suc i) s l e (suc j) d h = before_it name ks i (tail_order k ks s) (omega arith) e j d (omega arith)

pub behind_it : (name : List ℕ) (ks : List KeptAd) (i : ℕ) → IsInOrder ks → i < length ks → ((d : KeptAd) → name_order name (get_or ks i d) ≡ Equal) →
    (j : ℕ) (d : KeptAd) → i + 1 ≤ j → j < length ks → name_order name (get_or ks j d) ≡ Greater
behind_it name [] i s l e j d h m = absurd (omega arith)
behind_it name (k ∷ ks) i s l e zero d h m = absurd (omega arith)
behind_it name (k ∷ ks) zero s l e (suc j) d h m =
    after_less k.ad.name (get_or ks j d).ad.name name Equal (all_at (λ (j : KeptAd). slice_cmp nat_cmp k.ad.name j.ad.name ≡ Less) ks j d (head_below k ks s) (omega arith)) (e d) refl
behind_it name (k ∷ ks) (suc i) s l e (suc j) d h m = behind_it name ks i (tail_order k ks s) (omega arith) e j d (omega arith) (omega arith)

-- where the name is there, and where it is not
found_at : (name : List ℕ) (ks : List KeptAd) (i : ℕ) (k : KeptAd) → IsInOrder ks → i < length ks → ((d : KeptAd) → name_order name (get_or ks i d) ≡ Equal) →
    IsPlaceOf name ks (Ok i)
found_at name ks i k s l e = (
  l,
  any_at (has_name name) ks i k l (ap is_eq (e k)),
  filter_is_take (λ (j : KeptAd). is_lt (name_order name j)) ks i (omega arith)
      (λ j d h. ap is_lt (before_it name ks i s l e j d h))
      (λ j d a b. elim (cases_eq j i) [
        | inl q ↦ subst (λ n. is_lt (name_order name (get_or ks n d)) ≡ false) (sym q) (ap is_lt (e d))
        | inr q ↦ ap is_lt (behind_it name ks i s l e j d (omega arith) b)
      ]),
  filter_is_drop (λ (j : KeptAd). is_gt (name_order name j)) ks (i + 1) (omega arith)
      (λ j d h. elim (cases_eq j i) [
        | inl q ↦ subst (λ n. is_gt (name_order name (get_or ks n d)) ≡ false) (sym q) (ap is_gt (e d))
        | inr q ↦ ap is_gt (before_it name ks i s l e j d (omega arith))
      ])
      (λ j d a b. ap is_gt (behind_it name ks i s l e j d a b)),
)

missing_at : (name : List ℕ) (ks : List KeptAd) (i : ℕ) → i ≤ length ks →
    ((j : ℕ) (d : KeptAd) → 0 ≤ j → j < i → name_order name (get_or ks j d) ≡ Less) →
    ((j : ℕ) (d : KeptAd) → i ≤ j → j < length ks → name_order name (get_or ks j d) ≡ Greater) →
    IsPlaceOf name ks (Err i)
missing_at name ks i l low high = (
  l,
  any_none (has_name name) ks (λ j d b. elim (cases_lt j i) [
    | inl q ↦ ap is_eq (low j d (omega arith) q)
    | inr q ↦ ap is_eq (high j d q b)
  ]),
  filter_is_take (λ (j : KeptAd). is_lt (name_order name j)) ks i l
      (λ j d h. ap is_lt (low j d (omega arith) h)) (λ j d a b. ap is_lt (high j d a b)),
  filter_is_drop (λ (j : KeptAd). is_gt (name_order name j)) ks i l
      (λ j d h. ap is_gt (low j d (omega arith) h)) (λ j d a b. ap is_gt (high j d a b)),
) where
  cases_lt : (j i : ℕ) → (j < i) ⊎ (i ≤ j)
  cases_lt j i = elim (cases_Bool (nat_lt j i)) [ inl h ↦ inl (ltb-true j i h) | inr h ↦ inr (ltb-false j i h) ]

some_at : {A : Type 0} (xs : List A) (i : ℕ) → i < length xs → A
some_at [] i h = absurd (omega arith)
some_at (x ∷ xs) i h = x

pub place_found : (name : List ℕ) (ks : List KeptAd) (r : Result ℕ ℕ) → IsInOrder ks → MatchResult r (λ i. i < length ks) (λ i. i ≤ length ks) →
    IsBinarySearchResult (name_order name) ks r → IsPlaceOf name ks r
place_found name ks (Ok i) s l h = found_at name ks i (some_at ks i l) s l h
place_found name ks (Err i) s l h = let p = h (rising name ks s) in missing_at name ks i l p.0 p.1

-- ---- with one ad more

all_filter : {A : Type 0} (P : A → Type 0) (p : A → Bool) (xs : List A) → AllByRecursion P xs → AllByRecursion P (filter p xs)
all_filter P p [] h = h
all_filter P p (x ∷ xs) h = elim (p x) as (λ b. AllByRecursion P (cond b (x ∷ filter p xs) (filter p xs))) [
  | true ↦ (h.0, all_filter P p xs h.1)
  | false ↦ all_filter P p xs h.1
]

all_join : {A : Type 0} (P : A → Type 0) (xs ys : List A) → AllByRecursion P xs → AllByRecursion P ys → AllByRecursion P (xs ++ ys)
all_join P [] ys h g = g
all_join P (x ∷ xs) ys h g = (h.0, all_join P xs ys h.1 g)

greater_ones : (one : KeptAd) (ks : List KeptAd) →
    AllByRecursion (λ (j : KeptAd). slice_cmp nat_cmp one.ad.name j.ad.name ≡ Less) (filter (λ (k : KeptAd). is_gt (name_order one.ad.name k)) ks)
greater_ones one [] = tt
greater_ones one (k ∷ ks) = at (name_order one.ad.name k) refl (greater_ones one ks) where
  Greaters : List KeptAd → Type 0
  Greaters js = AllByRecursion (λ (j : KeptAd). slice_cmp nat_cmp one.ad.name j.ad.name ≡ Less) (filter (λ (k : KeptAd). is_gt (name_order one.ad.name k)) js)

  at : (o : Ordering) → name_order one.ad.name k ≡ o → Greaters ks → Greaters (k ∷ ks)
  at Less e all = rw e all
  at Equal e all = rw e all
  at Greater e all = rw e (back k.ad.name one.ad.name Greater e, all)

-- none is before the name where the first is not
none_less : (name : List ℕ) (k : KeptAd) (ks : List KeptAd) (o : Ordering) → name_order name k ≡ o → is_lt o ≡ false →
    AllByRecursion (λ (j : KeptAd). slice_cmp nat_cmp k.ad.name j.ad.name ≡ Less) ks → filter (λ (j : KeptAd). is_lt (name_order name j)) ks ≡ []
none_less name k [] o e h all = refl
none_less name k (j ∷ ks) o e h all =
    rw (after_less k.ad.name j.ad.name name o all.0 e h) (none_less name k ks o e h all.1)

pub stays_in_order : (one : KeptAd) (ks : List KeptAd) → IsInOrder ks → IsInOrder (with_ad one ks)
unfolding IsStrictlySortedBy
stays_in_order one [] s = (tt, tt)
stays_in_order one (k ∷ ks) s = at (name_order one.ad.name k) refl (stays_in_order one ks s.1) where
  tail : IsInOrder (filter (λ (j : KeptAd). is_gt (name_order one.ad.name j)) ks)
  tail = IsStrictlySortedBy-filter _ _ ks s.1

  at : (o : Ordering) → name_order one.ad.name k ≡ o → IsInOrder (with_ad one ks) → IsInOrder (with_ad one (k ∷ ks))
  at Less e rest = rw e (
    all_join _ (filter (λ (j : KeptAd). is_lt (name_order one.ad.name j)) ks) (one ∷ filter (λ (j : KeptAd). is_gt (name_order one.ad.name j)) ks)
        (all_filter _ _ ks s.0) (e, all_filter _ _ ks s.0),
    rest,
  )
  at Equal e rest = rw (e, none_less one.ad.name k ks Equal e refl s.0) (greater_ones one ks, tail)
  at Greater e rest = rw (e, none_less one.ad.name k ks Greater e refl s.0) ((back k.ad.name one.ad.name Greater e, greater_ones one ks), (all_filter _ _ ks s.0, tail))

-- ---- what a put does at the place

pub place_at : (n m : List ℕ) (js ks : List KeptAd) (r q : Result ℕ ℕ) → n ≡ m → js ≡ ks → r ≡ q → IsPlaceOf n js r → IsPlaceOf m ks q
place_at n m js ks r q e f g p = subst (λ x. IsPlaceOf m ks x) g (subst (λ x. IsPlaceOf m x r) f (subst (λ x. IsPlaceOf x js r) e p))

pub put_found : (one : KeptAd) (ks : List KeptAd) (i : ℕ) → IsPlaceOf one.ad.name ks (Ok i) → set ks i one ≡ with_ad one ks
put_found one ks i p = set_split ks i one p.0 ∙ ((let e : suc i ≡ i + 1 = omega arith in ap (λ n. take i ks ++ one ∷ drop n ks) e) ∙ (λ j. sym p.2 j ++ one ∷ sym p.3 j))

pub put_found_kept : (one : KeptAd) (ks : List KeptAd) (i : ℕ) → AreKept ks → IsPlaceOf one.ad.name ks (Ok i) → AreKept (set ks i one)
put_found_kept one ks i s p = (subst IsInOrder (sym (put_found one ks i p)) (stays_in_order one ks s.0), rw (length-set ks i one) s.1)

pub put_missing : (one : KeptAd) (ks : List KeptAd) (i : ℕ) → IsPlaceOf one.ad.name ks (Err i) → insert ks i one ≡ with_ad one ks
put_missing one ks i p = λ j. sym p.2 j ++ one ∷ sym p.3 j

pub put_missing_kept : (one : KeptAd) (ks : List KeptAd) (i : ℕ) → AreKept ks → (length ks ≡ MAX_NAMES → ⊥) → IsPlaceOf one.ad.name ks (Err i) → AreKept (insert ks i one)
put_missing_kept one ks i s room p = (
  subst IsInOrder (sym (put_missing one ks i p)) (stays_in_order one ks s.0),
  let few = s.1 in let i_in = p.0 in
      let a = length-append (take i ks) (one ∷ drop i ks) in let b = length-take-le i ks i_in in let d = length-drop i ks in omega arith,
)

pub put_end : {T E : Type 0} (r : Result T E) (one : KeptAd) (ks js : List KeptAd) (i : ℕ) → AreKept ks → IsPlaceOf one.ad.name ks (Err i) →
    OnOk r (js ≡ insert ks i one) → OnOk r (length ks ≡ MAX_NAMES → ⊥) → OnErr r (js ≡ ks) → AreKept js
put_end (Ok x) one ks js i s p e room same = subst AreKept (sym e) (put_missing_kept one ks i s room p)
put_end (Err x) one ks js i s p e room same = subst AreKept (sym same) s

pub put_end_is : {T E : Type 0} (r : Result T E) (one : KeptAd) (ks js : List KeptAd) (i : ℕ) → IsPlaceOf one.ad.name ks (Err i) →
    OnOk r (js ≡ insert ks i one) → OnOk r (js ≡ with_ad one ks)
put_end_is (Ok x) one ks js i p e = e ∙ put_missing one ks i p
put_end_is (Err x) one ks js i p e = tt

-- ---- with fewer ads

pub filter_kept : (p : KeptAd → Bool) (ks : List KeptAd) → AreKept ks → AreKept (filter p ks)
filter_kept p ks s = (
  IsStrictlySortedBy-filter _ p ks s.0,
  let few = s.1 in let a = length-filter p ks in let b = count_by-le-length p ks in omega arith,
)

pub none_kept : AreKept []
unfolding IsStrictlySortedBy
none_kept = (tt, omega arith)
