-- A collector keeps exactly what was heard.
use Rattle.std.proofs.Common.{◌≡◌, ℕ, zero, suc, ◌<◌, List, [], ◌∷◌, ◌++◌, length, get_or, Bool, true, false, not, cond, refl, sym, ap, arith, subst, filter, inl, inr}
use Rattle.std.specs.Prelude.{◌⊎◌, Contains}
use Rattle.std.specs.List.{AllByRecursion}
use Rattle.std.specs.declared.cmp.Ordering.{Ordering}
use Rattle.std.specs.declared.cmp.Ordering.TheVariants.{Less, Equal, Greater}
use Rattle.std.specs.Ordering.{is_lt, is_gt, is_eq}
use Rattle.std.proofs.lemmas.Bool.{false≢true}
use Rattle.matchmaker.specs.declared.kept.KeptAd.{KeptAd}
use Rattle.matchmaker.specs.Kept.{name_order, is_of, is_fresh}
use Rattle.matchmaker.specs.Heard.{Told, updated, forgotten, expired, kept_once, kept_after, outlives, IsHeard}
use Rattle.matchmaker.specs.Laws.{KeepsWhatIsHeard}

-- ---- members

abbrev In : {A : Type 0} → A → List A → Type 0
In x [] = ⊥
In x (y ∷ ys) = (x ≡ y) ⊎ In x ys

in_from : {A : Type 0} (x : A) (xs : List A) (i : ℕ) → i < length xs → get_or xs i x ≡ x → In x xs
in_from x [] i l e = absurd (omega arith)
in_from x (y ∷ ys) zero l e = inl (sym e)
in_from x (y ∷ ys) (suc i) l e = inr (in_from x ys i (omega arith) e)

in_to : {A : Type 0} (x : A) (xs : List A) → In x xs → Contains xs x
in_to x [] h = absurd h
in_to x (y ∷ ys) (inl e) = (0, (let k : 0 < length (y ∷ ys) = omega arith in k), sym e)
in_to x (y ∷ ys) (inr h) = let p = in_to x ys h in let l = p.1 in (suc p.0, (let k : suc p.0 < length (y ∷ ys) = omega arith in k), p.2)

in_filter : {A : Type 0} (p : A → Bool) (x : A) (xs : List A) → In x (filter p xs) → In x xs × (p x ≡ true)
in_filter p x [] h = absurd h
in_filter p x (y ∷ ys) h = at (p y) refl h (in_filter p x ys) where
  at : (b : Bool) → p y ≡ b → In x (cond (p y) (y ∷ filter p ys) (filter p ys)) → (In x (filter p ys) → In x ys × (p x ≡ true)) → ((x ≡ y) ⊎ In x ys) × (p x ≡ true)
  at true e g k = elim (subst (λ t. In x (cond t (y ∷ filter p ys) (filter p ys))) e g) [
    | inl q ↦ (inl q, subst (λ z. p z ≡ true) (sym q) e)
    | inr q ↦ (inr (k q).0, (k q).1)
  ]
  at false e g k = let q = k (subst (λ t. In x (cond t (y ∷ filter p ys) (filter p ys))) e g) in (inr q.0, q.1)

filter_in : {A : Type 0} (p : A → Bool) (x : A) (xs : List A) → In x xs → p x ≡ true → In x (filter p xs)
filter_in p x [] h e = absurd h
filter_in p x (y ∷ ys) (inl q) e = rw (subst (λ z. p z ≡ true) q e) (inl q)
filter_in p x (y ∷ ys) (inr h) e = at (p y) (filter_in p x ys h e) where
  at : (b : Bool) → In x (filter p ys) → In x (cond b (y ∷ filter p ys) (filter p ys))
  at true k = inr k
  at false k = k

in_join : {A : Type 0} (x : A) (xs ys : List A) → In x (xs ++ ys) → In x xs ⊎ In x ys
in_join x [] ys h = inr h
in_join x (z ∷ xs) ys (inl e) = inl (inl e)
in_join x (z ∷ xs) ys (inr h) = elim (in_join x xs ys h) [ inl k ↦ inl (inr k) | inr k ↦ inr k ]

join_left : {A : Type 0} (x : A) (xs ys : List A) → In x xs → In x (xs ++ ys)
join_left x [] ys h = absurd h
join_left x (z ∷ xs) ys (inl e) = inl e
join_left x (z ∷ xs) ys (inr h) = inr (join_left x xs ys h)

join_right : {A : Type 0} (x : A) (xs ys : List A) → In x ys → In x (xs ++ ys)
join_right x [] ys h = h
join_right x (z ∷ xs) ys h = inr (join_right x xs ys h)

-- ---- what one thing told does

lt_apart : (o : Ordering) → is_lt o ≡ true → not (is_eq o) ≡ true
lt_apart Less e = refl
lt_apart Equal e = absurd (false≢true e)
lt_apart Greater e = refl

gt_apart : (o : Ordering) → is_gt o ≡ true → not (is_eq o) ≡ true
gt_apart Less e = refl
gt_apart Equal e = absurd (false≢true e)
gt_apart Greater e = refl

apart : (o : Ordering) → not (is_eq o) ≡ true → (is_lt o ≡ true) ⊎ (is_gt o ≡ true)
apart Less e = inl refl
apart Equal e = absurd (false≢true e)
apart Greater e = inr refl

abbrev Once : ℕ → List KeptAd → Told → KeptAd → Type 0
Once lifetime ks t k = (In k ks × (outlives lifetime k t ≡ true)) ⊎ (t ≡ updated k)

once_from : (lifetime : ℕ) (ks : List KeptAd) (t : Told) (k : KeptAd) → In k (kept_once lifetime ks t) → Once lifetime ks t k
once_from lifetime ks (updated one) k h = elim (in_join k (filter (λ (j : KeptAd). is_lt (name_order one.ad.name j)) ks) (one ∷ filter (λ (j : KeptAd). is_gt (name_order one.ad.name j)) ks) h) [
  | inl a ↦ let p = in_filter (λ (j : KeptAd). is_lt (name_order one.ad.name j)) k ks a in inl (p.0, lt_apart (name_order one.ad.name k) p.1)
  | inr b ↦ elim b [
    | inl e ↦ inr (ap updated (sym e))
    | inr c ↦ let p = in_filter (λ (j : KeptAd). is_gt (name_order one.ad.name j)) k ks c in inl (p.0, gt_apart (name_order one.ad.name k) p.1)
  ]
]
once_from lifetime ks (forgotten slot) k h = inl (in_filter (λ (j : KeptAd). not (is_of slot j)) k ks h)
once_from lifetime ks (expired now) k h = inl (in_filter (is_fresh lifetime now) k ks h)

stays : (lifetime : ℕ) (ks : List KeptAd) (t : Told) (k : KeptAd) → In k ks → outlives lifetime k t ≡ true → In k (kept_once lifetime ks t)
stays lifetime ks (updated one) k h e = elim (apart (name_order one.ad.name k) e) [
  | inl a ↦ join_left k (filter (λ (j : KeptAd). is_lt (name_order one.ad.name j)) ks) _ (filter_in (λ (j : KeptAd). is_lt (name_order one.ad.name j)) k ks h a)
  | inr b ↦ join_right k (filter (λ (j : KeptAd). is_lt (name_order one.ad.name j)) ks) _ (inr (filter_in (λ (j : KeptAd). is_gt (name_order one.ad.name j)) k ks h b))
]
stays lifetime ks (forgotten slot) k h e = filter_in (λ (j : KeptAd). not (is_of slot j)) k ks h e
stays lifetime ks (expired now) k h e = filter_in (is_fresh lifetime now) k ks h e

comes : (lifetime : ℕ) (ks : List KeptAd) (k : KeptAd) → In k (kept_once lifetime ks (updated k))
comes lifetime ks k = join_right k (filter (λ (j : KeptAd). is_lt (name_order k.ad.name j)) ks) _ (inl refl)

-- ---- all that was told

abbrev Outlives : ℕ → KeptAd → List Told → Type 0
Outlives lifetime k ts = AllByRecursion (λ t. outlives lifetime k t ≡ true) ts

later : {lifetime : ℕ} {ts : List Told} {k : KeptAd} (t : Told) → IsHeard lifetime ts k → IsHeard lifetime (t ∷ ts) k
later t h = record { before = t ∷ h.before; since = h.since; is = ap (λ (us : List Told). t ∷ us) h.is; stands = h.stands }

heard_from : (lifetime : ℕ) (ks : List KeptAd) (ts : List Told) (k : KeptAd) → In k (kept_after lifetime ks ts) →
    (In k ks × Outlives lifetime k ts) ⊎ IsHeard lifetime ts k
heard_from lifetime ks [] k h = inl (h, tt)
heard_from lifetime ks (t ∷ ts) k h = elim (heard_from lifetime (kept_once lifetime ks t) ts k h) [
  | inl p ↦ elim (once_from lifetime ks t k p.0) [
    | inl q ↦ inl (q.0, (q.1, p.1))
    | inr e ↦ inr (record { before = []; since = ts; is = ap (λ (u : Told). u ∷ ts) e; stands = p.1 })
  ]
  | inr g ↦ inr (later t g)
]

outlasts : (lifetime : ℕ) (ks : List KeptAd) (ts : List Told) (k : KeptAd) → In k ks → Outlives lifetime k ts → In k (kept_after lifetime ks ts)
outlasts lifetime ks [] k h o = h
outlasts lifetime ks (t ∷ ts) k h o = outlasts lifetime (kept_once lifetime ks t) ts k (stays lifetime ks t k h o.0) o.1

told_last : (lifetime : ℕ) (ks : List KeptAd) (before since : List Told) (k : KeptAd) → Outlives lifetime k since →
    In k (kept_after lifetime ks (before ++ updated k ∷ since))
told_last lifetime ks [] since k o = outlasts lifetime (kept_once lifetime ks (updated k)) since k (comes lifetime ks k) o
told_last lifetime ks (t ∷ before) since k o = told_last lifetime (kept_once lifetime ks t) before since k o

pub keeps_what_is_heard : KeepsWhatIsHeard
keeps_what_is_heard lifetime told k = (
  λ c. elim (heard_from lifetime [] told k (in_from k _ c.0 c.1 c.2)) [ inl p ↦ absurd p.0 | inr h ↦ h ],
  λ h. in_to k _ (subst (λ (ts : List Told). In k (kept_after lifetime [] ts)) (sym h.is) (told_last lifetime [] h.before h.since k h.stands)),
)
