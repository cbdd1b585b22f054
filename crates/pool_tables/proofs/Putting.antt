-- What a mail more, and a receipt, keep of the links.
use Rattle.std.proofs.Common.{◌≡◌, ◌≢◌, ℕ, zero, suc, ◌+◌, ◌<◌, ◌≤◌, ◌⊎◌, inl, inr, true, false, Bool, cond, List, [], ◌∷◌, ◌++◌, length, slice_get, slice_set, Option, Some, None, refl, ap, sym, ◌∙◌, subst, arith, add-one, length-append}
use Rattle.std.specs.Prelude.{nat_lt, IfSome}
use Rattle.std.proofs.lemmas.List.{map-append, length-set}
use Rattle.std.proofs.lemmas.Option.{slice_get_within, slice_get-get_or, get_or_from_slice_get}
use Rattle.std.proofs.Math.Seq.{map-set_same}
use Rattle.pool_tables.specs.declared.sent.Sent.{Sent}
use Rattle.pool_tables.specs.Kept.{AreKept}
use Rattle.pool_tables.specs.Links.{IsIn, IsLastBelow, AreLinked, AreLast, box_of, empty_boxes, last_in, with_last}
use Rattle.pool_tables.specs.MailLists.{boxes_of, received_once, with_received}

-- ---- lists with one more at the end, and with another thing at a place

get_more : {X : Type 0} (xs : List X) (y x : X) (n : ℕ) → slice_get xs n ≡ Some x → slice_get (xs ++ y ∷ []) n ≡ Some x
get_more [] y x n e = let k : None ≡ Some x = e in cc
get_more (z ∷ xs) y x zero e = e
get_more (z ∷ xs) y x (suc n) e = get_more xs y x n e

at_end : {X : Type 0} (xs : List X) (y : X) → slice_get (xs ++ y ∷ []) (length xs) ≡ Some y
at_end [] y = refl
at_end (x ∷ xs) y = at_end xs y

append_at : {X : Type 0} (xs : List X) (y x : X) (n : ℕ) → slice_get (xs ++ y ∷ []) n ≡ Some x → ((n ≡ length xs) × (x ≡ y)) ⊎ (slice_get xs n ≡ Some x)
append_at [] y x zero is = inl (refl, (let same : Some y ≡ Some x = is in cc))
append_at [] y x (suc n) is = let k : None ≡ Some x = is in cc
append_at (z ∷ xs) y x zero is = inr is
append_at (z ∷ xs) y x (suc n) is = elim (append_at xs y x n is) [
  | inl at ↦ inl (ap suc at.0, at.1)
  | inr old ↦ inr old
]

set_at : {X : Type 0} (xs : List X) (i n : ℕ) (y x : X) → slice_get (slice_set xs i y) n ≡ Some x → (x ≡ y) × (n ≡ i) ⊎ ((n ≢ i) × (slice_get xs n ≡ Some x))
set_at [] i n y x is = let k : None ≡ Some x = is in cc
set_at (z ∷ xs) zero zero y x is = inl ((let same : Some y ≡ Some x = is in cc), refl)
set_at (z ∷ xs) zero (suc n) y x is = inr ((λ e. omega arith), is)
set_at (z ∷ xs) (suc i) zero y x is = inr ((λ e. omega arith), is)
set_at (z ∷ xs) (suc i) (suc n) y x is = elim (set_at xs i n y x is) [
  | inl at ↦ inl (at.0, ap suc at.1)
  | inr old ↦ inr ((λ e. old.0 (omega arith)), old.1)
]

-- ---- last things, in a list with one more

stays : (boxes : List ℕ) (y box bound : ℕ) (o : Option ℕ) → bound ≤ length boxes → IsLastBelow boxes box bound o → IsLastBelow (boxes ++ y ∷ []) box bound o
stays boxes y box bound None le h = λ n lt there. elim (append_at boxes y box n there) [
  | inl at ↦ absurd (omega arith)
  | inr old ↦ h n lt old
]
stays boxes y box bound (Some m) le h = (
  h.0,
  (
    get_more boxes y box m h.1.0,
    λ n gt lt there. elim (append_at boxes y box n there) [
      | inl at ↦ absurd (omega arith)
      | inr old ↦ h.1.1 n gt lt old
    ],
  ),
)

longer : (boxes : List ℕ) (y box : ℕ) (o : Option ℕ) → box ≢ y → IsLastBelow boxes box (length boxes) o → IsLastBelow (boxes ++ y ∷ []) box (length (boxes ++ y ∷ [])) o
longer boxes y box None other h = λ n lt there. elim (append_at boxes y box n there) [
  | inl at ↦ absurd (other at.1)
  | inr old ↦ h n (slice_get_within boxes n box old) old
]
longer boxes y box (Some m) other h =
    let more : length (boxes ++ y ∷ []) ≡ length boxes + 1 = length-append boxes (y ∷ []) in
    let below : m < length boxes = h.0 in (
      omega arith,
      (
        get_more boxes y box m h.1.0,
        λ n gt lt there. elim (append_at boxes y box n there) [
          | inl at ↦ absurd (other at.1)
          | inr old ↦ h.1.1 n gt (slice_get_within boxes n box old) old
        ],
      ),
    )

newest : (boxes : List ℕ) (box : ℕ) → IsLastBelow (boxes ++ box ∷ []) box (length (boxes ++ box ∷ [])) (Some (length boxes))
newest boxes box =
    let more : length (boxes ++ box ∷ []) ≡ length boxes + 1 = length-append boxes (box ∷ []) in
    (omega arith, (at_end boxes box, λ n gt lt there. absurd (omega arith)))

each_some : (o : Option (Option ℕ)) (P Q : Option ℕ → Type 0) → IfSome o P → ((x : Option ℕ) → P x → Q x) → IfSome o Q
each_some None P Q h f = tt
each_some (Some x) P Q h f = f x h

if_some : (o : Option (Option ℕ)) (P : Option ℕ → Type 0) → ((x : Option ℕ) → o ≡ Some x → P x) → IfSome o P
if_some None P f = tt
if_some (Some x) P f = f x refl

pub last_is : (boxes : List ℕ) (last : List (Option ℕ)) (box : ℕ) → AreLast boxes last → box < length last → IsLastBelow boxes box (length boxes) (last_in (slice_get last box))
last_is boxes last box lasts few = by (slice_get last box) refl (lasts box)
  where
    by : (o : Option (Option ℕ)) → slice_get last box ≡ o → IfSome o (IsLastBelow boxes box (length boxes)) → IsLastBelow boxes box (length boxes) (last_in o)
    by None e h = let some = slice_get-get_or last box None few in let clash = sym e ∙ some in cc
    by (Some o) e h = h

one_linked : (count : ℕ) (boxes : List ℕ) (before : List (Option ℕ)) (y : ℕ) (b : Option ℕ) → AreLinked count boxes before → (y < count → IsLastBelow boxes y (length boxes) b) → AreLinked count (boxes ++ y ∷ []) (before ++ b ∷ [])
one_linked count boxes before y b linked newly = record {
  each = λ n box few there. if_some (slice_get (before ++ b ∷ []) n) (IsLastBelow (boxes ++ y ∷ []) box n) (found n box few there);
  long = length-append before (b ∷ []) ∙ ap (λ k. k + 1) linked.long ∙ sym (length-append boxes (y ∷ []));
}
  where
    old_link : (n box : ℕ) → box < count → slice_get boxes n ≡ Some box → (x : Option ℕ) → slice_get before n ≡ Some x → IsLastBelow (boxes ++ y ∷ []) box n x
    old_link n box few at x link =
        let inside : n < length boxes = slice_get_within boxes n box at in
        stays boxes y box n x (omega arith) (subst (λ (o : Option (Option ℕ)). IfSome o (IsLastBelow boxes box n)) link (linked.each n box few at))

    new_link : (n box : ℕ) → box < count → n ≡ length boxes → box ≡ y → (x : Option ℕ) → x ≡ b → IsLastBelow (boxes ++ y ∷ []) box n x
    new_link n box few at same x is =
        let few_y : y < count = subst (λ k. k < count) same few in
        let fresh : IsLastBelow (boxes ++ y ∷ []) y (length boxes) b = stays boxes y y (length boxes) b (omega arith) (newly few_y) in
        subst (λ (o : Option ℕ). IsLastBelow (boxes ++ y ∷ []) box n o) (sym is) (subst (λ k. IsLastBelow (boxes ++ y ∷ []) k n b) (sym same) (subst (λ k. IsLastBelow (boxes ++ y ∷ []) y k b) (sym at) fresh))

    found : (n box : ℕ) → box < count → IsIn (boxes ++ y ∷ []) box n → (x : Option ℕ) → slice_get (before ++ b ∷ []) n ≡ Some x → IsLastBelow (boxes ++ y ∷ []) box n x
    found n box few there x link = elim (append_at boxes y box n there) [
      | inl at ↦ elim (append_at before b x n link) [
        | inl new ↦ new_link n box few at.0 at.1 x new.1
        | inr old ↦ let long = linked.long in let inside : n < length before = slice_get_within before n x old in let place : n ≡ length boxes = at.0 in absurd (omega arith)
      ]
      | inr at ↦ elim (append_at before b x n link) [
        | inl new ↦ let long = linked.long in let inside : n < length boxes = slice_get_within boxes n box at in let place : n ≡ length before = new.0 in absurd (omega arith)
        | inr old ↦ old_link n box few at x old
      ]
    ]

one_last : (boxes : List ℕ) (last : List (Option ℕ)) (y : ℕ) → AreLast boxes last → AreLast (boxes ++ y ∷ []) (with_last y (length boxes) last)
one_last boxes last y lasts box = if_some (slice_get (with_last y (length boxes) last) box) (IsLastBelow (boxes ++ y ∷ []) box (length (boxes ++ y ∷ []))) (by (nat_lt y (length last)) refl)
  where
    Goal : Option ℕ → Type 0
    Goal x = IsLastBelow (boxes ++ y ∷ []) box (length (boxes ++ y ∷ [])) x

    other : (x : Option ℕ) → box ≢ y → slice_get last box ≡ Some x → Goal x
    other x ne at = longer boxes y box x ne (subst (λ (o : Option (Option ℕ)). IfSome o (IsLastBelow boxes box (length boxes))) at (lasts box))

    by : (b : Bool) → nat_lt y (length last) ≡ b → (x : Option ℕ) → slice_get (cond b (slice_set last y (Some (length boxes))) last) box ≡ Some x → Goal x
    by true e x at = elim (set_at last y box (Some (length boxes)) x at) [
      | inl new ↦ subst (λ (o : Option ℕ). Goal o) (sym new.0) (subst (λ k. IsLastBelow (boxes ++ y ∷ []) k (length (boxes ++ y ∷ [])) (Some (length boxes))) (sym new.1) (newest boxes y))
      | inr old ↦ other x old.0 old.1
    ]
    by false e x at = let inside : box < length last = slice_get_within last box x at in other x (λ same. grind (arith, e)) at

same_count : (y n : ℕ) (last : List (Option ℕ)) → length (with_last y n last) ≡ length last
same_count y n last = by (nat_lt y (length last))
  where
    by : (b : Bool) → length (cond b (slice_set last y (Some n)) last) ≡ length last
    by true = length-set last y (Some n)
    by false = refl

-- ---- mails

boxes_more : (sent : List Sent) (s : Sent) → boxes_of (sent ++ s ∷ []) ≡ boxes_of sent ++ box_of s.to ∷ []
boxes_more sent s = map-append (λ (t : Sent). box_of t.to) sent (s ∷ [])

pub length_boxes : (sent : List Sent) → length (boxes_of sent) ≡ length sent
length_boxes [] = refl
length_boxes (s ∷ sent) = ap suc (length_boxes sent)

kept_put : (sent : List Sent) (before last : List (Option ℕ)) (s : Sent) → AreKept sent before last → AreKept (sent ++ s ∷ []) (before ++ last_in (slice_get last (box_of s.to)) ∷ []) (with_last (box_of s.to) (length sent) last)
kept_put sent before last s k = record {
  linked = subst (λ n. AreLinked n (boxes_of (sent ++ s ∷ [])) (before ++ b ∷ [])) (sym (same_count y (length sent) last)) (subst (λ (bs : List ℕ). AreLinked (length last) bs (before ++ b ∷ [])) (sym (boxes_more sent s)) (one_linked (length last) (boxes_of sent) before y b k.linked (λ few. last_is (boxes_of sent) last y k.lasts few)));
  lasts = subst (λ (bs : List ℕ). AreLast bs (with_last y (length sent) last)) (sym (boxes_more sent s)) (subst (λ n. AreLast (boxes_of sent ++ y ∷ []) (with_last y n last)) (length_boxes sent) (one_last (boxes_of sent) last y k.lasts));
}
  where
    y : ℕ
    y = box_of s.to

    b : Option ℕ
    b = last_in (slice_get last y)

pub kept_after_put : (sent new_sent : List Sent) (before new_before last new_last : List (Option ℕ)) (s : Sent) (b : Option ℕ) (n y : ℕ) → AreKept sent before last → new_sent ≡ sent ++ s ∷ [] → new_before ≡ before ++ b ∷ [] → b ≡ last_in (slice_get last y) → y ≡ box_of s.to → new_last ≡ with_last y n last → n ≡ length sent → AreKept new_sent new_before new_last
kept_after_put sent new_sent before new_before last new_last s b n y k es eb link box el count =
    let kept = kept_put sent before last s k in
    let same_link : b ≡ last_in (slice_get last (box_of s.to)) = link ∙ ap (λ z. last_in (slice_get last z)) box in
    let befores : new_before ≡ before ++ last_in (slice_get last (box_of s.to)) ∷ [] = eb ∙ ap (λ (o : Option ℕ). before ++ o ∷ []) same_link in
    let lasts : new_last ≡ with_last (box_of s.to) (length sent) last = el ∙ ap (λ z. with_last z n last) box ∙ ap (λ z. with_last (box_of s.to) z last) count in
    subst (λ (xs : List Sent). AreKept xs new_before new_last) (sym es) (subst (λ (xs : List (Option ℕ)). AreKept (sent ++ s ∷ []) xs new_last) (sym befores) (subst (λ (xs : List (Option ℕ)). AreKept (sent ++ s ∷ []) (before ++ last_in (slice_get last (box_of s.to)) ∷ []) xs) (sym lasts) kept))

boxes_received : (n : ℕ) (sent : List Sent) → boxes_of (with_received n sent) ≡ boxes_of sent
boxes_received n sent = by (slice_get sent n) refl
  where
    by : (o : Option Sent) → slice_get sent n ≡ o → boxes_of (received_once o n sent) ≡ boxes_of sent
    by None e = refl
    by (Some s) e = map-set_same (λ (t : Sent). box_of t.to) sent n (record s { received = s.received + 1 }) s (ap (λ (t : Sent). box_of t.to) (sym (get_or_from_slice_get sent n s s e)))

pub kept_received : (sent : List Sent) (before last : List (Option ℕ)) (n : ℕ) → AreKept sent before last → AreKept (with_received n sent) before last
kept_received sent before last n k = record {
  linked = subst (λ (bs : List ℕ). AreLinked (length last) bs before) (sym (boxes_received n sent)) k.linked;
  lasts = subst (λ (bs : List ℕ). AreLast bs last) (sym (boxes_received n sent)) k.lasts;
}

-- no mails, and boxes with nothing in them
kept_none : (last : List (Option ℕ)) → ((box : ℕ) → IfSome (slice_get last box) (λ o. o ≡ None)) → AreKept [] [] last
kept_none last empty = record {
  linked = record {
    each = λ n box few there. tt;
    long = refl;
  };
  lasts = λ box. each_some (slice_get last box) (λ o. o ≡ None) (IsLastBelow [] box 0) (empty box) (λ o e. subst (λ (p : Option ℕ). IsLastBelow [] box 0 p) (sym e) (λ n lt there. absurd (omega arith)));
}

none_in : (count box : ℕ) → IfSome (slice_get (empty_boxes count) box) (λ o. o ≡ None)
none_in count box = if_some (slice_get (empty_boxes count) box) (λ o. o ≡ None) (by count)
  where
    by : (count : ℕ) → (x : Option ℕ) → slice_get (empty_boxes count) box ≡ Some x → x ≡ None
    by zero x e = let k : None ≡ Some x = e in cc
    by (suc count) x e = elim (append_at (empty_boxes count) None x box e) [
      | inl new ↦ new.1
      | inr old ↦ by count x old
    ]

pub kept_at_first : (sent : List Sent) (before last : List (Option ℕ)) (count : ℕ) → sent ≡ [] → before ≡ [] → last ≡ empty_boxes count → AreKept sent before last
kept_at_first sent before last count no_sent no_before empty =
    subst (λ (xs : List Sent). AreKept xs before last) (sym no_sent) (subst (λ (xs : List (Option ℕ)). AreKept [] xs last) (sym no_before) (subst (λ (xs : List (Option ℕ)). AreKept [] [] xs) (sym empty) (kept_none (empty_boxes count) (none_in count))))

pub count_empty : (count : ℕ) → length (empty_boxes count) ≡ count
count_empty zero = refl
count_empty (suc count) = length-append (empty_boxes count) (None ∷ []) ∙ ap (λ n. n + 1) (count_empty count) ∙ add-one count
