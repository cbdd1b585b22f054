-- A walk over entries that stand in order of their keys: what is above each key in turn.
use Rattle.std.proofs.Common.{◌≡◌, ◌<◌, Bool, true, false, cond, List, [], ◌∷◌, filter, length, Option, Some, None, refl, ap, sym, ◌∙◌, subst, arith}
use Rattle.std.specs.Prelude.{find}
use Rattle.std.specs.declared.cmp.Ordering.{Ordering}
use Rattle.std.specs.declared.cmp.Ordering.TheVariants.{Less, Equal, Greater}
use Rattle.std.specs.Ordering.{is_lt, ordering_reverse}
use Rattle.std.specs.Cmp.{tied_itself}
use Rattle.std.specs.List.{AllByRecursion}
use Rattle.std.specs.List.Sorted.{IsStrictlySortedBy}
use Rattle.std.specs.Map.{keys_of}
use Rattle.queue_tx.specs.declared.key.Key.{Key}
use Rattle.queue_tx.specs.Keys.{key_cmp, key_cmp_total, is_above}

-- the entries that are yet to come
abbrev pub rest_of : {V : Type 0} → Option Key → List (Key × V) → List (Key × V)
rest_of last es = filter (λ e. is_above last e.0) es

pub all_at_first : {V : Type 0} (es : List (Key × V)) → rest_of None es ≡ es
all_at_first [] = refl
all_at_first (e ∷ es) = ap (λ l. e ∷ l) (all_at_first es)

less_from : (r : Ordering) → is_lt r ≡ true → r ≡ Less
less_from Less h = refl
less_from Equal h = cc
less_from Greater h = cc

-- a key is above another that is above a bound
above_both : (last : Option Key) (k n : Key) → is_above last k ≡ true → key_cmp k n ≡ Less → is_above last n ≡ true
above_both None k n h g = refl
above_both (Some l) k n h g = ap is_lt (key_cmp_total.trans l k n (less_from (key_cmp l k) h) g)

-- all that stand after one that is above a bound are above it
all_above : {V : Type 0} (last : Option Key) (k : Key) (es : List (Key × V)) → is_above last k ≡ true
    → AllByRecursion (λ n. key_cmp k n ≡ Less) (keys_of es) → rest_of last es ≡ es
all_above last k [] h all = refl
all_above last k (e ∷ es) h all =
    ap (λ b. cond b (e ∷ rest_of last es) (rest_of last es)) (above_both last k e.0 h all.0)
    ∙ ap (λ l. e ∷ l) (all_above last k es h all.1)

-- the same by the key itself
all_above_key : {V : Type 0} (k : Key) (es : List (Key × V))
    → AllByRecursion (λ n. key_cmp k n ≡ Less) (keys_of es) → rest_of (Some k) es ≡ es
all_above_key k [] all = refl
all_above_key k (e ∷ es) all =
    ap (λ b. cond b (e ∷ rest_of (Some k) es) (rest_of (Some k) es)) (ap is_lt all.0)
    ∙ ap (λ l. e ∷ l) (all_above_key k es all.1)

-- what is found is one of those
pub found_above : {V : Type 0} (last : Option Key) (k : Key) (es : List (Key × V)) (f : Key × V)
    → AllByRecursion (λ n. key_cmp k n ≡ Less) (keys_of es) → Some f ≡ find (λ e. is_above last e.0) es → key_cmp k f.0 ≡ Less
found_above {V} last k [] f all h = cc
found_above {V} last k (e ∷ es) f all h = by (is_above last e.0) h (found_above last k es f all.1)
  where
    by : (b : Bool) → Some f ≡ cond b (Some e) (find (λ e. is_above last e.0) es)
        → (Some f ≡ find (λ e. is_above last e.0) es → key_cmp k f.0 ≡ Less) → key_cmp k f.0 ≡ Less
    by true h rest = let same : f ≡ e = cc in subst (λ (x : Key × V). key_cmp k x.0 ≡ Less) (sym same) all.0
    by false h rest = rest h

not_above_itself : (k : Key) → is_above (Some k) k ≡ false
not_above_itself k = ap is_lt (tied_itself key_cmp_total k)

not_above_less : (k n : Key) → key_cmp k n ≡ Less → is_above (Some n) k ≡ false
not_above_less k n h = ap is_lt (key_cmp_total.antisymm n k ∙ ap ordering_reverse h)

-- the first that is yet to come, and then those after it
pub next_first : {V : Type 0} (last : Option Key) (es : List (Key × V)) (f : Key × V) → IsStrictlySortedBy key_cmp (keys_of es)
    → Some f ≡ find (λ e. is_above last e.0) es → rest_of last es ≡ f ∷ rest_of (Some f.0) es
unfolding IsStrictlySortedBy
next_first {V} last [] f s h = cc
next_first {V} last (e ∷ es) f s h = by (is_above last e.0) refl h (next_first last es f s.1)
  where
    by : (b : Bool) → is_above last e.0 ≡ b → Some f ≡ cond b (Some e) (find (λ e. is_above last e.0) es)
        → (Some f ≡ find (λ e. is_above last e.0) es → rest_of last es ≡ f ∷ rest_of (Some f.0) es)
        → cond b (e ∷ rest_of last es) (rest_of last es) ≡ f ∷ cond (is_above (Some f.0) e.0) (e ∷ rest_of (Some f.0) es) (rest_of (Some f.0) es)
    by true above h rest =
        let same : f ≡ e = cc in
        let its : e ∷ rest_of last es ≡ e ∷ cond (is_above (Some e.0) e.0) (e ∷ rest_of (Some e.0) es) (rest_of (Some e.0) es) =
        ap (λ l. e ∷ l) (all_above last e.0 es above s.0)
        ∙ sym (ap (λ b. e ∷ cond b (e ∷ rest_of (Some e.0) es) (rest_of (Some e.0) es)) (not_above_itself e.0)
        ∙ ap (λ l. e ∷ l) (all_above_key e.0 es s.0)) in
        subst (λ (x : Key × V). e ∷ rest_of last es ≡ x ∷ cond (is_above (Some x.0) e.0) (e ∷ rest_of (Some x.0) es) (rest_of (Some x.0) es)) (sym same) its
    by false above h rest =
        let below = found_above last e.0 es f s.0 h in
        rest h
        ∙ sym (ap (λ b. f ∷ cond b (e ∷ rest_of (Some f.0) es) (rest_of (Some f.0) es)) (not_above_less e.0 f.0 below))

-- nothing is yet to come
pub none_next : {V : Type 0} (last : Option Key) (es : List (Key × V)) → None ≡ find (λ e. is_above last e.0) es → rest_of last es ≡ []
none_next last [] h = refl
none_next last (e ∷ es) h = by (is_above last e.0) h (none_next last es)
  where
    by : (b : Bool) → None ≡ cond b (Some e) (find (λ e. is_above last e.0) es)
        → (None ≡ find (λ e. is_above last e.0) es → rest_of last es ≡ []) → cond b (e ∷ rest_of last es) (rest_of last es) ≡ []
    by true h rest = cc
    by false h rest = rest h

-- fewer are then yet to come
pub fewer_next : {V : Type 0} (last : Option Key) (es : List (Key × V)) (f : Key × V) → IsStrictlySortedBy key_cmp (keys_of es)
    → Some f ≡ find (λ e. is_above last e.0) es → length (rest_of (Some f.0) es) < length (rest_of last es)
fewer_next last es f s h = let is = ap length (next_first last es f s h) in omega arith

-- ---- by the keys alone
abbrev pub key_of_entry : {V : Type 0} → Option (Key × V) → Option Key
key_of_entry None = None
key_of_entry (Some e) = Some e.0

pub found_keys : {V : Type 0} (p : Key → Bool) (es : List (Key × V)) → find p (keys_of es) ≡ key_of_entry (find (λ e. p e.0) es)
found_keys p [] = refl
found_keys p (e ∷ es) = by (p e.0) (found_keys p es)
  where
    by : (b : Bool) → find p (keys_of es) ≡ key_of_entry (find (λ e. p e.0) es)
        → cond b (Some e.0) (find p (keys_of es)) ≡ key_of_entry (cond b (Some e) (find (λ e. p e.0) es))
    by true rest = refl
    by false rest = rest

-- a key that is found is the next one
pub record IsNextKey {V : Type 0} (last : Option Key) (es : List (Key × V)) (key : Key) : Type 0 where
  pub value : V
  pub rest : rest_of last es ≡ (key, value) ∷ rest_of (Some key) es
  pub fewer : length (rest_of (Some key) es) < length (rest_of last es)

pub next_key : {V : Type 0} (last : Option Key) (es : List (Key × V)) (key : Key) → IsStrictlySortedBy key_cmp (keys_of es)
    → Some key ≡ find (is_above last) (keys_of es) → IsNextKey last es key
next_key {V} last es key s h = by (find (λ e. is_above last e.0) es) refl
  where
    by : (found : Option (Key × V)) → find (λ e. is_above last e.0) es ≡ found → IsNextKey last es key
    by None is = let clash = h ∙ found_keys (is_above last) es ∙ ap key_of_entry is in cc
    by (Some f) is =
        let its : Some key ≡ Some f.0 = h ∙ found_keys (is_above last) es ∙ ap key_of_entry is in
        let same : f.0 ≡ key = cc in
        record {
          value = f.1;
          rest = next_first last es f s (sym is) ∙ ap (λ k. (k, f.1) ∷ rest_of (Some k) es) same;
          fewer = subst (λ k. length (rest_of (Some k) es) < length (rest_of last es)) same (fewer_next last es f s (sym is));
        }

pub no_key : {V : Type 0} (last : Option Key) (es : List (Key × V)) → None ≡ find (is_above last) (keys_of es) → rest_of last es ≡ []
no_key {V} last es h = by (find (λ e. is_above last e.0) es) refl
  where
    by : (found : Option (Key × V)) → find (λ e. is_above last e.0) es ≡ found → rest_of last es ≡ []
    by None is = none_next last es (sym is)
    by (Some f) is = let clash = h ∙ found_keys (is_above last) es ∙ ap key_of_entry is in cc
