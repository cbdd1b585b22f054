-- Users as a list: what a change leaves, and how the entries of a table show them.
use Rattle.std.proofs.Common.{◌≡◌, ◌≢◌, ℕ, zero, suc, ◌≤◌, Bool, true, false, cond, List, [], ◌∷◌, length, map, Option, Some, None, slice_get, refl, ap, sym, subst, arith, String, string_bytes, All, IfSome}
use Rattle.std.specs.Prelude.{bytes_eq, unwrap_or}
use Rattle.std.specs.String.{string_eq}
use Rattle.std.specs.Map as table
use Rattle.std.proofs.lemmas.List.Elements.{All-cons, All-nil, All-head, All-tail}
use Rattle.indexmap.specs.IndexMap.{insert_entry, set_value_at}
use Rattle.matchmaker.specs.declared.standing.Standing.{Standing}
use Rattle.matchmaker.specs.declared.accountant.TheConstants.{MAX_USERS}
use Rattle.matchmaker.specs.Accounts.{Users, lookup, with_standing, standing_after, IsStanding, AreUsers, IsFullFor}
use Rattle.matchmaker.specs.Tables.{named_users, entry_after}
use Rattle.matchmaker.proofs.Ticks.{within}

module _ {A : Type 0} where
  pub lookup-named : (x : List ℕ) (es : List (String A × Standing)) → lookup x (named_users es) ≡ table.lookup (λ k. bytes_eq x (string_bytes k)) es
  lookup-named x [] = refl
  lookup-named x (e ∷ es) = ap (λ o. cond (bytes_eq x (string_bytes e.0)) (Some e.1) o) (lookup-named x es)

  pub named-insert_entry : (es : List (String A × Standing)) (k : String A) (s : Standing) → named_users (insert_entry string_eq es k s) ≡ with_standing (string_bytes k) s (named_users es)
  named-insert_entry [] k s = refl
  named-insert_entry (e ∷ es) k s = by (bytes_eq (string_bytes k) (string_bytes e.0)) (named-insert_entry es k s)
    where
      by : (b : Bool) → named_users (insert_entry string_eq es k s) ≡ with_standing (string_bytes k) s (named_users es) → named_users (cond b ((e.0, s) ∷ es) (e ∷ insert_entry string_eq es k s)) ≡ cond b ((string_bytes e.0, s) ∷ named_users es) ((string_bytes e.0, e.1) ∷ with_standing (string_bytes k) s (named_users es))
      by true rest = refl
      by false rest = ap (λ l. (string_bytes e.0, e.1) ∷ l) rest

  -- a write at the key of a name
  pub named-set_value : (x : List ℕ) (s : Standing) (es : List (String A × Standing)) (o : Standing) → lookup x (named_users es) ≡ Some o → named_users (table.set_value (λ k. bytes_eq x (string_bytes k)) es s) ≡ with_standing x s (named_users es)
  named-set_value x s [] o h = cc
  named-set_value x s (e ∷ es) o h = by (bytes_eq x (string_bytes e.0)) (named-set_value x s es o) h
    where
      by : (b : Bool) → (lookup x (named_users es) ≡ Some o → named_users (table.set_value (λ k. bytes_eq x (string_bytes k)) es s) ≡ with_standing x s (named_users es)) → cond b (Some e.1) (lookup x (named_users es)) ≡ Some o → named_users (cond b ((e.0, s) ∷ es) (e ∷ table.set_value (λ k. bytes_eq x (string_bytes k)) es s)) ≡ cond b ((string_bytes e.0, s) ∷ named_users es) ((string_bytes e.0, e.1) ∷ with_standing x s (named_users es))
      by true rest h = refl
      by false rest h = ap (λ l. (string_bytes e.0, e.1) ∷ l) (rest h)

  -- the first so many entries so many ticks later
  unfoldable pub later_upto : ℕ → ℕ → List (String A × Standing) → List (String A × Standing)
  later_upto ticks zero es = es
  later_upto ticks (suc i) [] = []
  later_upto ticks (suc i) (e ∷ es) = entry_after ticks e ∷ later_upto ticks i es

  pub later-all : (ticks : ℕ) (es : List (String A × Standing)) → later_upto ticks (length es) es ≡ map (entry_after ticks) es
  unfolding later_upto
  later-all ticks [] = refl
  later-all ticks (e ∷ es) = ap (λ l. entry_after ticks e ∷ l) (later-all ticks es)

  pub later-length : (ticks i : ℕ) (es : List (String A × Standing)) → length (later_upto ticks i es) ≡ length es
  unfolding later_upto
  later-length ticks zero es = refl
  later-length ticks (suc i) [] = refl
  later-length ticks (suc i) (e ∷ es) = ap suc (later-length ticks i es)

  -- the next one
  pub later-next : (ticks i : ℕ) (es : List (String A × Standing)) (s : Standing) → slice_get (map (λ e. e.1) (later_upto ticks i es)) i ≡ Some s → set_value_at (later_upto ticks i es) i (standing_after ticks s) ≡ later_upto ticks (suc i) es
  unfolding later_upto
  later-next ticks zero [] s h = refl
  later-next ticks zero (e ∷ es) s h = ap (λ o. (e.0, standing_after ticks (unwrap_or o s)) ∷ es) (sym h)
  later-next ticks (suc i) [] s h = refl
  later-next ticks (suc i) (e ∷ es) s h = ap (λ l. entry_after ticks e ∷ l) (later-next ticks i es s h)

-- ---- what a change keeps

pub standing_later : (ticks : ℕ) (s : Standing) → IsStanding s → IsStanding (standing_after ticks s)
standing_later ticks s h =
    let w = within ticks s.in_use s.real h.slots h.best h.worst in
    record { best = w.0; worst = w.1; slots = h.slots; least = h.least; most = h.most }

pub standing_found : (x : List ℕ) (us : Users) → All (λ u. IsStanding u.1) us → IfSome (lookup x us) IsStanding
standing_found x [] all = tt
standing_found x (u ∷ us) all = by (bytes_eq x u.0) (standing_found x us (All-tail (λ (w : List ℕ × Standing). IsStanding w.1) u us all))
  where
    by : (b : Bool) → IfSome (lookup x us) IsStanding → IfSome (cond b (Some u.1) (lookup x us)) IsStanding
    by true rest = All-head (λ (w : List ℕ × Standing). IsStanding w.1) u us all
    by false rest = rest

pub standings_kept : (x : List ℕ) (s : Standing) (us : Users) → IsStanding s → All (λ u. IsStanding u.1) us → All (λ u. IsStanding u.1) (with_standing x s us)
standings_kept x s [] new all = All-cons (λ (w : List ℕ × Standing). IsStanding w.1) (x, s) [] new all
standings_kept x s (u ∷ us) new all = by (bytes_eq x u.0) (standings_kept x s us new (All-tail (λ (w : List ℕ × Standing). IsStanding w.1) u us all))
  where
    by : (b : Bool) → All (λ u. IsStanding u.1) (with_standing x s us) → All (λ u. IsStanding u.1) (cond b ((u.0, s) ∷ us) (u ∷ with_standing x s us))
    by true rest = All-cons (λ (w : List ℕ × Standing). IsStanding w.1) (u.0, s) us new (All-tail (λ (w : List ℕ × Standing). IsStanding w.1) u us all)
    by false rest = All-cons (λ (w : List ℕ × Standing). IsStanding w.1) u (with_standing x s us) (All-head (λ (w : List ℕ × Standing). IsStanding w.1) u us all) rest

-- a user who is known makes the list no longer, and a new one makes it longer by one
pub length-known : (x : List ℕ) (s : Standing) (us : Users) (o : Standing) → lookup x us ≡ Some o → length (with_standing x s us) ≡ length us
length-known x s [] o h = cc
length-known x s (u ∷ us) o h = by (bytes_eq x u.0) (length-known x s us o) h
  where
    by : (b : Bool) → (lookup x us ≡ Some o → length (with_standing x s us) ≡ length us) → cond b (Some u.1) (lookup x us) ≡ Some o → length (cond b ((u.0, s) ∷ us) (u ∷ with_standing x s us)) ≡ suc (length us)
    by true rest h = refl
    by false rest h = ap suc (rest h)

pub length-at_most : (x : List ℕ) (s : Standing) (us : Users) → length (with_standing x s us) ≤ suc (length us)
length-at_most x s [] = omega arith
length-at_most x s (u ∷ us) = by (bytes_eq x u.0) (length-at_most x s us)
  where
    by : (b : Bool) → length (with_standing x s us) ≤ suc (length us) → length (cond b ((u.0, s) ∷ us) (u ∷ with_standing x s us)) ≤ suc (suc (length us))
    by true rest = omega arith
    by false rest = omega arith

module _ {A : Type 0} where
  pub later-value : (ticks i : ℕ) (es : List (String A × Standing)) → slice_get (map (λ e. e.1) (later_upto ticks i es)) i ≡ slice_get (map (λ e. e.1) es) i
  unfolding later_upto
  later-value ticks zero es = refl
  later-value ticks (suc i) [] = refl
  later-value ticks (suc i) (e ∷ es) = later-value ticks i es

  pub standing_at : (es : List (String A × Standing)) (i : ℕ) (s : Standing) → All (λ u. IsStanding u.1) (named_users es) → slice_get (map (λ e. e.1) es) i ≡ Some s → IsStanding s
  standing_at [] i s all h = cc
  standing_at (e ∷ es) zero s all h = subst IsStanding (ap (λ o. unwrap_or o s) h) (All-head (λ (w : List ℕ × Standing). IsStanding w.1) (string_bytes e.0, e.1) (named_users es) all)
  standing_at (e ∷ es) (suc i) s all h = standing_at es i s (All-tail (λ (w : List ℕ × Standing). IsStanding w.1) (string_bytes e.0, e.1) (named_users es) all) h

  pub length-named : (es : List (String A × Standing)) → length (named_users es) ≡ length es
  length-named [] = refl
  length-named (e ∷ es) = ap suc (length-named es)

  pub named-later : (ticks : ℕ) (es : List (String A × Standing)) → named_users (map (entry_after ticks) es) ≡ map (entry_after ticks) (named_users es)
  named-later ticks [] = refl
  named-later ticks (e ∷ es) = ap (λ l. entry_after ticks (string_bytes e.0, e.1) ∷ l) (named-later ticks es)

pub standings_later : (ticks : ℕ) (us : Users) → All (λ u. IsStanding u.1) us → All (λ u. IsStanding u.1) (map (entry_after ticks) us)
standings_later ticks [] all = All-nil (λ (w : List ℕ × Standing). IsStanding w.1)
standings_later ticks (u ∷ us) all =
    let P : List ℕ × Standing → Type 0 = λ w. IsStanding w.1 in
    All-cons P (entry_after ticks u) (map (entry_after ticks) us) (standing_later ticks u.1 (All-head P u us all)) (standings_later ticks us (All-tail P u us all))

pub length-later : (ticks : ℕ) (us : Users) → length (map (entry_after ticks) us) ≡ length us
length-later ticks [] = refl
length-later ticks (u ∷ us) = ap suc (length-later ticks us)

pub users_later : (ticks : ℕ) (us : Users) → AreUsers us → AreUsers (map (entry_after ticks) us)
users_later ticks us h = (standings_later ticks us h.0, rw (length-later ticks us) h.1)

-- a user stands so who is known, or for whom there is room
pub users_with : (x : List ℕ) (s : Standing) (us : Users) → IsStanding s → AreUsers us → (IsFullFor x us → ⊥) → AreUsers (with_standing x s us)
users_with x s us new h room = (standings_kept x s us new h.0, by (lookup x us) refl)
  where
    by : (o : Option Standing) → lookup x us ≡ o → length (with_standing x s us) ≤ MAX_USERS
    by (Some o) known = rw (length-known x s us o known) h.1
    by None unknown =
        let few : length us ≢ MAX_USERS = λ full. room (unknown, full) in
        let more = length-at_most x s us in
        let within = h.1 in
        omega arith
