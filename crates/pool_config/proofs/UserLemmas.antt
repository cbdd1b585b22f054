-- How a table's entries show its users.
use Rattle.std.proofs.Common.{◌≡◌, ℕ, Bool, true, false, cond, List, [], ◌∷◌, ◌++◌, append_assoc, refl, ap, sym, ◌∙◌, String, string_bytes}
use Rattle.std.specs.Str.{bytes_eq}
use Rattle.std.specs.String.{string_eq}
use Rattle.indexmap.specs.IndexMap.{insert_entry}
use Rattle.ad_value.specs.declared.user_number.UserNumber.{UserNumber}
use Rattle.pool_config.specs.Settings.{with_user}
use Rattle.pool_config.specs.Users.{users_of}

module _ {A : Type 0} where
  pub users-insert_entry : (es : List (String A × ℕ)) (k : String A) (v : ℕ) → users_of (insert_entry string_eq es k v) ≡ with_user (string_bytes k) v (users_of es)
  users-insert_entry [] k v = refl
  users-insert_entry (e ∷ es) k v = by (bytes_eq (string_bytes k) (string_bytes e.0)) (users-insert_entry es k v)
    where
      by : (b : Bool) → users_of (insert_entry string_eq es k v) ≡ with_user (string_bytes k) v (users_of es) → users_of (cond b ((e.0, v) ∷ es) (e ∷ insert_entry string_eq es k v)) ≡ cond b (record { user = string_bytes e.0; number = v } ∷ users_of es) (record { user = string_bytes e.0; number = e.1 } ∷ with_user (string_bytes k) v (users_of es))
      by true rest = refl
      by false rest = ap (λ (l : List UserNumber). record { user = string_bytes e.0; number = e.1 } ∷ l) rest

  -- one user more is listed
  pub listed_more : (done new all : List UserNumber) (left more : List (String A × ℕ)) (k : String A) (n : ℕ) (name : List ℕ) → left ≡ (k, n) ∷ more → name ≡ string_bytes k → new ≡ done ++ record { user = name; number = n } ∷ [] → done ++ users_of left ≡ all → new ++ users_of more ≡ all
  listed_more done new all left more k n name here is put whole =
      ap (λ l. l ++ users_of more) (put ∙ ap (λ (x : List ℕ). done ++ record { user = x; number = n } ∷ []) is)
      ∙ append_assoc done (record { user = string_bytes k; number = n } ∷ []) (users_of more) ∙ ap (λ l. done ++ users_of l) (sym here) ∙ whole
