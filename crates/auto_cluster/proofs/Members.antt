-- Members of lists, and names without case.
use Rattle.std.proofs.Common.{◌≡◌, ℕ, zero, suc, ◌<◌, Some, List, [], ◌∷◌, length, get_or, true, Bool, ap, ◌∙◌, arith}
use Rattle.std.specs.Prelude.{Contains}
use Rattle.std.specs.List.{list_any}
use Rattle.std.proofs.lemmas.Bool.{or_left, or_right}
use Rattle.ad_value.specs.Names.{same_name}
use Rattle.ad_tree.specs.NameLaws.{same_name_equivalence}

any_at : {A : Type 0} (p : A → Bool) (x : A) (xs : List A) (i : ℕ) → i < length xs → get_or xs i x ≡ x → p x ≡ true → list_any p xs ≡ true
any_at p x [] i l e t = absurd (omega arith)
any_at p x (y ∷ ys) zero l e t = or_left (p y) _ (ap p e ∙ t)
any_at p x (y ∷ ys) (suc i) l e t = or_right (p y) _ (any_at p x ys i (omega arith) e t)

pub any_of : {A : Type 0} (p : A → Bool) (xs : List A) (x : A) → Contains xs x → p x ≡ true → list_any p xs ≡ true
any_of p xs x c t = any_at p x xs c.0 c.1 c.2 t

pub name_refl : (x : List ℕ) → same_name x x ≡ true
name_refl x = same_name_equivalence.refl x

pub name_sym : (x y : List ℕ) → same_name x y ≡ same_name y x
name_sym x y = same_name_equivalence.symm x y

-- one name has no other neighbours than the other
pub name_congr : (x y z : List ℕ) → same_name x y ≡ true → same_name x z ≡ same_name y z
name_congr x y z e = same_name_equivalence.congr x y z e

pub name_trans : (x y z : List ℕ) → same_name x y ≡ true → same_name y z ≡ true → same_name x z ≡ true
name_trans x y z e f = name_congr x y z e ∙ f

pub some_is : {A : Type 0} {a b : A} → Some a ≡ Some b → a ≡ b
some_is e = cc
