-- Members of lists.
use Rattle.std.proofs.Common.{◌≡◌, ℕ, zero, suc, ◌<◌, List, [], ◌∷◌, length, get_or, refl, ap, sym, arith, subst, inl, inr}
use Rattle.std.specs.Prelude.{◌⊎◌, Contains}
use Rattle.std.specs.List.{AllZip}

abbrev pub IsIn : {A : Type 0} → A → List A → Type 0
IsIn x [] = ⊥
IsIn x (y ∷ ys) = (x ≡ y) ⊎ IsIn x ys

-- a list from which its first was taken
pub one_fewer : {A : Type 0} (xs rest : List A) (x : A) → xs ≡ x ∷ rest → length rest < length xs
one_fewer xs rest x e = omega (arith, ap length e)

found_in : {A : Type 0} (x : A) (xs : List A) (i : ℕ) → i < length xs → get_or xs i x ≡ x → IsIn x xs
found_in x [] i l e = absurd (omega arith)
found_in x (y ∷ ys) zero l e = inl (sym e)
found_in x (y ∷ ys) (suc i) l e = inr (found_in x ys i (omega arith) e)

pub contains_in : {A : Type 0} (x : A) (xs : List A) → Contains xs x → IsIn x xs
contains_in x xs c = found_in x xs c.0 c.1 c.2

pub in_contains : {A : Type 0} (x : A) (xs : List A) → IsIn x xs → Contains xs x
in_contains x [] h = absurd h
in_contains x (y ∷ ys) (inl e) = (0, (let k : 0 < length (y ∷ ys) = omega arith in k), sym e)
in_contains x (y ∷ ys) (inr h) = let p = in_contains x ys h in let l = p.1 in (suc p.0, (let k : suc p.0 < length (y ∷ ys) = omega arith in k), p.2)

pub zip_along : {A B : Type 0} (R : A → B → Type 0) (xs : List A) (ys : List B) (x : A) → AllZip R xs ys → IsIn x xs → (y : B) × IsIn y ys × R x y
zip_along R [] ys x z h = absurd h
zip_along R (a ∷ xs) [] x z h = absurd z
zip_along R (a ∷ xs) (b ∷ ys) x z (inl e) = (b, inl refl, subst (λ w. R w b) (sym e) z.0)
zip_along R (a ∷ xs) (b ∷ ys) x z (inr h) = let p = zip_along R xs ys x z.1 h in (p.0, inr p.1, p.2)

pub zip_back : {A B : Type 0} (R : A → B → Type 0) (xs : List A) (ys : List B) (y : B) → AllZip R xs ys → IsIn y ys → (x : A) × IsIn x xs × R x y
zip_back R [] [] y z h = absurd h
zip_back R [] (b ∷ ys) y z h = absurd z
zip_back R (a ∷ xs) [] y z h = absurd h
zip_back R (a ∷ xs) (b ∷ ys) y z (inl e) = (a, inl refl, subst (λ w. R a w) (sym e) z.0)
zip_back R (a ∷ xs) (b ∷ ys) y z (inr h) = let p = zip_back R xs ys y z.1 h in (p.0, inr p.1, p.2)
