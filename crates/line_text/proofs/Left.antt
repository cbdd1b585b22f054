-- What an iterator gives next, and what is left of it.
use Rattle.std.proofs.Common.{◌≡◌, List, [], ◌∷◌, Option, Some, None, refl, sym, ap}
use Rattle.std.proofs.lemmas.Iterator.{YieldsList}

module _ {S A B : Type 0} {steps : S → Option A → S → Type 0} {v : A → B} (s t : S) where
  pub next_left : (x : A) (ys : List B) → YieldsList steps v s ys → steps s (Some x) t → (more : List B) × (ys ≡ v x ∷ more) × YieldsList steps v t more
  next_left x [] gives step = absurd (gives.runs x t step)
  next_left x (y ∷ ys) gives step = let h = gives.runs.1 x t step in (ys, ap (λ z. z ∷ ys) (sym h.0), record { runs = h.1 })

  pub none_left : (ys : List B) → YieldsList steps v s ys → steps s None t → ys ≡ []
  none_left [] gives step = refl
  none_left (y ∷ ys) gives step = absurd (gives.runs.0 t step)
