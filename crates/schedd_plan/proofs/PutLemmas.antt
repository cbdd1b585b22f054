-- Operations that are put at the end of a transaction, one call after another.
use Rattle.std.proofs.Common.{◌≡◌, ◌∙◌, ℕ, List, [], ◌∷◌, ◌++◌, Result, Ok, Err, IfOk, ap, append_assoc}
use Rattle.ad_tree.specs.Tree.{Tree}
use Rattle.queue_tx.specs.declared.key.Key.{Key}
use Rattle.queue_tx.specs.Operations.{Operation, set_attr}

pub put_more : (old mid new xs ys : List Operation) → mid ≡ old ++ xs → new ≡ mid ++ ys → new ≡ old ++ (xs ++ ys)
put_more old mid new xs ys before more = more ∙ ap (λ zs. zs ++ ys) before ∙ append_assoc old xs ys

-- the last call's result is what is handed on
pub put_last : {T E : Type 0} (r : Result T E) (old mid new xs ys : List Operation) → mid ≡ old ++ xs → IfOk r (λ v. new ≡ mid ++ ys) → IfOk r (λ v. new ≡ old ++ (xs ++ ys))
put_last (Ok v) old mid new xs ys before more = put_more old mid new xs ys before more
put_last (Err e) old mid new xs ys before more = tt

-- ---- an attribute is set to an expression, whose tree is known
pub set_more : (old mid new xs : List Operation) (key : Key) (name : List ℕ) (e t : Tree) → e ≡ t → mid ≡ old ++ xs → new ≡ mid ++ set_attr key name e ∷ [] → new ≡ old ++ (xs ++ set_attr key name t ∷ [])
set_more old mid new xs key name e t is before more = put_more old mid new xs (set_attr key name t ∷ []) before (more ∙ ap (λ u. mid ++ set_attr key name u ∷ []) is)

pub set_last : {T E : Type 0} (r : Result T E) (old mid new xs : List Operation) (key : Key) (name : List ℕ) (e t : Tree) → e ≡ t → mid ≡ old ++ xs → IfOk r (λ v. new ≡ mid ++ set_attr key name e ∷ []) → IfOk r (λ v. new ≡ old ++ (xs ++ set_attr key name t ∷ []))
set_last (Ok v) old mid new xs key name e t is before more = set_more old mid new xs key name e t is before more
set_last (Err f) old mid new xs key name e t is before more = tt

-- two of them
pub set_both : {T E : Type 0} (r : Result T E) (old mid new : List Operation) (key : Key) (name other : List ℕ) (d e t u : Tree) → d ≡ t → e ≡ u → mid ≡ old ++ set_attr key name d ∷ [] → IfOk r (λ v. new ≡ mid ++ set_attr key other e ∷ [])
    → IfOk r (λ v. new ≡ old ++ set_attr key name t ∷ set_attr key other u ∷ [])
set_both r old mid new key name other d e t u first second before more = set_last r old mid new (set_attr key name t ∷ []) key other e u second (before ∙ ap (λ s. old ++ set_attr key name s ∷ []) first) more
