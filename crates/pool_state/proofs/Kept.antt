-- The jobs of a list that a test keeps, one by one, after others.
use Rattle.std.proofs.Common.{◌≡◌, ℕ, ◌+◌, ◌<◌, Bool, true, false, not, cond, if◌then◌else◌, List, [], ◌∷◌, ◌++◌, filter, get_or, length, take, ap, refl, sym, append_assoc, ◌∙◌}
use Rattle.std.proofs.lemmas.List.{append-nil}
use Rattle.std.proofs.lemmas.List.Elements.{filter_more}
use Rattle.claim_id.specs.declared.numbers.JobId.{JobId}

put : (b : Bool) (jobs : List JobId) (job : JobId) → (if b then jobs ++ job ∷ [] else jobs) ≡ jobs ++ cond b (job ∷ []) []
put true jobs job = refl
put false jobs job = sym (append-nil jobs)

-- one job more
pub kept_more : (p : JobId → Bool) (jobs : List JobId) (i : ℕ) (d : JobId) (before old new : List JobId)
    → i < length jobs → new ≡ (if p (get_or jobs i d) then old ++ get_or jobs i d ∷ [] else old) → old ≡ before ++ filter p (take i jobs) → new ≡ before ++ filter p (take (i + 1) jobs)
kept_more p jobs i d before old new below more so_far =
    let job = get_or jobs i d in
    more
    ∙ put (p job) old job
    ∙ ap (λ (l : List JobId). l ++ cond (p job) (job ∷ []) []) so_far
    ∙ append_assoc before (filter p (take i jobs)) (cond (p job) (job ∷ []) [])
    ∙ ap (λ (l : List JobId). before ++ l) (sym (filter_more p jobs i d below))

-- of a test that is told by its opposite
pub turned : (b : Bool) (more same : List JobId) → (if b then same else more) ≡ (if not b then more else same)
turned true more same = refl
turned false more same = refl
