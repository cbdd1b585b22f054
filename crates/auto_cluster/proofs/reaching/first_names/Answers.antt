use Rattle.std.proofs.Common.{ℕ, List, [], ◌∷◌, ◌++◌, ap, ◌∙◌}
use Rattle.auto_cluster.proofs.reaching.first_names.Goals as goal

pub returns : goal.returns
returns c =
    c.in_ok-push-2.ensures.items
    ∙ ap (λ (xs : List (List ℕ)). xs ++ c.in_ok-rank.rank ∷ []) (c.in_ok-push.ensures.items ∙ ap (λ (xs : List (List ℕ)). xs ++ c.in_ok-requirements.requirements ∷ []) c.in_ok-names.ensures.items)
    ∙ (λ i. c.in_ok-requirements.ensures i ∷ c.in_ok-rank.ensures i ∷ [])
