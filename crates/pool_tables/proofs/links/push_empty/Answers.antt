use Rattle.std.proofs.Common.{None, [], ◌∷◌, ◌++◌, List, ℕ, Option, sym, ap, ◌∙◌, add-one}
use Rattle.pool_tables.specs.Links.{empty_boxes}
use Rattle.pool_tables.proofs.links.push_empty.Goals as goal

pub returns : goal.returns
returns c = λ old. c.in_ok-push.ensures.items ∙ ap (λ (xs : List (Option ℕ)). xs ++ None ∷ []) old ∙ ap empty_boxes (sym (add-one c.args.place))
