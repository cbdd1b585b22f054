use Rattle.std.proofs.Common.{◌∙◌, ap, codes, [], unwrap_or}
use Rattle.std.proofs.lemmas.Result.{IfOk-weaker}
use Rattle.clap.specs.Words.{found_of}
use Rattle.clap.proofs.WalkLemmas.{raw_values-rows}
use Rattle.pool_input.specs.Words.{file_names}
use Rattle.pool_input.proofs.words.submits_in.Goals as goal

pub returns-in-Some : goal.returns-in-Some
returns-in-Some c =
    let is = c.in-Some.ensures ∙ raw_values-rows (found_of c.args.run.now) (codes "SUBMIT") in
    IfOk-weaker c.to_vec.result _ _ (λ v h. ap file_names (h (λ x y e. e)) ∙ ap (λ o. unwrap_or o []) is) c.to_vec.ensures.items_if_clones_equal

pub returns-in-None : goal.returns-in-None
returns-in-None c =
    let is = c.in-None.ensures ∙ raw_values-rows (found_of c.args.run.now) (codes "SUBMIT") in
    ap file_names c.new.ensures.items ∙ ap (λ o. unwrap_or o []) is
