use Rattle.std.proofs.Common.{◌≡◌, ◌∙◌, ℕ, List, Ok, Some, refl, ap, sym, rules}
use Rattle.ad_value.specs.Content.{content, text}
use Rattle.ad_value.specs.declared.value.Value.{the_lemmas}
use Rattle.ad_value.specs.declared.value.Value.TheVariants.{Str}
use Rattle.ad_tree.specs.declared.tree.Expr.TheVariants.{Lit}
use Rattle.ad_tree.specs.Tree.{tree, literal}
use Rattle.ad_tree.proofs.TreeLemmas.{tree_literal}
use Rattle.submit_file.specs.Origins.{origin_of, preset_for}
use Rattle.submit_file.proofs.source.Source.preset.Goals as goal

-- the tree of a string
string_tree : (x : List ℕ) → tree (Lit (Str x)) ≡ literal (text x)
string_tree x =
    let says : content (Str x) ≡ text x = search (rules, the_lemmas) in
    tree_literal (Lit (Str x)) (Str x) refl ∙ ap literal says

pub returns-in_ok-from_str-in-Owner : goal.returns-in_ok-from_str-in-Owner
returns-in_ok-from_str-in-Owner c =
    let x = c.in_ok-from_str-in-Owner.field-0 in
    ap (λ s. preset_for c.args.owner.now (origin_of s)) c.in-Owner.is
    ∙ ap (λ t. Ok (Some t)) (ap (λ x. literal (text x)) (sym c.in_ok-from_str-in-Owner.ensures) ∙ sym (string_tree x))

pub returns-in-Line : goal.returns-in-Line
returns-in-Line c = ap (λ s. preset_for c.args.owner.now (origin_of s)) c.in-Line.is
