use Rattle.std.proofs.Common.{ap, sym, inl, inr}
use Rattle.ad_tree.proofs.TreeLemmas.{tree_choice, tree_or_else}
use Rattle.ad_parse.specs.Canon.{looseness}
use Rattle.ad_parse.proofs.levels.looseness.Goals as goal

pub returns-in-Cond : goal.returns-in-Cond
returns-in-Cond c =
    elim c.in-Cond.is [ inl w ↦ ap looseness (sym (tree_choice _ w.0 w.1 w.2 w.3)) | inr w ↦ ap looseness (sym (tree_or_else _ w.0 w.1 w.2)) ]
