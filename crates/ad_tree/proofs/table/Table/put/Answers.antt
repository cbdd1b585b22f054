-- What is left of the table is a table again.
use Rattle.std.proofs.Common.{◌≡◌, ◌≤◌, ap, sym, ◌∙◌, subst, length, arith, None}
use Rattle.ad_tree.specs.Ad.{named_trees, lookup, with_attribute, AreDistinct}
use Rattle.ad_tree.specs.Tree.{tree}
use Rattle.ad_tree.proofs.AdLemmas.{AreDistinct-with_attribute, length-with_attribute-within}
use Rattle.ad_tree.proofs.table.Table.put.Goals as goal

pub invariant_of-self : goal.invariant_of-self
invariant_of-self c = (
  subst (λ es. AreDistinct (named_trees es)) (sym c.in_err-put_entry.ensures.err) c.self.invariant.0,
  omega (arith, ap (λ es. length (named_trees es)) c.in_err-put_entry.ensures.err, c.self.invariant.1),
)

pub invariant_of-self-2 : goal.invariant_of-self-2
invariant_of-self-2 c =
    let name = c.args.name.now in
    let old = c.self.inside.attributes.entries in
    let new = c.put_entry.new.attributes.entries in
    let put : named_trees new ≡ with_attribute name (tree c.args.expr) (named_trees old) = c.in_ok-put_entry.ensures.ok in
    let room : (lookup name (named_trees old) ≡ None) × (length (named_trees old) ≡ 256) → ⊥ =
    λ h. c.requires.room (sym (ap (lookup name) c.self.view_is) ∙ h.0, sym (ap length c.self.view_is) ∙ h.1) in
    let within : length (named_trees old) ≤ 256 = c.self.invariant.1 in (
      subst AreDistinct (sym put) (AreDistinct-with_attribute name (tree c.args.expr) (named_trees old) c.self.invariant.0),
      omega (arith, ap length put, length-with_attribute-within name (tree c.args.expr) (named_trees old) room within),
    )
