-- Links of an expression, from those of its parts.
use Rattle.std.proofs.Common.{◌≡◌, ℕ, Box, Global, List, Result, Ok, Err, OnOk, ap, sym, ◌∙◌, subst}
use Rattle.ad_value.specs.Names.{same_name}
use Rattle.ad_tree.specs.declared.operator.Scope.{Scope}
use Rattle.ad_tree.specs.declared.operator.UnOp.{UnOp}
use Rattle.ad_tree.specs.declared.tree.Expr.{Expr}
use Rattle.ad_tree.specs.declared.tree.Expr.TheVariants.{Ref, Unary, Chain, Cond, OrElse, Call, Items}
use Rattle.ad_tree.specs.declared.tree.ExprList.{ExprList}
use Rattle.ad_tree.specs.declared.tree.RestList.{RestList}
use Rattle.ad_tree.specs.Tree.{Tree, reference, unary, chain, choice, or_else, call, items, tree, trees, trees_of, rests, rests_of}
use Rattle.ad_tree.proofs.TreeLemmas.{tree_reference, tree_unary, tree_chain, tree_choice, tree_or_else, tree_call, tree_items}
use Rattle.auto_cluster.specs.declared.links.Link.{Link}
use Rattle.auto_cluster.specs.Links.{HasAlso}
use Rattle.auto_cluster.specs.Significant.{refers_to, trees_refer_to, rests_refer_to}
use Rattle.auto_cluster.proofs.LinkLemmas.{also_both, also_three}

on_ok : {T E P Q : Type 0} (r : Result T E) → (P → Q) → OnOk r P → OnOk r Q
on_ok (Ok x) f h = f h
on_ok (Err e) f h = tt

as_tree : {T E : Type 0} (r : Result T E) (old new : List Link) (n : List ℕ) (e : Expr) (t : Tree) → tree e ≡ t → OnOk r (HasAlso old new n (refers_to t)) → OnOk r (HasAlso old new n (refers_to (tree e)))
as_tree r old new n e t is h = subst (λ (s : Tree). OnOk r (HasAlso old new n (refers_to s))) (sym is) h

pub refers_reference : {T E : Type 0} (r : Result T E) (old new : List Link) (n : List ℕ) (e : Expr) (s : Scope) (x to : List ℕ) → e ≡ Ref s x → to ≡ x
    → OnOk r (HasAlso old new n (λ y. same_name y to)) → OnOk r (HasAlso old new n (refers_to (tree e)))
refers_reference r old new n e s x to is at h = as_tree r old new n e (reference s to) (tree_reference e s x is ∙ ap (reference s) (sym at)) h

pub refers_unary : {T E : Type 0} (r : Result T E) (old new : List Link) (n : List ℕ) (e : Expr) (op : UnOp) (a : Box Expr Global) (x : Expr) → e ≡ Unary op a → x ≡ a.value
    → OnOk r (HasAlso old new n (refers_to (tree x))) → OnOk r (HasAlso old new n (refers_to (tree e)))
refers_unary r old new n e op a x is at h = as_tree r old new n e (unary op (tree x)) (tree_unary e op a is ∙ ap (λ x. unary op (tree x)) (sym at)) h

pub refers_chain : {T E : Type 0} (r : Result T E) (old mid new : List Link) (n : List ℕ) (e : Expr) (a : Box Expr Global) (l : RestList) (x : Expr) → e ≡ Chain a l → x ≡ a.value
    → HasAlso old mid n (refers_to (tree x)) → OnOk r (HasAlso mid new n (rests_refer_to (rests_of (rests l)))) → OnOk r (HasAlso old new n (refers_to (tree e)))
refers_chain r old mid new n e a l x is at first more =
    as_tree r old new n e (chain (tree x) (rests_of (rests l))) (tree_chain e a l is ∙ ap (λ x. chain (tree x) (rests_of (rests l))) (sym at))
    (on_ok r (also_both old mid new n (refers_to (tree x)) (rests_refer_to (rests_of (rests l))) first) more)

pub refers_choice : {T E : Type 0} (r : Result T E) (old one two new : List Link) (n : List ℕ) (e : Expr) (a b d : Box Expr Global) (x y z : Expr) → e ≡ Cond a b d → x ≡ a.value → y ≡ b.value → z ≡ d.value
    → HasAlso old one n (refers_to (tree x)) → HasAlso one two n (refers_to (tree y)) → OnOk r (HasAlso two new n (refers_to (tree z))) → OnOk r (HasAlso old new n (refers_to (tree e)))
refers_choice r old one two new n e a b d x y z is at_a at_b at_d first second third =
    as_tree r old new n e (choice (tree x) (tree y) (tree z)) (tree_choice e a b d is ∙ (λ i. choice (tree (sym at_a i)) (tree (sym at_b i)) (tree (sym at_d i))))
    (on_ok r (also_three old one two new n (refers_to (tree x)) (refers_to (tree y)) (refers_to (tree z)) first second) third)

pub refers_or_else : {T E : Type 0} (r : Result T E) (old mid new : List Link) (n : List ℕ) (e : Expr) (a b : Box Expr Global) (x y : Expr) → e ≡ OrElse a b → x ≡ a.value → y ≡ b.value
    → HasAlso old mid n (refers_to (tree x)) → OnOk r (HasAlso mid new n (refers_to (tree y))) → OnOk r (HasAlso old new n (refers_to (tree e)))
refers_or_else r old mid new n e a b x y is at_a at_b first other =
    as_tree r old new n e (or_else (tree x) (tree y)) (tree_or_else e a b is ∙ (λ i. or_else (tree (sym at_a i)) (tree (sym at_b i))))
    (on_ok r (also_both old mid new n (refers_to (tree x)) (refers_to (tree y)) first) other)

pub refers_call : {T E : Type 0} (r : Result T E) (old new : List Link) (n : List ℕ) (e : Expr) (x : List ℕ) (l : ExprList) → e ≡ Call x l
    → OnOk r (HasAlso old new n (trees_refer_to (trees_of (trees l)))) → OnOk r (HasAlso old new n (refers_to (tree e)))
refers_call r old new n e x l is h = as_tree r old new n e (call x (trees_of (trees l))) (tree_call e x l is) h

pub refers_items : {T E : Type 0} (r : Result T E) (old new : List Link) (n : List ℕ) (e : Expr) (l : ExprList) → e ≡ Items l
    → OnOk r (HasAlso old new n (trees_refer_to (trees_of (trees l)))) → OnOk r (HasAlso old new n (refers_to (tree e)))
refers_items r old new n e l is h = as_tree r old new n e (items (trees_of (trees l))) (tree_items e l is) h
