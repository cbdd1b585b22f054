-- What copies of expressions are, and of lists of them.
use Rattle.std.proofs.Common.{◌≡◌, ℕ, ◌+◌, ◌<◌, ◌≤◌, List, [], ◌∷◌, ◌++◌, length, get_or, map, take, Box, Global, Vec, refl, ap, sym, ◌∙◌, rules}
use Rattle.std.proofs.lemmas.List.{take_all, map-append}
use Rattle.ad_value.specs.Content.{content, contents}
use Rattle.ad_value.specs.declared.value.Value.{Value, the_lemmas as value_lemmas}
use Rattle.ad_value.specs.declared.value.ValueList.{ValueList}
use Rattle.ad_tree.specs.declared.operator.Scope.{Scope}
use Rattle.ad_tree.specs.declared.operator.UnOp.{UnOp}
use Rattle.ad_tree.specs.declared.tree.Expr.{Expr, the_lemmas}
use Rattle.ad_tree.specs.declared.tree.Expr.TheVariants.{Lit, Ref, Unary, Chain, Cond, OrElse, Call, Items}
use Rattle.ad_tree.specs.declared.tree.ExprList.{ExprList, roll-ExprList}
use Rattle.ad_tree.specs.declared.tree.Rest.{Rest}
use Rattle.ad_tree.specs.declared.tree.RestList.{RestList, roll-RestList}
use Rattle.ad_tree.specs.Tree.{literal, reference, unary, chain, choice, or_else, call, items, tree, trees, rest, rests, trees_of, rests_of}
use Rattle.ad_tree.proofs.TreeLemmas.{tree_literal, tree_reference, tree_unary, tree_chain, tree_choice, tree_or_else, tree_call, tree_items, map-more}

-- a copy of an expression has copies of its parts
pub copied_literal : (e : Expr) (v w : Value) → e ≡ Lit v → content w ≡ content v → tree (Lit w) ≡ tree e
copied_literal e v w is p = tree_literal (Lit w) w refl ∙ ap literal p ∙ sym (tree_literal e v is)

pub copied_reference : (e : Expr) (s : Scope) (x y : List ℕ) → e ≡ Ref s x → y ≡ x → tree (Ref s y) ≡ tree e
copied_reference e s x y is p = tree_reference (Ref s y) s y refl ∙ ap (reference s) p ∙ sym (tree_reference e s x is)

pub copied_unary : (e : Expr) (op : UnOp) (a b : Box Expr Global) → e ≡ Unary op a → tree b.value ≡ tree a.value → tree (Unary op b) ≡ tree e
copied_unary e op a b is p = tree_unary (Unary op b) op b refl ∙ ap (unary op) p ∙ sym (tree_unary e op a is)

pub copied_chain : (e : Expr) (a b : Box Expr Global) (l m : RestList) → e ≡ Chain a l → tree b.value ≡ tree a.value → rests m ≡ rests l → tree (Chain b m) ≡ tree e
copied_chain e a b l m is p q =
    let parts : chain (tree b.value) (rests_of (rests m)) ≡ chain (tree a.value) (rests_of (rests l)) = cc in
    tree_chain (Chain b m) b m refl ∙ parts ∙ sym (tree_chain e a l is)

pub copied_choice : (e : Expr) (a b c x y z : Box Expr Global) → e ≡ Cond a b c → tree x.value ≡ tree a.value → tree y.value ≡ tree b.value → tree z.value ≡ tree c.value → tree (Cond x y z) ≡ tree e
copied_choice e a b c x y z is p q r =
    let parts : choice (tree x.value) (tree y.value) (tree z.value) ≡ choice (tree a.value) (tree b.value) (tree c.value) = cc in
    tree_choice (Cond x y z) x y z refl ∙ parts ∙ sym (tree_choice e a b c is)

pub copied_or_else : (e : Expr) (a b x y : Box Expr Global) → e ≡ OrElse a b → tree x.value ≡ tree a.value → tree y.value ≡ tree b.value → tree (OrElse x y) ≡ tree e
copied_or_else e a b x y is p q =
    let parts : or_else (tree x.value) (tree y.value) ≡ or_else (tree a.value) (tree b.value) = cc in
    tree_or_else (OrElse x y) x y refl ∙ parts ∙ sym (tree_or_else e a b is)

pub copied_call : (e : Expr) (x y : List ℕ) (l m : ExprList) → e ≡ Call x l → y ≡ x → trees m ≡ trees l → tree (Call y m) ≡ tree e
copied_call e x y l m is p q =
    let parts : call y (trees_of (trees m)) ≡ call x (trees_of (trees l)) = cc in
    tree_call (Call y m) y m refl ∙ parts ∙ sym (tree_call e x l is)

pub copied_items : (e : Expr) (l m : ExprList) → e ≡ Items l → trees m ≡ trees l → tree (Items m) ≡ tree e
copied_items e l m is p = tree_items (Items m) m refl ∙ ap (λ es. items (trees_of es)) p ∙ sym (tree_items e l is)

-- lists that code makes
pub trees-made : (v : Vec Expr Global) → trees (roll-ExprList record { items = v }) ≡ map tree v.items
trees-made v = search (rules, the_lemmas)

pub rests-made : (v : Vec Rest Global) → rests (roll-RestList record { items = v }) ≡ map rest v.items
rests-made v = search (rules, the_lemmas)

pub contents-map : (l : ValueList) → contents l ≡ map content l.items.items
contents-map l = search (rules, value_lemmas)

-- the images so far, where they are all
pub all_copied : {B C : Type 0} (g : B → C) (made : List C) (xs : List B) (i : ℕ) → length xs ≤ i → made ≡ map g (take i xs) → made ≡ map g xs
all_copied g made xs i past e = e ∙ ap (map g) (take_all i xs past)

-- the images so far, with one more
pub more_copied : {A B C : Type 0} (f : A → C) (g : B → C) (old new : List A) (made : A) (xs : List B) (i : ℕ) (x : B) → i < length xs → x ≡ get_or xs i x → new ≡ old ++ made ∷ [] → f made ≡ g x → map f old ≡ map g (take i xs) → map f new ≡ map g (take (i + 1) xs)
more_copied f g old new made xs i x p at pushed here e =
    ap (map f) pushed ∙ map-append f old (made ∷ []) ∙ ap (λ l. l ++ f made ∷ []) e ∙ ap (λ z. map g (take i xs) ++ z ∷ []) here ∙ sym (map-more g xs i x p at)
