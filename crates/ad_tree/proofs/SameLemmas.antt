-- When two expressions are the same, by what both are.
use Rattle.std.proofs.Common.{◌≡◌, ◌↔◌, ℕ, List, map, length, Option, Some, None, Bool, false, true≢false, Box, Global, ap, sym, subst, ◌∙◌}
use Rattle.std.proofs.lemmas.List.{length-map}
use Rattle.std.specs.Bool.{IsTrue}
use Rattle.ad_value.specs.Content.{content}
use Rattle.ad_value.specs.declared.value.Value.{Value}
use Rattle.ad_tree.specs.declared.operator.Scope.{Scope}
use Rattle.ad_tree.specs.declared.operator.UnOp.{UnOp}
use Rattle.ad_tree.specs.declared.tree.Expr.{Expr, out-Expr, roll-Expr, roll-out-Expr, fold_out-Expr, map-Expr}
use Rattle.ad_tree.specs.declared.tree.Expr.TheOpen.{Expr-F}
use Rattle.ad_tree.specs.declared.tree.Expr.TheVariants.{Lit, Ref, Unary, Chain, Cond, OrElse, Call, Items, rolls-Lit, rolls-Ref, rolls-Unary, rolls-Chain, rolls-Cond, rolls-OrElse, rolls-Call, rolls-Items}
use Rattle.ad_tree.specs.declared.tree.ExprList.{ExprList}
use Rattle.ad_tree.specs.declared.tree.Rest.{Rest}
use Rattle.ad_tree.specs.declared.tree.RestList.{RestList}
use Rattle.ad_tree.specs.Tree.{Tree, literal, reference, unary, chain, choice, or_else, call, items, RestTree, tree, trees, rest, rests, tree_step, trees_step, rest_step, rests_step, trees_of}
use Rattle.ad_tree.proofs.TreeLemmas.{tree_literal, tree_reference, tree_unary, tree_chain, tree_choice, tree_or_else, tree_call, tree_items, call-injective, items-injective, chain-injective}

-- an expression with its parts as they are
abbrev Layer : Type 0
Layer = Expr-F Expr ExprList Rest RestList

abbrev layer_tree : Layer → Tree
layer_tree g = tree_step (map-Expr Expr ExprList Rest RestList Tree (List Tree) RestTree (List RestTree) tree trees rest rests g)

-- the expression is what its tree tells
abbrev IsTold : Tree → Expr → Type 0
IsTold (literal c) f = (v : Value) × (f ≡ Lit v)
IsTold (reference s x) f = (t : Scope) × (y : List ℕ) × (f ≡ Ref t y)
IsTold (unary op e) f = (q : UnOp) × (b : Box Expr Global) × (f ≡ Unary q b)
IsTold (chain e rs) f = (b : Box Expr Global) × (l : RestList) × (f ≡ Chain b l)
IsTold (choice t y n) f = (a : Box Expr Global) × (b : Box Expr Global) × (c : Box Expr Global) × (f ≡ Cond a b c)
IsTold (or_else d e) f = (a : Box Expr Global) × (b : Box Expr Global) × (f ≡ OrElse a b)
IsTold (call x es) f = (y : List ℕ) × (l : ExprList) × (f ≡ Call y l)
IsTold (items es) f = (l : ExprList) × (f ≡ Items l)

layer_told : (g : Layer) → IsTold (layer_tree g) (roll-Expr g)
layer_told (Expr-F.Lit v) = (v, rolls-Lit v)
layer_told (Expr-F.Ref s x) = (s, x, rolls-Ref s x)
layer_told (Expr-F.Unary op a) = (op, a, rolls-Unary op a)
layer_told (Expr-F.Chain a l) = (a, l, rolls-Chain a l)
layer_told (Expr-F.Cond a b c) = (a, b, c, rolls-Cond a b c)
layer_told (Expr-F.OrElse a b) = (a, b, rolls-OrElse a b)
layer_told (Expr-F.Call x l) = (x, l, rolls-Call x l)
layer_told (Expr-F.Items l) = (l, rolls-Items l)

told : (f : Expr) → IsTold (tree f) f
told f =
    let made : tree f ≡ layer_tree (out-Expr f) = fold_out-Expr Tree (List Tree) RestTree (List RestTree) tree_step trees_step rest_step rests_step f in
    subst (λ t. IsTold t f) (sym made) (subst (λ h. IsTold (layer_tree (out-Expr f)) h) (roll-out-Expr f) (layer_told (out-Expr f)))

told_by : (t : Tree) (f : Expr) → t ≡ tree f → IsTold t f
told_by t f e = subst (λ u. IsTold u f) (sym e) (told f)

-- what is not so is answered by false
pub never : {P : Type 0} → (P → ⊥) → IsTrue false ↔ P
never not = (λ h. absurd (true≢false (sym h)), λ p. absurd (not p))

-- the other is something else
pub no_literal : (e f : Expr) (v : Value) → e ≡ Lit v → ((w : Value) → f ≡ Lit w → ⊥) → IsTrue false ↔ (tree e ≡ tree f)
no_literal e f v is other = never (λ h. let t = told_by (literal _) f (sym (tree_literal e _ is) ∙ h) in other t.0 t.1)

pub no_reference : (e f : Expr) (s : Scope) (x : List ℕ) → e ≡ Ref s x → ((t : Scope) (y : List ℕ) → f ≡ Ref t y → ⊥) → IsTrue false ↔ (tree e ≡ tree f)
no_reference e f s x is other = never (λ h. let t = told_by (reference _ _) f (sym (tree_reference e _ _ is) ∙ h) in other t.0 t.1 t.2)

pub no_unary : (e f : Expr) (op : UnOp) (a : Box Expr Global) → e ≡ Unary op a → ((q : UnOp) (b : Box Expr Global) → f ≡ Unary q b → ⊥) → IsTrue false ↔ (tree e ≡ tree f)
no_unary e f op a is other = never (λ h. let t = told_by (unary _ _) f (sym (tree_unary e _ _ is) ∙ h) in other t.0 t.1 t.2)

pub no_chain : (e f : Expr) (a : Box Expr Global) (l : RestList) → e ≡ Chain a l → ((b : Box Expr Global) (m : RestList) → f ≡ Chain b m → ⊥) → IsTrue false ↔ (tree e ≡ tree f)
no_chain e f a l is other = never (λ h. let t = told_by (chain _ _) f (sym (tree_chain e _ _ is) ∙ h) in other t.0 t.1 t.2)

pub no_choice : (e f : Expr) (a b c : Box Expr Global) → e ≡ Cond a b c → ((t y n : Box Expr Global) → f ≡ Cond t y n → ⊥) → IsTrue false ↔ (tree e ≡ tree f)
no_choice e f a b c is other = never (λ h. let t = told_by (choice _ _ _) f (sym (tree_choice e _ _ _ is) ∙ h) in other t.0 t.1 t.2 t.3)

pub no_or_else : (e f : Expr) (a b : Box Expr Global) → e ≡ OrElse a b → ((c d : Box Expr Global) → f ≡ OrElse c d → ⊥) → IsTrue false ↔ (tree e ≡ tree f)
no_or_else e f a b is other = never (λ h. let t = told_by (or_else _ _) f (sym (tree_or_else e _ _ is) ∙ h) in other t.0 t.1 t.2)

pub no_call : (e f : Expr) (x : List ℕ) (l : ExprList) → e ≡ Call x l → ((y : List ℕ) (m : ExprList) → f ≡ Call y m → ⊥) → IsTrue false ↔ (tree e ≡ tree f)
no_call e f x l is other = never (λ h. let t = told_by (call _ _) f (sym (tree_call e _ l is) ∙ h) in other t.0 t.1 t.2)

pub no_items : (e f : Expr) (l : ExprList) → e ≡ Items l → ((m : ExprList) → f ≡ Items m → ⊥) → IsTrue false ↔ (tree e ≡ tree f)
no_items e f l is other = never (λ h. let t = told_by (items _) f (sym (tree_items e l is) ∙ h) in other t.0 t.1)

-- what two tests in turn say
pub both_hold : {P Q : Type 0} {r : Bool} → P → (IsTrue r ↔ Q) → IsTrue r ↔ (P × Q)
both_hold p second = (λ h. (p, second.0 h), λ h. second.1 h.1)

pub first_fails : {P Q : Type 0} {r : Bool} → r ≡ false → (P → ⊥) → IsTrue r ↔ (P × Q)
first_fails is not = (λ h. absurd (true≢false (sym h ∙ is)), λ p. absurd (not p.0))

pub first_false : {P Q : Type 0} {r : Bool} → (IsTrue r ↔ P) → r ≡ false → IsTrue r ↔ (P × Q)
first_false first is = first_fails is (λ p. true≢false (sym (first.1 p) ∙ is))

pub joined : {P : Type 0} {r v : Bool} → v ≡ r → (IsTrue r ↔ P) → IsTrue v ↔ P
joined is h = (λ e. h.0 (sym is ∙ e), λ p. is ∙ h.1 p)

-- the test of what boxes hold
pub boxes_same : {r : Bool} {d e a b : Expr} → d ≡ a → e ≡ b → (IsTrue r ↔ (tree d ≡ tree e)) → IsTrue r ↔ (tree a ≡ tree b)
boxes_same p q same = (λ h. sym (ap tree p) ∙ same.0 h ∙ ap tree q, λ h. same.1 (ap tree p ∙ h ∙ sym (ap tree q)))

-- trees are the same where their parts are
by_parts : {r : Bool} {a b t u : Tree} {P : Type 0} → a ≡ t → b ≡ u → (P → t ≡ u) → (t ≡ u → P) → (IsTrue r ↔ P) → IsTrue r ↔ (a ≡ b)
by_parts p q up down same = (λ h. p ∙ up (same.0 h) ∙ sym q, λ h. same.1 (down (sym p ∙ h ∙ q)))

pub same_literals : {r : Bool} (e f : Expr) (v w : Value) → e ≡ Lit v → f ≡ Lit w → (IsTrue r ↔ (content v ≡ content w)) → IsTrue r ↔ (tree e ≡ tree f)
same_literals e f v w is also = by_parts (tree_literal e v is) (tree_literal f w also) (λ h. ap literal h) (λ h. cc)

pub same_references : {r : Bool} (e f : Expr) (s t : Scope) (x y : List ℕ) → e ≡ Ref s x → f ≡ Ref t y → (IsTrue r ↔ ((s ≡ t) × (x ≡ y))) → IsTrue r ↔ (tree e ≡ tree f)
same_references e f s t x y is also = by_parts (tree_reference e s x is) (tree_reference f t y also) (λ h. cc) (λ h. (cc, cc))

pub same_unaries : {r : Bool} (e f : Expr) (p q : UnOp) (a b : Box Expr Global) → e ≡ Unary p a → f ≡ Unary q b → (IsTrue r ↔ ((p ≡ q) × (tree a.value ≡ tree b.value))) → IsTrue r ↔ (tree e ≡ tree f)
same_unaries e f p q a b is also = by_parts (tree_unary e p a is) (tree_unary f q b also) (λ h. cc) (λ h. (cc, cc))

pub same_chains : {r : Bool} (e f : Expr) (a b : Box Expr Global) (l m : RestList) → e ≡ Chain a l → f ≡ Chain b m → (IsTrue r ↔ ((tree a.value ≡ tree b.value) × (rests l ≡ rests m))) → IsTrue r ↔ (tree e ≡ tree f)
same_chains e f a b l m is also = by_parts (tree_chain e a l is) (tree_chain f b m also) (λ h. cc) (chain-injective _ _ _ _)

pub same_choices : {r : Bool} (e f : Expr) (a b c t y n : Box Expr Global) → e ≡ Cond a b c → f ≡ Cond t y n → (IsTrue r ↔ (((tree a.value ≡ tree t.value) × (tree b.value ≡ tree y.value)) × (tree c.value ≡ tree n.value))) → IsTrue r ↔ (tree e ≡ tree f)
same_choices e f a b c t y n is also = by_parts (tree_choice e a b c is) (tree_choice f t y n also) (λ h. cc) (λ h. ((cc, cc), cc))

pub same_or_elses : {r : Bool} (e f : Expr) (a b c d : Box Expr Global) → e ≡ OrElse a b → f ≡ OrElse c d → (IsTrue r ↔ ((tree a.value ≡ tree c.value) × (tree b.value ≡ tree d.value))) → IsTrue r ↔ (tree e ≡ tree f)
same_or_elses e f a b c d is also = by_parts (tree_or_else e a b is) (tree_or_else f c d also) (λ h. cc) (λ h. (cc, cc))

pub same_calls : {r : Bool} (e f : Expr) (x y : List ℕ) (l m : ExprList) → e ≡ Call x l → f ≡ Call y m → (IsTrue r ↔ ((x ≡ y) × (trees l ≡ trees m))) → IsTrue r ↔ (tree e ≡ tree f)
same_calls e f x y l m is also = by_parts (tree_call e x l is) (tree_call f y m also) (λ h. cc) (call-injective _ _ _ _)

pub same_items : {r : Bool} (e f : Expr) (l m : ExprList) → e ≡ Items l → f ≡ Items m → (IsTrue r ↔ (trees l ≡ trees m)) → IsTrue r ↔ (tree e ≡ tree f)
same_items e f l m is also = by_parts (tree_items e l is) (tree_items f m also) (λ h. ap (λ es. items (trees_of es)) h) (items-injective _ _)

-- lists of other lengths have other images
pub other_length : {A B : Type 0} (f : A → B) (xs ys : List A) → (length xs ≡ length ys → ⊥) → map f xs ≡ map f ys → ⊥
other_length f xs ys other h = other (sym (length-map xs f) ∙ ap length h ∙ length-map ys f)

some_injective : {A : Type 0} {x y : A} → Some x ≡ Some y → x ≡ y
some_injective e = cc

-- entries are the same where both parts are
pub same_entries : {r : Bool} {o p : Option (List ℕ × Tree)} (x y : List ℕ) (t u : Tree) → Some (x, t) ≡ o → Some (y, u) ≡ p → (IsTrue r ↔ ((x ≡ y) × (t ≡ u))) → IsTrue r ↔ (o ≡ p)
same_entries x y t u is also same = (
  λ h. sym is ∙ ap (λ z. Some (z, t)) (same.0 h).0 ∙ ap (λ z. Some (y, z)) (same.0 h).1 ∙ also,
  λ h. let pair : ◌≡◌ {A = List ℕ × Tree} (x, t) (y, u) = some_injective (is ∙ h ∙ sym also) in same.1 (ap (λ a. a.0) pair, ap (λ a. a.1) pair),
)

pub some_none : {A : Type 0} {x : A} → Some x ≡ None → ⊥
some_none e = cc
