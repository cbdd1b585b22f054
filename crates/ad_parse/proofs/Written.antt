-- The canonical text of an expression, piece by piece.
use Rattle.std.proofs.Common.{◌≡◌, Box, Global, ℕ, ◌-◌, List, ◌++◌, codes, Result, Ok, Err, OnOk, ap, sym, ◌∙◌, append_assoc}
use Rattle.ad_tree.specs.declared.operator.UnOp.{UnOp}
use Rattle.ad_tree.specs.declared.tree.Expr.{Expr}
use Rattle.ad_tree.specs.declared.tree.Expr.TheVariants.{Unary, Chain, Cond, OrElse, Call, Items}
use Rattle.ad_tree.specs.declared.tree.ExprList.{ExprList}
use Rattle.ad_tree.specs.declared.tree.RestList.{RestList}
use Rattle.ad_tree.specs.Tree.{Tree, unary, chain, choice, or_else, tree, trees, trees_of, rests, rests_of}
use Rattle.ad_tree.proofs.TreeLemmas.{tree_unary, tree_chain, tree_choice, tree_or_else, tree_call, tree_items}
use Rattle.ad_parse.specs.Canon.{canon, canon_rests, canon_items, canon_within, looseness, prefix_text, rests_level}

-- what follows from success
pub on_ok : {A E P Q : Type 0} → (r : Result A E) → (P → Q) → OnOk r P → OnOk r Q
on_ok (Ok x) f h = f h
on_ok (Err e) f h = tt

-- the tree of an expression whose parts are these
pub unary_is : (e : Expr) (op : UnOp) (a : Box Expr Global) (x : Expr) → e ≡ Unary op a → x ≡ a.value → tree e ≡ unary op (tree x)
unary_is e op a x is at = tree_unary e op a is ∙ ap (λ x. unary op (tree x)) (sym at)

pub chain_is : (e : Expr) (a : Box Expr Global) (l : RestList) (x : Expr) → e ≡ Chain a l → x ≡ a.value → tree e ≡ chain (tree x) (rests_of (rests l))
chain_is e a l x is at = tree_chain e a l is ∙ ap (λ x. chain (tree x) (rests_of (rests l))) (sym at)

pub choice_is : (e : Expr) (a b d : Box Expr Global) (x y z : Expr) → e ≡ Cond a b d → x ≡ a.value → y ≡ b.value → z ≡ d.value → tree e ≡ choice (tree x) (tree y) (tree z)
choice_is e a b d x y z is at_a at_b at_d =
    tree_choice e a b d is ∙ (λ i. choice (tree (sym at_a i)) (tree (sym at_b i)) (tree (sym at_d i)))

pub or_else_is : (e : Expr) (a b : Box Expr Global) (x y : Expr) → e ≡ OrElse a b → x ≡ a.value → y ≡ b.value → tree e ≡ or_else (tree x) (tree y)
or_else_is e a b x y is at_a at_b = tree_or_else e a b is ∙ (λ i. or_else (tree (sym at_a i)) (tree (sym at_b i)))

-- an operand where l is the loosest that needs no brackets
abbrev pub operand : ℕ → Tree → List ℕ
operand l e = canon_within l (looseness e) (canon e)

pub unary_written : (e : Expr) (op : UnOp) (x : Expr) (old begun whole : List ℕ) → tree e ≡ unary op (tree x) → begun ≡ old ++ prefix_text op → whole ≡ begun ++ operand 0 (tree x) → whole ≡ old ++ canon (tree e)
unary_written e op x old begun whole is p q =
    q ∙ ap (λ t. t ++ operand 0 (tree x)) p ∙ append_assoc old (prefix_text op) (operand 0 (tree x))
    ∙ ap (λ t. old ++ canon t) (sym is)

pub chain_written : (e x : Expr) (l : RestList) (n : ℕ) (old first whole : List ℕ) → tree e ≡ chain (tree x) (rests_of (rests l)) → n ≡ rests_level (rests_of (rests l)) - 1 → first ≡ old ++ operand n (tree x) → whole ≡ first ++ canon_rests (rests_of (rests l)) → whole ≡ old ++ canon (tree e)
chain_written e x l n old first whole is level p q =
    let rest = canon_rests (rests_of (rests l)) in
    q ∙ ap (λ t. t ++ rest) (p ∙ ap (λ n. old ++ operand n (tree x)) level)
    ∙ append_assoc old (operand (rests_level (rests_of (rests l)) - 1) (tree x)) rest
    ∙ ap (λ t. old ++ canon t) (sym is)

pub choice_written : (e x y z : Expr) (old tested asked answered parted whole : List ℕ) → tree e ≡ choice (tree x) (tree y) (tree z) → tested ≡ old ++ operand 6 (tree x) → asked ≡ tested ++ codes " ? " → answered ≡ asked ++ canon (tree y) → parted ≡ answered ++ codes " : " → whole ≡ parted ++ canon (tree z) → whole ≡ old ++ canon (tree e)
choice_written e x y z old tested asked answered parted whole is p q r s w =
    let test = operand 6 (tree x) in
    let yes = canon (tree y) in
    let no = canon (tree z) in
    let regrouped : ((((old ++ test) ++ codes " ? ") ++ yes) ++ codes " : ") ++ no ≡ old ++ ((((test ++ codes " ? ") ++ yes) ++ codes " : ") ++ no) = simp append_assoc in
    w ∙ ap (λ t. t ++ no) (s ∙ ap (λ t. t ++ codes " : ") (r ∙ ap (λ t. t ++ yes) (q ∙ ap (λ t. t ++ codes " ? ") p)))
    ∙ regrouped ∙ ap (λ t. old ++ canon t) (sym is)

pub or_else_written : (e x y : Expr) (old first asked whole : List ℕ) → tree e ≡ or_else (tree x) (tree y) → first ≡ old ++ operand 6 (tree x) → asked ≡ first ++ codes " ?: " → whole ≡ asked ++ canon (tree y) → whole ≡ old ++ canon (tree e)
or_else_written e x y old first asked whole is p q r =
    let one = operand 6 (tree x) in
    let other = canon (tree y) in
    let regrouped : ((old ++ one) ++ codes " ?: ") ++ other ≡ old ++ ((one ++ codes " ?: ") ++ other) = simp append_assoc in
    r ∙ ap (λ t. t ++ other) (q ∙ ap (λ t. t ++ codes " ?: ") p)
    ∙ regrouped ∙ ap (λ t. old ++ canon t) (sym is)

pub call_written : (e : Expr) (x : List ℕ) (l : ExprList) (old named opened inner closed : List ℕ) → e ≡ Call x l → named ≡ old ++ x → opened ≡ named ++ codes "(" → inner ≡ opened ++ canon_items (trees_of (trees l)) → closed ≡ inner ++ codes ")" → closed ≡ old ++ canon (tree e)
call_written e x l old named opened inner closed is p q r s =
    let within = canon_items (trees_of (trees l)) in
    let regrouped : (((old ++ x) ++ codes "(") ++ within) ++ codes ")" ≡ old ++ (((x ++ codes "(") ++ within) ++ codes ")") = simp append_assoc in
    s ∙ ap (λ t. t ++ codes ")") (r ∙ ap (λ t. t ++ within) (q ∙ ap (λ t. t ++ codes "(") p))
    ∙ regrouped ∙ ap (λ t. old ++ canon t) (sym (tree_call e x l is))

pub items_written : (e : Expr) (l : ExprList) (old opened inner closed : List ℕ) → e ≡ Items l → opened ≡ old ++ codes "{" → inner ≡ opened ++ canon_items (trees_of (trees l)) → closed ≡ inner ++ codes "}" → closed ≡ old ++ canon (tree e)
items_written e l old opened inner closed is p q r =
    let within = canon_items (trees_of (trees l)) in
    let regrouped : ((old ++ codes "{") ++ within) ++ codes "}" ≡ old ++ ((codes "{" ++ within) ++ codes "}") = simp append_assoc in
    r ∙ ap (λ t. t ++ codes "}") (q ∙ ap (λ t. t ++ within) p)
    ∙ regrouped ∙ ap (λ t. old ++ canon t) (sym (tree_items e l is))
