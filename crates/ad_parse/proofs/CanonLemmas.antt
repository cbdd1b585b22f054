-- Canonical texts of lists, one operand or item more at a time.
use Rattle.std.proofs.Common.{◌≡◌, ℕ, zero, suc, ◌+◌, ◌-◌, ◌<◌, List, [], ◌∷◌, ◌++◌, length, map, take, get_or, codes, ap, sym, ◌∙◌, arith, rules, append_assoc}
use Rattle.std.proofs.lemmas.List.{append-nil, length-map, length-take-le, take_more, map-append}
use Rattle.ad_value.specs.Literal.{item_separator}
use Rattle.ad_value.proofs.LiteralLemmas.{item_separator-suc}
use Rattle.ad_tree.specs.declared.operator.BinOp.{BinOp}
use Rattle.ad_tree.specs.declared.tree.Expr.{Expr, the_lemmas}
use Rattle.ad_tree.specs.declared.tree.ExprList.{ExprList}
use Rattle.ad_tree.specs.declared.tree.Rest.{Rest}
use Rattle.ad_tree.specs.declared.tree.RestList.{RestList, out-RestList}
use Rattle.ad_tree.specs.Tree.{Tree, tree, trees, trees_of, rest, rests, rests_of}
use Rattle.ad_parse.specs.Operators.{level_of}
use Rattle.ad_parse.specs.Canon.{canon, canon_rests, canon_items, canon_more, canon_within, looseness, infix_text}

pub trees-map : (l : ExprList) → trees l ≡ map tree l.items.items
trees-map l = search (rules, the_lemmas)

pub rests-map : (l : RestList) → rests l ≡ map rest (out-RestList l).items.items
rests-map l = search (rules, the_lemmas)

-- the item at i is one more than those before it
more_at : {A B : Type 0} (f : A → B) (xs : List A) (i : ℕ) (x : A) → i < length xs → x ≡ get_or xs i x → map f (take (i + 1) xs) ≡ map f (take i xs) ++ f x ∷ []
more_at f xs i x p at = ap (map f) (take_more xs i x p ∙ ap (λ y. take i xs ++ y ∷ []) (sym at)) ∙ map-append f (take i xs) (x ∷ [])

-- an operator and its operand
abbrev pub rest_text : BinOp × Tree → List ℕ
rest_text r = infix_text r.0 ++ canon_within (level_of r.0 - 1) (looseness r.1) (canon r.1)

rests-push : (rs : List (BinOp × Tree)) (r : BinOp × Tree) → canon_rests (rests_of (rs ++ r ∷ [])) ≡ canon_rests (rests_of rs) ++ rest_text r
rests-push [] r = append-nil (rest_text r)
rests-push (x ∷ rs) r = ap (λ l. rest_text x ++ l) (rests-push rs r) ∙ sym (append_assoc (rest_text x) (canon_rests (rests_of rs)) (rest_text r))

pub rests_more : (bs : List ℕ) (xs : List Rest) (i : ℕ) (x : Rest) → i < length xs → x ≡ get_or xs i x → (bs ++ canon_rests (rests_of (map rest (take i xs)))) ++ rest_text (rest x) ≡ bs ++ canon_rests (rests_of (map rest (take (i + 1) xs)))
rests_more bs xs i x p at =
    append_assoc bs (canon_rests (rests_of (map rest (take i xs)))) (rest_text (rest x))
    ∙ ap (λ l. bs ++ l) (sym (rests-push (map rest (take i xs)) (rest x)))
    ∙ ap (λ l. bs ++ canon_rests (rests_of l)) (sym (more_at rest xs i x p at))

more-push : (es : List Tree) (e : Tree) → canon_more (trees_of (es ++ e ∷ [])) ≡ canon_more (trees_of es) ++ (codes ", " ++ canon e)
more-push [] e = append-nil (codes ", " ++ canon e)
more-push (x ∷ es) e = ap (λ l. (codes ", " ++ canon x) ++ l) (more-push es e) ∙ sym (append_assoc (codes ", " ++ canon x) (canon_more (trees_of es)) (codes ", " ++ canon e))

items-push : (es : List Tree) (e : Tree) → 0 < length es → canon_items (trees_of (es ++ e ∷ [])) ≡ canon_items (trees_of es) ++ (codes ", " ++ canon e)
items-push [] e some = absurd (omega (arith, some))
items-push (x ∷ es) e some = ap (λ l. canon x ++ l) (more-push es e) ∙ sym (append_assoc (canon x) (canon_more (trees_of es)) (codes ", " ++ canon e))

-- one item more, with what stands before it
items-more : (es : List Tree) (i : ℕ) (e : Tree) → length es ≡ i → canon_items (trees_of (es ++ e ∷ [])) ≡ (canon_items (trees_of es) ++ item_separator i) ++ canon e
items-more [] zero e h = append-nil (canon e)
items-more [] (suc i) e h = absurd (omega (arith, h))
items-more (x ∷ es) zero e h = absurd (omega (arith, h))
items-more (x ∷ es) (suc i) e h =
    items-push (x ∷ es) e (omega arith)
    ∙ sym (append_assoc (canon_items (trees_of (x ∷ es))) (codes ", ") (canon e))
    ∙ ap (λ l. (canon_items (trees_of (x ∷ es)) ++ l) ++ canon e) (sym (item_separator-suc i))

pub items_more : (bs : List ℕ) (xs : List Expr) (i : ℕ) (x : Expr) → i < length xs → x ≡ get_or xs i x → ((bs ++ canon_items (trees_of (map tree (take i xs)))) ++ item_separator i) ++ canon (tree x) ≡ bs ++ canon_items (trees_of (map tree (take (i + 1) xs)))
items_more bs xs i x p at =
    let front = canon_items (trees_of (map tree (take i xs))) in
    let whole = items-more (map tree (take i xs)) i (tree x) (length-map (take i xs) tree ∙ length-take-le i xs (omega arith)) in
    ap (λ l. l ++ canon (tree x)) (append_assoc bs front (item_separator i))
    ∙ append_assoc bs (front ++ item_separator i) (canon (tree x))
    ∙ ap (λ l. bs ++ l) (sym whole)
    ∙ ap (λ es. bs ++ canon_items (trees_of es)) (sym (more_at tree xs i x p at))
