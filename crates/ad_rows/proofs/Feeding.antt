-- What is left to feed, one item further.
use Rattle.std.proofs.Common.{◌≡◌, ◌+◌, ◌<◌, ◌≤◌, ℕ, List, ◌∷◌, length, map, drop, get_or, ap, sym, ◌∙◌}
use Rattle.std.specs.declared.hash.FoldHasher.{FoldHasher}
use Rattle.std.specs.List.{fold}
use Rattle.std.specs.Hash.FoldHasher as folding
use Rattle.std.specs.Cmp.Lexicographic.{bytes_decides}
use Rattle.std.proofs.lemmas.List.{at_drop_more, at_drop_all}
use Rattle.ad_value.specs.Names.{lowercase}
use Rattle.ad_tree.specs.declared.tree.Expr.{Expr}
use Rattle.ad_tree.specs.declared.tree.Rest.{Rest}
use Rattle.ad_tree.specs.Tree.{tree, trees_of, RestTree, rest, rests_of}
use Rattle.ad_rows.specs.Digests.{byte_fed, name_fed, infix_number, tree_fed, trees_fed, rests_fed, SameHaveOneDigest}

pub trees_step : (h : FoldHasher) (xs : List Expr) (i : ℕ) (x : Expr) → i < length xs → x ≡ get_or xs i x
    → trees_fed (tree_fed (byte_fed h 14) (tree x)) (trees_of (map tree (drop (i + 1) xs))) ≡ trees_fed h (trees_of (map tree (drop i xs)))
trees_step h xs i x less at =
    sym (
    at_drop_more (λ l. trees_fed h (trees_of (map tree l))) xs i x less
    ∙ ap (λ y. trees_fed (tree_fed (byte_fed h 14) (tree y)) (trees_of (map tree (drop (i + 1) xs)))) (sym at))

pub trees_end : (h : FoldHasher) (xs : List Expr) (i : ℕ) → length xs ≤ i → trees_fed h (trees_of (map tree (drop i xs))) ≡ byte_fed h 15
trees_end h xs i over = at_drop_all (λ l. trees_fed h (trees_of (map tree l))) xs i over

-- an operator and its operand
abbrev pub rest_fed : FoldHasher → RestTree → FoldHasher
rest_fed h r = tree_fed (byte_fed (byte_fed h 14) (infix_number r.0)) r.1

pub rests_step : (h : FoldHasher) (xs : List Rest) (i : ℕ) (x : Rest) → i < length xs → x ≡ get_or xs i x
    → rests_fed (rest_fed h (rest x)) (rests_of (map rest (drop (i + 1) xs))) ≡ rests_fed h (rests_of (map rest (drop i xs)))
rests_step h xs i x less at =
    sym (
    at_drop_more (λ l. rests_fed h (rests_of (map rest l))) xs i x less
    ∙ ap (λ y. rests_fed (rest_fed h (rest y)) (rests_of (map rest (drop (i + 1) xs)))) (sym at))

pub rests_end : (h : FoldHasher) (xs : List Rest) (i : ℕ) → length xs ≤ i → rests_fed h (rests_of (map rest (drop i xs))) ≡ byte_fed h 15
rests_end h xs i over = at_drop_all (λ l. rests_fed h (rests_of (map rest l))) xs i over

pub name_step : (h : FoldHasher) (bs : List ℕ) (i : ℕ) → i < length bs
    → name_fed h (drop i bs) ≡ fold byte_fed h (lowercase (get_or bs i 0 ∷ drop (i + 1) bs))
name_step h bs i less = at_drop_more (name_fed h) bs i 0 less

pub name_end : (h : FoldHasher) (bs : List ℕ) (i : ℕ) → length bs ≤ i → name_fed h (drop i bs) ≡ h
name_end h bs i over = at_drop_all (name_fed h) bs i over

pub same_have_one_digest : SameHaveOneDigest
same_have_one_digest a b e same =
    ap (λ n. folding.finish (tree_fed (fold byte_fed folding.initial n) e)) ((bytes_decides (lowercase a) (lowercase b)).0 same)

pub ruleset steps = (trees_step, trees_end, rests_step, rests_end, name_step, name_end)
