-- The digest of an attribute: what a hasher makes of its name in lower case and its expression.
use Rattle.std.specs.Prelude.{◌≡◌, ℕ, ℤ, true, false, List, fold}
use Rattle.std.specs.Hash as fed
use Rattle.std.specs.Hash.FoldHasher as folding
use Rattle.std.specs.declared.hash.FoldHasher.{FoldHasher}
use Rattle.ad_value.specs.Content.{Content, undefined, error, truth, integer, text}
use Rattle.ad_value.specs.Content as value
use Rattle.ad_value.specs.Names.{lowercase, same_name}
use Rattle.ad_tree.specs.declared.operator.Scope.{Scope}
use Rattle.ad_tree.specs.declared.operator.Scope.TheVariants.{Bare, My, Target}
use Rattle.ad_tree.specs.declared.operator.UnOp.{UnOp}
use Rattle.ad_tree.specs.declared.operator.UnOp.TheVariants.{Minus, Plus, Not}
use Rattle.ad_tree.specs.declared.operator.BinOp.{BinOp}
use Rattle.ad_tree.specs.declared.operator.BinOp.TheVariants as joins
use Rattle.ad_tree.specs.Tree.{Tree, literal, reference, unary, chain, choice, or_else, call, items, Rests, no_rests, and_rest, Trees, no_trees, and_tree}

abbrev pub scope_number : Scope → ℕ
scope_number Bare = 0
scope_number My = 1
scope_number Target = 2

abbrev pub prefix_number : UnOp → ℕ
prefix_number Minus = 0
prefix_number Plus = 1
prefix_number Not = 2

abbrev pub infix_number : BinOp → ℕ
infix_number joins.Or = 0
infix_number joins.And = 1
infix_number joins.Equal = 2
infix_number joins.NotEqual = 3
infix_number joins.Same = 4
infix_number joins.NotSame = 5
infix_number joins.Less = 6
infix_number joins.LessEqual = 7
infix_number joins.GreaterEqual = 8
infix_number joins.Greater = 9
infix_number joins.Add = 10
infix_number joins.Subtract = 11
infix_number joins.Multiply = 12
infix_number joins.Divide = 13
infix_number joins.Modulo = 14

-- ---- the state of a hasher once it was fed

abbrev pub byte_fed : FoldHasher → ℕ → FoldHasher
byte_fed h b = fold folding.write h (fed.u8 b)

abbrev pub text_fed : FoldHasher → List ℕ → FoldHasher
text_fed h t = fold folding.write h (fed.str t)

abbrev pub integer_fed : FoldHasher → ℤ → FoldHasher
integer_fed h n = fold folding.write h (fed.i64 n)

-- a name in lower case, byte by byte
abbrev pub name_fed : FoldHasher → List ℕ → FoldHasher
name_fed h n = fold byte_fed h (lowercase n)

-- each kind of expression has a number of its own
abbrev pub content_fed : FoldHasher → Content → FoldHasher
content_fed h undefined = byte_fed h 0
content_fed h error = byte_fed h 1
content_fed h (truth false) = byte_fed h 2
content_fed h (truth true) = byte_fed h 3
content_fed h (integer n) = integer_fed (byte_fed h 4) n
content_fed h (text t) = text_fed (byte_fed h 5) t
content_fed h (value.items cs) = byte_fed h 6

abbrev mutual
  pub tree_fed : FoldHasher → Tree → FoldHasher
  tree_fed h (literal c) = content_fed h c
  tree_fed h (reference s n) = text_fed (byte_fed (byte_fed h 7) (scope_number s)) n
  tree_fed h (unary op e) = tree_fed (byte_fed (byte_fed h 8) (prefix_number op)) e
  tree_fed h (chain e rs) = rests_fed (tree_fed (byte_fed h 9) e) rs
  tree_fed h (choice t y n) = tree_fed (tree_fed (tree_fed (byte_fed h 10) t) y) n
  tree_fed h (or_else e f) = tree_fed (tree_fed (byte_fed h 11) e) f
  tree_fed h (call n es) = trees_fed (text_fed (byte_fed h 12) n) es
  tree_fed h (items es) = trees_fed (byte_fed h 13) es

  -- each item behind a number, and at the end another
  pub trees_fed : FoldHasher → Trees → FoldHasher
  trees_fed h no_trees = byte_fed h 15
  trees_fed h (and_tree e es) = trees_fed (tree_fed (byte_fed h 14) e) es

  pub rests_fed : FoldHasher → Rests → FoldHasher
  rests_fed h no_rests = byte_fed h 15
  rests_fed h (and_rest op e rs) =
      rests_fed (tree_fed (byte_fed (byte_fed h 14) (infix_number op)) e) rs

abbrev pub attribute_digest : List ℕ → Tree → ℕ
attribute_digest name e = folding.finish (tree_fed (name_fed folding.initial name) e)

-- ---- its law

abbrev pub SameHaveOneDigest : Type 0
SameHaveOneDigest = (a b : List ℕ) (e : Tree)
    → same_name a b ≡ true → attribute_digest a e ≡ attribute_digest b e
