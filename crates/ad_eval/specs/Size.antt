-- How large expressions are, by which an evaluation ends: an expression counts twice, since it goes
-- to the function of its form first.
use Rattle.std.specs.Prelude.{ℕ, ◌+◌, max, [], ◌∷◌}
use Rattle.ad_tree.specs.Tree.{Tree, Trees, Rests, literal, reference, unary, chain, choice, or_else, call, items, no_trees, and_tree, no_rests, and_rest}
use Rattle.ad_tree.specs.Ad.{Attributes}
use Rattle.ad_eval.specs.Mean.{Ads}

abbrev mutual
  pub tree_size : Tree → ℕ
  tree_size (literal c) = 1
  tree_size (reference s x) = 1
  tree_size (unary op e) = 2 + tree_size e
  tree_size (chain e rs) = 2 + tree_size e + rests_size rs
  tree_size (choice t y n) = 2 + tree_size t + tree_size y + tree_size n
  tree_size (or_else e f) = 2 + tree_size e + tree_size f
  tree_size (call x es) = 2 + trees_size es
  tree_size (items es) = 2 + trees_size es

  pub trees_size : Trees → ℕ
  trees_size no_trees = 0
  trees_size (and_tree e es) = 1 + tree_size e + trees_size es

  pub rests_size : Rests → ℕ
  rests_size no_rests = 0
  rests_size (and_rest op e rs) = 2 + tree_size e + rests_size rs

-- the size of an ad's largest expression
abbrev pub largest_tree : Attributes → ℕ
largest_tree [] = 0
largest_tree (a ∷ ad) = max (tree_size a.1) (largest_tree ad)

abbrev pub largest_tree_of : Ads → ℕ
largest_tree_of ads = max (largest_tree ads.my) (largest_tree ads.target)
