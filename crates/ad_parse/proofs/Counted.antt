-- The bytes of an expression's canonical text, piece by piece, up to the greatest number of 64 bits.
use Rattle.std.proofs.Common.{◌≡◌, ℕ, ◌+◌, ◌-◌, min, List, ◌++◌, codes, length, ap, sym, ◌∙◌, arith}
use Rattle.std.proofs.lemmas.List.{length-append}
use Rattle.ad_tree.specs.declared.tree.Expr.{Expr}
use Rattle.ad_tree.specs.declared.tree.Expr.TheVariants.{Call, Items}
use Rattle.ad_tree.specs.declared.tree.ExprList.{ExprList}
use Rattle.ad_tree.specs.declared.tree.RestList.{RestList}
use Rattle.ad_tree.specs.Tree.{Tree, chain, choice, or_else, tree, trees, trees_of, rests, rests_of}
use Rattle.ad_tree.proofs.TreeLemmas.{tree_call, tree_items}
use Rattle.ad_parse.specs.Canon.{canon, canon_rests, canon_items, rests_level}
use Rattle.ad_parse.proofs.Written.{operand}

module _ (s : ℕ) where
  -- a text's bytes more
  abbrev pub more : List ℕ → ℕ
  more x = min (s + length x) 18446744073709551615

  grown : (a b : ℕ) (x y : List ℕ) → a ≡ more x → b ≡ min (a + length y) 18446744073709551615 → b ≡ more (x ++ y)
  grown a b x y p q = omega (arith, length-append x y)

  whole : (n : ℕ) (e f : Tree) → e ≡ f → n ≡ more (canon f) → n ≡ more (canon e)
  whole n e f is p = p ∙ ap (λ e. more (canon e)) (sym is)

  pub chain_counted : (e x : Expr) (l : RestList) (n first all : ℕ) → tree e ≡ chain (tree x) (rests_of (rests l)) → n ≡ rests_level (rests_of (rests l)) - 1 → first ≡ more (operand n (tree x)) → all ≡ min (first + length (canon_rests (rests_of (rests l)))) 18446744073709551615 → all ≡ more (canon (tree e))
  chain_counted e x l n first all is level p q =
      whole all (tree e) _ is
      (grown first all (operand (rests_level (rests_of (rests l)) - 1) (tree x)) (canon_rests (rests_of (rests l))) (p ∙ ap (λ n. more (operand n (tree x))) level) q)

  pub choice_counted : (e x y z : Expr) (tested asked answered parted all : ℕ) → tree e ≡ choice (tree x) (tree y) (tree z) → tested ≡ more (operand 6 (tree x)) → asked ≡ min (tested + length (codes " ? ")) 18446744073709551615 → answered ≡ min (asked + length (canon (tree y))) 18446744073709551615 → parted ≡ min (answered + length (codes " : ")) 18446744073709551615 → all ≡ min (parted + length (canon (tree z))) 18446744073709551615 → all ≡ more (canon (tree e))
  choice_counted e x y z tested asked answered parted all is p q r t w =
      let test = operand 6 (tree x) in
      let yes = canon (tree y) in
      whole all (tree e) _ is
      (grown parted all (((test ++ codes " ? ") ++ yes) ++ codes " : ") (canon (tree z))
      (grown answered parted ((test ++ codes " ? ") ++ yes) (codes " : ")
      (grown asked answered (test ++ codes " ? ") yes
      (grown tested asked test (codes " ? ") p q) r) t) w)

  pub or_else_counted : (e x y : Expr) (first asked all : ℕ) → tree e ≡ or_else (tree x) (tree y) → first ≡ more (operand 6 (tree x)) → asked ≡ min (first + length (codes " ?: ")) 18446744073709551615 → all ≡ min (asked + length (canon (tree y))) 18446744073709551615 → all ≡ more (canon (tree e))
  or_else_counted e x y first asked all is p q r =
      let one = operand 6 (tree x) in
      whole all (tree e) _ is
      (grown asked all (one ++ codes " ?: ") (canon (tree y)) (grown first asked one (codes " ?: ") p q) r)

  pub call_counted : (e : Expr) (x : List ℕ) (l : ExprList) (named opened inner all : ℕ) → e ≡ Call x l → named ≡ more x → opened ≡ min (named + length (codes "(")) 18446744073709551615 → inner ≡ min (opened + length (canon_items (trees_of (trees l)))) 18446744073709551615 → all ≡ min (inner + length (codes ")")) 18446744073709551615 → all ≡ more (canon (tree e))
  call_counted e x l named opened inner all is p q r t =
      let within = canon_items (trees_of (trees l)) in
      whole all (tree e) _ (tree_call e x l is)
      (grown inner all ((x ++ codes "(") ++ within) (codes ")")
      (grown opened inner (x ++ codes "(") within (grown named opened x (codes "(") p q) r) t)

  pub items_counted : (e : Expr) (l : ExprList) (opened inner all : ℕ) → e ≡ Items l → opened ≡ more (codes "{") → inner ≡ min (opened + length (canon_items (trees_of (trees l)))) 18446744073709551615 → all ≡ min (inner + length (codes "}")) 18446744073709551615 → all ≡ more (canon (tree e))
  items_counted e l opened inner all is p q r =
      let within = canon_items (trees_of (trees l)) in
      whole all (tree e) _ (tree_items e l is)
      (grown inner all (codes "{" ++ within) (codes "}") (grown opened inner (codes "{") within p q) r)
