-- An expression means the same over two pairs of ads that agree in all that it can reach.
use Rattle.std.proofs.Common.{◌≡◌, ℕ, zero, suc, ◌-◌, ◌==◌, ◌&&◌, true, cond, List, [], ◌∷◌, ◌++◌, Option, Some, None, refl, ap, sym, ◌∙◌}
use Rattle.std.proofs.lemmas.Bool.{or_left, or_right}
use Rattle.ad_value.specs.Content.{Content, error, contents_of}
use Rattle.ad_value.specs.Content as value
use Rattle.ad_value.specs.Truth.{truth_of, chosen_value}
use Rattle.ad_func.specs.Called.{call_value}
use Rattle.ad_tree.specs.declared.operator.Scope.{Scope}
use Rattle.ad_tree.specs.declared.operator.Scope.TheVariants as scope
use Rattle.ad_tree.specs.Tree.{Tree, Trees, Rests, literal, reference, unary, chain, choice, or_else, call, items, no_trees, and_tree, no_rests, and_rest}
use Rattle.ad_tree.specs.Ad.{lookup, place_of}
use Rattle.ad_eval.specs.declared.progress.Progress.{Progress}
use Rattle.ad_eval.specs.declared.progress.TheConstants.{MOST_IN_PROGRESS}
use Rattle.ad_eval.specs.declared.sides.Side.{Side}
use Rattle.ad_eval.specs.declared.sides.Side.TheVariants as side
use Rattle.ad_eval.specs.Operators.{binary_value, unary_value, first_defined}
use Rattle.ad_eval.specs.Mean.{Ads, NameValues, FoundTree, ad_on, opposite, found_in_ad, here_or, found_on_side, found_place, same_side, is_among, look_found, look, tree_value, rests_value, tree_values}
use Rattle.auto_cluster.specs.Significant.{refers_to, trees_refer_to, rests_refer_to}
use Rattle.auto_cluster.proofs.Members.{name_refl}
use Rattle.auto_cluster.proofs.Places.{Both, neither, both, both_found, place_is_name}

-- ---- an expression, where its names mean the same

mutual
  tree_alike : (look other : NameValues) (now : ℕ) (e : Tree) → ((c : Scope) (x : List ℕ) → refers_to e x ≡ true → look c x ≡ other c x) → tree_value look now e ≡ tree_value other now e
  tree_alike look other now (literal c) h = refl
  tree_alike look other now (reference s x) h = h s x (name_refl x)
  tree_alike look other now (unary op e) h = ap (unary_value op) (tree_alike look other now e h)
  tree_alike look other now (chain e rs) h =
      rests_alike look other now (tree_value look now e) (tree_value other now e) (tree_alike look other now e (λ c x t. h c x (or_left _ _ t))) rs (λ c x t. h c x (or_right _ _ t))
  tree_alike look other now (choice t y n) h =
      let at = tree_alike look other now t (λ c x r. h c x (or_left _ _ r)) in
      let ay = tree_alike look other now y (λ c x r. h c x (or_right (refers_to t x) _ (or_left _ _ r))) in
      let an = tree_alike look other now n (λ c x r. h c x (or_right (refers_to t x) _ (or_right (refers_to y x) _ r))) in
      λ i. chosen_value (truth_of (at i)) (ay i) (an i)
  tree_alike look other now (or_else e f) h =
      let ae = tree_alike look other now e (λ c x r. h c x (or_left _ _ r)) in
      let af = tree_alike look other now f (λ c x r. h c x (or_right (refers_to e x) _ r)) in
      λ i. first_defined (ae i) (af i)
  tree_alike look other now (call y es) h = ap (λ vs. call_value y vs now) (trees_alike look other now es h)
  tree_alike look other now (items es) h = ap (λ vs. value.items (contents_of vs)) (trees_alike look other now es h)

  rests_alike : (look other : NameValues) (now : ℕ) (v w : Content) → v ≡ w → (rs : Rests) → ((c : Scope) (x : List ℕ) → rests_refer_to rs x ≡ true → look c x ≡ other c x) → rests_value look now v rs ≡ rests_value other now w rs
  rests_alike look other now v w e no_rests h = e
  rests_alike look other now v w e (and_rest op a rs) h =
      let aa = tree_alike look other now a (λ c x r. h c x (or_left _ _ r)) in
      rests_alike look other now (binary_value op v (tree_value look now a)) (binary_value op w (tree_value other now a)) (λ i. binary_value op (e i) (aa i)) rs (λ c x r. h c x (or_right (refers_to a x) _ r))

  trees_alike : (look other : NameValues) (now : ℕ) (es : Trees) → ((c : Scope) (x : List ℕ) → trees_refer_to es x ≡ true → look c x ≡ other c x) → tree_values look now es ≡ tree_values other now es
  trees_alike look other now no_trees h = refl
  trees_alike look other now (and_tree e es) h =
      let ae = tree_alike look other now e (λ c x r. h c x (or_left _ _ r)) in
      let aes = trees_alike look other now es (λ c x r. h c x (or_right (refers_to e x) _ r)) in
      λ i. ae i ∷ aes i

-- ---- two pairs of ads

module _ (A B : Ads) (R : List ℕ → Type 0)
    (same : (q : Side) (x : List ℕ) → R x → lookup x (ad_on A q) ≡ lookup x (ad_on B q))
    (closed : (q : Side) (x : List ℕ) (e : Tree) → R x → lookup x (ad_on A q) ≡ Some e → (y : List ℕ) → refers_to e y ≡ true → R y) where
  -- attributes in progress are of the same names
  record SameName (p q : Side × ℕ) : Type 0 where
    name : List ℕ
    side : p.0 ≡ q.0
    first : place_of name (ad_on A p.0) ≡ Some p.1
    second : place_of name (ad_on B p.0) ≡ Some q.1

  abbrev AreSame : Progress → Progress → Type 0
  AreSame [] [] = Unit {0}
  AreSame [] (q ∷ qs) = ⊥
  AreSame (p ∷ ps) [] = ⊥
  AreSame (p ∷ ps) (q ∷ qs) = SameName p q × AreSame ps qs

  one_more : (ps qs : Progress) (p q : Side × ℕ) → AreSame ps qs → SameName p q → AreSame (ps ++ p ∷ []) (qs ++ q ∷ [])
  one_more [] [] p q h s = (s, tt)
  one_more [] (b ∷ qs) p q h s = absurd h
  one_more (a ∷ ps) [] p q h s = absurd h
  one_more (a ∷ ps) (b ∷ qs) p q h s = (h.0, one_more ps qs p q h.1 s)

  test_alike : (r s : Side) (x y : List ℕ) (i j k l : ℕ) → place_of x (ad_on A s) ≡ Some i → place_of x (ad_on B s) ≡ Some j → place_of y (ad_on A r) ≡ Some k → place_of y (ad_on B r) ≡ Some l → (same_side r s && (k == i)) ≡ (same_side r s && (l == j))
  test_alike side.My side.My x y i j k l pi pj pk pl = place_is_name (ad_on A side.My) x y i k pi pk ∙ sym (place_is_name (ad_on B side.My) x y j l pj pl)
  test_alike side.My side.Target x y i j k l pi pj pk pl = refl
  test_alike side.Target side.My x y i j k l pi pj pk pl = refl
  test_alike side.Target side.Target x y i j k l pi pj pk pl = place_is_name (ad_on A side.Target) x y i k pi pk ∙ sym (place_is_name (ad_on B side.Target) x y j l pj pl)

  among_alike : (s : Side) (x : List ℕ) (i j : ℕ) → place_of x (ad_on A s) ≡ Some i → place_of x (ad_on B s) ≡ Some j → (b d : Progress) → AreSame b d → is_among s i b ≡ is_among s j d
  among_alike s x i j pi pj [] [] h = refl
  among_alike s x i j pi pj [] (q ∷ qs) h = absurd h
  among_alike s x i j pi pj (p ∷ ps) [] h = absurd h
  among_alike s x i j pi pj (p ∷ ps) (q ∷ qs) h =
      let test = test_alike p.0 s x h.0.name i j p.1 q.1 pi pj h.0.first h.0.second ∙ ap (λ r. same_side r s && (q.1 == j)) h.0.side in
      let rest = among_alike s x i j pi pj ps qs h.1 in
      λ k. cond (test k) true (rest k)

  -- what a name finds in both pairs
  data FoundAlike (f g : Option FoundTree) : Type 0 where
    nothing : f ≡ None → g ≡ None → FoundAlike f g
    something : (q : Side) (i j : ℕ) (e : Tree) (y : List ℕ) → f ≡ Some (q, i, e) → g ≡ Some (q, j, e) → place_of y (ad_on A q) ≡ Some i → place_of y (ad_on B q) ≡ Some j → ((z : List ℕ) → refers_to e z ≡ true → R z) → FoundAlike f g

  here_alike : (s : Side) (x : List ℕ) → R x → (f g : Option FoundTree) → Both (ad_on A s) (ad_on B s) x → FoundAlike f g → FoundAlike (here_or s (found_in_ad x (ad_on A s)) f) (here_or s (found_in_ad x (ad_on B s)) g)
  here_alike s x r f g (neither ea eb) (nothing ef eg) = nothing (ap (λ o. here_or s o f) ea ∙ ef) (ap (λ o. here_or s o g) eb ∙ eg)
  here_alike s x r f g (neither ea eb) (something q i j e y ef eg pi pj h) = something q i j e y (ap (λ o. here_or s o f) ea ∙ ef) (ap (λ o. here_or s o g) eb ∙ eg) pi pj h
  here_alike s x r f g (both e i j pi pj ea eb l) found = something s i j e x (ap (λ o. here_or s o f) ea) (ap (λ o. here_or s o g) eb) pi pj (closed s x e r l)

  side_alike : (s : Side) (x : List ℕ) → R x → FoundAlike (found_on_side A s x) (found_on_side B s x)
  side_alike s x r = here_alike s x r None None (both_found (ad_on A s) (ad_on B s) x (same s x r)) (nothing refl refl)

  place_alike : (s : Side) (c : Scope) (x : List ℕ) → R x → FoundAlike (found_place A s c x) (found_place B s c x)
  place_alike s scope.My x r = side_alike s x r
  place_alike s scope.Target x r = side_alike (opposite s) x r
  place_alike s scope.Bare x r = here_alike s x r (found_on_side A (opposite s) x) (found_on_side B (opposite s) x) (both_found (ad_on A s) (ad_on B s) x (same s x r)) (side_alike (opposite s) x r)

  abbrev LooksAlike : ℕ → ℕ → Type 0
  LooksAlike n now = (s : Side) (b d : Progress) (c : Scope) (x : List ℕ) → AreSame b d → R x → look n A s now b c x ≡ look n B s now d c x

  found_alike : (n now : ℕ) (b d : Progress) (f g : Option FoundTree) → LooksAlike n now → AreSame b d → FoundAlike f g
      → look_found (λ q i e. tree_value (look n A q now (b ++ (q, i) ∷ [])) now e) b f ≡ look_found (λ q i e. tree_value (look n B q now (d ++ (q, i) ∷ [])) now e) d g
  found_alike n now b d f g fewer h (nothing ef eg) = ap (look_found _ b) ef ∙ sym (ap (look_found _ d) eg)
  found_alike n now b d f g fewer h (something q i j e y ef eg pi pj reach) =
      let now_same : SameName (q, i) (q, j) = record { name = y; side = refl; first = pi; second = pj } in
      let means = tree_alike (look n A q now (b ++ (q, i) ∷ [])) (look n B q now (d ++ (q, j) ∷ [])) now e (λ c z t. fewer q (b ++ (q, i) ∷ []) (d ++ (q, j) ∷ []) c z (one_more b d (q, i) (q, j) h now_same) (reach z t)) in
      let again = among_alike q y i j pi pj b d h in
      let middle : look_found (λ q i e. tree_value (look n A q now (b ++ (q, i) ∷ [])) now e) b (Some (q, i, e)) ≡ look_found (λ q i e. tree_value (look n B q now (d ++ (q, i) ∷ [])) now e) d (Some (q, j, e)) = (λ k. cond (again k) error (means k)) in
      ap (look_found _ b) ef ∙ middle ∙ sym (ap (look_found _ d) eg)

  look_alike : (n now : ℕ) → LooksAlike n now
  unfolding look
  look_alike zero now s b d c x h r = refl
  look_alike (suc n) now s b d c x h r = found_alike n now b d (found_place A s c x) (found_place B s c x) (look_alike n now) h (place_alike s c x r)

  -- a name that is reached means the same
  pub name_alike : (now : ℕ) (s : Side) (c : Scope) (x : List ℕ) → R x → look (MOST_IN_PROGRESS - 0) A s now [] c x ≡ look (MOST_IN_PROGRESS - 0) B s now [] c x
  name_alike now s c x r = look_alike (MOST_IN_PROGRESS - 0) now s [] [] c x tt r
