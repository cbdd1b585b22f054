-- What a reference finds, and what it means where the two ads are exchanged.
use Rattle.std.proofs.Common.{◌≡◌, ℕ, zero, suc, ◌-◌, ◌+◌, ◌==◌, ◌&&◌, Bool, true, false, cond, List, [], ◌∷◌, ◌++◌, length, Option, Some, None, option_map, refl, ap, sym, ◌∙◌, zero-add, arith}
use Rattle.std.specs.Prelude.{slice_get}
use Rattle.std.specs.List.{position_from}
use Rattle.std.specs.Option.{option_or}
use Rattle.std.proofs.lemmas.Iterator.Adapters.{position_from-zero}
use Rattle.std.proofs.lemmas.List.{length-map, map-append}
use Rattle.ad_value.specs.Content.{Content, error}
use Rattle.ad_value.specs.Names.{same_name}
use Rattle.ad_tree.specs.declared.operator.Scope.{Scope}
use Rattle.ad_tree.specs.declared.operator.Scope.TheVariants as scope
use Rattle.ad_tree.specs.Tree.{Tree}
use Rattle.ad_tree.specs.Ad.{Attributes, lookup, names}
use Rattle.ad_eval.specs.declared.progress.Progress.{Progress}
use Rattle.ad_eval.specs.declared.progress.TheConstants.{MOST_IN_PROGRESS}
use Rattle.ad_eval.specs.declared.sides.Side.{Side}
use Rattle.ad_eval.specs.declared.sides.Side.TheVariants as side
use Rattle.ad_eval.specs.Mean.{Ads, FoundTree, PlacedTree, ad_on, opposite, at_place, placed_attribute, found_in_ad, here_or, found_on_side, found_place, same_side, is_among, look_found, look, tree_value}
use Rattle.ad_eval.specs.Laws.{exchanged, exchanged_progress, FindsWhatIsThere, MeansTheSameExchanged}

-- ---- what is found

looked_up_from : (x : List ℕ) (whole : Attributes) (i : ℕ) (ad : Attributes) → ((k : ℕ) → slice_get whole (i + k) ≡ slice_get ad k) → option_map (λ p. p.1) (at_place whole (position_from (same_name x) i (names ad))) ≡ lookup x ad
looked_up_from x whole i [] h = refl
looked_up_from x whole i (a ∷ ad) h = by (same_name x a.0) (looked_up_from x whole (i + 1) ad (λ k. ap (slice_get whole) (next k) ∙ h (suc k)))
  where
    next : (k : ℕ) → i + 1 + k ≡ i + suc k
    next k = omega arith

    first : i ≡ i + 0
    first = omega arith

    here : slice_get whole i ≡ Some a
    here = ap (slice_get whole) first ∙ h 0

    by : (b : Bool) → option_map (λ p. p.1) (at_place whole (position_from (same_name x) (i + 1) (names ad))) ≡ lookup x ad → option_map (λ p. p.1) (at_place whole (cond b (Some i) (position_from (same_name x) (i + 1) (names ad)))) ≡ cond b (Some a.1) (lookup x ad)
    by true more = ap (λ o. option_map (λ p. p.1) (placed_attribute i o)) here
    by false more = more

found_is_looked_up : (x : List ℕ) (ad : Attributes) → option_map (λ p. p.1) (found_in_ad x ad) ≡ lookup x ad
found_is_looked_up x ad =
    ap (λ o. option_map (λ p. p.1) (at_place ad o)) (position_from-zero (same_name x) (names ad)) ∙ looked_up_from x ad 0 ad (λ k. ap (slice_get ad) (zero-add k))

tree_of_here : (s : Side) (o : Option PlacedTree) (r : Option FoundTree) → option_map (λ f. f.2) (here_or s o r) ≡ option_or (option_map (λ p. p.1) o) (option_map (λ f. f.2) r)
tree_of_here s None r = refl
tree_of_here s (Some p) r = refl

or_none : (o : Option Tree) → option_or o None ≡ o
or_none None = refl
or_none (Some e) = refl

on_side : (ads : Ads) (s : Side) (x : List ℕ) → option_map (λ f. f.2) (found_on_side ads s x) ≡ lookup x (ad_on ads s)
on_side ads s x = tree_of_here s (found_in_ad x (ad_on ads s)) None ∙ or_none _ ∙ found_is_looked_up x (ad_on ads s)

pub finds_what_is_there : (ads : Ads) (s : Side) (c : Scope) (x : List ℕ) → FindsWhatIsThere ads s c x
finds_what_is_there ads s scope.My x = on_side ads s x
finds_what_is_there ads s scope.Target x = on_side ads (opposite s) x
finds_what_is_there ads s scope.Bare x =
    tree_of_here s (found_in_ad x (ad_on ads s)) (found_on_side ads (opposite s) x)
    ∙ (λ i. option_or (found_is_looked_up x (ad_on ads s) i) (on_side ads (opposite s) x i))

-- ---- the ads exchanged

abbrev turned : FoundTree → FoundTree
turned f = (opposite f.0, f.1, f.2)

same_ad : (ads : Ads) (s : Side) → ad_on (exchanged ads) (opposite s) ≡ ad_on ads s
same_ad ads side.My = refl
same_ad ads side.Target = refl

here_turned : (s : Side) (o : Option PlacedTree) (r q : Option FoundTree) → q ≡ option_map turned r → here_or (opposite s) o q ≡ option_map turned (here_or s o r)
here_turned s None r q e = e
here_turned s (Some p) r q e = refl

side_turned : (ads : Ads) (s : Side) (x : List ℕ) → found_on_side (exchanged ads) (opposite s) x ≡ option_map turned (found_on_side ads s x)
side_turned ads s x = ap (λ ad. here_or (opposite s) (found_in_ad x ad) None) (same_ad ads s) ∙ here_turned s (found_in_ad x (ad_on ads s)) None None refl

place_turned : (ads : Ads) (s : Side) (c : Scope) (x : List ℕ) → found_place (exchanged ads) (opposite s) c x ≡ option_map turned (found_place ads s c x)
place_turned ads s scope.My x = side_turned ads s x
place_turned ads s scope.Target x = side_turned ads (opposite s) x
place_turned ads s scope.Bare x =
    ap (λ ad. here_or (opposite s) (found_in_ad x ad) (found_on_side (exchanged ads) (opposite (opposite s)) x)) (same_ad ads s)
    ∙ here_turned s (found_in_ad x (ad_on ads s)) (found_on_side ads (opposite s) x) _ (side_turned ads (opposite s) x)

side_alike : (p s : Side) → same_side (opposite p) (opposite s) ≡ same_side p s
side_alike side.My side.My = refl
side_alike side.My side.Target = refl
side_alike side.Target side.My = refl
side_alike side.Target side.Target = refl

among_turned : (s : Side) (i : ℕ) (b : Progress) → is_among (opposite s) i (exchanged_progress b) ≡ is_among s i b
among_turned s i [] = refl
among_turned s i (p ∷ b) = λ j. cond (side_alike p.0 s j && (p.1 == i)) true (among_turned s i b j)

found_turned : (m n : Side → ℕ → Tree → Content) (b : Progress) (o : Option FoundTree) → ((q : Side) (i : ℕ) (e : Tree) → m q i e ≡ n (opposite q) i e) → look_found m b o ≡ look_found n (exchanged_progress b) (option_map turned o)
found_turned m n b None h = refl
found_turned m n b (Some f) h = let again = sym (among_turned f.0 f.1 b) in λ j. cond (again j) error (h f.0 f.1 f.2 j)

look_turned : (n : ℕ) (ads : Ads) (s : Side) (now : ℕ) (b : Progress) (c : Scope) (x : List ℕ) → look n ads s now b c x ≡ look n (exchanged ads) (opposite s) now (exchanged_progress b) c x
unfolding look
look_turned zero ads s now b c x = refl
look_turned (suc n) ads s now b c x =
    found_turned (λ q i e. tree_value (look n ads q now (b ++ (q, i) ∷ [])) now e) (λ q i e. tree_value (look n (exchanged ads) q now (exchanged_progress b ++ (q, i) ∷ [])) now e) b (found_place ads s c x) (λ q i e. ap (λ l. tree_value l now e) (more (λ r p d y. look_turned n ads r now p d y) q i))
    ∙ ap (look_found (λ q i e. tree_value (look n (exchanged ads) q now (exchanged_progress b ++ (q, i) ∷ [])) now e) (exchanged_progress b)) (sym (place_turned ads s c x))
  where
    more : ((r : Side) (p : Progress) (d : Scope) (y : List ℕ) → look n ads r now p d y ≡ look n (exchanged ads) (opposite r) now (exchanged_progress p) d y) → (q : Side) (i : ℕ) → look n ads q now (b ++ (q, i) ∷ []) ≡ look n (exchanged ads) (opposite q) now (exchanged_progress b ++ (opposite q, i) ∷ [])
    more fewer q i = (λ j d y. fewer q (b ++ (q, i) ∷ []) d y j) ∙ ap (look n (exchanged ads) (opposite q) now) (map-append _ b ((q, i) ∷ []))

pub means_the_same_exchanged : (ads : Ads) (s : Side) (now : ℕ) (b : Progress) (e : Tree) → MeansTheSameExchanged ads s now b e
means_the_same_exchanged ads s now b e =
    ap (λ l. tree_value l now e) ((λ j c x. look_turned (MOST_IN_PROGRESS - length b) ads s now b c x j) ∙ ap (λ k. look k (exchanged ads) (opposite s) now (exchanged_progress b)) (ap (λ k. MOST_IN_PROGRESS - k) (sym (length-map b _))))
