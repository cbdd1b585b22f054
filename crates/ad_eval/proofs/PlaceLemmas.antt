-- A place in an ad is as good as a name.
use Rattle.std.proofs.Common.{◌≡◌, ◌↔◌, ℕ, List, [], Some, IsTrue, position, get_or, ap, sym, ◌∙◌}
use Rattle.std.specs.Cmp.Lexicographic.{bytes_decides}
use Rattle.std.specs.Str.{bytes_eq}
use Rattle.std.proofs.lemmas.List.Quantifiers.{position-Some}
use Rattle.ad_value.specs.Names.{lowercase, same_name}
use Rattle.ad_tree.specs.Ad.{Attributes, names, place_of}

name_at : (ad : Attributes) (x : List ℕ) (i : ℕ) → place_of x ad ≡ Some i → lowercase x ≡ lowercase (get_or (names ad) i [])
name_at ad x i h = (bytes_decides (lowercase x) (lowercase (get_or (names ad) i []))).0 (position-Some (same_name x) (names ad) i [] h).1

pub same_place : (ad : Attributes) (x y : List ℕ) (i : ℕ) → place_of x ad ≡ Some i → (place_of y ad ≡ Some i ↔ IsTrue (same_name x y))
same_place ad x y i h = (λ k. (bytes_decides (lowercase x) (lowercase y)).1 (name_at ad x i h ∙ sym (name_at ad y i k)), from)
  where
    from : IsTrue (same_name x y) → place_of y ad ≡ Some i
    from e = sym (ap (λ l. position (λ n. bytes_eq l (lowercase n)) (names ad)) ((bytes_decides (lowercase x) (lowercase y)).0 e)) ∙ h
