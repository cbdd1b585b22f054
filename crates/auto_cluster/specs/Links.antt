-- Which name leads to which, as a list of pairs.
use Rattle.std.specs.Prelude.{◌≡◌, ℕ, Bool, false, ◌&&◌, ◌||◌, Option, Some, None, List, [], ◌∷◌, filter, not, cond, map}
use Rattle.std.specs.List.{list_any}
use Rattle.ad_value.specs.Names.{same_name}
use Rattle.ad_value.specs.declared.names.matching.TheConstants.{REQUIREMENTS, RANK}
use Rattle.ad_tree.specs.Tree.{Tree}
use Rattle.ad_tree.specs.Ad.{Attributes, without}
use Rattle.auto_cluster.specs.Significant.{refers_to}
use Rattle.auto_cluster.specs.declared.links.Link.{Link}

abbrev pub is_linked : List Link → List ℕ → List ℕ → Bool
is_linked ls x y = list_any (λ l. same_name x l.from && same_name y l.to) ls

-- a list has the old links, and one from a name to each of some
abbrev pub HasAlso : List Link → List Link → List ℕ → (List ℕ → Bool) → Type 0
HasAlso old new x to = (y z : List ℕ)
    → is_linked new y z ≡ (is_linked old y z || (same_name y x && to z))

-- a list has the old links, and these
abbrev pub HasLinks : List Link → List Link → (List ℕ → List ℕ → Bool) → Type 0
HasLinks old new more = (y z : List ℕ) → is_linked new y z ≡ (is_linked old y z || more y z)

-- a list has the old links, and those of an attribute, if there is one
abbrev pub HasOf : List Link → List Link → Option (List ℕ × Tree) → Type 0
HasOf old new None = HasLinks old new (λ y z. false)
HasOf old new (Some a) = HasAlso old new a.0 (refers_to a.1)

abbrev pub is_from : List ℕ → Link → Bool
is_from x l = same_name x l.from

abbrev pub links_beside : List ℕ → List Link → List Link
links_beside x ls = filter (λ l. not (is_from x l)) ls

abbrev pub ends_from : List ℕ → List Link → List (List ℕ)
ends_from x ls = map (λ l. l.to) (filter (is_from x) ls)

abbrev pub is_among : List (List ℕ) → List ℕ → Bool
is_among xs x = list_any (same_name x) xs

abbrev pub first_names : List (List ℕ)
first_names = REQUIREMENTS.now ∷ RANK.now ∷ []

-- without the attribute, where there is one whose name is not among those
abbrev pub kept_named : List (List ℕ) → Attributes → Option (List ℕ × Tree) → Attributes
kept_named xs part None = part
kept_named xs part (Some a) = cond (is_among xs a.0) part (without a.0 part)

abbrev pub name_of : Option (List ℕ × Tree) → List (List ℕ)
name_of None = []
name_of (Some a) = a.0 ∷ []
