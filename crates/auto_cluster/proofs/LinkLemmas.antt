-- Links that are added to a list.
use Rattle.std.proofs.Common.{◌≡◌, ℕ, zero, suc, ◌+◌, ◌<◌, ◌≤◌, ◌&&◌, ◌||◌, Bool, true, false, List, [], ◌∷◌, ◌++◌, length, map, take, drop, get_or, Some, refl, ap, sym, ◌∙◌, subst, arith, rules}
use Rattle.std.specs.Prelude.{slice_get}
use Rattle.std.specs.List.{list_any}
use Rattle.std.proofs.lemmas.Bool.{or_right}
use Rattle.std.proofs.lemmas.List.{drop_more, drop_all, take_all}
use Rattle.std.proofs.lemmas.List.Folds.{list_any-append, list_any_more}
use Rattle.ad_value.specs.Names.{same_name}
use Rattle.ad_tree.specs.declared.tree.Expr.{Expr, the_lemmas}
use Rattle.ad_tree.specs.declared.tree.ExprList.{ExprList}
use Rattle.ad_tree.specs.declared.tree.RestList.{RestList, out-RestList, fold_out-RestList}
use Rattle.ad_tree.specs.declared.tree.Rest.{Rest}
use Rattle.ad_tree.specs.Tree.{Tree, RestTree, tree, trees, trees_of, rest, rests, rests_of, tree_step, trees_step, rest_step, rests_step}
use Rattle.ad_tree.specs.Ad.{Attributes}
use Rattle.auto_cluster.specs.declared.links.Link.{Link}
use Rattle.auto_cluster.specs.Links.{is_linked, HasAlso, HasLinks, HasOf}
use Rattle.auto_cluster.specs.Significant.{refers_to, trees_refer_to, rests_refer_to, leads_to}
use Rattle.auto_cluster.specs.Clustering.{AreLinksOf}
use Rattle.auto_cluster.proofs.Members.{name_congr}

or_false : (b : Bool) → (b || false) ≡ b
or_false true = refl
or_false false = refl

-- ---- one link

linked_alike : (ls : List Link) (x y u v : List ℕ) → same_name x u ≡ true → same_name y v ≡ true → is_linked ls x y ≡ is_linked ls u v
linked_alike [] x y u v s t = refl
linked_alike (l ∷ ls) x y u v s t = λ i. (name_congr x u l.from s i && name_congr y v l.to t i) || linked_alike ls x y u v s t i

pub there_already : (ls : List Link) (x y : List ℕ) → is_linked ls x y ≡ true → HasAlso ls ls x (λ z. same_name z y)
there_already ls x y h u v = by (same_name u x) (same_name v y) refl refl
  where
    by : (b c : Bool) → same_name u x ≡ b → same_name v y ≡ c → is_linked ls u v ≡ (is_linked ls u v || (b && c))
    by true true s t = (linked_alike ls u v x y s t ∙ h) ∙ sym (or_right (is_linked ls u v) true refl)
    by true false s t = sym (or_false (is_linked ls u v))
    by false c s t = sym (or_false (is_linked ls u v))

pub one_pushed : (old new : List Link) (l : Link) (x y : List ℕ) → new ≡ old ++ l ∷ [] → l ≡ record { from = x; to = y } → HasAlso old new x (λ z. same_name z y)
one_pushed old new l x y e f u v =
    ap (λ ls. is_linked ls u v) e
    ∙ list_any-append (λ (m : Link). same_name u m.from && same_name v m.to) old (l ∷ [])
    ∙ ap (λ b. is_linked old u v || b) (or_false _)
    ∙ ap (λ (m : Link). is_linked old u v || (same_name u m.from && same_name v m.to)) f

-- ---- links of an expression

none_more : (a s : Bool) → a ≡ (a || (s && false))
none_more true s = refl
none_more false true = refl
none_more false false = refl

two_more : (a s f g : Bool) → ((a || (s && f)) || (s && g)) ≡ (a || (s && (f || g)))
two_more true s f g = refl
two_more false true f g = refl
two_more false false f g = refl

pub also_none : (ls : List Link) (x : List ℕ) → HasAlso ls ls x (λ z. false)
also_none ls x u v = none_more (is_linked ls u v) (same_name u x)

pub also_both : (old mid new : List Link) (x : List ℕ) (f g : List ℕ → Bool) → HasAlso old mid x f → HasAlso mid new x g → HasAlso old new x (λ z. f z || g z)
also_both old mid new x f g h k u v = k u v ∙ ap (λ b. b || (same_name u x && g v)) (h u v) ∙ two_more (is_linked old u v) (same_name u x) (f v) (g v)

pub also_three : (old one two new : List Link) (x : List ℕ) (f g h : List ℕ → Bool) → HasAlso old one x f → HasAlso one two x g → HasAlso two new x h → HasAlso old new x (λ z. f z || (g z || h z))
also_three old one two new x f g h a b c = also_both old one new x f (λ z. g z || h z) a (also_both one two new x g h b c)

-- ---- the loops: what is still to come gives what all gives

-- the links of a list, and those from a name to each of some that are still to come
abbrev pub IsLeft : List Link → List Link → List ℕ → (List ℕ → Bool) → (List ℕ → Bool) → Type 0
IsLeft now first x left all = (y z : List ℕ) → (is_linked now y z || (same_name y x && left z)) ≡ (is_linked first y z || (same_name y x && all z))

pub left_all : (ls : List Link) (x : List ℕ) (all : List ℕ → Bool) → IsLeft ls ls x all all
left_all ls x all y z = refl

left_step : (now later first : List Link) (x : List ℕ) (f left rest all : List ℕ → Bool) → ((z : List ℕ) → left z ≡ (f z || rest z)) → IsLeft now first x left all → HasAlso now later x f → IsLeft later first x rest all
left_step now later first x f left rest all e h k y z =
    ap (λ b. b || (same_name y x && rest z)) (k y z)
    ∙ two_more (is_linked now y z) (same_name y x) (f z) (rest z)
    ∙ sym (ap (λ b. is_linked now y z || (same_name y x && b)) (e z))
    ∙ h y z

left_none : (now first : List Link) (x : List ℕ) (left all : List ℕ → Bool) → ((z : List ℕ) → left z ≡ false) → IsLeft now first x left all → HasAlso first now x all
left_none now first x left all e h y z = none_more (is_linked now y z) (same_name y x) ∙ sym (ap (λ b. is_linked now y z || (same_name y x && b)) (e z)) ∙ h y z

pub trees_left : List Expr → ℕ → List ℕ → Bool
trees_left es i z = trees_refer_to (trees_of (map tree (drop i es))) z

pub trees_more : (es : List Expr) (i : ℕ) (e d : Expr) (now later first : List Link) (x : List ℕ) (all : List ℕ → Bool) → i < length es → e ≡ get_or es i d
    → IsLeft now first x (trees_left es i) all → HasAlso now later x (refers_to (tree e)) → IsLeft later first x (trees_left es (i + 1)) all
unfolding trees_left
trees_more es i e d now later first x all lt is h k =
    left_step now later first x (refers_to (tree e)) (trees_left es i) (trees_left es (i + 1)) all
    (λ z. ap (λ l. trees_refer_to (trees_of (map tree l)) z) (drop_more es i d lt) ∙ ap (λ f. refers_to (tree f) z || trees_left es (i + 1) z) (sym is)) h k

pub trees_end : (es : List Expr) (i : ℕ) (now first : List Link) (x : List ℕ) (all : List ℕ → Bool) → length es ≤ i → IsLeft now first x (trees_left es i) all → HasAlso first now x all
unfolding trees_left
trees_end es i now first x all le h = left_none now first x (trees_left es i) all (λ z. ap (λ l. trees_refer_to (trees_of (map tree l)) z) (drop_all i es le)) h

pub trees_begin : (list : ExprList) (es : List Expr) (ls : List Link) (x : List ℕ) → es ≡ list.items.items → IsLeft ls ls x (trees_left es 0) (trees_refer_to (trees_of (trees list)))
unfolding trees_left
trees_begin list es ls x e y z =
    let whole : map tree list.items.items ≡ trees list = search (rules, the_lemmas) in
    ap (λ l. is_linked ls y z || (same_name y x && trees_refer_to (trees_of l) z)) (ap (map tree) e ∙ whole)

pub rests_left : List Rest → ℕ → List ℕ → Bool
rests_left rs i z = rests_refer_to (rests_of (map rest (drop i rs))) z

pub rests_more : (rs : List Rest) (i : ℕ) (r d : Rest) (now later first : List Link) (x : List ℕ) (all : List ℕ → Bool) → i < length rs → r ≡ get_or rs i d
    → IsLeft now first x (rests_left rs i) all → HasAlso now later x (refers_to (rest r).1) → IsLeft later first x (rests_left rs (i + 1)) all
unfolding rests_left
rests_more rs i r d now later first x all lt is h k =
    left_step now later first x (refers_to (rest r).1) (rests_left rs i) (rests_left rs (i + 1)) all
    (λ z. ap (λ l. rests_refer_to (rests_of (map rest l)) z) (drop_more rs i d lt) ∙ ap (λ f. refers_to (rest f).1 z || rests_left rs (i + 1) z) (sym is)) h k

pub rests_end : (rs : List Rest) (i : ℕ) (now first : List Link) (x : List ℕ) (all : List ℕ → Bool) → length rs ≤ i → IsLeft now first x (rests_left rs i) all → HasAlso first now x all
unfolding rests_left
rests_end rs i now first x all le h = left_none now first x (rests_left rs i) all (λ z. ap (λ l. rests_refer_to (rests_of (map rest l)) z) (drop_all i rs le)) h

rests-map : (l : RestList) → rests l ≡ map rest (out-RestList l).items.items
rests-map = fold_out-RestList Tree (List Tree) RestTree (List RestTree) tree_step trees_step rest_step rests_step

pub rests_begin : (list : RestList) (rs : List Rest) (ls : List Link) (x : List ℕ) → rs ≡ (out-RestList list).items.items → IsLeft ls ls x (rests_left rs 0) (rests_refer_to (rests_of (rests list)))
unfolding rests_left
rests_begin list rs ls x e y z = ap (λ l. is_linked ls y z || (same_name y x && rests_refer_to (rests_of l) z)) (ap (map rest) e ∙ sym (rests-map list))

-- ---- the links of ads

or_assoc : (a b c : Bool) → ((a || b) || c) ≡ (a || (b || c))
or_assoc true b c = refl
or_assoc false b c = refl

pub links_none : (ls : List Link) (ad : Attributes) → HasLinks ls ls (λ y z. leads_to y z (take 0 ad))
links_none ls [] y z = sym (or_false (is_linked ls y z))
links_none ls (a ∷ ad) y z = sym (or_false (is_linked ls y z))

pub at_place : (ad : Attributes) (i : ℕ) (d : List ℕ × Tree) → i < length ad → slice_get ad i ≡ Some (get_or ad i d)
at_place [] i d h = absurd (omega arith)
at_place (a ∷ ad) zero d h = refl
at_place (a ∷ ad) (suc i) d h = at_place ad i d (omega arith)

pub links_more : (first now later : List Link) (ad : Attributes) (i : ℕ) (d : List ℕ × Tree) → i < length ad → HasLinks first now (λ y z. leads_to y z (take i ad)) → HasOf now later (slice_get ad i)
    → HasLinks first later (λ y z. leads_to y z (take (i + 1) ad))
links_more first now later ad i d h k s y z =
    let more : HasAlso now later (get_or ad i d).0 (refers_to (get_or ad i d).1) = subst (HasOf now later) (at_place ad i d h) s in
    more y z
    ∙ ap (λ b. b || (same_name y (get_or ad i d).0 && refers_to (get_or ad i d).1 z)) (k y z)
    ∙ or_assoc (is_linked first y z) _ _
    ∙ ap (λ b. is_linked first y z || b) (sym (list_any_more (λ (a : List ℕ × Tree). same_name y a.0 && refers_to a.1 z) ad i d h))

pub links_end : (first now : List Link) (ad : Attributes) (i : ℕ) → length ad ≤ i → HasLinks first now (λ y z. leads_to y z (take i ad)) → HasLinks first now (λ y z. leads_to y z ad)
links_end first now ad i h k y z = k y z ∙ ap (λ l. is_linked first y z || leads_to y z l) (take_all i ad h)

pub ads_more : (now later : List Link) (ads : List Attributes) (i : ℕ) (ad d : Attributes) → i < length ads → ad ≡ get_or ads i d → AreLinksOf (take i ads) now → HasLinks now later (λ y z. leads_to y z ad)
    → AreLinksOf (take (i + 1) ads) later
ads_more now later ads i ad d h e k s y z =
    s y z
    ∙ ap (λ b. b || leads_to y z ad) (k y z)
    ∙ ap (λ a. list_any (leads_to y z) (take i ads) || leads_to y z a) e
    ∙ sym (list_any_more (leads_to y z) ads i d h)
