-- What is still to be followed reaches what all links reach.
use Rattle.std.proofs.Common.{◌≡◌, ℕ, ◌+◌, ◌&&◌, ◌||◌, Bool, true, false, not, cond, List, [], ◌∷◌, ◌++◌, map, length, take, get_or, ◌<◌, append_assoc, append-nil, subst, refl, ap, sym, ◌∙◌, inl, inr, arith, length-append}
use Rattle.std.specs.Prelude.{◌⊎◌, ◌↔◌, filter}
use Rattle.std.proofs.lemmas.Bool.{or_left, or_right, and_from, and_parts, true≢false}
use Rattle.std.proofs.lemmas.List.{map-append}
use Rattle.std.proofs.lemmas.List.Elements.{filter_more}
use Rattle.std.proofs.lemmas.List.Folds.{list_any-append}
use Rattle.ad_value.specs.Names.{same_name}
use Rattle.ad_value.specs.declared.names.matching.TheConstants.{REQUIREMENTS, RANK}
use Rattle.auto_cluster.specs.declared.links.Link.{Link}
use Rattle.auto_cluster.specs.Links.{is_linked, is_from, links_beside, ends_from, is_among, first_names}
use Rattle.auto_cluster.specs.Significant.{Reach, begins, goes_on, without_case, is_first_name}
use Rattle.auto_cluster.proofs.Members.{name_refl, name_sym, name_trans, name_congr}

-- ---- the links from a name, and the others

abbrev fits : Link → List ℕ → List ℕ → Bool
fits l u y = same_name u l.from && same_name y l.to

abbrev Split : List ℕ → List Link → List ℕ → List ℕ → Type 0
Split x ls u y = (is_among (ends_from x ls) y ≡ true) ⊎ (is_linked (links_beside x ls) u y ≡ true)

-- a link is one from the name or one of the others
split : (x : List ℕ) (ls : List Link) (u y : List ℕ) → is_linked ls u y ≡ true → Split x ls u y
split x [] u y h = absurd (true≢false (sym h))
split x (l ∷ ls) u y h = by (is_from x l) (fits l u y) refl h (split x ls u y)
  where
    more : (b : Bool) → Split x ls u y → (is_among (map (λ m. m.to) (cond b (l ∷ filter (is_from x) ls) (filter (is_from x) ls))) y ≡ true) ⊎ (is_linked (cond (not b) (l ∷ links_beside x ls) (links_beside x ls)) u y ≡ true)
    more true (inl t) = inl (or_right (same_name y l.to) (is_among (ends_from x ls) y) t)
    more true (inr t) = inr t
    more false (inl t) = inl t
    more false (inr t) = inr (or_right (fits l u y) (is_linked (links_beside x ls) u y) t)

    here : (b : Bool) → fits l u y ≡ true → (is_among (map (λ m. m.to) (cond b (l ∷ filter (is_from x) ls) (filter (is_from x) ls))) y ≡ true) ⊎ (is_linked (cond (not b) (l ∷ links_beside x ls) (links_beside x ls)) u y ≡ true)
    here true t = inl (or_left (same_name y l.to) (is_among (ends_from x ls) y) (and_parts (same_name u l.from) (same_name y l.to) t).1)
    here false t = inr (or_left (fits l u y) (is_linked (links_beside x ls) u y) t)

    by : (b c : Bool) → fits l u y ≡ c → (c || is_linked ls u y) ≡ true → (is_linked ls u y ≡ true → Split x ls u y) → (is_among (map (λ m. m.to) (cond b (l ∷ filter (is_from x) ls) (filter (is_from x) ls))) y ≡ true) ⊎ (is_linked (cond (not b) (l ∷ links_beside x ls) (links_beside x ls)) u y ≡ true)
    by b true e g rest = here b e
    by b false e g rest = more b (rest g)

-- of the others none is from the name
beside_not : (x : List ℕ) (ls : List Link) (u y : List ℕ) → same_name u x ≡ true → is_linked (links_beside x ls) u y ≡ false
beside_not x [] u y s = refl
beside_not x (l ∷ ls) u y s = by (is_from x l) refl (beside_not x ls u y s)
  where
    other : same_name x l.from ≡ false → fits l u y ≡ false
    other e = ap (λ t. t && same_name y l.to) (name_congr u x l.from s ∙ e)

    by : (b : Bool) → is_from x l ≡ b → is_linked (links_beside x ls) u y ≡ false → is_linked (cond (not b) (l ∷ links_beside x ls) (links_beside x ls)) u y ≡ false
    by true e more = more
    by false e more = ap (λ t. t || is_linked (links_beside x ls) u y) (other e) ∙ more

-- the others are links
beside_links : (x : List ℕ) (ls : List Link) (u y : List ℕ) → is_linked (links_beside x ls) u y ≡ true → is_linked ls u y ≡ true
beside_links x [] u y h = h
beside_links x (l ∷ ls) u y h = by (is_from x l) h (beside_links x ls u y)
  where
    at_front : (c : Bool) → (c || is_linked (links_beside x ls) u y) ≡ true → (is_linked (links_beside x ls) u y ≡ true → is_linked ls u y ≡ true) → (c || is_linked ls u y) ≡ true
    at_front true g more = refl
    at_front false g more = more g

    by : (b : Bool) → is_linked (cond (not b) (l ∷ links_beside x ls) (links_beside x ls)) u y ≡ true → (is_linked (links_beside x ls) u y ≡ true → is_linked ls u y ≡ true) → (fits l u y || is_linked ls u y) ≡ true
    by true g more = or_right (fits l u y) _ (more g)
    by false g more = at_front (fits l u y) g more

-- so are those from the name
ends_links : (x : List ℕ) (ls : List Link) (y : List ℕ) → is_among (ends_from x ls) y ≡ true → is_linked ls x y ≡ true
ends_links x [] y h = h
ends_links x (l ∷ ls) y h = by (is_from x l) refl h (ends_links x ls y)
  where
    at_front : (c : Bool) → same_name x l.from ≡ true → same_name y l.to ≡ c → (c || is_among (ends_from x ls) y) ≡ true → (is_among (ends_from x ls) y ≡ true → is_linked ls x y ≡ true) → (fits l x y || is_linked ls x y) ≡ true
    at_front true e t g more = or_left _ _ (and_from _ _ e t)
    at_front false e t g more = or_right (fits l x y) _ (more g)

    by : (b : Bool) → is_from x l ≡ b → is_among (map (λ m. m.to) (cond b (l ∷ filter (is_from x) ls) (filter (is_from x) ls))) y ≡ true → (is_among (ends_from x ls) y ≡ true → is_linked ls x y ≡ true) → (fits l x y || is_linked ls x y) ≡ true
    by true e g more = at_front (same_name y l.to) e refl g more
    by false e g more = or_right (fits l x y) _ (more g)

-- ---- one name followed

abbrev pub Reaches : List (List ℕ) → List Link → List ℕ → Type 0
Reaches xs ls y = Reach (is_among xs) (is_linked ls) y

among_last : (xs : List (List ℕ)) (x y : List ℕ) → is_among (xs ++ x ∷ []) y ≡ (is_among xs y || same_name y x)
among_last xs x y = list_any-append (same_name y) xs (x ∷ []) ∙ ap (λ t. is_among xs y || t) (or_false (same_name y x))
  where
    or_false : (b : Bool) → (b || false) ≡ b
    or_false true = refl
    or_false false = refl

among_append : (xs zs : List (List ℕ)) (y : List ℕ) → is_among (xs ++ zs) y ≡ (is_among xs y || is_among zs y)
among_append xs zs y = list_any-append (same_name y) xs zs

abbrev After : List (List ℕ) → List ℕ → List Link → List ℕ → Type 0
After xs x ls y = (same_name y x ≡ true) ⊎ Reaches (xs ++ ends_from x ls) (links_beside x ls) y

started : (xs : List (List ℕ)) (x : List ℕ) (ls : List Link) (y : List ℕ) (b c : Bool) → is_among xs y ≡ b → same_name y x ≡ c → (b || c) ≡ true → After xs x ls y
started xs x ls y true c e s h = inr (begins y (among_append xs (ends_from x ls) y ∙ or_left _ _ e))
started xs x ls y false c e s h = inl (s ∙ h)

next : (xs : List (List ℕ)) (x : List ℕ) (ls : List Link) (u y : List ℕ) → is_linked ls u y ≡ true → After xs x ls u → After xs x ls y
next xs x ls u y l a = by a (split x ls u y l)
  where
    at_end : is_among (ends_from x ls) y ≡ true → After xs x ls y
    at_end t = inr (begins y (among_append xs (ends_from x ls) y ∙ or_right (is_among xs y) _ t))

    by : After xs x ls u → Split x ls u y → After xs x ls y
    by (inl s) (inl t) = at_end t
    by (inl s) (inr t) = absurd (true≢false (sym t ∙ beside_not x ls u y s))
    by (inr r) (inl t) = at_end t
    by (inr r) (inr t) = inr (goes_on u y r t)

spelled : (xs : List (List ℕ)) (x : List ℕ) (ls : List Link) (u y : List ℕ) → same_name u y ≡ true → After xs x ls u → After xs x ls y
spelled xs x ls u y s (inl t) = inl (name_trans y u x (name_sym y u ∙ s) t)
spelled xs x ls u y s (inr r) = inr (without_case u y r s)

pub followed : (xs : List (List ℕ)) (x : List ℕ) (ls : List Link) (y : List ℕ) → Reaches (xs ++ x ∷ []) ls y → After xs x ls y
followed xs x ls z (begins y t) = started xs x ls y (is_among xs y) (same_name y x) refl refl (sym (among_last xs x y) ∙ t)
followed xs x ls z (goes_on u y r l) = next xs x ls u y l (followed xs x ls u r)
followed xs x ls z (without_case u y r s) = spelled xs x ls u y s (followed xs x ls u r)

first_reached : (xs : List (List ℕ)) (x : List ℕ) (ls : List Link) → Reaches (xs ++ x ∷ []) ls x
first_reached xs x ls = begins x (among_last xs x x ∙ or_right (is_among xs x) _ (name_refl x))

started_back : (xs : List (List ℕ)) (x : List ℕ) (ls : List Link) (y : List ℕ) (b : Bool) → is_among xs y ≡ b → (b || is_among (ends_from x ls) y) ≡ true → Reaches (xs ++ x ∷ []) ls y
started_back xs x ls y true e g = begins y (among_last xs x y ∙ or_left _ _ e)
started_back xs x ls y false e g = goes_on x y (first_reached xs x ls) (ends_links x ls y g)

back : (xs : List (List ℕ)) (x : List ℕ) (ls : List Link) (y : List ℕ) → Reaches (xs ++ ends_from x ls) (links_beside x ls) y → Reaches (xs ++ x ∷ []) ls y
back xs x ls z (begins y t) = started_back xs x ls y (is_among xs y) refl (sym (among_append xs (ends_from x ls) y) ∙ t)
back xs x ls z (goes_on u y r l) = goes_on u y (back xs x ls u r) (beside_links x ls u y l)
back xs x ls z (without_case u y r s) = without_case u y (back xs x ls u r) s

pub followed_back : (xs : List (List ℕ)) (x : List ℕ) (ls : List Link) (y : List ℕ) → After xs x ls y → Reaches (xs ++ x ∷ []) ls y
followed_back xs x ls y (inl s) = without_case x y (first_reached xs x ls) (name_sym x y ∙ s)
followed_back xs x ls y (inr r) = back xs x ls y r

-- ---- all names followed

pub nothing_left : (ls : List Link) (y : List ℕ) → Reaches [] ls y → ⊥
nothing_left ls z (begins y t) = true≢false (sym t)
nothing_left ls z (goes_on u y r l) = nothing_left ls u r
nothing_left ls z (without_case u y r s) = nothing_left ls u r

-- names that links reach, as far as they were followed
pub record AsFar (whole ls : List Link) (reached pending : List (List ℕ)) : Type 0 where
  pub all : (y : List ℕ) → Reach is_first_name (is_linked whole) y → (is_among reached y ≡ true) ⊎ Reaches pending ls y
  pub only : (y : List ℕ) → (is_among reached y ≡ true) ⊎ Reaches pending ls y → Reach is_first_name (is_linked whole) y

pub reach_by : (f g : List ℕ → Bool) (l m : List ℕ → List ℕ → Bool) → ((x : List ℕ) → f x ≡ g x) → ((x y : List ℕ) → l x y ≡ m x y) → (y : List ℕ) → Reach f l y → Reach g m y
reach_by f g l m ef el z (begins y t) = begins y (sym (ef y) ∙ t)
reach_by f g l m ef el z (goes_on u y r t) = goes_on u y (reach_by f g l m ef el u r) (sym (el u y) ∙ t)
reach_by f g l m ef el z (without_case u y r s) = without_case u y (reach_by f g l m ef el u r) s

or_end : (a b : Bool) → (a || (b || false)) ≡ (a || b)
or_end true b = refl
or_end false true = refl
or_end false false = refl

pub as_far-init : (whole : List Link) → AsFar whole whole [] first_names
as_far-init whole = record {
  all = λ y r. inr (reach_by is_first_name (is_among first_names) (is_linked whole) (is_linked whole) (λ x. sym (or_end (same_name x REQUIREMENTS.now) (same_name x RANK.now))) (λ u v. refl) y r);
  only = λ y h. from y h;
}
  where
    from : (y : List ℕ) → (is_among [] y ≡ true) ⊎ Reaches first_names whole y → Reach is_first_name (is_linked whole) y
    from y (inl t) = absurd (true≢false (sym t))
    from y (inr r) = reach_by (is_among first_names) is_first_name (is_linked whole) (is_linked whole) (λ x. or_end (same_name x REQUIREMENTS.now) (same_name x RANK.now)) (λ u v. refl) y r

pub as_far-more : (whole ls : List Link) (reached xs : List (List ℕ)) (x : List ℕ) → AsFar whole ls reached (xs ++ x ∷ []) → AsFar whole (links_beside x ls) (reached ++ x ∷ []) (xs ++ ends_from x ls)
as_far-more whole ls reached xs x h = record {
  all = λ y r. there y (h.all y r);
  only = λ y k. h.only y (back_at y k);
}
  where
    turn : (y : List ℕ) → After xs x ls y → (is_among (reached ++ x ∷ []) y ≡ true) ⊎ Reaches (xs ++ ends_from x ls) (links_beside x ls) y
    turn y (inl s) = inl (among_last reached x y ∙ or_right (is_among reached y) (same_name y x) s)
    turn y (inr q) = inr q

    there : (y : List ℕ) → (is_among reached y ≡ true) ⊎ Reaches (xs ++ x ∷ []) ls y → (is_among (reached ++ x ∷ []) y ≡ true) ⊎ Reaches (xs ++ ends_from x ls) (links_beside x ls) y
    there y (inl t) = inl (among_last reached x y ∙ or_left (is_among reached y) (same_name y x) t)
    there y (inr r) = turn y (followed xs x ls y r)

    at : (y : List ℕ) (b : Bool) → is_among reached y ≡ b → (b || same_name y x) ≡ true → (is_among reached y ≡ true) ⊎ Reaches (xs ++ x ∷ []) ls y
    at y true e g = inl e
    at y false e g = inr (followed_back xs x ls y (inl g))

    back_at : (y : List ℕ) → (is_among (reached ++ x ∷ []) y ≡ true) ⊎ Reaches (xs ++ ends_from x ls) (links_beside x ls) y → (is_among reached y ≡ true) ⊎ Reaches (xs ++ x ∷ []) ls y
    back_at y (inr q) = inr (followed_back xs x ls y (inr q))
    back_at y (inl t) = at y (is_among reached y) refl (sym (among_last reached x y) ∙ t)

pub as_far-end : (whole ls : List Link) (reached : List (List ℕ)) → AsFar whole ls reached [] → (y : List ℕ) → (is_among reached y ≡ true) ↔ Reach is_first_name (is_linked whole) y
as_far-end whole ls reached h y = ((λ t. h.only y (inl t)), (λ r. last (h.all y r)))
  where
    last : (is_among reached y ≡ true) ⊎ Reaches [] ls y → is_among reached y ≡ true
    last (inl t) = t
    last (inr q) = absurd (nothing_left ls y q)

-- how much is left to follow
pub follow_count : (x : List ℕ) (ls : List Link) → length (links_beside x ls) + length (ends_from x ls) ≡ length ls
follow_count x [] = refl
follow_count x (l ∷ ls) = by (is_from x l) (follow_count x ls)
  where
    by : (b : Bool) → length (links_beside x ls) + length (ends_from x ls) ≡ length ls → length (cond (not b) (l ∷ links_beside x ls) (links_beside x ls)) + length (map (λ m. m.to) (cond b (l ∷ filter (is_from x) ls) (filter (is_from x) ls))) ≡ length (l ∷ ls)
    by true e = omega (arith, e)
    by false e = omega (arith, e)

-- ---- the loop that adds where links lead

pub ends_more : (x : List ℕ) (ls : List Link) (i : ℕ) (d : Link) → i < length ls → ends_from x (take (i + 1) ls) ≡ ends_from x (take i ls) ++ cond (is_from x (get_or ls i d)) ((get_or ls i d).to ∷ []) []
ends_more x ls i d h =
    ap (map (λ (l : Link). l.to)) (filter_more (is_from x) ls i d h)
    ∙ map-append (λ (l : Link). l.to) (filter (is_from x) (take i ls)) (cond (is_from x (get_or ls i d)) (get_or ls i d ∷ []) [])
    ∙ ap (λ zs. ends_from x (take i ls) ++ zs) (inner (is_from x (get_or ls i d)))
  where
    inner : (b : Bool) → map (λ (l : Link). l.to) (cond b (get_or ls i d ∷ []) []) ≡ cond b ((get_or ls i d).to ∷ []) []
    inner true = refl
    inner false = refl

pub ends_yes : (x : List ℕ) (ls : List Link) (i : ℕ) (l : Link) (start before after : List (List ℕ)) (to : List ℕ) → i < length ls → l ≡ get_or ls i l → is_from x l ≡ true
    → before ≡ start ++ ends_from x (take i ls) → to ≡ l.to → after ≡ before ++ to ∷ [] → after ≡ start ++ ends_from x (take (i + 1) ls)
ends_yes x ls i l start before after to h e t b f a =
    a ∙ ap (λ zs. zs ++ to ∷ []) b ∙ append_assoc start (ends_from x (take i ls)) (to ∷ [])
    ∙ ap (λ zs. start ++ zs) (ap (λ n. ends_from x (take i ls) ++ n ∷ []) f ∙ sym (ends_more x ls i l h ∙ ap (λ (m : Link). ends_from x (take i ls) ++ cond (is_from x m) (m.to ∷ []) []) (sym e) ∙ ap (λ c. ends_from x (take i ls) ++ cond c (l.to ∷ []) []) t))

pub ends_no : (x : List ℕ) (ls : List Link) (i : ℕ) (l : Link) (start before : List (List ℕ)) → i < length ls → l ≡ get_or ls i l → is_from x l ≡ false
    → before ≡ start ++ ends_from x (take i ls) → before ≡ start ++ ends_from x (take (i + 1) ls)
ends_no x ls i l start before h e t b =
    b ∙ ap (λ zs. start ++ zs) (sym (ends_more x ls i l h ∙ ap (λ (m : Link). ends_from x (take i ls) ++ cond (is_from x m) (m.to ∷ []) []) (sym e) ∙ ap (λ c. ends_from x (take i ls) ++ cond c (l.to ∷ []) []) t ∙ append-nil (ends_from x (take i ls))))

-- ---- the loop that follows names

pub followed_smaller : (x y z : List ℕ) (whole popped pending : List (List ℕ)) (ls rest seen : List Link) → whole ≡ popped ++ x ∷ [] → y ≡ x → z ≡ x → seen ≡ ls
    → pending ≡ popped ++ ends_from y seen → rest ≡ links_beside z ls → length pending + length rest < length whole + length ls
followed_smaller x y z whole popped pending ls rest seen e ey ez es p r =
    let a : length whole ≡ length popped + 1 = ap length e ∙ length-append popped (x ∷ []) in
    let b : length pending ≡ length popped + length (ends_from x ls) = ap length (p ∙ ap (λ (n : List ℕ). popped ++ ends_from n seen) ey ∙ ap (λ (l : List Link). popped ++ ends_from x l) es) ∙ length-append popped (ends_from x ls) in
    let c : length rest ≡ length (links_beside x ls) = ap length (r ∙ ap (λ (n : List ℕ). links_beside n ls) ez) in
    let d : length (links_beside x ls) + length (ends_from x ls) ≡ length ls = follow_count x ls in
    omega arith

pub as_far-step : (whole : List Link) (x y z : List ℕ) (before popped pending reached later : List (List ℕ)) (ls rest seen : List Link) → before ≡ popped ++ x ∷ [] → y ≡ x → z ≡ x → seen ≡ ls
    → pending ≡ popped ++ ends_from y seen → rest ≡ links_beside z ls → later ≡ reached ++ x ∷ [] → AsFar whole ls reached before → AsFar whole rest later pending
as_far-step whole x y z before popped pending reached later ls rest seen e ey ez es p r l h =
    let b : pending ≡ popped ++ ends_from x ls = p ∙ ap (λ (n : List ℕ). popped ++ ends_from n seen) ey ∙ ap (λ (k : List Link). popped ++ ends_from x k) es in
    let c : rest ≡ links_beside x ls = r ∙ ap (λ (n : List ℕ). links_beside n ls) ez in
    let more : AsFar whole (links_beside x ls) (reached ++ x ∷ []) (popped ++ ends_from x ls) = as_far-more whole ls reached popped x (subst (AsFar whole ls reached) e h) in
    subst (λ (k : List Link). AsFar whole k later pending) (sym c) (subst (λ (k : List (List ℕ)). AsFar whole (links_beside x ls) k pending) (sym l) (subst (AsFar whole (links_beside x ls) (reached ++ x ∷ [])) (sym b) more))
