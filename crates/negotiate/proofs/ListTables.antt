-- A submitter's lists: what is known of them stays known.
use Rattle.std.proofs.Common.{◌≡◌, ℕ, ◌+◌, ◌-◌, ◌*◌, ◌<◌, ◌≤◌, List, [], ◌∷◌, ◌++◌, length, get_or, set, true, false, not, cond, refl, sym, ap, ◌∙◌, arith, Option, Some, None, Result, IfOk, subst, inl, inr}
use Rattle.std.specs.Prelude.{Bool, Vec, Contains, option_copied}
use Rattle.std.specs.Borrow.{Bor}
use Rattle.std.specs.Global.{Global}
use Rattle.std.specs.List.{sum_by}
use Rattle.std.specs.Option.{is_some}
use Rattle.std.proofs.lemmas.Bool.{cases_eq, false≢true}
use Rattle.std.proofs.lemmas.List.{get_or-set_same, get_or-set_other, get_or_default, length-set}
use Rattle.std.proofs.lemmas.List.Sums.{sum_by-set}
use Rattle.matchmaker.specs.Cycle.{choice, turn, match_of, Ranked}
use Rattle.negotiate.specs.Grouped.{Alike, Lists, list_for, Serves, Tables, Seen, CostsLists, unjudged, choice_in, all_ranked}
use Rattle.negotiate.specs.Parties.{requests_of}
use Rattle.negotiate.proofs.Members.{contains_in, in_contains}
use Rattle.negotiate.proofs.Growing.{Grows, Grows-push}
use Rattle.matchmaker.proofs.Turning.{took_none, took_some}
use Rattle.negotiate.proofs.KeptLists.{AlikeAt, Serves-grows, Serves-alike, Serves-fresh, serve_choice}
use Rattle.pool_mail.specs.declared.matching.Request.{Request}
use Rattle.negotiate.specs.declared.grouping.Kept.{Kept}
use Rattle.negotiate.specs.declared.grouping.Clustered.{Clustered}
use Rattle.matchmaker.specs.declared.snapshot.Offer.{Offer}
use Rattle.matchmaker.specs.declared.snapshot.Snapshot.{Snapshot}
use Rattle.matchmaker.specs.declared.course.Account.{Account}
use Rattle.matchmaker.specs.declared.course.Made.{Made}

contains_more : {A : Type 0} (x y : A) (xs : List A) → Contains xs x → Contains (y ∷ xs) x
contains_more x y xs c = in_contains x (y ∷ xs) (inr (contains_in x xs c))

pub contains_first : {A : Type 0} (x : A) (xs : List A) → Contains (x ∷ xs) x
contains_first x xs = in_contains x (x ∷ xs) (inl refl)

alike_at : (snap : Snapshot) (q r : Request) → Alike snap q r → AlikeAt snap.now snap.slots q r
alike_at snap q r a = λ o i. a.same o (in_contains o snap.slots i)

-- ---- what `see` does

some_from : {A : Type 0} (o : Option A) → true ≡ is_some o → (x : A) × (o ≡ Some x)
some_from None e = absurd (false≢true (sym e))
some_from (Some x) e = (x, refl)

none_from : {A : Type 0} (o : Option A) → false ≡ is_some o → o ≡ None
none_from None e = refl
none_from (Some x) e = absurd (false≢true e)

pub seen_before : (snap : Snapshot) (made : List Made) (r : Clustered) (xs old : Lists) (b : Bool) → xs ≡ old → b ≡ is_some (get_or xs r.cluster None) → b ≡ true →
    Seen snap made r old old
seen_before snap made r xs old b e f t =
    let p = some_from (get_or old r.cluster None) (sym t ∙ (f ∙ ap (λ (l : Lists). is_some (get_or l r.cluster None)) e)) in inl (p.0, p.1, refl)

pub seen_now : (snap : Snapshot) (made : List Made) (r : Clustered) (xs old new : Lists) (v : Vec Kept Global) (b : Bool) → xs ≡ old → b ≡ is_some (get_or xs r.cluster None) → b ≡ false →
    all_ranked v.items ≡ list_for snap.now snap.slots made r.request → new ≡ set old r.cluster (Some v) → Seen snap made r old new
seen_now snap made r xs old new v b e f t g h =
    inr (v, none_from (get_or old r.cluster None) (sym t ∙ (f ∙ ap (λ (l : Lists). is_some (get_or l r.cluster None)) e)), g, h)

unfoldable pub weight_of : Option (Vec Kept Global) → ℕ
weight_of o = cond (not (is_some o)) 1 0

unfoldable pub unjudged_by : Lists → ℕ
unjudged_by xs = sum_by weight_of xs

unjudged_set : (xs : Lists) (c : ℕ) (v : Vec Kept Global) → c < length xs → get_or xs c None ≡ None → unjudged (set xs c (Some v)) + 1 ≡ unjudged xs
unfolding unjudged unjudged_by weight_of
unjudged_set xs c v h e =
    let z : weight_of (get_or xs c None) ≡ 1 = ap weight_of e in
    let k : unjudged_by (set xs c (Some v)) + weight_of (get_or xs c None) ≡ unjudged_by xs + 0 = sum_by-set weight_of xs c (Some v) None h in
    let p : unjudged (set xs c (Some v)) ≡ unjudged_by (set xs c (Some v)) = refl in
    let q : unjudged xs ≡ unjudged_by xs = refl in omega arith

pub cost_now : (r : Clustered) (xs old new : Lists) (v : Vec Kept Global) (b : Bool) (n before after : ℕ) → r.cluster < length old →
    xs ≡ old → b ≡ is_some (get_or xs r.cluster None) → b ≡ false → new ≡ set old r.cluster (Some v) → after ≤ before + n → CostsLists n old new before after
cost_now r xs old new v b n before after k e f t h le =
    let none = none_from (get_or old r.cluster None) (sym t ∙ (f ∙ ap (λ (l : Lists). is_some (get_or l r.cluster None)) e)) in
    let one : unjudged new + 1 ≡ unjudged old = ap (λ (l : Lists). unjudged l + 1) h ∙ unjudged_set old r.cluster v k none in
    let all : (unjudged new + 1) * n ≡ unjudged old * n = ap (λ j. j * n) one in omega arith

pub seen_length : (snap : Snapshot) (made : List Made) (r : Clustered) (old new : Lists) → Seen snap made r old new → length new ≡ length old
seen_length snap made r old new (inl p) = ap length p.2
seen_length snap made r old new (inr p) = ap length p.3 ∙ length-set old r.cluster (Some p.0)

-- ---- tables

pub Tables-tail : {snap : Snapshot} {made : List Made} {lists : Lists} {r : Clustered} {left : List Clustered} → Tables snap made lists (r ∷ left) → Tables snap made lists left
Tables-tail {r = r} {left = left} t = record {
  alike = λ p q i j e. t.alike p q (contains_more p r left i) (contains_more q r left j) e;
  within = λ q i. t.within q (contains_more q r left i);
  serves = λ q i v e. t.serves q (contains_more q r left i) v e;
}

pub Tables-grows : {snap : Snapshot} {made later : List Made} {lists : Lists} {left : List Clustered} → Grows made later → Tables snap made lists left → Tables snap later lists left
Tables-grows {snap = snap} {made = made} {later = later} g t = record {
  alike = t.alike;
  within = t.within;
  serves = λ r i v e. Serves-grows snap.now snap.slots made later r.request (all_ranked v.items) g (t.serves r i v e);
}

fresh_of : (snap : Snapshot) (made : List Made) (r : Clustered) (v : Vec Kept Global) → all_ranked v.items ≡ list_for snap.now snap.slots made r.request →
    Serves snap.now snap.slots made r.request (all_ranked v.items)
fresh_of snap made r v e = subst (λ (ks : List Ranked). Serves snap.now snap.slots made r.request ks) (sym e) (Serves-fresh snap.now snap.slots made r.request)

pub Tables-seen : {snap : Snapshot} {made : List Made} {old new : Lists} {r : Clustered} {left : List Clustered} →
    Tables snap made old (r ∷ left) → Seen snap made r old new → Tables snap made new (r ∷ left)
Tables-seen {snap = snap} {made = made} {old = old} {new = new} {r = r} {left = left} t (inl p) =
    subst (λ (l : Lists). Tables snap made l (r ∷ left)) (sym p.2) t
Tables-seen {snap = snap} {made = made} {old = old} {new = new} {r = r} {left = left} t (inr p) =
    subst (λ (l : Lists). Tables snap made l (r ∷ left)) (sym p.3) (record {
      alike = t.alike;
      within = λ q i. rw (length-set old r.cluster (Some p.0)) (t.within q i);
      serves = λ q i v e. elim (cases_eq q.cluster r.cluster) [
        | inl same ↦
            let at : get_or (set old r.cluster (Some p.0)) q.cluster None ≡ Some p.0 =
            ap (λ c. get_or (set old r.cluster (Some p.0)) c None) same ∙ get_or-set_same old r.cluster (Some p.0) None (t.within r (contains_first r left)) in
            let list : v ≡ p.0 = cc in
            Serves-alike snap.now snap.slots made r.request q.request (all_ranked v.items) (alike_at snap r.request q.request (t.alike r q (contains_first r left) i (sym same)))
            (subst (λ (w : Vec Kept Global). Serves snap.now snap.slots made r.request (all_ranked w.items)) (sym list) (fresh_of snap made r p.0 p.2))
        | inr other ↦ t.serves q i v (sym (get_or-set_other old r.cluster q.cluster (Some p.0) None other) ∙ e)
      ];
    })

-- the choice by the list is the choice
pub seen_within : (snap : Snapshot) (made : List Made) (r : Clustered) (old new xs : Lists) → xs ≡ new → r.cluster < length old → Seen snap made r old new → r.cluster < length xs
seen_within snap made r old new xs e h s = let l = ap length e in let k = seen_length snap made r old new s in omega arith

pub seen_choice : (snap : Snapshot) (made : List Made) (u : Account) (r : Clustered) (old new xs : Lists) (o : Option (Bor Offer)) → xs ≡ new → r.cluster < length old →
    ((v : Vec Kept Global) → get_or old r.cluster None ≡ Some v → Serves snap.now snap.slots made r.request (all_ranked v.items)) → Seen snap made r old new →
    ((v : Vec Kept Global) → get_or xs r.cluster None ≡ Some v → option_copied o ≡ choice_in snap u made r.request (all_ranked v.items)) → option_copied o ≡ choice snap u made r.request
seen_choice snap made u r old new xs o e within serves (inl p) h =
    h p.0 (ap (λ (l : Lists). get_or l r.cluster None) (e ∙ p.2) ∙ p.1) ∙ serve_choice snap u made r.request (all_ranked p.0.items) (serves p.0 p.1)
seen_choice snap made u r old new xs o e within serves (inr p) h =
    h p.0 (ap (λ (l : Lists). get_or l r.cluster None) (e ∙ p.3) ∙ get_or-set_same old r.cluster (Some p.0) None within)
    ∙ serve_choice snap u made r.request (all_ranked p.0.items) (fresh_of snap made r p.0 p.2)

-- what is at a number is the list that is there
listed : (xs : Lists) (i : ℕ) (o : Option (Vec Kept Global)) (v : Vec Kept Global) → i < length xs → o ≡ get_or xs i o → get_or xs i None ≡ Some v → o ≡ Some v
listed xs i o v h e there = e ∙ get_or_default xs i o None h ∙ there

pub none_listed : {P : Type 0} (xs : Lists) (i : ℕ) (o : Option (Vec Kept Global)) (v : Vec Kept Global) → i < length xs → o ≡ get_or xs i o → o ≡ None → get_or xs i None ≡ Some v → P
none_listed xs i o v h e none there = let no : None ≡ Some v = sym none ∙ listed xs i o v h e there in cc

pub chosen_of : {E : Type 0} (snap : Snapshot) (u : Account) (made : List Made) (q : Request) (xs : Lists) (i : ℕ) (o : Option (Vec Kept Global)) (list v : Vec Kept Global) (items : List Kept) (r : Result (Option (Bor Offer)) E) → i < length xs → o ≡ get_or xs i o → o ≡ Some list → items ≡ list.items
    → get_or xs i None ≡ Some v → IfOk r (λ c. option_copied c ≡ choice_in snap u made q (all_ranked items)) → IfOk r (λ c. option_copied c ≡ choice_in snap u made q (all_ranked v.items))
chosen_of snap u made q xs i o list v items r h e some same there told =
    let one : Some list ≡ Some v = sym some ∙ listed xs i o v h e there in
    let list_is : list ≡ v = cc in
    subst (λ (l : List Kept). IfOk r (λ c. option_copied c ≡ choice_in snap u made q (all_ranked l))) (same ∙ ap (λ (w : Vec Kept Global). w.items) list_is) told

pub Costs-refl : (n : ℕ) (lists : Lists) (before : ℕ) → CostsLists n lists lists before before
Costs-refl n lists before = omega arith

pub Costs-trans : (n : ℕ) (a b c : Lists) (x y z : ℕ) → CostsLists n a b x y → CostsLists n b c y z → CostsLists n a c x z
Costs-trans n a b c x y z h k = omega arith

-- ---- a turn

pub record TurnLeft (snap : Snapshot) (u : Account) (whole : (List Request) × (List Made)) (first : Lists) (before : ℕ)
    (most : ℕ) (left : List Clustered) (made : List Made) (lists : Lists) (steps : ℕ) : Type 0 where
  pub rest : turn snap u most (requests_of left) made ≡ whole
  pub tables : Tables snap made lists left
  pub cost : CostsLists (length snap.slots) first lists before steps

pub TurnLeft-none : (snap : Snapshot) (u : Account) (whole : (List Request) × (List Made)) (first : Lists) (before most later_most : ℕ) (left : List Clustered) (made seen later : List Made) (old new : Lists) (x y : ℕ)
    (r : Clustered) (rs : List Clustered) (o : Option (Bor Offer)) → TurnLeft snap u whole first before most left made old x → 0 < most → left ≡ r ∷ rs → seen ≡ made →
    option_copied o ≡ choice snap u seen r.request → Seen snap seen r old new → CostsLists (length snap.slots) old new x y → o ≡ None → later ≡ made → later_most ≡ most →
    TurnLeft snap u whole first before later_most rs later new y
TurnLeft-none snap u whole first before most later_most left made seen later old new x y r rs o t h e f g s k none a b =
    let none' : choice snap u made r.request ≡ None = ap (λ (m : List Made). choice snap u m r.request) (sym f) ∙ (sym g ∙ ap option_copied none) in
    let step = took_none snap u most r.request (requests_of rs) made h none' in
    let s' : Seen snap made r old new = subst (λ (m : List Made). Seen snap m r old new) f s in
    rw (a, b) (record {
      rest = sym step ∙ (ap (λ (l : List Clustered). turn snap u most (requests_of l) made) (sym e) ∙ t.rest);
      tables = Tables-tail (Tables-seen (subst (λ (l : List Clustered). Tables snap made old l) e t.tables) s');
      cost = Costs-trans (length snap.slots) first old new before x y t.cost k;
    })

pub TurnLeft-some : (snap : Snapshot) (u : Account) (whole : (List Request) × (List Made)) (first : Lists) (before most later_most : ℕ) (left : List Clustered) (made seen later : List Made) (old new : Lists) (x y : ℕ)
    (r : Clustered) (rs : List Clustered) (o : Option (Bor Offer)) (one : Made) (c : Bor Offer) → TurnLeft snap u whole first before most left made old x → 0 < most → left ≡ r ∷ rs → seen ≡ made →
    option_copied o ≡ choice snap u seen r.request → Seen snap seen r old new → CostsLists (length snap.slots) old new x y → o ≡ Some c → one ≡ match_of snap u r.request c.now → later ≡ made ++ one ∷ [] → later_most ≡ most - 1 →
    TurnLeft snap u whole first before later_most rs later new y
TurnLeft-some snap u whole first before most later_most left made seen later old new x y r rs o one c t h e f g s k some is more b =
    let some' : choice snap u made r.request ≡ Some c.now = ap (λ (m : List Made). choice snap u m r.request) (sym f) ∙ (sym g ∙ ap option_copied some) in
    let step = took_some snap u most r.request (requests_of rs) made c.now h some' in
    let s' : Seen snap made r old new = subst (λ (m : List Made). Seen snap m r old new) f s in
    let pushed : later ≡ made ++ match_of snap u r.request c.now ∷ [] = more ∙ ap (λ (m : Made). made ++ m ∷ []) is in
    rw b (record {
      rest = ap (turn snap u (most - 1) (requests_of rs)) pushed ∙ (sym step ∙ (ap (λ (l : List Clustered). turn snap u most (requests_of l) made) (sym e) ∙ t.rest));
      tables = Tables-grows (subst (λ (m : List Made). Grows made m) (sym pushed) (Grows-push made (match_of snap u r.request c.now))) (Tables-tail (Tables-seen (subst (λ (l : List Clustered). Tables snap made old l) e t.tables) s'));
      cost = Costs-trans (length snap.slots) first old new before x y t.cost k;
    })
