-- The attributes of an ad whose names are among some, and those of a job.
use Rattle.std.proofs.Common.{◌≡◌, ℕ, zero, suc, ◌+◌, ◌<◌, ◌≤◌, ◌||◌, Bool, true, false, cond, List, [], ◌∷◌, ◌++◌, length, take, drop, get_or, Option, Some, None, refl, ap, sym, ◌∙◌, subst, arith, append_assoc, append-nil, inl, inr, Ok, Err}
use Rattle.std.specs.Prelude.{slice_get, ◌↔◌, ◌≢◌, Result, IfOk}
use Rattle.std.specs.List.{list_any, filter, All}
use Rattle.std.proofs.lemmas.List.{drop_more, drop_all, take_all, take_more, map-append}
use Rattle.std.proofs.lemmas.List.Elements.{filter_more}
use Rattle.std.proofs.lemmas.List.Quantifiers.{all_pairs_push}
use Rattle.ad_value.specs.Names.{same_name}
use Rattle.ad_tree.specs.Tree.{Tree}
use Rattle.ad_tree.specs.Ad.{Attributes, AreDistinct, lookup, without, names}
use Rattle.auto_cluster.specs.declared.links.Link.{Link}
use Rattle.auto_cluster.specs.Links.{is_linked, is_among, HasLinks, kept_named, name_of}
use Rattle.auto_cluster.specs.Significant.{Reach, is_first_name, leads_to, IsSignificantPart}
use Rattle.auto_cluster.specs.Clustering.{Clustering, IsNumbered, AreLinksOf, AreClusters}
use Rattle.auto_cluster.proofs.Members.{name_refl, name_sym}
use Rattle.auto_cluster.proofs.LinkLemmas.{at_place}
use Rattle.auto_cluster.proofs.Reaches.{reach_by}

not_some : {A : Type 0} (x : A) → Some x ≡ None → ⊥
not_some x e = cc

-- ---- one attribute taken out

without_at : (xs ys : Attributes) (a : List ℕ × Tree) → lookup a.0 xs ≡ None → without a.0 (xs ++ a ∷ ys) ≡ xs ++ ys
without_at [] ys a h = ap (λ b. cond b ys (a ∷ without a.0 ys)) (name_refl a.0)
without_at (x ∷ xs) ys a h = by (same_name a.0 x.0) h (without_at xs ys a)
  where
    by : (b : Bool) → cond b (Some x.1) (lookup a.0 xs) ≡ None → (lookup a.0 xs ≡ None → without a.0 (xs ++ a ∷ ys) ≡ xs ++ ys) → cond b (xs ++ a ∷ ys) (x ∷ without a.0 (xs ++ a ∷ ys)) ≡ x ∷ (xs ++ ys)
    by true e more = absurd (not_some x.1 e)
    by false e more = ap (λ l. x ∷ l) (more e)

none_at : (x : List ℕ) (ad : Attributes) (i : ℕ) (d : List ℕ × Tree) → i < length ad → lookup x ad ≡ None → same_name x (get_or ad i d).0 ≡ false
none_at x [] i d l h = absurd (omega arith)
none_at x (a ∷ ad) zero d l h = by (same_name x a.0) h
  where
    by : (b : Bool) → cond b (Some a.1) (lookup x ad) ≡ None → b ≡ false
    by true e = absurd (not_some a.1 e)
    by false e = refl
none_at x (a ∷ ad) (suc i) d l h = none_at x ad i d (omega arith) (by (same_name x a.0) h)
  where
    by : (b : Bool) → cond b (Some a.1) (lookup x ad) ≡ None → lookup x ad ≡ None
    by true e = absurd (not_some a.1 e)
    by false e = e

none_before : (ad : Attributes) (i : ℕ) (d : List ℕ × Tree) → i < length ad → AreDistinct ad → lookup (get_or ad i d).0 (take i ad) ≡ None
none_before [] i d l h = absurd (omega arith)
none_before (a ∷ ad) zero d l h = refl
none_before (a ∷ ad) (suc i) d l h =
    let lt : i < length ad = omega arith in
    let other : same_name (get_or ad i d).0 a.0 ≡ false = name_sym (get_or ad i d).0 a.0 ∙ none_at a.0 ad i d lt h.0 in
    ap (λ b. cond b (Some a.1) (lookup (get_or ad i d).0 (take i ad))) other ∙ none_before ad i d lt h.1

none_kept : (p : List ℕ → Bool) (x : List ℕ) (ad : Attributes) → lookup x ad ≡ None → lookup x (filter (λ a. p a.0) ad) ≡ None
none_kept p x [] h = refl
none_kept p x (a ∷ ad) h = by (p a.0) (same_name x a.0) refl h (none_kept p x ad)
  where
    by : (c b : Bool) → same_name x a.0 ≡ b → cond b (Some a.1) (lookup x ad) ≡ None → (lookup x ad ≡ None → lookup x (filter (λ q. p q.0) ad) ≡ None) → lookup x (cond c (a ∷ filter (λ q. p q.0) ad) (filter (λ q. p q.0) ad)) ≡ None
    by c true e g more = absurd (not_some a.1 g)
    by true false e g more = ap (λ b. cond b (Some a.1) (lookup x (filter (λ q. p q.0) ad))) e ∙ more g
    by false false e g more = more g

-- the attributes so far that are kept, and those still to come
pub one_named : (xs : List (List ℕ)) (job part : Attributes) (i : ℕ) (d : List ℕ × Tree) → i < length job → AreDistinct job
    → part ≡ filter (λ a. is_among xs a.0) (take i job) ++ drop i job
    → kept_named xs part (slice_get job i) ≡ filter (λ a. is_among xs a.0) (take (i + 1) job) ++ drop (i + 1) job
one_named xs job part i d lt distinct e =
    ap (kept_named xs part) (at_place job i d lt)
    ∙ by (is_among xs (get_or job i d).0) refl
  where
    done : Attributes
    done = filter (λ a. is_among xs a.0) (take i job)

    whole : part ≡ filter (λ a. is_among xs a.0) (take i job) ++ get_or job i d ∷ drop (i + 1) job
    whole = e ∙ ap (λ l. filter (λ a. is_among xs a.0) (take i job) ++ l) (drop_more job i d lt)

    next : (b : Bool) → is_among xs (get_or job i d).0 ≡ b → filter (λ a. is_among xs a.0) (take (i + 1) job) ≡ filter (λ a. is_among xs a.0) (take i job) ++ cond b (get_or job i d ∷ []) []
    next b q = filter_more (λ (a : List ℕ × Tree). is_among xs a.0) job i d lt ∙ ap (λ c. filter (λ a. is_among xs a.0) (take i job) ++ cond c (get_or job i d ∷ []) []) q

    by : (b : Bool) → is_among xs (get_or job i d).0 ≡ b → cond b part (without (get_or job i d).0 part) ≡ filter (λ a. is_among xs a.0) (take (i + 1) job) ++ drop (i + 1) job
    by true q = whole ∙ sym (append_assoc (filter (λ a. is_among xs a.0) (take i job)) (get_or job i d ∷ []) (drop (i + 1) job)) ∙ sym (ap (λ l. l ++ drop (i + 1) job) (next true q))
    by false q =
        ap (without (get_or job i d).0) whole
        ∙ without_at (filter (λ a. is_among xs a.0) (take i job)) (drop (i + 1) job) (get_or job i d) (none_kept (is_among xs) (get_or job i d).0 (take i job) (none_before job i d lt distinct))
        ∙ sym (ap (λ l. l ++ drop (i + 1) job) (next false q ∙ append-nil _))

pub all_named : (xs : List (List ℕ)) (job part : Attributes) (i : ℕ) → length job ≤ i
    → part ≡ filter (λ a. is_among xs a.0) (take i job) ++ drop i job → part ≡ filter (λ a. is_among xs a.0) job
all_named xs job part i le e =
    e ∙ ap (λ l. filter (λ a. is_among xs a.0) (take i job) ++ l) (drop_all i job le) ∙ append-nil _ ∙ ap (filter (λ a. is_among xs a.0)) (take_all i job le)

-- where there is no attribute, none is taken out
pub none_taken : (xs : List (List ℕ)) (before : Attributes) (o : Option (List ℕ × Tree)) → None ≡ o → before ≡ kept_named xs before o
none_taken xs before o is = ap (kept_named xs before) is

-- ---- the significant attributes

or_comm : (a b : Bool) → (a || b) ≡ (b || a)
or_comm true true = refl
or_comm true false = refl
or_comm false true = refl
or_comm false false = refl

pub is_part : (slots : List Attributes) (job part : Attributes) (given first list : List Link) (xs : List (List ℕ)) → AreLinksOf slots given → first ≡ given → HasLinks first list (λ y z. leads_to y z job)
    → ((x : List ℕ) → (is_among xs x ≡ true) ↔ Reach is_first_name (is_linked list) x) → part ≡ filter (λ a. is_among xs a.0) job → IsSignificantPart slots job part
is_part slots job part given first list xs links same more reach e = record {
  chosen = is_among xs;
  reached = λ x. ((λ t. reach_by is_first_name is_first_name (is_linked list) (λ y z. leads_to y z job || list_any (leads_to y z) slots) (λ y. refl) linked x ((reach x).0 t)), (λ r. (reach x).1 (reach_by is_first_name is_first_name (λ y z. leads_to y z job || list_any (leads_to y z) slots) (is_linked list) (λ y. refl) (λ y z. sym (linked y z)) x r)));
  are = e;
}
  where
    linked : (y z : List ℕ) → is_linked list y z ≡ (leads_to y z job || list_any (leads_to y z) slots)
    linked y z = more y z ∙ ap (λ b. b || leads_to y z job) (ap (λ ls. is_linked ls y z) same ∙ links y z) ∙ or_comm (list_any (leads_to y z) slots) (leads_to y z job)

-- ---- a new autocluster

pub none_apart : (parts : List Attributes) → parts ≡ [] → AreClusters parts
none_apart parts none = subst AreClusters (sym none) (λ i j d before less same. let beyond : j < 0 = less in omega arith)

pub one_cluster : (parts later : List Attributes) (part : Attributes) → AreClusters parts → All (λ p. p ≢ part) parts → later ≡ parts ++ part ∷ [] → AreClusters later
one_cluster parts later part pairs all e = subst AreClusters (sym e) (all_pairs_push (λ (p q : Attributes). p ≢ q) parts part pairs (λ k d lt. all k d lt))

pub at_end : (parts : List Attributes) (part : Attributes) → slice_get (parts ++ part ∷ []) (length parts) ≡ Some part
at_end [] part = refl
at_end (p ∷ parts) part = at_end parts part

pub numbered_known : {E : Type 0} (r : Result ℕ E) (c : Clustering) (job part : Attributes) (i : ℕ) → IsSignificantPart c.slots job part → slice_get c.parts i ≡ Some part → IfOk r (λ n. n ≡ i) → IfOk r (IsNumbered c c job)
numbered_known (Ok n) c job part i of_job at is = record { part = part; of_job = of_job; at_number = ap (slice_get c.parts) is ∙ at; slots = refl; parts = inl refl }
numbered_known (Err e) c job part i of_job at is = tt

pub numbered_new : (c d : Clustering) (job part : Attributes) (n : ℕ) → IsSignificantPart c.slots job part → n ≡ length c.parts → d ≡ record { slots = c.slots; parts = c.parts ++ part ∷ [] } → IsNumbered c d job n
numbered_new c d job part n of_job last put = record {
  part = part;
  of_job = of_job;
  at_number = ap (slice_get d.parts) last ∙ (ap (λ (k : Clustering). slice_get k.parts (length c.parts)) put ∙ at_end c.parts part);
  slots = ap (λ (k : Clustering). k.slots) put;
  parts = inr (ap (λ (k : Clustering). k.parts) put, last);
}

pub names_more : (ad : Attributes) (i : ℕ) (d : List ℕ × Tree) (before after : List (List ℕ)) → i < length ad → before ≡ names (take i ad) → after ≡ before ++ name_of (slice_get ad i) → after ≡ names (take (i + 1) ad)
names_more ad i d before after h b a =
    let one : names (take (i + 1) ad) ≡ names (take i ad) ++ (get_or ad i d).0 ∷ [] = ap names (take_more ad i d h) ∙ map-append (λ (b : List ℕ × Tree). b.0) (take i ad) (get_or ad i d ∷ []) in
    a ∙ ap (λ o. before ++ name_of o) (at_place ad i d h) ∙ ap (λ (l : List (List ℕ)). l ++ (get_or ad i d).0 ∷ []) b ∙ sym one
