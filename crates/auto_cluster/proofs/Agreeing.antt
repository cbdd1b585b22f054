-- Jobs of equal significant attributes match and rank alike.
use Rattle.std.proofs.Common.{◌≡◌, ℕ, ◌&&◌, ◌||◌, Bool, true, false, cond, List, [], ◌∷◌, Some, None, refl, ap, sym, ◌∙◌}
use Rattle.std.specs.Prelude.{◌↔◌, Contains, filter}
use Rattle.std.proofs.lemmas.Bool.{or_left, or_right, true≢false}
use Rattle.ad_value.specs.Names.{same_name}
use Rattle.ad_value.specs.declared.names.matching.TheConstants.{REQUIREMENTS, RANK}
use Rattle.ad_tree.specs.Tree.{Tree}
use Rattle.ad_tree.specs.Ad.{Attributes, lookup}
use Rattle.ad_eval.specs.declared.sides.Side.{Side}
use Rattle.ad_eval.specs.declared.sides.Side.TheVariants as side
use Rattle.ad_tree.specs.declared.operator.Scope.TheVariants as scope
use Rattle.ad_eval.specs.Mean.{both_ads, ad_on, attribute_value}
use Rattle.ad_eval.specs.Match.{rank_as, holds_as}
use Rattle.auto_cluster.specs.Significant.{refers_to, leads_to, begins, goes_on, without_case, is_first_name, MatchReach, IsSignificantPart}
use Rattle.auto_cluster.specs.Laws.{AreAlike, AgreeingJobsMatchAlike, OnePart}
use Rattle.auto_cluster.proofs.Members.{any_of, name_refl, some_is}
use Rattle.auto_cluster.proofs.Alike.{name_alike}

leads_from : (x y : List ℕ) (ad : Attributes) (e : Tree) → lookup x ad ≡ Some e → refers_to e y ≡ true → leads_to x y ad ≡ true
leads_from x y [] e l r = let h : None ≡ Some e = l in cc
leads_from x y (a ∷ ad) e l r = by (same_name x a.0) (λ m. leads_from x y ad e m r) l
  where
    by : (b : Bool) → (lookup x ad ≡ Some e → leads_to x y ad ≡ true) → cond b (Some a.1) (lookup x ad) ≡ Some e → ((b && refers_to a.1 y) || leads_to x y ad) ≡ true
    by true more m = or_left _ _ (ap (λ t. refers_to t y) (some_is m) ∙ r)
    by false more m = more m

lookup_part : (chosen : List ℕ → Bool) (x : List ℕ) → chosen x ≡ true → ((y z : List ℕ) → chosen y ≡ true → same_name y z ≡ true → chosen z ≡ true) → (ad : Attributes) → lookup x (filter (λ a. chosen a.0) ad) ≡ lookup x ad
lookup_part chosen x t closed [] = refl
lookup_part chosen x t closed (a ∷ ad) = by (chosen a.0) refl (same_name x a.0) refl (lookup_part chosen x t closed ad)
  where
    by : (c : Bool) → chosen a.0 ≡ c → (s : Bool) → same_name x a.0 ≡ s → lookup x (filter (λ b. chosen b.0) ad) ≡ lookup x ad → lookup x (cond c (a ∷ filter (λ b. chosen b.0) ad) (filter (λ b. chosen b.0) ad)) ≡ cond s (Some a.1) (lookup x ad)
    by true ec s es more = λ k. cond (es k) (Some a.1) (more k)
    by false ec true es more = absurd (true≢false (sym (closed x a.0 t es) ∙ ec))
    by false ec false es more = more

reached_part : (slots : List Attributes) (job part : Attributes) → IsSignificantPart slots job part → (x : List ℕ) → MatchReach slots job x → lookup x job ≡ lookup x part
reached_part slots job part p x r =
    sym (lookup_part p.chosen x ((p.reached x).1 r) (λ y z c s. (p.reached z).1 (without_case y z ((p.reached y).0 c) s)) job)
    ∙ ap (lookup x) (sym p.are)

of_job : (slots : List Attributes) (job : Attributes) (x : List ℕ) (e : Tree) → MatchReach slots job x → lookup x job ≡ Some e → (y : List ℕ) → refers_to e y ≡ true → MatchReach slots job y
of_job slots job x e r l y t = goes_on x y r (or_left _ _ (leads_from x y job e l t))

of_slot : (slots : List Attributes) (job slot : Attributes) → Contains slots slot → (x : List ℕ) (e : Tree) → MatchReach slots job x → lookup x slot ≡ Some e → (y : List ℕ) → refers_to e y ≡ true → MatchReach slots job y
of_slot slots job slot c x e r l y t = goes_on x y r (or_right (leads_to x y job) _ (any_of (leads_to x y) slots slot c (leads_from x y slot e l t)))

job_value : (slots : List Attributes) (job part slot : Attributes) (now : ℕ) → IsSignificantPart slots job part → Contains slots slot → (x : List ℕ) → MatchReach slots job x → attribute_value job slot now x ≡ attribute_value part slot now x
job_value slots job part slot now p c x r = name_alike (both_ads job slot) (both_ads part slot) (MatchReach slots job) same closed now side.My scope.My x r
  where
    same : (q : Side) (y : List ℕ) → MatchReach slots job y → lookup y (ad_on (both_ads job slot) q) ≡ lookup y (ad_on (both_ads part slot) q)
    same side.My y h = reached_part slots job part p y h
    same side.Target y h = refl

    closed : (q : Side) (y : List ℕ) (e : Tree) → MatchReach slots job y → lookup y (ad_on (both_ads job slot) q) ≡ Some e → (z : List ℕ) → refers_to e z ≡ true → MatchReach slots job z
    closed side.My y e h l = of_job slots job y e h l
    closed side.Target y e h l = of_slot slots job slot c y e h l

slot_value : (slots : List Attributes) (job part slot : Attributes) (now : ℕ) → IsSignificantPart slots job part → Contains slots slot → (x : List ℕ) → MatchReach slots job x → attribute_value slot job now x ≡ attribute_value slot part now x
slot_value slots job part slot now p c x r = name_alike (both_ads slot job) (both_ads slot part) (MatchReach slots job) same closed now side.My scope.My x r
  where
    same : (q : Side) (y : List ℕ) → MatchReach slots job y → lookup y (ad_on (both_ads slot job) q) ≡ lookup y (ad_on (both_ads slot part) q)
    same side.My y h = refl
    same side.Target y h = reached_part slots job part p y h

    closed : (q : Side) (y : List ℕ) (e : Tree) → MatchReach slots job y → lookup y (ad_on (both_ads slot job) q) ≡ Some e → (z : List ℕ) → refers_to e z ≡ true → MatchReach slots job z
    closed side.My y e h l = of_slot slots job slot c y e h l
    closed side.Target y e h l = of_job slots job y e h l

requirements_first : is_first_name REQUIREMENTS.now ≡ true
requirements_first = or_left (same_name REQUIREMENTS.now REQUIREMENTS.now) (same_name REQUIREMENTS.now RANK.now) (name_refl REQUIREMENTS.now)

rank_first : is_first_name RANK.now ≡ true
rank_first = or_right (same_name RANK.now REQUIREMENTS.now) (same_name RANK.now RANK.now) (name_refl RANK.now)

-- a job is like its significant attributes alone
part_alike : (slots : List Attributes) (job part slot : Attributes) (now : ℕ) → IsSignificantPart slots job part → Contains slots slot → AreAlike slot now job part
part_alike slots job part slot now p c =
    let asks = job_value slots job part slot now p c REQUIREMENTS.now (begins REQUIREMENTS.now requirements_first) in
    let asked = slot_value slots job part slot now p c REQUIREMENTS.now (begins REQUIREMENTS.now requirements_first) in
    record {
      matching = λ i. holds_as (asks i) && holds_as (asked i);
      rank = ap rank_as (job_value slots job part slot now p c RANK.now (begins RANK.now rank_first));
      slot_rank = ap rank_as (slot_value slots job part slot now p c RANK.now (begins RANK.now rank_first));
    }

pub agreeing_jobs_match_alike : AgreeingJobsMatchAlike
agreeing_jobs_match_alike slots job other part slot now p q c =
    let a = part_alike slots job part slot now p c in
    let b = part_alike slots other part slot now q c in
    record { matching = a.matching ∙ sym b.matching; rank = a.rank ∙ sym b.rank; slot_rank = a.slot_rank ∙ sym b.slot_rank }

same_test : (a b : Bool) → ((a ≡ true) ↔ (b ≡ true)) → a ≡ b
same_test true b h = sym (h.0 refl)
same_test false true h = h.1 refl
same_test false false h = refl

pub one_part : OnePart
one_part slots job part other p q =
    let same : (x : List ℕ) → p.chosen x ≡ q.chosen x = (λ x. same_test (p.chosen x) (q.chosen x) ((λ t. (q.reached x).1 ((p.reached x).0 t)), (λ t. (p.reached x).1 ((q.reached x).0 t)))) in
    p.are ∙ (λ i. filter (λ a. same a.0 i) job) ∙ sym q.are
