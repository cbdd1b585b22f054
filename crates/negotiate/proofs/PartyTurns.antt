-- One more turn of a submitter with lists.
use Rattle.std.proofs.Common.{◌≡◌, ℕ, ◌+◌, ◌*◌, ◌<◌, ◌≤◌, List, [], ◌∷◌, length, get_or, set, true, false, cond, sym, ap, arith, subst}
use Rattle.std.specs.Prelude.{Bool}
use Rattle.std.specs.List.{All, sum_by, filter}
use Rattle.std.proofs.lemmas.List.Elements.{All-weaker, All-set, All-filter}
use Rattle.std.proofs.lemmas.List.Sums.{sum_by-set, sum_by-cons}
use Rattle.std.proofs.Math.Nat.{mul-le-mul_right}
use Rattle.matchmaker.specs.Cycle.{turn, takes_part}
use Rattle.negotiate.specs.Grouped.{CostsLists, unjudged}
use Rattle.negotiate.specs.Parties.{bidder_of, HasTables, to_judge, CostsAll}
use Rattle.matchmaker.specs.Loops.{those_who_play}
use Rattle.negotiate.proofs.Growing.{Grows}
use Rattle.negotiate.proofs.Settling.{turned}
use Rattle.negotiate.proofs.ListTables.{Tables-grows}
use Rattle.pool_mail.specs.declared.matching.Request.{Request}
use Rattle.negotiate.specs.declared.parties.Party.{Party}
use Rattle.matchmaker.specs.declared.snapshot.Snapshot.{Snapshot}
use Rattle.matchmaker.specs.declared.course.Account.{Account}
use Rattle.matchmaker.specs.declared.course.Made.{Made}

-- a turn only adds matches, so the other submitters' lists still serve
pub turn_grows : (snap : Snapshot) (u : Account) (most : ℕ) (left after : List Request) (made later : List Made) →
    (after, later) ≡ turn snap u most left made → Grows made later
turn_grows snap u most left after made later e = subst (λ (t : (List Request) × (List Made)). Grows made t.1) (sym e) ((turned snap u most left made).grows)

pub all_tables : (snap : Snapshot) (ps : List Party) (i : ℕ) (y : Party) (made later : List Made) → Grows made later →
    All (HasTables snap made) ps → HasTables snap later y → All (HasTables snap later) (set ps i y)
all_tables snap ps i y made later g all one =
    All-set (HasTables snap later) ps i y one (All-weaker (HasTables snap made) (HasTables snap later) (λ p t. Tables-grows g t) ps all)

judge_of : Party → ℕ
judge_of p = unjudged p.lists.items

pub all_costs : (n : ℕ) (first ps : List Party) (i : ℕ) (y d : Party) (before now after : ℕ) → i < length ps → CostsAll n first ps before now →
    CostsLists n (get_or ps i d).lists.items y.lists.items now after → CostsAll n first (set ps i y) before after
unfolding to_judge judge_of
all_costs n first ps i y d before now after h all one =
    let s : sum_by judge_of (set ps i y) + judge_of (get_or ps i d) ≡ sum_by judge_of ps + judge_of y = sum_by-set judge_of ps i y d h in
    let m : (sum_by judge_of (set ps i y) + judge_of (get_or ps i d)) * n ≡ (sum_by judge_of ps + judge_of y) * n = ap (λ k. k * n) s in
    let a : now + sum_by judge_of ps * n ≤ before + sum_by judge_of first * n = all in
    let b : after + judge_of y * n ≤ now + judge_of (get_or ps i d) * n = one in
    let c : after + sum_by judge_of (set ps i y) * n ≤ before + sum_by judge_of first * n = omega arith in c

-- ---- those that take no part leave the cycle

pub players_tables : (snap : Snapshot) (ps qs : List Party) (made : List Made) → qs ≡ those_who_play bidder_of made ps → All (HasTables snap made) ps →
    All (HasTables snap made) qs
players_tables snap ps qs made e all = subst (λ (xs : List Party). All (HasTables snap made) xs) (sym e) (All-filter (λ p. takes_part made (bidder_of p)) (HasTables snap made) ps all)

fewer : (test : Party → Bool) (ps : List Party) → sum_by judge_of (filter test ps) ≤ sum_by judge_of ps
fewer test [] = omega arith
fewer test (p ∷ ps) = elim (test p) as (λ b. sum_by judge_of (cond b (p ∷ filter test ps) (filter test ps)) ≤ sum_by judge_of (p ∷ ps)) [
  | true ↦ let ih = fewer test ps in let a = sum_by-cons judge_of p ps in let b = sum_by-cons judge_of p (filter test ps) in omega arith
  | false ↦ let ih = fewer test ps in let a = sum_by-cons judge_of p ps in omega arith
]

pub players_cost : (n : ℕ) (ps qs : List Party) (made : List Made) → qs ≡ those_who_play bidder_of made ps → to_judge qs * n ≤ to_judge ps * n
unfolding to_judge judge_of
players_cost n ps qs made e =
    let le : sum_by judge_of qs ≤ sum_by judge_of ps = subst (λ (xs : List Party). sum_by judge_of xs ≤ sum_by judge_of ps) (sym e) (fewer (λ p. takes_part made (bidder_of p)) ps) in
    mul-le-mul_right n le

pub costs_on : (n : ℕ) (first ps qs later : List Party) (made : List Made) (before now after : ℕ) → qs ≡ those_who_play bidder_of made ps →
    CostsAll n first ps before now → CostsAll n qs later now after → CostsAll n first later before after
costs_on n first ps qs later made before now after e a b = let le = players_cost n ps qs made e in omega arith
