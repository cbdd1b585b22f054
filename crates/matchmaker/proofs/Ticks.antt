-- Ticks one after the other.
use Rattle.std.proofs.Common.{rules, ◌≡◌, ◌≤◌, ◌<◌, ◌+◌, ◌-◌, ℕ, zero, suc, ap, ◌∙◌, refl, arith}
use Rattle.matchmaker.specs.declared.priority.TheConstants.{BEST, WORST}
use Rattle.matchmaker.specs.declared.standing.TheConstants.{MAX_SLOTS}
use Rattle.matchmaker.specs.Priority.{after_tick, priority_after}

-- a priority that a tick leaves is left by all that follow
pub settled : (n u r : ℕ) → after_tick u r ≡ r → priority_after n u r ≡ r
settled zero u r h = refl
settled (suc n) u r h = ap (λ x. priority_after n u x) h ∙ settled n u r h

-- what is left of the ticks begins with a tick
pub one_less : (n i u r : ℕ) → i < n → priority_after (n - i) u r ≡ priority_after (n - (i + 1)) u (after_tick u r)
one_less n i u r h =
    let e : n - i ≡ suc (n - (i + 1)) = omega arith in
    ap (λ k. priority_after k u r) e

pub none_left : (n i u r : ℕ) → n ≤ i → priority_after (n - i) u r ≡ r
none_left n i u r h =
    let e : n - i ≡ 0 = omega arith in
    ap (λ k. priority_after k u r) e

pub add_up : (more n u r : ℕ) → priority_after (n + more) u r ≡ priority_after more u (priority_after n u r)
add_up more zero u r =
    let e : 0 + more ≡ more = omega arith in
    ap (λ k. priority_after k u r) e
add_up more (suc n) u r =
    let e : suc n + more ≡ suc (n + more) = omega arith in
    ap (λ k. priority_after k u r) e ∙ add_up more n u (after_tick u r)

tick_within : (u r : ℕ) → u ≤ MAX_SLOTS → r ≤ WORST → (BEST ≤ after_tick u r) × (after_tick u r ≤ WORST)
tick_within u r few low = (search rules, search rules)

-- priorities stay between the best and the worst
pub within : (n u r : ℕ) → u ≤ MAX_SLOTS → BEST ≤ r → r ≤ WORST → (BEST ≤ priority_after n u r) × (priority_after n u r ≤ WORST)
within zero u r few high low = (high, low)
within (suc n) u r few high low =
    let t = tick_within u r few low in
    within n u (after_tick u r) few t.0 t.1
