-- A child in memory that nobody kills, look by look.
use Rattle.std.proofs.Common.{◌≡◌, ℕ, zero, suc, ◌+◌, ◌-◌, ◌<◌, ◌≤◌, refl, ap, subst, ◌∙◌, arith}
use Rattle.pool_outer.specs.declared.spawner.ChildState.{ChildState}
use Rattle.pool_outer.specs.declared.spawner.ChildState.TheVariants.{Running}
use Rattle.pool_outer.specs.declared.spawner.memory.ChildEnd.{ChildEnd}
use Rattle.pool_outer.specs.declared.spawner.memory.ChildEnd.TheVariants.{Exited, Signalled}
use Rattle.pool_outer.specs.declared.spawner.memory.MemChild.{MemChild}
use Rattle.pool_outer.specs.MemoryChildren.{new_child, state_of, Looks, LooksMany}

-- a look takes one of those that are left
one_less : (m : ℕ) (ending : ChildEnd) (child : MemChild) → Looks (new_child (suc m) ending) child → child ≡ new_child m ending
one_less m ending child look =
    let left : ℕ → MemChild = λ k. new_child k ending in
    let less : suc m - 1 ≡ m = omega arith in
    look.runs refl refl (omega arith) ∙ ap left less

-- a look at a child that has ended
still_ended : (ending : ChildEnd) (old new : MemChild) → old.state ≡ state_of ending → Looks old new → new.state ≡ state_of ending
still_ended (Exited code) old new ended look =
    let state : MemChild → ChildState = λ child. child.state in
    ap state (look.ended (λ running. cc)) ∙ ended
still_ended (Signalled signal) old new ended look =
    let state : MemChild → ChildState = λ child. child.state in
    ap state (look.ended (λ running. cc)) ∙ ended

-- after n looks of m + n, m are left
looks_left : (n m looks : ℕ) (ending : ChildEnd) (child : MemChild) → looks ≡ m + n → LooksMany n (new_child looks ending) child → child ≡ new_child m ending
looks_left zero m looks ending child enough many =
    let left : ℕ → MemChild = λ k. new_child k ending in
    let all : looks ≡ m = omega arith in
    many ∙ ap left all
looks_left (suc n) m looks ending child enough (between, (many, look)) =
    let before : between ≡ new_child (suc m) ending = looks_left n (suc m) looks ending between (omega arith) many in
    let P : MemChild → Type 0 = λ old. Looks old child in
    one_less m ending child (subst P before look)

-- k looks after the one that found the ending
ended_since : (k n looks : ℕ) (ending : ChildEnd) (child : MemChild) → n ≡ looks + k → LooksMany (suc n) (new_child looks ending) child → child.state ≡ state_of ending
ended_since zero n looks ending child many_enough (between, (many, look)) =
    let before : between ≡ new_child 0 ending = looks_left n 0 looks ending between (omega arith) many in
    let P : MemChild → Type 0 = λ old. Looks old child in
    let last : Looks (new_child 0 ending) child = subst P before look in
    last.ends refl refl refl
ended_since (suc k) zero looks ending child many_enough many = absurd (omega arith)
ended_since (suc k) (suc n) looks ending child many_enough (between, (many, look)) =
    still_ended ending between child (ended_since k n looks ending between (omega arith) many) look

-- a child runs for as many looks as its script says
pub runs_on : (n looks : ℕ) (ending : ChildEnd) (child : MemChild) → LooksMany n (new_child looks ending) child → n ≤ looks → child.state ≡ Running
runs_on n looks ending child many enough =
    let state : MemChild → ChildState = λ old. old.state in
    ap state (looks_left n (looks - n) looks ending child (omega arith) many)

-- and each further look finds its ending
pub ends_then : (n looks : ℕ) (ending : ChildEnd) (child : MemChild) → LooksMany n (new_child looks ending) child → looks < n → child.state ≡ state_of ending
ends_then zero looks ending child many more = absurd (omega arith)
ends_then (suc n) looks ending child many more = ended_since (n - looks) n looks ending child (omega arith) many
