-- One submitter's turn: its rows, what it takes, and the steps of its loop.
use Rattle.std.proofs.Common.{◌≡◌, ℕ, zero, suc, ◌-◌, ◌<◌, ◌≤◌, List, [], ◌∷◌, ◌++◌, length, refl, sym, ap, ◌∙◌, arith, Option, Some, None, inl, inr}
use Rattle.std.specs.Prelude.{◌⊎◌, option_copied}
use Rattle.std.proofs.lemmas.List.{nil_from_length}
use Rattle.std.specs.Borrow.{Bor}
use Rattle.matchmaker.specs.Cycle.{choice, match_of, turn}
use Rattle.pool_mail.specs.declared.matching.Request.{Request}
use Rattle.matchmaker.specs.declared.snapshot.Offer.{Offer}
use Rattle.matchmaker.specs.declared.snapshot.Snapshot.{Snapshot}
use Rattle.matchmaker.specs.declared.course.Account.{Account}
use Rattle.matchmaker.specs.declared.course.Made.{Made}

-- ---- the rows of `turn`

pub turn_end : (snap : Snapshot) (u : Account) (most : ℕ) (made : List Made) → turn snap u most [] made ≡ ([], made)
unfolding turn
turn_end snap u most made = refl

pub turn_ended : (snap : Snapshot) (u : Account) (most : ℕ) (left rest : List Request) (made : List Made) → left ≡ rest → length rest ≡ 0 → (rest, made) ≡ turn snap u most left made
turn_ended snap u most left rest made e z =
    let none = nil_from_length rest z in
    (λ i. (none i, made)) ∙ (sym (turn_end snap u most made) ∙ ap (λ rs. turn snap u most rs made) (sym none ∙ sym e))

pub turn_stop : (snap : Snapshot) (u : Account) (rs : List Request) (made : List Made) → turn snap u 0 rs made ≡ (rs, made)
unfolding turn
turn_stop snap u [] made = refl
turn_stop snap u (r ∷ rs) made = refl

pub turn_stopped : (snap : Snapshot) (u : Account) (most : ℕ) (rs : List Request) (made : List Made) → most ≡ 0 → (rs, made) ≡ turn snap u most rs made
turn_stopped snap u most rs made e = sym (ap (λ n. turn snap u n rs made) e ∙ turn_stop snap u rs made)

pub turn_none : (snap : Snapshot) (u : Account) (most : ℕ) (r : Request) (rs : List Request) (made : List Made) →
    choice snap u made r ≡ None → turn snap u (suc most) (r ∷ rs) made ≡ turn snap u (suc most) rs made
unfolding turn
turn_none snap u most r rs made e = rw (e, turn) refl

pub turn_some : (snap : Snapshot) (u : Account) (most : ℕ) (r : Request) (rs : List Request) (made : List Made) (s : Offer) →
    choice snap u made r ≡ Some s → turn snap u (suc most) (r ∷ rs) made ≡ turn snap u most rs (made ++ match_of snap u r s ∷ [])
unfolding turn
turn_some snap u most r rs made s e = rw (e, turn) refl

pub cases_Option : {A : Type 0} (o : Option A) → (o ≡ None) ⊎ ((x : A) × (o ≡ Some x))
cases_Option None = inl refl
cases_Option (Some x) = inr (x, refl)

-- ---- what a turn takes

pub turn_shorter : (snap : Snapshot) (u : Account) (most : ℕ) (rs : List Request) (made : List Made) → length (turn snap u most rs made).0 ≤ length rs
turn_shorter snap u most [] made = rw (turn_end snap u most made) (omega arith)
turn_shorter snap u zero (r ∷ rs) made = rw (turn_stop snap u (r ∷ rs) made) (omega arith)
turn_shorter snap u (suc most) (r ∷ rs) made = elim (cases_Option (choice snap u made r)) [
  | inl e ↦ rw (turn_none snap u most r rs made e) (let le = turn_shorter snap u (suc most) rs made in omega arith)
  | inr p ↦ rw (turn_some snap u most r rs made p.0 p.1) (let le = turn_shorter snap u most rs (made ++ match_of snap u r p.0 ∷ []) in omega arith)
]

-- a turn with something to give takes a request
pub turn_takes : (snap : Snapshot) (u : Account) (most : ℕ) (rs : List Request) (made : List Made) →
    0 < most → 0 < length rs → length (turn snap u most rs made).0 < length rs
turn_takes snap u most [] made h k = absurd (omega arith)
turn_takes snap u zero (r ∷ rs) made h k = absurd (omega arith)
turn_takes snap u (suc most) (r ∷ rs) made h k = elim (cases_Option (choice snap u made r)) [
  | inl e ↦ rw (turn_none snap u most r rs made e) (let le = turn_shorter snap u (suc most) rs made in omega arith)
  | inr p ↦ rw (turn_some snap u most r rs made p.0 p.1) (let le = turn_shorter snap u most rs (made ++ match_of snap u r p.0 ∷ []) in omega arith)
]

-- ---- steps of the loop: what is left of a turn is the whole turn

pub took_none : (snap : Snapshot) (u : Account) (most : ℕ) (r : Request) (rs : List Request) (made : List Made) →
    0 < most → choice snap u made r ≡ None → turn snap u most (r ∷ rs) made ≡ turn snap u most rs made
took_none snap u zero r rs made h e = absurd (omega arith)
took_none snap u (suc most) r rs made h e = turn_none snap u most r rs made e

pub took_some : (snap : Snapshot) (u : Account) (most : ℕ) (r : Request) (rs : List Request) (made : List Made) (s : Offer) →
    0 < most → choice snap u made r ≡ Some s → turn snap u most (r ∷ rs) made ≡ turn snap u (most - 1) rs (made ++ match_of snap u r s ∷ [])
took_some snap u zero r rs made s h e = absurd (omega arith)
took_some snap u (suc most) r rs made s h e =
    turn_some snap u most r rs made s e ∙ ap (λ n. turn snap u n rs (made ++ match_of snap u r s ∷ [])) (let k : most ≡ suc most - 1 = omega arith in k)

-- one turn of the loop, by what the calls gave
pub loop_none : (snap : Snapshot) (u : Account) (most later_most : ℕ) (r : Request) (rs left : List Request) (made seen later : List Made) (o : Option (Bor Offer)) →
    0 < most → left ≡ r ∷ rs → seen ≡ made → option_copied o ≡ choice snap u seen r → o ≡ None → later ≡ made → later_most ≡ most →
    turn snap u later_most rs later ≡ turn snap u most left made
loop_none snap u most later_most r rs left made seen later o h e f g k a b =
    let none : choice snap u made r ≡ None = ap (λ (ms : List Made). choice snap u ms r) (sym f) ∙ (sym g ∙ ap option_copied k) in
    rw (a, b, e) (sym (took_none snap u most r rs made h none))

pub loop_some : (snap : Snapshot) (u : Account) (most later_most : ℕ) (r : Request) (rs left : List Request) (made seen later : List Made) (one : Made) (o : Option (Bor Offer)) (s : Bor Offer) →
    0 < most → left ≡ r ∷ rs → seen ≡ made → option_copied o ≡ choice snap u seen r → o ≡ Some s → one ≡ match_of snap u r s.now → later ≡ made ++ one ∷ [] → later_most ≡ most - 1 →
    turn snap u later_most rs later ≡ turn snap u most left made
loop_some snap u most later_most r rs left made seen later one o s h e f g k m a b =
    let some : choice snap u made r ≡ Some s.now = ap (λ (ms : List Made). choice snap u ms r) (sym f) ∙ (sym g ∙ ap option_copied k) in
    rw (a, b, e, m) (sym (took_some snap u most r rs made s.now h some))
