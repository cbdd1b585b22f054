-- The matches that are live, one by one.
use Rattle.std.proofs.Common.{◌+◌, ◌<◌, ◌≤◌, length, get_or, drop, arith, ◌≡◌, inl, inr, ℕ, List, [], ◌∷◌, ◌++◌, refl, ap, sym, ◌∙◌, subst, append_assoc, append-nil}
use Rattle.std.proofs.lemmas.List.{at_drop_more, drop_all}
use Rattle.ad_eval.specs.Judgement.{Judgement}
use Rattle.pool_mail.specs.declared.matching.Match.{Match}
use Rattle.pool_rules.specs.Judging.{IsLive}
use Rattle.pool_state.specs.declared.state.PoolState.{PoolState}
use Rattle.pool_parts.specs.declared.answer.Stepped.{Stepped}
use Rattle.pool_rules.specs.Deeds.{at_rest}
use Rattle.pool_rules.specs.Happens.{AreLive, ArePassed}
use Rattle.pool_rules.specs.Masters.{passes}
use Rattle.pool_core.specs.Made.{IsMade}
use Rattle.pool_core.proofs.Resting.{are_live_rest}
use Rattle.pool_core.specs.Pushed.{IsPushed}

-- with what is live of the rest, these are what is live of all
abbrev pub AreSoFar : PoolState → ℕ → List Match → List Judgement → List Match → List Judgement → List Match → Type 0
AreSoFar s t all judged ms js live = (rest : List Match) → AreLive s ms js t rest → AreLive s all judged t (live ++ rest)

pub first_so_far : (s : PoolState) (t : ℕ) (all : List Match) (judged : List Judgement) → AreSoFar s t all judged all judged []
first_so_far s t all judged = λ rest h. h

pub one_more : (s : PoolState) (t : ℕ) (all : List Match) (judged : List Judgement) (m : Match) (ms : List Match) (j : Judgement) (js : List Judgement) (old new : List Match)
    → IsPushed (IsLive s m j t) m old new → AreSoFar s t all judged (m ∷ ms) (j ∷ js) old → AreSoFar s t all judged ms js new
one_more s t all judged m ms j js old new (inl p) so_far = λ rest h.
    subst (λ (l : List Match). AreLive s all judged t (l ++ rest)) (sym p.1)
    (subst (λ (l : List Match). AreLive s all judged t l) (sym (append_assoc old (m ∷ []) rest)) (so_far (m ∷ rest) (inl (record { rest = rest; are = refl; is = p.0; more = h }))))
one_more s t all judged m ms j js old new (inr p) so_far = λ rest h. subst (λ (l : List Match). AreLive s all judged t (l ++ rest)) (sym p.1) (so_far rest (inr (p.0, h)))

-- of the match and the proof of a place
pub one_more_at : (s : PoolState) (t : ℕ) (all : List Match) (judged : List Judgement) (i : ℕ) (d : Match) (left : List Judgement) (j : Judgement) (js : List Judgement) (old new : List Match)
    → i < length all → left ≡ j ∷ js → IsPushed (IsLive s (get_or all i d) j t) (get_or all i d) old new → AreSoFar s t all judged (drop i all) left old → AreSoFar s t all judged (drop (i + 1) all) js new
one_more_at s t all judged i d left j js old new below first pushed so_far =
    one_more s t all judged (get_or all i d) (drop (i + 1) all) j js old new pushed
    (subst (λ (l : List Judgement). AreSoFar s t all judged (get_or all i d ∷ drop (i + 1) all) l old) first
    (subst (λ (l : List Match). AreSoFar s t all judged l left old) (at_drop_more (λ (l : List Match). l) all i d below) so_far))

-- where no match or no proof is left
pub all_at_end : (s : PoolState) (t : ℕ) (all : List Match) (judged : List Judgement) (i : ℕ) (js : List Judgement) (live : List Match) → length all ≤ i → AreSoFar s t all judged (drop i all) js live → AreLive s all judged t live
all_at_end s t all judged i js live past so_far =
    let end : AreSoFar s t all judged [] js live = subst (λ (l : List Match). AreSoFar s t all judged l js live) (drop_all i all past) so_far in
    subst (λ (l : List Match). AreLive s all judged t l) (append-nil live) (end [] refl)

none_judged : (s : PoolState) (t : ℕ) (ms : List Match) → AreLive s ms [] t []
none_judged s t [] = refl
none_judged s t (m ∷ ms) = refl

pub all_judged : (s : PoolState) (t : ℕ) (all : List Match) (judged : List Judgement) (ms : List Match) (left : List Judgement) (live : List Match) → length left ≡ 0 → AreSoFar s t all judged ms left live → AreLive s all judged t live
all_judged s t all judged ms [] live none so_far = subst (λ (l : List Match). AreLive s all judged t l) (append-nil live) (so_far [] (none_judged s t ms))
all_judged s t all judged ms (j ∷ left) live none so_far = absurd (omega (arith, none))

-- the live ones are told
pub all_passed : (s : PoolState) (list : List Match) (judged : List Judgement) (t : ℕ) (live told : List Match) (new : PoolState) (r : Stepped)
    → AreLive s list judged t live → told ≡ live → IsMade (passes told (at_rest s)) new r → ArePassed (at_rest s) list judged t new r
all_passed s list judged t live told new r are same made = record {
  live = live;
  are = are_live_rest s list judged t live are;
  pool = made.0 ∙ ap (λ (l : List Match). passes l (at_rest s)) same;
  answer = made.1;
}
