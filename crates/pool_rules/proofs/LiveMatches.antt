-- Of matches that were not judged none is live.
use Rattle.std.proofs.Common.{◌≡◌, ◌↔◌, ℕ, List, [], ◌∷◌, length, refl, subst, arith}
use Rattle.ad_eval.specs.Judgement.{Judgement}
use Rattle.pool_mail.specs.declared.matching.Match.{Match}
use Rattle.pool_rules.specs.Judging.{IsSomeLive}
use Rattle.pool_state.specs.declared.state.PoolState.{PoolState}

pub none_left : (s : PoolState) (ms : List Match) (reading : ℕ) → IsSomeLive s ms [] reading → ⊥
none_left s [] reading h = h
none_left s (m ∷ ms) reading h = h

pub none_live : (s : PoolState) (all rest : List Match) (judged left : List Judgement) (reading : ℕ) → left ≡ []
    → IsSomeLive s all judged reading ↔ IsSomeLive s rest left reading → IsSomeLive s all judged reading → ⊥
none_live s all rest judged left reading none same live =
    none_left s rest reading (subst (λ js. IsSomeLive s rest js reading) none (same.0 live))

pub none_of_length : (left : List Judgement) → length left ≡ 0 → left ≡ []
none_of_length [] h = refl
none_of_length (j ∷ left) h = absurd (omega (arith, h))
