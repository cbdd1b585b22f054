-- Which steps moves make, whatever the protocol.
use Rattle.std.proofs.Common.{◌⊎◌, inl, inr, ℕ, List, [], ◌∷◌, ◌++◌, map, refl, sym, subst}
use Rattle.pool_rules.proofs.Kept.{in_both, in_first, in_second}
use Rattle.pool_view.specs.Protocol.{NewJob, Protocol}
use Rattle.pool_view.specs.ProtocolMove.{ProtocolMove, Confirm, PassTime, all_steps, confirm_move, protocol_after, protocol_after_all, steps_of}
use Rattle.pool_view.specs.AbstractPool.{IsIn}
use Rattle.pool_view.specs.AbstractStep.{AbstractStep, Acknowledge, Time}
use Rattle.pool_rules.specs.Steps.{AreSteps}

-- ---- lists of steps
pub no_steps : (P : AbstractStep → Type 0) → AreSteps P []
no_steps P k there = absurd there

pub step_before : (P : AbstractStep → Type 0) (k : AbstractStep) (ks : List AbstractStep) → P k → AreSteps P ks → AreSteps P (k ∷ ks)
step_before P k ks is rest l (inl same) = subst P (sym same) is
step_before P k ks is rest l (inr there) = rest l there

pub both_steps : (P : AbstractStep → Type 0) (ks ls : List AbstractStep) → AreSteps P ks → AreSteps P ls → AreSteps P (ks ++ ls)
both_steps P ks ls first second k there = by (in_both k ks ls there)
  where
    by : IsIn k ks ⊎ IsIn k ls → P k
    by (inl h) = first k h
    by (inr h) = second k h

pub wider_steps : (P Q : AbstractStep → Type 0) (ks : List AbstractStep) → ((k : AbstractStep) → P k → Q k) → AreSteps P ks → AreSteps Q ks
wider_steps P Q ks more are k there = more k (are k there)

-- ---- moves
-- one list of moves after the other
pub steps_append : (P : AbstractStep → Type 0) (p : Protocol) (ms ns : List ProtocolMove) → AreSteps P (all_steps p ms) → AreSteps P (all_steps (protocol_after_all p ms) ns) → AreSteps P (all_steps p (ms ++ ns))
steps_append P p [] ns first second = second
steps_append P p (m ∷ ms) ns first second =
    let q : Protocol = protocol_after p m in
    both_steps P (steps_of p m) (all_steps q (ms ++ ns)) (λ k there. first k (in_first k (steps_of p m) (all_steps q ms) there))
    (steps_append P q ms ns (λ k there. first k (in_second k (steps_of p m) (all_steps q ms) there)) second)

-- from any protocol
abbrev pub MakeSteps : (AbstractStep → Type 0) → List ProtocolMove → Type 0
MakeSteps P ms = (p : Protocol) → AreSteps P (all_steps p ms)

pub make_append : (P : AbstractStep → Type 0) (ms ns : List ProtocolMove) → MakeSteps P ms → MakeSteps P ns → MakeSteps P (ms ++ ns)
make_append P ms ns first second p = steps_append P p ms ns (first p) (second (protocol_after_all p ms))

-- time passes first
pub time_first : (P : AbstractStep → Type 0) (p : Protocol) (moment : ℕ) (ms : List ProtocolMove) → P (Time moment) → MakeSteps P ms → AreSteps P (all_steps p (PassTime moment ∷ ms))
time_first P p moment ms is rest = step_before P (Time moment) (all_steps (protocol_after p (PassTime moment)) ms) is (rest (protocol_after p (PassTime moment)))

pub confirms_make : (P : AbstractStep → Type 0) (jobs : List NewJob) → ((j : NewJob) → IsIn j jobs → P (Acknowledge j.job)) → MakeSteps P (map confirm_move jobs)
confirms_make P [] each p k there = absurd there
confirms_make P (j ∷ js) each p k (inl same) = subst P (sym same) (each j (inl refl))
confirms_make P (j ∷ js) each p k (inr there) = confirms_make P js (λ i h. each i (inr h)) (protocol_after p (Confirm j.job)) k there
