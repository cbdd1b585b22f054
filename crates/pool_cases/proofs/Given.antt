-- What may be given to pools that know rolls by their marks.
use Rattle.std.proofs.Common.{◌≡◌, ℕ, List, [], ◌∷◌, ◌++◌, Some, slice_get, ◌∙◌, ap}
use Rattle.std.specs.Prelude.{Result, Ok, Err, IfOk}
use Rattle.cases.specs.declared.error.CaseError.{CaseError}
use Rattle.pool_parts.specs.declared.event.Event.{Event}
use Rattle.pool_mail.specs.declared.end.Ending.{Ending}
use Rattle.pool_rules.specs.Given.{AreOfMachine, IsOfMachine}
use Rattle.pool_state.specs.declared.state.PoolState.{PoolState}
use Rattle.receipt_roll.specs.Values.{ReceiptValue}
use Rattle.pool_cases.specs.Marks.{HasMarks, IsGivenBy, IsGivenToAny, RollMarks}

pub given_by : (r : Result Event CaseError) (m : RollMarks) → IfOk r IsGivenToAny → IfOk r (IsGivenBy m)
given_by (Ok e) m any = λ s has. any s
given_by (Err error) m any = tt

-- one receipt more
ends_push : (machine : ℕ) (s : PoolState) (rs : List (ReceiptValue Ending)) (r : ReceiptValue Ending) → AreOfMachine machine s rs → IsOfMachine machine s r → AreOfMachine machine s (rs ++ r ∷ [])
ends_push machine s [] r are is = (is, tt)
ends_push machine s (x ∷ xs) r are is = (are.0, ends_push machine s xs r are.1 is)

pub end_given : (machine : ℕ) (m : RollMarks) (s : PoolState) (rs : List (ReceiptValue Ending)) (r : ReceiptValue Ending) → HasMarks m s → slice_get m.ends machine ≡ Some r.mark → AreOfMachine machine s rs → AreOfMachine machine s (rs ++ r ∷ [])
end_given machine m s rs r has is are =
    ends_push machine s rs r are (ap (λ ends. slice_get ends machine) has.ends ∙ is)
