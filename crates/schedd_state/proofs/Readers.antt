-- The function that reads the texts of claims is the one that the code has.
use Rattle.std.proofs.Common.{◌≡◌, ℕ, List, Option, Some, None, refl, sym}
use Rattle.std.specs.Prelude.{Result, Ok, Err, ◌↔◌}
use Rattle.std.specs.Result.{result_ok}
use Rattle.claim_id.specs.declared.claim_text.NotAClaim.{NotAClaim}
use Rattle.claim_id.specs.declared.numbers.ClaimId.{ClaimId}
use Rattle.claim_id.specs.Texts.{claim_text, IsClaim}
use Rattle.schedd_state.specs.Reopening.{IsReader}

pub read_is : (r : Result ClaimId NotAClaim) (bytes : List ℕ)
    → ((claim : ClaimId) → (r ≡ Ok claim) ↔ (IsClaim claim × (bytes ≡ claim_text claim)))
    → (read : List ℕ → Option ClaimId) → IsReader read → result_ok r ≡ read bytes
read_is (Ok claim) bytes each read reads = sym ((reads bytes claim).1 ((each claim).0 refl))
read_is (Err e) bytes each read reads = by (read bytes) refl
  where
    by : (o : Option ClaimId) → read bytes ≡ o → None ≡ o
    by None is = refl
    by (Some claim) is = let clash = (each claim).1 ((reads bytes claim).0 is) in cc
