-- What is refused by the unfinished transaction: a second one, and receipts of another.
use Rattle.std.specs.Prelude.{◌≡◌, ◌≢◌, ℕ, List, Option, Some, None}
use Rattle.queue_tx.specs.Operations.{Operation}
use Rattle.receipt_roll.specs.Values.{ReceiptValue}
use Rattle.pool_tables.specs.declared.refusal.StepError.{StepError}
use Rattle.pool_tables.specs.declared.refusal.StepError.TheVariants.{StillPending, NotPending, OtherItem}
use Rattle.pool_parts.specs.declared.pending.Pending.{Pending}

abbrev pub still_pending : Option Pending → Option StepError
still_pending None = None
still_pending (Some p) = Some (StillPending p.number)

-- another transaction with the number is refused
pub record IsItemRefusal (number : ℕ) (item tx : List Operation) (r : Option StepError)
    : Type 0 where
  pub same : item ≡ tx → r ≡ None
  pub other : item ≢ tx → r ≡ Some (OtherItem number)

-- the receipt of another number is refused, and of the same one as its transaction is
pub record IsNumberRefusal (p : Pending) (t : ReceiptValue (List Operation)) (r : Option StepError)
    : Type 0 where
  pub other : t.number ≢ p.number → r ≡ Some (NotPending t.number (Some p.number))
  pub same : t.number ≡ p.number → IsItemRefusal t.number t.item p.tx r

abbrev pub IsReceiptRefusal : Option Pending → ReceiptValue (List Operation) → Option StepError
    → Type 0
IsReceiptRefusal None t r = r ≡ Some (NotPending t.number None)
IsReceiptRefusal (Some p) t r = IsNumberRefusal p t r

-- a schedd that comes back without a receipt isn't refused by its transaction
abbrev pub IsKeptRefusal : Option Pending → Option (ReceiptValue (List Operation))
    → Option StepError → Type 0
IsKeptRefusal pending None r = r ≡ None
IsKeptRefusal pending (Some t) r = IsReceiptRefusal pending t r
