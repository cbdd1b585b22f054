-- What holds of an event that somebody gives to a pool.
use Rattle.std.specs.Prelude.{◌≡◌, ℕ, ◌<◌, ◌^◌, List, [], ◌∷◌, length, slice_get, Some, IfSome, All}
use Rattle.ad_tree.specs.Ad.{AreDistinct, Attributes}
use Rattle.claim_id.specs.declared.numbers.ClaimId.{ClaimId}
use Rattle.pool_parts.specs.Loggable.{AreLoggableJobs}
use Rattle.pool_parts.specs.declared.event.Event.{Event}
use Rattle.pool_parts.specs.declared.event.Event.TheVariants as event
use Rattle.pool_mail.specs.declared.end.Ending.{Ending}
use Rattle.pool_mail.specs.declared.matching.Match.{Match}
use Rattle.pool_outer.specs.declared.gate.Daemon.{Daemon}
use Rattle.pool_outer.specs.declared.gate.Daemon.TheVariants.{Startd}
use Rattle.pool_state.specs.declared.state.PoolState.{PoolState}
use Rattle.queue_tx.specs.declared.kind.JobKind.TheVariants.{Idle}
use Rattle.queue_tx.specs.Kinds.{kind_of}
use Rattle.queue_tx.specs.Operations.{Operation}
use Rattle.receipt_roll.specs.Values.{ReceiptValue}

-- jobs that are submitted are idle, and the names of each ad differ
abbrev pub AreIdle : List Attributes → Type 0
AreIdle [] = Unit {0}
AreIdle (ad ∷ ads) = AreDistinct ad × (kind_of ad ≡ Some Idle) × AreIdle ads

-- a receipt is of the log's roll
abbrev pub IsOfLog : PoolState → ReceiptValue (List Operation) → Type 0
IsOfLog s receipt = receipt.mark ≡ s.log_mark

-- or of the roll of ends of a machine
abbrev pub IsOfMachine : ℕ → PoolState → ReceiptValue Ending → Type 0
IsOfMachine machine s receipt = slice_get s.end_marks machine ≡ Some receipt.mark

abbrev pub AreOfMachine : ℕ → PoolState → List (ReceiptValue Ending) → Type 0
AreOfMachine machine s [] = Unit {0}
AreOfMachine machine s (r ∷ rs) = IsOfMachine machine s r × AreOfMachine machine s rs

abbrev pub AreOfDaemon : Daemon → PoolState → List (ReceiptValue Ending) → Type 0
AreOfDaemon (Startd machine) s ended = AreOfMachine machine s ended
AreOfDaemon who s ended = ended ≡ []

-- each number of a claim fits its type, as those of every claim of the program do
pub record IsNumbered (claim : ClaimId) : Type 0 where
  pub machine : claim.no.slot.machine < 2 ^ 16
  pub slot : claim.no.slot.slot < 2 ^ 16
  pub boot : claim.no.boot < 2 ^ 64
  pub seq : claim.no.seq < 2 ^ 64
  pub secret : claim.secret < 2 ^ 64

-- that of each match
abbrev pub AreNumbered : List Match → Type 0
AreNumbered list = All (λ m. IsNumbered m.claim) list

-- The jobs of a submission are idle and can be logged, receipts are of the pool's own rolls, and
-- each match has its proof and a claim whose numbers fit.
abbrev pub IsGiven : Event → PoolState → Type 0
IsGiven (event.Submit boot jobs reading) s = AreIdle jobs × AreLoggableJobs jobs
IsGiven (event.Logged boot receipt) s = IsOfLog s receipt
IsGiven (event.Ended machine boot receipt reading) s = IsOfMachine machine s receipt
IsGiven (event.Reopen who kept ended reading) s =
    IfSome kept (IsOfLog s) × AreOfDaemon who s ended
IsGiven (event.Matches list judged reading) s = (length list ≡ length judged) × AreNumbered list
IsGiven _ s = Unit {0}
