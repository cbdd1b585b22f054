-- The marks of the rolls by whose receipts events come.
use Rattle.std.specs.Prelude.{◌≡◌, List, [], ◌∷◌, Option, Some, IfSome}
use Rattle.ad_tree.specs.Ad.{AreDistinct, Attributes}
use Rattle.pool_parts.specs.declared.event.Event.{Event}
use Rattle.pool_rules.specs.Given.{IsGiven}
use Rattle.pool_state.specs.declared.state.PoolState.{PoolState}
use Rattle.queue_tx.specs.declared.kind.JobKind.TheVariants.{Idle}
use Rattle.queue_tx.specs.Kinds.{kind_of}
use Rattle.queue_tx.specs.Operations.{Operation}
use Rattle.receipt_roll.specs.Values.{ReceiptValue, RollMark, RollValue}

-- of the roll of transactions, and of each machine's roll of ends
pub record RollMarks : Type 0 where
  pub log : RollMark
  pub ends : List RollMark

abbrev pub mark_of : {T : Type 0} → RollValue T → RollMark
mark_of roll = roll.mark

-- a receipt of a transaction has this mark
abbrev pub IsMarked : RollMark → ReceiptValue (List Operation) → Type 0
IsMarked mark receipt = receipt.mark ≡ mark

-- so does each that is there
abbrev pub AreMarked : RollMark → List (Option (ReceiptValue (List Operation))) → Type 0
AreMarked mark [] = Unit {0}
AreMarked mark (r ∷ rs) = IfSome r (IsMarked mark) × AreMarked mark rs

-- a pool knows rolls by these marks
pub record HasMarks (m : RollMarks) (s : PoolState) : Type 0 where
  pub log : s.log_mark ≡ m.log
  pub ends : s.end_marks ≡ m.ends

-- an event may be given to each pool that knows the rolls by these marks
abbrev pub IsGivenBy : RollMarks → Event → Type 0
IsGivenBy m e = (s : PoolState) → HasMarks m s → IsGiven e s

-- an event may be given to any pool
abbrev pub IsGivenToAny : Event → Type 0
IsGivenToAny e = (s : PoolState) → IsGiven e s

-- a job is idle, and the names of its ad differ
abbrev pub IsIdle : Attributes → Type 0
IsIdle ad = AreDistinct ad × (kind_of ad ≡ Some Idle)
