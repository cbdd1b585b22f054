-- Which events a holder gives.
use Rattle.std.specs.Prelude.{◌≡◌, ◌<◌, ◌^◌, List, [], ◌∷◌, length, Option, IfSome, All}
use Rattle.claim_id.specs.declared.numbers.ClaimId.{ClaimId}
use Rattle.pool_parts.specs.declared.event.Event.{Event}
use Rattle.pool_parts.specs.declared.event.Event.TheVariants.{Submit, Logged, Ended, Reopen, Matches}
use Rattle.pool_parts.specs.Events.{holder_of}
use Rattle.pool_mail.specs.declared.end.Ending.{Ending}
use Rattle.pool_mail.specs.declared.matching.Match.{Match}
use Rattle.pool_outer.specs.declared.gate.Daemon.{Daemon}
use Rattle.pool_outer.specs.declared.gate.Daemon.TheVariants.{Startd}
use Rattle.receipt_roll.specs.Values.{ReceiptValue, RollMark}

-- Its own. Jobs are submitted before the desk is there.
abbrev pub IsOwn : Option Daemon → Event → Type 0
IsOwn holder (Submit boot jobs reading) = ⊥
IsOwn holder e = holder_of e ≡ holder

-- receipts are of the roll of that mark
abbrev pub AreOfRoll : RollMark → List (ReceiptValue Ending) → Type 0
AreOfRoll mark [] = Unit {0}
AreOfRoll mark (r ∷ rs) = (r.mark ≡ mark) × AreOfRoll mark rs

-- a startd alone comes back with ends of runs
abbrev pub AreOfHolder : Daemon → RollMark → List (ReceiptValue Ending) → Type 0
AreOfHolder (Startd machine) ends ended = AreOfRoll ends ended
AreOfHolder who ends ended = ended ≡ []

-- each number of a claim fits its type, as those of every claim of the program do
pub record IsNumbered (claim : ClaimId) : Type 0 where
  pub machine : claim.no.slot.machine < 2 ^ 16
  pub slot : claim.no.slot.slot < 2 ^ 16
  pub boot : claim.no.boot < 2 ^ 64
  pub seq : claim.no.seq < 2 ^ 64
  pub secret : claim.secret < 2 ^ 64

-- that of each match
abbrev pub AreNumbered : List Match → Type 0
AreNumbered list = All (λ m. IsNumbered m.claim) list

-- receipts are of the rolls of these marks, the log's and the holder's own of ends, and each match
-- has its proof and a claim whose numbers fit
abbrev pub IsGivenBy : RollMark → RollMark → Event → Type 0
IsGivenBy log ends (Logged boot receipt) = receipt.mark ≡ log
IsGivenBy log ends (Ended machine boot receipt reading) = receipt.mark ≡ ends
IsGivenBy log ends (Reopen who kept ended reading) =
    IfSome kept (λ r. r.mark ≡ log) × AreOfHolder who ends ended
IsGivenBy log ends (Matches list judged reading) = (length list ≡ length judged) × AreNumbered list
IsGivenBy log ends _ = Unit {0}
