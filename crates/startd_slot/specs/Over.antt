-- Which runs a slot says to be over.
use Rattle.std.specs.Prelude.{◌≡◌, ℕ, true, false, List, Option, Some, None, IfSome}
use Rattle.std.specs.List.{AllByRecursion}
use Rattle.claim_id.specs.declared.numbers.RunNo.{RunNo}
use Rattle.pool_mail.specs.declared.mail.Mail.{Mail}
use Rattle.pool_mail.specs.declared.mail.Mail.TheVariants.{Activate, Alive, Stop, Gone, Ended}
use Rattle.startd_slot.specs.declared.slot.SlotState.{SlotState}
use Rattle.startd_slot.specs.SlotStates.{is_spent, runs_on}

-- a run can start no more, and is not on the slot
abbrev pub IsOver : ℕ → SlotState → RunNo → Type 0
IsOver boot s run = (is_spent s boot run ≡ true) × (runs_on s run ≡ false)

-- the run of which a mail says that it is over
abbrev pub run_said_over : Mail → Option RunNo
run_said_over (Gone run kept) = Some run
run_said_over (Ended run how) = Some run
run_said_over _ = None

-- the run that a mail to a startd names
abbrev pub named_run : Mail → Option RunNo
named_run (Activate run job ad until) = Some run
named_run (Alive run until) = Some run
named_run (Stop run) = Some run
named_run _ = None

-- so it is with every run that the mails say to be over
abbrev pub SayOver : (RunNo → Type 0) → List Mail → Type 0
SayOver Is mails = AllByRecursion (λ mail. IfSome (run_said_over mail) Is) mails

abbrev pub SayOnlyOver : ℕ → SlotState → List Mail → Type 0
SayOnlyOver boot s mails = SayOver (IsOver boot s) mails
