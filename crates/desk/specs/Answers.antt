-- What a desk answers whose pool is known, and why it refuses an event.
use Rattle.std.specs.Prelude.{◌≡◌, ◌≢◌, ◌⊎◌, ℕ, Bool, true, Option, Some, Result, IfErr, IfOk, IfSome, IsErrOf}
use Rattle.claim_id.specs.declared.numbers.JobId.{JobId}
use Rattle.pool_core.specs.Refused.{IsRefused}
use Rattle.pool_parts.specs.declared.event.Event.{Event}
use Rattle.pool_mail.specs.declared.mail.Mail.{Mail}
use Rattle.pool_outer.specs.declared.gate.Daemon.{Daemon}
use Rattle.pool_state.specs.declared.state.PoolState.{PoolState}
use Rattle.pool_state.specs.Readings.{IsCheckDue, IsDue, boot_of, hangs_on_slot, is_schedd_up}
use Rattle.pool_tables.specs.declared.refusal.MailError.{MailError}
use Rattle.pool_tables.specs.declared.refusal.MailError.TheVariants.{Memory}
use Rattle.pool_tables.specs.declared.refusal.StepError.{StepError}
use Rattle.pool_tables.specs.declared.refusal.StepError.TheVariants as step_errors
use Rattle.pool_tables.specs.DaemonTables.{daemon_state}
use Rattle.pool_tables.specs.MailLists.{IsMailTo, IsNextMail, IsOfPool, mail_error}
use Rattle.schedd_state.specs.DueChecks.{IsFirstDue}

-- the first cause that holds, or want of memory
abbrev pub IsRefusedHere : PoolState → Event → StepError → Type 0
IsRefusedHere s e error = error ≢ step_errors.Memory → IsRefused e s error

-- the mail, or why there is none
pub record IsMailHere (who : Daemon) (index : ℕ) (s : PoolState) (answer : Result Mail MailError)
    : Type 0 where
  pub mail : IfOk answer (IsMailTo who index s.mails)
  pub refused : IfErr answer (λ e. e ≢ Memory → mail_error who index s.mails ≡ Some e)
  pub cause : IfSome (mail_error who index s.mails) (λ e. IsErrOf answer e)

abbrev pub IsNextHere : Daemon → ℕ → PoolState → Option ℕ → Type 0
IsNextHere who from s answer = IsOfPool who s.mails → IsNextMail who from s.mails answer

-- true where something is due, and only there or where that hangs on a slot's Start
pub record IsDueHere (who : Daemon) (reading : ℕ) (s : PoolState) (answer : Bool) : Type 0 where
  pub due : IsDue who s reading → answer ≡ true
  pub only : answer ≡ true → IsDue who s reading ⊎ (hangs_on_slot who s reading ≡ true)

-- the job at which the schedd, which is up, is to look first
pub record IsCheckHere (reading : ℕ) (s : PoolState) (answer : Option JobId) : Type 0 where
  pub due : IfSome answer (λ job. IsCheckDue job s reading)
  pub first : is_schedd_up s ≡ true → IsFirstDue s.schedd s.queue reading answer

abbrev pub IsBootHere : Daemon → PoolState → ℕ → Type 0
IsBootHere who s answer = answer ≡ boot_of (daemon_state who s.daemons)
