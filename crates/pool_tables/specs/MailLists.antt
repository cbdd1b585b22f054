-- The mails that were sent, by number.
use Rattle.std.specs.Prelude.{◌≡◌, ℕ, ◌+◌, ◌-◌, ◌<◌, nat_le, List, [], ◌∷◌, ◌++◌, Bool, true, false, length, slice_get, slice_set, Option, Some, None, IsSomeAnd, unwrap_or, map, if◌then◌else◌}
use Rattle.pool_mail.specs.declared.mail.Mail.{Mail}
use Rattle.pool_tables.specs.declared.refusal.MailError.{MailError}
use Rattle.pool_tables.specs.declared.refusal.MailError.TheVariants as error
use Rattle.pool_tables.specs.declared.refusal.StepError.{StepError}
use Rattle.pool_tables.specs.declared.refusal.StepError.TheVariants.{NoMail, NotYours, Again}
use Rattle.pool_tables.specs.declared.sent.Sent.{Sent}
use Rattle.pool_tables.specs.DaemonTables.{same_daemon}
use Rattle.pool_tables.specs.Links.{box_of, IsNext}
use Rattle.pool_tables.specs.Repeats.{times_of}
use Rattle.pool_mail.specs.Mails.{receivers_of}
use Rattle.pool_outer.specs.declared.gate.Daemon.{Daemon}
use Rattle.pool_outer.specs.declared.gate.Daemon.TheVariants.{Matchmaker}

pub record MailsValue : Type 0 where
  pub sent : List Sent  -- all mails ever sent, by number
  pub boxes : ℕ  -- of the daemons of the pool
  pub repeats : List (ℕ × ℕ)  -- how often more than once mails may be received, by number
  pub spare : ℕ  -- for how many mails more there is room

-- a mail is sent to a daemon
abbrev pub sent_now : Mail → Daemon → Sent
sent_now mail to = record { mail = mail; to = to; received = 0 }

abbrev pub with_mail : Mail → Daemon → MailsValue → MailsValue
with_mail mail to m =
    record m { sent = m.sent ++ sent_now mail to ∷ []; spare = m.spare - 1 }

-- to whom a mail goes first
abbrev pub receiver_of : Mail → Daemon
receiver_of mail = unwrap_or (slice_get (receivers_of mail) 0) Matchmaker

-- mails are sent, in order
abbrev pub with_mails : List Mail → MailsValue → MailsValue
with_mails [] m = m
with_mails (mail ∷ mails) m = with_mails mails (with_mail mail (receiver_of mail) m)

-- to which boxes the mails go
abbrev pub boxes_of : List Sent → List ℕ
boxes_of sent = map (λ s. box_of s.to) sent

-- the daemon is one of the pool
abbrev pub IsOfPool : Daemon → MailsValue → Type 0
IsOfPool who m = box_of who < m.boxes

-- the least number of a mail to the daemon, from a number on
abbrev pub IsNextMail : Daemon → ℕ → MailsValue → Option ℕ → Type 0
IsNextMail who from m next = IsNext (boxes_of m.sent) (box_of who) from next

abbrev pub may_receive_sent : Option Sent → ℕ → Bool
may_receive_sent None times = false
may_receive_sent (Some s) times = nat_le s.received times

-- the mail of a number may be received once, and once more for each time that is allowed
abbrev pub may_receive : ℕ → MailsValue → Bool
may_receive number m = may_receive_sent (slice_get m.sent number) (times_of number m.repeats)

-- ---- what is refused

abbrev pub again : ℕ → Bool → Option StepError
again index may = if may then None else Some (Again index)

abbrev pub sent_refusal : Daemon → ℕ → MailsValue → Option Sent → Option StepError
sent_refusal who index m None = Some (NoMail index (length m.sent))
sent_refusal who index m (Some s) = if same_daemon who s.to
    then again index (may_receive index m) else Some (NotYours index s.to)

-- a mail that wasn't sent, goes to another daemon, or was received as often as it may be
abbrev pub mail_refusal : Daemon → ℕ → MailsValue → Option StepError
mail_refusal who index m = sent_refusal who index m (slice_get m.sent index)

abbrev pub sent_error : Daemon → ℕ → MailsValue → Option Sent → Option MailError
sent_error who index m None = Some (error.NoMail index (length m.sent))
sent_error who index m (Some s) =
    if same_daemon who s.to then None else Some (error.NotYours index s.to)

-- a mail that wasn't sent, or goes to another daemon
abbrev pub mail_error : Daemon → ℕ → MailsValue → Option MailError
mail_error who index m = sent_error who index m (slice_get m.sent index)

-- the mail was sent to the daemon
abbrev pub IsMailTo : Daemon → ℕ → MailsValue → Mail → Type 0
IsMailTo who index m mail = IsSomeAnd (slice_get m.sent index)
    (λ s. (same_daemon who s.to ≡ true) × (s.mail ≡ mail))

-- ---- what changes

abbrev pub received_once : Option Sent → ℕ → List Sent → List Sent
received_once None number sent = sent
received_once (Some s) number sent =
    slice_set sent number (record s { received = s.received + 1 })

-- the mail of a number was received once more
abbrev pub with_received : ℕ → List Sent → List Sent
with_received number sent = received_once (slice_get sent number) number sent

-- after that no room is left
abbrev pub after_receipt : ℕ → MailsValue → MailsValue
after_receipt number m = record m { sent = with_received number m.sent; spare = 0 }
