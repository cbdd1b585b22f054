-- What daemons do to a pool.
use Rattle.std.specs.Prelude.{ℕ, ◌+◌, List, [], ◌∷◌, ◌++◌, Bool, true, map, slice_set}
use Rattle.claim_id.specs.declared.numbers.JobId.{JobId}
use Rattle.pool_parts.specs.declared.answer.Stepped.{Stepped}
use Rattle.pool_parts.specs.Sizes.{mails_count}
use Rattle.pool_mail.specs.declared.mail.Mail.{Mail}
use Rattle.pool_mail.specs.declared.mail.Mail.TheVariants as mail
use Rattle.pool_state.specs.declared.state.Counts.{Counts}
use Rattle.pool_state.specs.declared.state.PoolState.{PoolState}
use Rattle.pool_tables.specs.declared.sent.Sent.{Sent}
use Rattle.pool_tables.specs.MailLists.{MailsValue, after_receipt, receiver_of, sent_now}
use Rattle.pool_view.specs.declared.run.EndReport.{EndReport}
use Rattle.schedd_state.specs.declared.answer.ScheddStep.{ScheddStep}
use Rattle.schedd_state.specs.Schedds.{ScheddValue}
use Rattle.startd_core.specs.declared.answer.StartdStep.{StartdStep}
use Rattle.startd_core.specs.Startds.{StartdValue}
use Rattle.pool_rules.specs.Answers.{answered, answer_of_startd, answer_with, pending_by}

-- ---- mails
-- the room for mails more doesn't matter
abbrev pub rested : MailsValue → MailsValue
rested m = record m { spare = 0 }

abbrev pub at_rest : PoolState → PoolState
at_rest s = record s { mails = rested s.mails }

-- mails are sent, in order, and no room is left
abbrev pub sends : List Sent → MailsValue → MailsValue
sends more m = record m { sent = m.sent ++ more; spare = 0 }

-- a mail that is sent to whom it goes first
abbrev pub posted : Mail → Sent
posted mail = sent_now mail (receiver_of mail)

abbrev pub posts : List Mail → MailsValue → MailsValue
posts mails m = sends (map posted mails) m

-- the mail of a number is received
abbrev pub receives : ℕ → PoolState → PoolState
receives index s = record s { mails = after_receipt index s.mails }

-- the bytes of mails that are sent are counted
abbrev pub counts_sent : List Mail → Counts → Counts
counts_sent mails c = record c { bytes = c.bytes + mails_count mails }

-- ---- the schedd
-- It becomes so; what it sends is sent, what it plans is to be logged, and these jobs are ordered
-- to be removed.
abbrev pub schedd_acts : ScheddValue → ScheddStep → List JobId → PoolState → PoolState
schedd_acts v step jobs s = record s {
  schedd = v;
  mails = posts step.mails s.mails;
  counts = counts_sent step.mails s.counts;
  pending = pending_by s.next_tx step.plan;
  ordered = s.ordered ++ jobs;
}

abbrev pub schedd_answer : PoolState → ScheddStep → Stepped
schedd_answer s step = answered (answer_with (pending_by s.next_tx step.plan))

-- the job that a mail orders to be removed, where the pool has it or had it
abbrev pub ordered_by : Mail → Bool → List JobId
ordered_by (mail.Remove job) true = job ∷ []
ordered_by m known = []

-- ---- a startd
-- That of a machine becomes so; what it sends is sent, and so runs have ended.
abbrev pub startd_acts
    : ℕ → StartdValue → StartdStep → List EndReport → PoolState → PoolState
startd_acts machine v step ends s = record s {
  machines = slice_set s.machines machine v;
  mails = posts step.mails s.mails;
  counts = counts_sent step.mails s.counts;
  reports = s.reports ++ ends;
}

abbrev pub startd_answer : StartdStep → Stepped
startd_answer step = answered (answer_of_startd step.answer)
