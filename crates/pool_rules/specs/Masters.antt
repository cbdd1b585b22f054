-- What the master and the matchmaker do to a pool.
use Rattle.std.specs.Prelude.{ℕ, List, [], ◌∷◌, ◌++◌, length, Option, Some, None}
use Rattle.claim_id.specs.declared.numbers.JobId.{JobId}
use Rattle.claim_id.specs.declared.order.Verb.{Verb}
use Rattle.pool_mail.specs.declared.mail.Mail.TheVariants as mail
use Rattle.pool_mail.specs.declared.matching.Match.{Match}
use Rattle.pool_outer.specs.declared.gate.Daemon.TheVariants.{Schedd, Startd}
use Rattle.pool_state.specs.declared.state.PoolState.{PoolState}
use Rattle.pool_tables.specs.declared.sent.Sent.{Sent}
use Rattle.pool_tables.specs.MailLists.{sent_now}
use Rattle.pool_tables.specs.OrderTables.{given_by, order_mail}
use Rattle.pool_rules.specs.Deeds.{sends}

-- the order of a place is given to the schedd
abbrev pub gives : Option ℕ → Verb → JobId → PoolState → PoolState
gives None verb job s = s
gives (Some place) verb job s = record s {
  mails = sends (sent_now (order_mail verb job) Schedd ∷ []) s.mails;
  orders = given_by place (length s.mails.sent) s.orders;
}

-- a match is told to the schedd, and to the startd of the claim's slot
abbrev pub match_mails : Match → List Sent
match_mails m = sent_now (mail.Matched m) Schedd
    ∷ sent_now (mail.Matched m) (Startd m.claim.no.slot.machine)
    ∷ []

-- perhaps there is none
abbrev pub mails_at : Option Match → List Sent
mails_at None = []
mails_at (Some m) = match_mails m

abbrev pub mails_of_matches : List Match → List Sent
mails_of_matches [] = []
mails_of_matches (m ∷ ms) = match_mails m ++ mails_of_matches ms

abbrev pub passes : List Match → PoolState → PoolState
passes ms s = record s { mails = sends (mails_of_matches ms) s.mails }
