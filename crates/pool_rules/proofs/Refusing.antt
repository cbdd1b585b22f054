-- What follows where nothing refuses an event.
use Rattle.std.proofs.Common.{◌≡◌, ℕ, Bool, true, false, List, ◌∷◌, Some, None, slice_get, true≢false, refl, sym, ap, subst, if◌then◌else◌}
use Rattle.std.proofs.lemmas.Bool.{eqb-true}
use Rattle.std.proofs.lemmas.Option.{none-some}
use Rattle.pool_outer.specs.declared.gate.Daemon.{Daemon}
use Rattle.pool_outer.specs.declared.gate.Daemon.TheVariants.{Schedd, Startd, Matchmaker}
use Rattle.pool_rules.specs.Refusals.{Refusal, Then, first_of}
use Rattle.pool_tables.specs.DaemonTables.{same_daemon}
use Rattle.pool_tables.specs.MailLists.{MailsValue, again, mail_refusal, may_receive, sent_refusal}
use Rattle.pool_tables.specs.declared.refusal.StepError.TheVariants.{NotYours}
use Rattle.pool_tables.specs.declared.sent.Sent.{Sent}

-- neither cause of two holds
pub then_none : (o : Refusal) (Next : Refusal → Type 0) → Then o Next None → (o ≡ None) × Next None
then_none None Next h = (refl, h)
then_none (Some e) Next h = absurd (none-some e h)

-- none of some causes does
pub first_none : (a : Refusal) (rs : List Refusal) → first_of (a ∷ rs) ≡ None → (a ≡ None) × (first_of rs ≡ None)
first_none None rs h = (refl, h)
first_none (Some e) rs h = absurd (none-some e (sym h))

-- ---- mails
pub same_daemon-true : (a b : Daemon) → same_daemon a b ≡ true → b ≡ a
same_daemon-true Schedd Schedd h = refl
same_daemon-true Schedd (Startd other) h = absurd (true≢false (sym h))
same_daemon-true Schedd Matchmaker h = absurd (true≢false (sym h))
same_daemon-true (Startd machine) Schedd h = absurd (true≢false (sym h))
same_daemon-true (Startd machine) (Startd other) h = ap Startd (sym (eqb-true machine other h))
same_daemon-true (Startd machine) Matchmaker h = absurd (true≢false (sym h))
same_daemon-true Matchmaker Schedd h = absurd (true≢false (sym h))
same_daemon-true Matchmaker (Startd other) h = absurd (true≢false (sym h))
same_daemon-true Matchmaker Matchmaker h = refl

-- a mail that may be received goes to the daemon
pub goes_to : (who : Daemon) (index : ℕ) (m : MailsValue) (sent : Sent) → slice_get m.sent index ≡ Some sent → mail_refusal who index m ≡ None → sent.to ≡ who
goes_to who index m sent at none = by (same_daemon who sent.to) refl (subst (λ o. sent_refusal who index m o ≡ None) at none)
  where
    by : (b : Bool) → same_daemon who sent.to ≡ b → (if b then again index (may_receive index m) else Some (NotYours index sent.to)) ≡ None → sent.to ≡ who
    by true is free = same_daemon-true who sent.to is
    by false is free = absurd (none-some (NotYours index sent.to) (sym free))
