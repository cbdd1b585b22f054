-- The matches so far are told, and there is room for the others.
use Rattle.std.proofs.Common.{◌≡◌, ◌+◌, ◌*◌, ◌≤◌, length, take}
use Rattle.pool_rules.specs.Deeds.{rested, sends}
use Rattle.pool_rules.specs.Masters.{mails_of_matches}
use Rattle.pool_steps.proofs.master.put_matches.Given as goal

abbrev pub invariant-loop-place : goal.invariant-loop-place
invariant-loop-place l = (rested l.mails ≡ sends (mails_of_matches (take l.place l.list)) l.initial.mails) × (length l.list * 2 ≤ l.mails.spare + l.place * 2)
