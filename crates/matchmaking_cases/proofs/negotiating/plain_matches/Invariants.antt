-- The counter stands on a ledger of its own: the blank's.
use Rattle.matchmaking_cases.proofs.negotiating.plain_matches.Given as goal

abbrev pub ghosts-plain_counted : goal.ghosts-plain_counted
ghosts-plain_counted a = record { name = a.blank.name; parts = a.blank.parts }
