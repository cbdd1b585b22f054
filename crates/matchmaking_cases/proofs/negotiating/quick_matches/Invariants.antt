-- The counter stands on a ledger of its own: the blank's.
use Rattle.matchmaking_cases.proofs.negotiating.quick_matches.Given as goal

abbrev pub ghosts-quick_counted : goal.ghosts-quick_counted
ghosts-quick_counted a = record { name = a.blank.name; parts = a.blank.parts }
