use Rattle.ad_eval.proofs.mismatch.none_match.Given as goal

abbrev pub ghosts-first_match : goal.ghosts-first_match
ghosts-first_match a = record { name = a.blank.name; parts = a.blank.parts }
