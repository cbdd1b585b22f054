use Rattle.thin_pool.proofs.pool.Pool.pair_at.Given as goal

abbrev pub ghosts-first_fit : goal.ghosts-first_fit
ghosts-first_fit a = record { name = a.blank.name; parts = a.blank.parts }
