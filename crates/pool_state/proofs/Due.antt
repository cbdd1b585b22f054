-- Whether something is due of a daemon.
use Rattle.std.proofs.Common.{◌⊎◌, inl, inr}

-- what is due of a daemon that is up is due
pub of_one_up : {Up Due Hangs : Type 0} → Up → Due ⊎ Hangs → (Up × Due) ⊎ Hangs
of_one_up up (inl due) = inl (up, due)
of_one_up up (inr hangs) = inr hangs
