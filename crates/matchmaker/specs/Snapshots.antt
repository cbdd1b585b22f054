-- Of what a cycle can be made.
use Rattle.std.specs.Prelude.{◌<◌, ◌≤◌, All, length}
use Rattle.matchmaker.specs.declared.snapshot.Snapshot.{Snapshot}
use Rattle.matchmaker.specs.declared.accountant.TheConstants.{MAX_USERS}
use Rattle.matchmaker.specs.declared.standing.TheConstants.{MAX_SLOTS}

pub record IsSnapshot (s : Snapshot) : Type 0 where
  pub slots : length s.slots ≤ MAX_SLOTS
  pub submitters : length s.submitters ≤ MAX_USERS
  pub priorities : All (λ b. 0 < b.effective) s.submitters
