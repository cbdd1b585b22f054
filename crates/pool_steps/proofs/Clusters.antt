-- The jobs of a cluster, one after the other.
use Rattle.std.proofs.Common.{◌≡◌, ℕ, ◌+◌, [], ◌∷◌, ◌++◌, ap, add-one}
use Rattle.pool_rules.specs.Logging.{cluster_jobs}

pub one_job : (cluster count : ℕ) → cluster_jobs cluster (count + 1) ≡ cluster_jobs cluster count ++ record { cluster = cluster; proc = count } ∷ []
one_job cluster count = ap (λ n. cluster_jobs cluster n) (add-one count)
