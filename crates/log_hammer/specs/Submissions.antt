-- What submits a job.
use Rattle.std.specs.Prelude.{ℕ, List, [], ◌∷◌, codes}
use Rattle.ad_rows.specs.Rows.{integer_literal}
use Rattle.queue_tx.specs.declared.key.Key.{Key}
use Rattle.queue_tx.specs.declared.key.Key.TheVariants.{Proc}
use Rattle.queue_tx.specs.Operations.{Operation, new_ad, set_attr}

abbrev pub first_job : ℕ → Key
first_job cluster = Proc (record { cluster = cluster; proc = 0 })

-- the first job of a cluster, which is idle
abbrev pub submission : ℕ → List Operation
submission cluster =
    new_ad (first_job cluster) (codes "Job") (codes "Machine")
    ∷ set_attr (first_job cluster) (codes "JobStatus") (integer_literal 1)
    ∷ []
