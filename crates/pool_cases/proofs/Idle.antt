-- Jobs of which each is idle.
use Rattle.std.proofs.Common.{List, [], ◌∷◌}
use Rattle.std.specs.List.{All}
use Rattle.std.proofs.lemmas.List.Elements.{All-head, All-tail}
use Rattle.ad_tree.specs.Ad.{Attributes}
use Rattle.pool_cases.specs.Marks.{IsIdle}
use Rattle.pool_rules.specs.Given.{AreIdle}

pub all_idle : (jobs : List Attributes) → All IsIdle jobs → AreIdle jobs
all_idle [] all = tt
all_idle (job ∷ jobs) all =
    let idle = All-head IsIdle job jobs all in
    (idle.0, idle.1, all_idle jobs (All-tail IsIdle job jobs all))
