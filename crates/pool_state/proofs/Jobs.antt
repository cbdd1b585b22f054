-- Jobs of lists, and what they ask for.
use Rattle.std.proofs.Common.{◌≡◌, ℕ, ◌+◌, ◌<◌, not, List, [], ◌∷◌, ◌++◌, drop, filter, get_or, length, None, Result, Ok, Err, IfOk, append_assoc, ap, sym, ◌∙◌}
use Rattle.std.specs.List.{filter_map}
use Rattle.std.proofs.lemmas.List.{at_drop_more}
use Rattle.claim_id.specs.declared.numbers.JobId.{JobId}
use Rattle.pool_mail.specs.declared.matching.Request.{Request}
use Rattle.pool_parts.specs.Listings.{AreJobs, request_at}
use Rattle.pool_state.specs.declared.state.PoolState.{PoolState}
use Rattle.pool_state.specs.PoolJobs.{is_engaged}
use Rattle.pool_state.specs.Readings.{AreWanted}
use Rattle.queue_tx.specs.declared.kind.JobKind.TheVariants.{Idle}

-- one job more comes to the end, and is no more left
pub pushed_more : (jobs : List JobId) (i : ℕ) (d : JobId) (before new all : List JobId) → i < length jobs → new ≡ before ++ get_or jobs i d ∷ [] → before ++ drop i jobs ≡ all → new ++ drop (i + 1) jobs ≡ all
pushed_more jobs i d before new all below put whole =
    ap (λ l. l ++ drop (i + 1) jobs) put ∙ append_assoc before (get_or jobs i d ∷ []) (drop (i + 1) jobs) ∙ sym (at_drop_more (λ (l : List JobId). before ++ l) jobs i d below) ∙ whole

-- what the free ones of the idle jobs ask for
pub wanted : {E : Type 0} (r : Result (List Request) E) (s : PoolState) (idle free : List JobId) → AreJobs Idle s.queue None idle → free ≡ filter (λ job. not (is_engaged job s)) idle
    → IfOk r (λ list. list ≡ filter_map (request_at s.queue) free) → IfOk r (AreWanted s)
wanted (Ok list) s idle free listed kept asked = (idle, listed, asked ∙ ap (filter_map (request_at s.queue)) kept)
wanted (Err e) s idle free listed kept asked = tt
