-- What comes of the jobs, and of the runs, that are left once one is gone over.
use Rattle.std.proofs.Common.{◌≡◌, ℕ, ◌+◌, ◌<◌, List, ◌++◌, Option, length, get_or, drop, sym, ap, ◌∙◌}
use Rattle.std.proofs.lemmas.List.{at_drop_more}
use Rattle.claim_id.specs.declared.numbers.ClaimId.{ClaimId}
use Rattle.claim_id.specs.declared.numbers.JobId.{JobId}
use Rattle.queue_tx.specs.declared.key.Key.TheVariants.{Proc}
use Rattle.queue_tx.specs.Queues.{KeyedAds, ad_at}
use Rattle.schedd_plan.specs.declared.claims.KeptClaim.{KeptClaim}
use Rattle.schedd_plan.specs.declared.runs.KeptRun.{KeptRun}
use Rattle.schedd_state.specs.Reopening.{claims_behind, found_behind, found_run, one_claim, one_run}

pub job_gone_over : (read : List ℕ → Option ClaimId) (q : KeyedAds) (left : List JobId) (reading : ℕ) (jobs : List JobId) (i : ℕ) (other : JobId) (found : Option KeptRun) (old new : List KeptRun)
    → i < length jobs → found ≡ found_run read q left reading (get_or jobs i other) → new ≡ old ++ one_run found
    → found_behind read q left reading (drop (i + 1) jobs) new ≡ found_behind read q left reading (drop i jobs) old
job_gone_over read q left reading jobs i other found old new below finds pushed =
    let added = pushed ∙ ap (λ (o : Option KeptRun). old ++ one_run o) finds in
    ap (λ (rs : List KeptRun). found_behind read q left reading (drop (i + 1) jobs) rs) added
    ∙ sym (at_drop_more (λ (js : List JobId). found_behind read q left reading js old) jobs i other below)

pub run_gone_over : (q : KeyedAds) (runs : List KeptRun) (i : ℕ) (other : KeptRun) (old new : List KeptClaim)
    → i < length runs → new ≡ old ++ one_claim (ad_at (Proc (get_or runs i other).job) q) (get_or runs i other)
    → claims_behind q (drop (i + 1) runs) new ≡ claims_behind q (drop i runs) old
run_gone_over q runs i other old new below pushed =
    ap (λ (cs : List KeptClaim). claims_behind q (drop (i + 1) runs) cs) pushed
    ∙ sym (at_drop_more (λ (rs : List KeptRun). claims_behind q rs old) runs i other below)
