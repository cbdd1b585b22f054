use Rattle.std.proofs.Common.{◌≡◌, false, take}
use Rattle.ad_eval.specs.Match.{matches_any}
use Rattle.ad_eval.proofs.mismatch.match_of_job.Given as goal

abbrev pub invariant-loop-k : goal.invariant-loop-k
invariant-loop-k g l = matches_any (take l.k l.slots) l.job l.now ≡ false
