-- With the attributes that are left the ad is whole.
use Rattle.std.proofs.Common.{◌≡◌, ◌++◌, drop, map}
use Rattle.pool_parts.specs.Submissions.{attribute_op}
use Rattle.pool_parts.proofs.submission.push_ad.Given as goal

abbrev pub invariant-loop-place : goal.invariant-loop-place
invariant-loop-place l = l.tx ++ map (attribute_op l.key) (drop l.place l.ad) ≡ l.initial.tx ++ map (attribute_op l.key) l.ad
