use Rattle.std.proofs.Common.{◌≡◌, take}
use Rattle.matchmaker.specs.Kept.{fresh_ads}
use Rattle.matchmaker.proofs.kept.fresh_ads.Given as goal

abbrev pub invariant-loop-one : goal.invariant-loop-one
invariant-loop-one l = l.ads ≡ fresh_ads l.lifetime l.now (take l.one-index l.kept)
