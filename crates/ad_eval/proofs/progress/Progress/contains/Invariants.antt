use Rattle.std.proofs.Common.{◌≡◌, drop}
use Rattle.ad_eval.specs.Mean.{is_among}
use Rattle.ad_eval.proofs.progress.Progress.contains.Given as goal

abbrev pub invariant-loop-other : goal.invariant-loop-other
invariant-loop-other l = is_among l.side l.place l.self ≡ is_among l.side l.place (drop l.other-index l.other-items)
