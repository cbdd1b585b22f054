-- How far an evaluation may still go.
use Rattle.std.proofs.Common.{ℕ, ◌+◌, ◌*◌, ◌-◌, length}
use Rattle.ad_eval.specs.declared.evaluation.Evaluation.{Evaluation}
use Rattle.ad_eval.specs.declared.progress.TheConstants.{MOST_IN_PROGRESS}
use Rattle.ad_eval.specs.Size.{largest_tree_of}
use Rattle.ad_eval.specs.Sides.{ads_of}

-- each attribute that may still begin, times more than its expression takes
abbrev pub reach : Evaluation → ℕ
reach e = (MOST_IN_PROGRESS + 1 - length e.progress) * (largest_tree_of (ads_of e.sides) + 1)
