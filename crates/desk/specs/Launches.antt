-- Which runs were launched, by the entries of a startd.
use Rattle.std.specs.Prelude.{Bool, false, List}
use Rattle.std.specs.List.{list_any}
use Rattle.claim_id.specs.declared.numbers.RunNo.{RunNo}
use Rattle.desk.specs.declared.entry.Entry.{Entry}
use Rattle.pool_parts.specs.declared.answer.Kept.{Kept}
use Rattle.pool_parts.specs.declared.answer.Kept.TheVariants.{Launch}
use Rattle.pool_view.specs.Numbers.{same_run}

abbrev pub is_launch_of : RunNo → Kept → Bool
is_launch_of run (Launch launched job what) = same_run launched run
is_launch_of run _ = false

-- one of the entries launched the run
abbrev pub was_launched : RunNo → List Entry → Bool
was_launched run es = list_any (λ e. is_launch_of run e.kept) es
