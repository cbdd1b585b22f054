-- How many runs there are, and those so far, are written.
use Rattle.std.proofs.Common.{◌≡◌, ◌∷◌, ◌++◌, decimal, length, string_bytes, take}
use Rattle.daemon_texts.specs.NumberTexts.{run_text}
use Rattle.daemon_texts.specs.ListTexts.{behind_tabs}
use Rattle.daemon_texts.proofs.runs.write_runs.Given as goal

abbrev pub invariant-loop-run : goal.invariant-loop-run
invariant-loop-run l =
    string_bytes l.out ≡ (string_bytes l.fn.out ++ 9 ∷ decimal (length l.runs)) ++ behind_tabs run_text (take l.run-index l.runs)
