use lib.Utf8.{encode}
use Rattle.daemon_texts.specs.NumberTexts.{run_text}
use Rattle.daemon_texts.proofs.TabLemmas.{one_more_behind_tab}
use Rattle.daemon_texts.proofs.runs.write_runs.Goals as goal

pub loop-run-preserved : goal.loop-run-preserved
unfolding encode
loop-run-preserved c =
    one_more_behind_tab run_text _ _ _ _ _ _ _ c.loop-run.invariant c.in_ok-push.ensures.bytes c.in_ok-write_run.ensures c.loop-run-test.true
