use Rattle.pool_view.proofs.SeveralMoves.{hand_over, burn_new, burn_old, end_run, end_run_hand_over, reboot_run}
use Rattle.pool_view.proofs.rows.startd_rows.Goals as goal

pub returns-clause-hand_over : goal.returns-clause-hand_over
returns-clause-hand_over c = hand_over

pub returns-clause-denied : goal.returns-clause-denied
returns-clause-denied c = burn_new

pub returns-clause-not_running : goal.returns-clause-not_running
returns-clause-not_running c = burn_old

pub returns-clause-ended : goal.returns-clause-ended
returns-clause-ended c = end_run

pub returns-clause-ended_for_rival : goal.returns-clause-ended_for_rival
returns-clause-ended_for_rival c = end_run_hand_over

pub returns-clause-booted : goal.returns-clause-booted
returns-clause-booted c = reboot_run
