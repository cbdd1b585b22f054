use Rattle.pool_view.proofs.SeveralMoves.{commit_grant, commit_lengthen, commit_submission, remove_under, remove_now}
use Rattle.pool_view.proofs.rows.schedd_rows.Goals as goal

pub returns-clause-granted : goal.returns-clause-granted
returns-clause-granted c = commit_grant

pub returns-clause-lengthened : goal.returns-clause-lengthened
returns-clause-lengthened c = commit_lengthen

pub returns-clause-submitted : goal.returns-clause-submitted
returns-clause-submitted c = commit_submission

pub returns-clause-removal : goal.returns-clause-removal
returns-clause-removal c = remove_under

pub returns-clause-removed : goal.returns-clause-removed
returns-clause-removed c = remove_now
