use Rattle.log_hammer.proofs.Submissions.{printable_if_ok}
use Rattle.log_hammer.proofs.submission.printable_submission.Goals as goal

pub returns : goal.returns
returns c = printable_if_ok c.submission.result c.args.cluster c.requires c.ranges.cluster.fits c.submission.ensures
