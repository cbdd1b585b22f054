use Rattle.pool_view.proofs.Course.{course_opens, course_goes}
use Rattle.pool_view.proofs.protocol_laws.a_course_can_be_run.Goals as goal

pub returns-clause-opening : goal.returns-clause-opening
returns-clause-opening c = course_opens

pub returns-clause-goes : goal.returns-clause-goes
returns-clause-goes c = course_goes
