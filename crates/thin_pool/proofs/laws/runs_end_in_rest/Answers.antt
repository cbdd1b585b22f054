use Rattle.thin_pool.proofs.Resting.{may_end, rests_again}
use Rattle.thin_pool.proofs.laws.runs_end_in_rest.Goals as goal

pub returns-clause-may_end : goal.returns-clause-may_end
returns-clause-may_end c = λ p job slot judged reading rests ok end late. may_end p job slot judged reading rests ok end late

pub returns-clause-rests : goal.returns-clause-rests
returns-clause-rests c = λ p job slot judged reading rests ok end late. (rests_again p job slot judged reading end late rests ok).0

pub returns-clause-fewer : goal.returns-clause-fewer
returns-clause-fewer c = λ p job slot judged reading rests ok end late. (rests_again p job slot judged reading end late rests ok).1
