use Rattle.std.proofs.Common.{refl, sym}
use Rattle.queue_record.proofs.KeyWords.{key_at_header, key_at_job, key_at_none}
use Rattle.queue_record.proofs.key.key_of.Goals as goal

pub returns-then-eq : goal.returns-then-eq
returns-then-eq c = sym (key_at_header c.args.word.now (sym c.if-eq.ensures))

pub returns-in-Ok : goal.returns-in-Ok
returns-in-Ok c = let is = (c.in-Ok.ensures c.in-Ok.job).0 refl in sym (key_at_job c.args.word.now c.in-Ok.job is.0 is.1)

pub returns-in-Err : goal.returns-in-Err
returns-in-Err c = sym (key_at_none c.args.word.now (sym c.if-eq.ensures) (λ job is same. let clash = (c.in-Err.ensures job).1 (is, same) in let none : ⊥ = cc in none))
