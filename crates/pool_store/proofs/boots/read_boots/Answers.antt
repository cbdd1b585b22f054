use Rattle.std.proofs.Common.{arith, refl, rules}
use Rattle.pool_store.proofs.BootLines.{read_more, read_fits}
use Rattle.pool_store.proofs.boots.read_boots.Goals as goal

pub overflow_add-line : goal.overflow_add-line
overflow_add-line c =
    let fits = read_fits _ _ _ _ _ _ c.loop-text.invariant c.in-Some.ensures.1 in
    let size = c.type_inv.bytes in
    omega arith

pub loop-text-preserved : goal.loop-text-preserved
loop-text-preserved c =
    let number = (c.in-Some-boot_in.ensures c.in-Some-boot_in.number).0 refl in
    read_more _ _ _ _ _ _ _ _ c.in-Some-boot_in.number c.loop-text.invariant c.in-Some.ensures.1 number.1 number.0 c.add.ensures.largest c.add.ensures.whole refl

pub returns-clause-ok : goal.returns-clause-ok
returns-clause-ok c = search rules
