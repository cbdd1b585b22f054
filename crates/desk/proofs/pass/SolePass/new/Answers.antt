use Rattle.std.proofs.Common.{List, sym, subst}
use Rattle.desk.specs.declared.entry.Entry.{Entry}
use Rattle.desk.specs.SolePasses.{StandsHere}
use Rattle.desk.proofs.Holding.{first_stands}
use Rattle.desk.proofs.pass.SolePass.new.Goals as goal

pub invariant_of-result : goal.invariant_of-result
invariant_of-result c =
    subst (λ (xs : List Entry). StandsHere c.args.holder xs c.args.pool) (sym c.new.ensures.items) (first_stands c.args.holder c.args.pool c.requires c.safety.ensures.kept)
