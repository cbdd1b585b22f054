-- What a job asks of a machine (HTCondor manual, "condor_submit", request_cpus and its kin).
use Rattle.std.specs.Prelude.{ℕ, List}
use Rattle.ad_value.specs.declared.names.job.TheConstants.{REQUEST_CPUS, REQUEST_DISK, REQUEST_MEMORY}
use Rattle.ad_value.specs.declared.names.slot.TheConstants.{CPUS, DISK, MEMORY}
use Rattle.ad_tree.specs.declared.operator.BinOp.TheVariants.{And, GreaterEqual}
use Rattle.ad_tree.specs.declared.operator.Scope.TheVariants.{Bare, Target}
use Rattle.ad_tree.specs.Tree.{Tree, reference, chain, no_rests, and_rest}

-- TARGET.NAME >= REQUEST
abbrev pub at_least : List ℕ → List ℕ → Tree
at_least name request =
    chain (reference Target name) (and_rest GreaterEqual (reference Bare request) no_rests)

-- the other ad has as many processors, MiB of memory and KiB of disk as this one asks for
abbrev pub enough : Tree
enough = chain (at_least CPUS.now REQUEST_CPUS.now)
    (and_rest And (at_least MEMORY.now REQUEST_MEMORY.now)
    (and_rest And (at_least DISK.now REQUEST_DISK.now) no_rests))

-- the same behind an expression, which is one operand of the chain
abbrev pub with_enough : Tree → Tree
with_enough e = chain e
    (and_rest And (at_least CPUS.now REQUEST_CPUS.now)
    (and_rest And (at_least MEMORY.now REQUEST_MEMORY.now)
    (and_rest And (at_least DISK.now REQUEST_DISK.now) no_rests)))
