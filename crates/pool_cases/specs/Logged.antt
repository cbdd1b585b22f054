-- What can be logged of a job.
use Rattle.std.specs.Prelude.{ℕ, List}
use Rattle.ad_tree.specs.Tree.{Tree}
use Rattle.queue_tx.specs.Printable.{IsPrintableName, IsPrintableTree}

-- a name and an expression that a text can say
abbrev pub IsPrintableAttribute : List ℕ × Tree → Type 0
IsPrintableAttribute a = IsPrintableName a.0 × IsPrintableTree a.1
