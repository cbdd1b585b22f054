-- What is set so far, with the rows that are left, is the whole.
use Rattle.std.proofs.Common.{◌≡◌, [], drop}
use Rattle.ad_rows.specs.Rows.{with_rows}
use Rattle.ad_rows.proofs.rows.ad_of.Given as goal

abbrev pub invariant-loop-name : goal.invariant-loop-name
invariant-loop-name l = with_rows (drop l.name-index l.rows) l.ad ≡ with_rows l.rows []
