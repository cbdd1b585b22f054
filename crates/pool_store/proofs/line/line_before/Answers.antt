use Rattle.std.proofs.Common.{rules}
use Rattle.pool_store.proofs.Newlines.{line_nowhere, cut_at_newline}
use Rattle.pool_store.proofs.line.line_before.Goals as goal

pub returns-in_err-end : goal.returns-in_err-end
returns-in_err-end c = search (rules, line_nowhere c.args.bytes.now (rw c.in_err-end.was at c.memchr.ensures))

pub returns : goal.returns
returns c =
    let first = rw c.in_ok-end.was at c.memchr.ensures in
    cut_at_newline c.args.bytes.now c.in_ok-end.end first.0.high first.0.before first.1
