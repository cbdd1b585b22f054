use Rattle.std.proofs.Common.{ℕ, List, ap}
use Rattle.matchmaker.specs.declared.course.Account.{Account}
use Rattle.matchmaker.proofs.course.Account.of.Goals as goal

pub returns : goal.returns
returns c =
    let of_user : List ℕ → Account = λ user. record { user = user; effective = c.args.submitter.now.effective; in_use = c.args.submitter.now.in_use; ceiling = c.args.submitter.now.ceiling } in
    ap of_user c.in_ok-copy.ensures
