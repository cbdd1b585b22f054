use Rattle.negotiate.proofs.ListTables.{none_listed, chosen_of}
use Rattle.negotiate.proofs.grouping.choice_at.Goals as goal

pub returns-in-None : goal.returns-in-None
returns-in-None c = λ v there. none_listed c.args.lists.now c.args.request.now.cluster c.index-lists-request.result v c.requires c.index-lists-request.is c.in-None.is there

pub returns-in-Some : goal.returns-in-Some
returns-in-Some c = λ v there.
    chosen_of c.args.snapshot.now c.args.account.now c.args.made.now c.args.request.now.request c.args.lists.now c.args.request.now.cluster c.index-lists-request.result c.in-Some.list v c.deref.result.now c.choice_in.result
    c.requires c.index-lists-request.is c.in-Some.is c.deref.ensures.value there c.choice_in.ensures
