use Rattle.negotiate.proofs.ListTables.{seen_before, seen_now, cost_now}
use Rattle.negotiate.proofs.grouping.see.Goals as goal

pub returns-then-has_list-clause-seen : goal.returns-then-has_list-clause-seen
returns-then-has_list-clause-seen g c = seen_before c.args.snapshot.now c.args.made.now c.args.request.now _ c.args.lists.now.items _ c.deref.ensures.value c.has_list.ensures c.if-has_list.true

pub returns-clause-seen : goal.returns-clause-seen
returns-clause-seen g c = seen_now c.args.snapshot.now c.args.made.now c.args.request.now _ c.args.lists.now.items _ c.in_ok-list.list _ c.deref.ensures.value c.has_list.ensures c.if-has_list.false
    c.in_ok-list.ensures.kept c.put.ensures

pub returns-clause-cost : goal.returns-clause-cost
returns-clause-cost g c = cost_now c.args.request.now _ c.args.lists.now.items _ c.in_ok-list.list _ _ _ _ c.requires c.deref.ensures.value c.has_list.ensures c.if-has_list.false
    c.put.ensures c.in_ok-list.ensures.cost

pub put-requires : goal.put-requires
put-requires g c = c.requires
