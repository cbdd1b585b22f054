use Rattle.negotiate.proofs.ListTables.{seen_within, seen_choice}
use Rattle.negotiate.proofs.grouping.place.Goals as goal

pub choice_at-requires : goal.choice_at-requires
choice_at-requires g c = seen_within c.args.snapshot.now c.args.made.now c.args.request.now c.args.lists.now.items c.see.new.lists.items _ c.deref.ensures.value c.requires.within c.in_ok-see.ensures.seen

pub returns-clause-choice : goal.returns-clause-choice
returns-clause-choice g c = seen_choice c.args.snapshot.now c.args.made.now c.args.account.now c.args.request.now c.args.lists.now.items c.see.new.lists.items _ _ c.deref.ensures.value c.requires.within c.requires.serves c.in_ok-see.ensures.seen c.in_ok-chosen.ensures

pub returns-clause-seen : goal.returns-clause-seen
returns-clause-seen g c = c.in_ok-see.ensures.seen

pub returns-clause-cost : goal.returns-clause-cost
returns-clause-cost g c = c.in_ok-see.ensures.cost
