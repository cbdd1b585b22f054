use Rattle.auto_cluster.proofs.LinkLemmas.{one_pushed}
use Rattle.auto_cluster.proofs.links.add_link.Goals as goal

pub returns : goal.returns
returns c = one_pushed c.args.list.now.items c.push.new.self.items c.in_ok-link.link c.args.from.now c.args.to.now c.in_ok-push.ensures.items c.in_ok-link.ensures
