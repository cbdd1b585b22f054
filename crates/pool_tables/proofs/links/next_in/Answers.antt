use Rattle.std.proofs.Common.{rules, ◌≡◌, ◌<◌, ℕ, Option, false, is_some, subst, sym}
use Rattle.pool_tables.specs.MailLists.{boxes_of}
use Rattle.pool_tables.proofs.Backwards.{ended_off, fewer, goes_on, left}
use Rattle.pool_tables.proofs.links.next_in.Goals as goal

pub back-smaller : goal.back-smaller
back-smaller c =
    subst (λ (o : Option ℕ). left c.at_least-at-in-Some.result < left o) (sym c.in-Some.is)
    (fewer (boxes_of c.args.sent.now) c.args.place c.args.from c.in-Some.number c.back.found c.at_least-at-in-Some.result
    (goes_on (boxes_of c.args.sent.now) c.args.before.now c.args.boxes c.args.place c.args.from c.in-Some.number c.back.found c.back.at c.before_of.result c.at_least-at-in-Some.result c.requires.linked c.requires.place c.back.invariant c.in-Some.is c.before_of.ensures c.at_least-at-in-Some.ensures))

pub back-preserved : goal.back-preserved
back-preserved c =
    goes_on (boxes_of c.args.sent.now) c.args.before.now c.args.boxes c.args.place c.args.from c.in-Some.number c.back.found c.back.at c.before_of.result c.at_least-at-in-Some.result c.requires.linked c.requires.place c.back.invariant c.in-Some.is c.before_of.ensures c.at_least-at-in-Some.ensures

pub returns : goal.returns
returns c =
    let off : is_some c.back.at ≡ false = search rules in
    ended_off (boxes_of c.args.sent.now) c.args.place c.args.from c.back.found c.back.at c.back.invariant off
