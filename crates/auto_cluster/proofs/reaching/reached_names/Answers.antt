use Rattle.std.proofs.Common.{◌≡◌, [], List, ℕ, subst, sym, rules}
use Rattle.auto_cluster.proofs.Reaches.{AsFar, as_far-init, as_far-step, as_far-end, followed_smaller}
use Rattle.auto_cluster.proofs.reaching.reached_names.Goals as goal

pub loop-name-init : goal.loop-name-init
loop-name-init c =
    subst (λ (l : List (List ℕ)). AsFar c.args.list.items c.args.list.items l c.in_ok-pending.pending.items) (sym c.new-reached.ensures.items)
    (subst (λ (l : List (List ℕ)). AsFar c.args.list.items c.args.list.items [] l) (sym c.in_ok-pending.ensures) (as_far-init c.args.list.items))

pub loop-name-smaller : goal.loop-name-smaller
loop-name-smaller c =
    followed_smaller c.in-Some.name c.as_str.result.now c.as_str-in-Some.result.now c.loop-name.pending.items c.pop.new.self.items c.add_ends.new.pending.items c.loop-name.list.items c.keep_beside.new.list.items c.deref.result.now
    c.in-Some.ensures.items c.as_str.ensures c.as_str-in-Some.ensures c.deref.ensures.value c.in_ok-add_ends.ensures c.keep_beside.ensures

pub loop-name-preserved : goal.loop-name-preserved
loop-name-preserved c =
    as_far-step c.args.list.items c.in-Some.name c.as_str.result.now c.as_str-in-Some.result.now c.loop-name.pending.items c.pop.new.self.items c.add_ends.new.pending.items c.loop-name.reached.items c.push.new.self.items c.loop-name.list.items c.keep_beside.new.list.items c.deref.result.now
    c.in-Some.ensures.items c.as_str.ensures c.as_str-in-Some.ensures c.deref.ensures.value c.in_ok-add_ends.ensures c.keep_beside.ensures c.in_ok-push.ensures.items c.loop-name.invariant

pub returns : goal.returns
returns c =
    let empty : c.loop-name.pending.items ≡ [] = search rules in
    λ y. as_far-end c.args.list.items c.loop-name.list.items c.loop-name.reached.items (subst (λ (l : List (List ℕ)). AsFar c.args.list.items c.loop-name.list.items c.loop-name.reached.items l) empty c.loop-name.invariant) y
