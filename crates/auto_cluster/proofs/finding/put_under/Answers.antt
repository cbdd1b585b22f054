use Rattle.std.proofs.Common.{ℕ, [], ◌∷◌, sym, ◌∙◌, subst, append-nil}
use Rattle.std.specs.Prelude.{Contains}
use Rattle.auto_cluster.specs.Finding.{places_under}
use Rattle.auto_cluster.proofs.Under.{lent_others, lent_put, begun_others, same_entries, stands_under}
use Rattle.auto_cluster.proofs.finding.put_under.Goals as goal

pub returns-in_err-push-clause-others : goal.returns-in_err-push-clause-others
returns-in_err-push-clause-others c =
    lent_others c.args.places.now _ c.args.digest c.in-Some.list.now c.push.new.self [] (c.get_mut.follows.holds c.push.new.self) c.in-Some.ensures.value (c.in_err-push.ensures.items ∙ sym (append-nil _))

pub returns-in-Some-clause-others : goal.returns-in-Some-clause-others
returns-in-Some-clause-others c =
    lent_others c.args.places.now _ c.args.digest c.in-Some.list.now c.push.new.self (c.args.place ∷ []) (c.get_mut.follows.holds c.push.new.self) c.in-Some.ensures.value c.in_ok-push.ensures.items

pub returns-in-Some-clause-put : goal.returns-in-Some-clause-put
returns-in-Some-clause-put c =
    lent_put c.args.places.now _ c.args.digest c.args.place c.in-Some.list.now c.push.new.self (c.get_mut.follows.holds c.push.new.self) c.in-Some.ensures.value c.in_ok-push.ensures.items

pub returns-in_err-list-clause-others : goal.returns-in_err-list-clause-others
returns-in_err-list-clause-others c =
    subst (λ places. (d i : ℕ) → Contains (places_under c.args.places.now d) i → Contains (places_under places d) i) (sym c.get_mut.follows.holds-at-none) (λ d i has. has)

pub returns-in_err-insert-clause-others : goal.returns-in_err-insert-clause-others
returns-in_err-insert-clause-others c =
    same_entries c.args.places.now _ c.insert.new.self c.get_mut.follows.holds-at-none c.in_err-insert.ensures.err

pub returns-clause-others : goal.returns-clause-others
returns-clause-others c =
    begun_others c.args.places.now _ c.insert.new.self c.args.digest c.in_ok-list.list c.get_mut.follows.holds-at-none c.in_default.ensures.value c.in_ok-insert.ensures.updates

pub returns-clause-put : goal.returns-clause-put
returns-clause-put c = stands_under c.insert.new.self c.args.digest c.args.place c.in_ok-list.list [] c.in_ok-insert.ensures.updates.1 c.in_ok-list.ensures
