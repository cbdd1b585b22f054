use Rattle.std.proofs.Common.{◌<◌, ◌≤◌, List, map, length, sym, ◌∙◌, ap, arith, subst}
use Rattle.std.specs.List.{All}
use Rattle.std.proofs.lemmas.List.{with_items_is}
use Rattle.matchmaker.specs.Cycle.{cycle_of, last_course, requests_left}
use Rattle.matchmaker.specs.declared.accountant.TheConstants.{MAX_USERS}
use Rattle.matchmaker.specs.Loops.{bidder_of, course_of, those_who_play}
use Rattle.matchmaker.proofs.Cycles.{SpinsLeft, spins_begin, spins_end, spins_step, spin_smaller, players_positive, players_few, still_positive, over_of}
use Rattle.matchmaker.proofs.Spins.{same_length}
use Rattle.matchmaker.specs.declared.course.Bidder.{Bidder}
use Rattle.matchmaker.proofs.plain.plain_matches.Goals as goal

pub spins-init : goal.spins-init
spins-init g c = record {
  left = subst (λ ms. SpinsLeft c.args.snapshot.now (course_of bidder_of c.args.bidders.items ms) (last_course c.args.snapshot.now (map bidder_of c.args.bidders.items))) (sym c.new-made.ensures.items) (spins_begin c.args.snapshot.now (map bidder_of c.args.bidders.items));
  positive = c.requires.positive;
  few = c.requires.few;
}

pub returns-then-over : goal.returns-then-over
unfolding cycle_of
returns-then-over g c =
    let played = c.keep_players.ensures ∙ ap (λ ms. those_who_play bidder_of ms c.spins.bidders.items) c.deref.ensures.value in
    let over = over_of c.args.snapshot.now _ c.keep_players.new.bidders.items _ c.spins.made.items _ _ c.is_over-over.ensures c.if-over.true c.deref-in-spins.ensures.value c.deref-in-spins-2.ensures.value in
    sym (spins_end bidder_of c.args.snapshot.now c.spins.bidders.items c.keep_players.new.bidders.items c.spins.made.items _ c.spins.invariant.left played over)

pub spin-requires-clause-positive : goal.spin-requires-clause-positive
spin-requires-clause-positive g c =
    let played = c.deref_mut.ensures.value ∙ (c.keep_players.ensures ∙ ap (λ ms. those_who_play bidder_of ms c.spins.bidders.items) c.deref.ensures.value) in
    players_positive bidder_of c.spins.bidders.items c.deref_mut.result.now c.spins.made.items played c.spins.invariant.positive

pub spin-requires-clause-few : goal.spin-requires-clause-few
spin-requires-clause-few g c =
    let played = c.deref_mut.ensures.value ∙ (c.keep_players.ensures ∙ ap (λ ms. those_who_play bidder_of ms c.spins.bidders.items) c.deref.ensures.value) in
    let le = players_few bidder_of c.spins.bidders.items c.deref_mut.result.now c.spins.made.items played in
    let few = c.spins.invariant.few in omega arith

pub spins-smaller : goal.spins-smaller
spins-smaller g c =
    let played = c.deref_mut.ensures.value ∙ (c.keep_players.ensures ∙ ap (λ ms. those_who_play bidder_of ms c.spins.bidders.items) c.deref.ensures.value) in
    let on = over_of c.args.snapshot.now _ c.deref_mut.result.now _ c.spins.made.items _ _ c.is_over-over.ensures c.if-over.false (c.deref-in-spins.ensures.value ∙ sym c.deref_mut.ensures.value) c.deref-in-spins-2.ensures.value in
    let now = with_items_is c.keep_players.new.bidders c.spin.new.bidders (same_length bidder_of c.spin.new.bidders c.deref_mut.result.now c.spin.ensures.same ∙ c.deref_mut.ensures.len) in
    subst (λ (xs : List Bidder). requests_left (map bidder_of xs) < requests_left (map bidder_of c.spins.bidders.items)) (sym now)
    (spin_smaller bidder_of c.args.snapshot.now c.spins.bidders.items c.deref_mut.result.now c.spin.new.bidders c.spins.made.items c.spin.new.made.items played on c.in_ok-spin.ensures.spun)

pub spins-preserved : goal.spins-preserved
spins-preserved g c =
    let played = c.deref_mut.ensures.value ∙ (c.keep_players.ensures ∙ ap (λ ms. those_who_play bidder_of ms c.spins.bidders.items) c.deref.ensures.value) in
    let on = over_of c.args.snapshot.now _ c.deref_mut.result.now _ c.spins.made.items _ _ c.is_over-over.ensures c.if-over.false (c.deref-in-spins.ensures.value ∙ sym c.deref_mut.ensures.value) c.deref-in-spins-2.ensures.value in
    let now = with_items_is c.keep_players.new.bidders c.spin.new.bidders (same_length bidder_of c.spin.new.bidders c.deref_mut.result.now c.spin.ensures.same ∙ c.deref_mut.ensures.len) in
    let le = players_few bidder_of c.spins.bidders.items c.deref_mut.result.now c.spins.made.items played in
    let many = same_length bidder_of c.spin.new.bidders c.deref_mut.result.now c.spin.ensures.same in
    let few = c.spins.invariant.few in
    subst (λ (xs : List Bidder). record {
      left : SpinsLeft c.args.snapshot.now (course_of bidder_of xs c.spin.new.made.items) (last_course c.args.snapshot.now (map bidder_of c.args.bidders.items));
      positive : All (λ (b : Bidder). 0 < b.account.effective) xs;
      few : length xs ≤ MAX_USERS;
    }) (sym now)
    (record {
      left = spins_step bidder_of c.args.snapshot.now c.spins.bidders.items c.deref_mut.result.now c.spin.new.bidders c.spins.made.items c.spin.new.made.items _ c.spins.invariant.left played on c.in_ok-spin.ensures.spun;
      positive = still_positive bidder_of c.spins.bidders.items c.deref_mut.result.now c.spin.new.bidders c.spins.made.items played c.spins.invariant.positive c.spin.ensures.same;
      few = omega arith;
    })
