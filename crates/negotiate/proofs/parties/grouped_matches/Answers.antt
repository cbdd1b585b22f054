use Rattle.std.proofs.Common.{◌<◌, ◌≤◌, List, map, length, sym, ◌∙◌, ap, arith, subst}
use Rattle.std.specs.List.{All}
use Rattle.std.proofs.lemmas.List.{with_items_is}
use Rattle.matchmaker.specs.Cycle.{cycle_of, last_course, requests_left}
use Rattle.matchmaker.specs.Loops.{course_of, those_who_play}
use Rattle.matchmaker.proofs.Cycles.{SpinsLeft, spins_begin, spins_end, spins_step, spin_smaller, players_positive, players_few, still_positive, over_of}
use Rattle.matchmaker.proofs.Spins.{same_length}
use Rattle.negotiate.specs.Parties.{bidder_of, HasTables, CostsAll}
use Rattle.negotiate.proofs.PartyTurns.{players_tables, costs_on}
use Rattle.matchmaker.specs.declared.accountant.TheConstants.{MAX_USERS}
use Rattle.negotiate.specs.declared.parties.Party.{Party}
use Rattle.negotiate.proofs.parties.grouped_matches.Goals as goal

pub spins-init : goal.spins-init
spins-init g c = record {
  left = subst (λ ms. SpinsLeft c.args.snapshot.now (course_of bidder_of c.args.parties.items ms) (last_course c.args.snapshot.now (map bidder_of c.args.parties.items))) (sym c.new-made.ensures.items) (spins_begin c.args.snapshot.now (map bidder_of c.args.parties.items));
  positive = c.requires.positive;
  few = c.requires.few;
  tables = subst (λ ms. All (HasTables c.args.snapshot.now ms) c.args.parties.items) (sym c.new-made.ensures.items) c.requires.tables;
  cost = omega arith;
}

pub returns-then-over : goal.returns-then-over
unfolding cycle_of
returns-then-over g c =
    let played = c.keep_players.ensures ∙ ap (λ ms. those_who_play bidder_of ms c.spins.parties.items) c.deref.ensures.value in
    let over = over_of c.args.snapshot.now _ c.keep_players.new.parties.items _ c.spins.made.items _ _ c.is_over-over.ensures c.if-over.true c.deref-in-spins.ensures.value c.deref-in-spins-2.ensures.value in
    let cost = c.spins.invariant.cost in
    record {
      matches = sym (spins_end bidder_of c.args.snapshot.now c.spins.parties.items c.keep_players.new.parties.items c.spins.made.items _ c.spins.invariant.left played over);
      cost = omega arith;
    }

pub grouped_spin-requires-clause-positive : goal.grouped_spin-requires-clause-positive
grouped_spin-requires-clause-positive g c =
    let played = c.deref_mut.ensures.value ∙ (c.keep_players.ensures ∙ ap (λ ms. those_who_play bidder_of ms c.spins.parties.items) c.deref.ensures.value) in
    players_positive bidder_of c.spins.parties.items c.deref_mut.result.now c.spins.made.items played c.spins.invariant.positive

pub grouped_spin-requires-clause-few : goal.grouped_spin-requires-clause-few
grouped_spin-requires-clause-few g c =
    let played = c.deref_mut.ensures.value ∙ (c.keep_players.ensures ∙ ap (λ ms. those_who_play bidder_of ms c.spins.parties.items) c.deref.ensures.value) in
    let le = players_few bidder_of c.spins.parties.items c.deref_mut.result.now c.spins.made.items played in
    let few = c.spins.invariant.few in omega arith

pub grouped_spin-requires-clause-tables : goal.grouped_spin-requires-clause-tables
grouped_spin-requires-clause-tables g c =
    let played = c.deref_mut.ensures.value ∙ (c.keep_players.ensures ∙ ap (λ ms. those_who_play bidder_of ms c.spins.parties.items) c.deref.ensures.value) in
    players_tables c.args.snapshot.now c.spins.parties.items c.deref_mut.result.now c.spins.made.items played c.spins.invariant.tables

pub spins-smaller : goal.spins-smaller
spins-smaller g c =
    let played = c.deref_mut.ensures.value ∙ (c.keep_players.ensures ∙ ap (λ ms. those_who_play bidder_of ms c.spins.parties.items) c.deref.ensures.value) in
    let on = over_of c.args.snapshot.now _ c.deref_mut.result.now _ c.spins.made.items _ _ c.is_over-over.ensures c.if-over.false (c.deref-in-spins.ensures.value ∙ sym c.deref_mut.ensures.value) c.deref-in-spins-2.ensures.value in
    let now = with_items_is c.keep_players.new.parties c.grouped_spin.new.parties (same_length bidder_of c.grouped_spin.new.parties c.deref_mut.result.now c.grouped_spin.ensures.same ∙ c.deref_mut.ensures.len) in
    subst (λ (xs : List Party). requests_left (map bidder_of xs) < requests_left (map bidder_of c.spins.parties.items)) (sym now)
    (spin_smaller bidder_of c.args.snapshot.now c.spins.parties.items c.deref_mut.result.now c.grouped_spin.new.parties c.spins.made.items c.grouped_spin.new.made.items played on c.in_ok-grouped_spin.ensures.spun)

pub spins-preserved : goal.spins-preserved
spins-preserved g c =
    let played = c.deref_mut.ensures.value ∙ (c.keep_players.ensures ∙ ap (λ ms. those_who_play bidder_of ms c.spins.parties.items) c.deref.ensures.value) in
    let on = over_of c.args.snapshot.now _ c.deref_mut.result.now _ c.spins.made.items _ _ c.is_over-over.ensures c.if-over.false (c.deref-in-spins.ensures.value ∙ sym c.deref_mut.ensures.value) c.deref-in-spins-2.ensures.value in
    let now = with_items_is c.keep_players.new.parties c.grouped_spin.new.parties (same_length bidder_of c.grouped_spin.new.parties c.deref_mut.result.now c.grouped_spin.ensures.same ∙ c.deref_mut.ensures.len) in
    let le = players_few bidder_of c.spins.parties.items c.deref_mut.result.now c.spins.made.items played in
    let many = same_length bidder_of c.grouped_spin.new.parties c.deref_mut.result.now c.grouped_spin.ensures.same in
    let few = c.spins.invariant.few in
    subst (λ (xs : List Party). record {
      left : SpinsLeft c.args.snapshot.now (course_of bidder_of xs c.grouped_spin.new.made.items) (last_course c.args.snapshot.now (map bidder_of c.args.parties.items));
      positive : All (λ (b : Party). 0 < b.account.effective) xs;
      few : length xs ≤ MAX_USERS;
      tables : All (HasTables c.args.snapshot.now c.grouped_spin.new.made.items) xs;
      cost : CostsAll (length c.args.snapshot.now.slots) c.args.parties.items xs c.args.steps.now c.grouped_spin.new.steps;
    }) (sym now)
    (record {
      left = spins_step bidder_of c.args.snapshot.now c.spins.parties.items c.deref_mut.result.now c.grouped_spin.new.parties c.spins.made.items c.grouped_spin.new.made.items _ c.spins.invariant.left played on c.in_ok-grouped_spin.ensures.spun;
      positive = still_positive bidder_of c.spins.parties.items c.deref_mut.result.now c.grouped_spin.new.parties c.spins.made.items played c.spins.invariant.positive c.grouped_spin.ensures.same;
      few = omega arith;
      tables = c.in_ok-grouped_spin.ensures.tables;
      cost = costs_on (length c.args.snapshot.now.slots) c.args.parties.items c.spins.parties.items c.deref_mut.result.now c.grouped_spin.new.parties c.spins.made.items c.args.steps.now c.spins.steps c.grouped_spin.new.steps played
          c.spins.invariant.cost c.in_ok-grouped_spin.ensures.cost;
    })
