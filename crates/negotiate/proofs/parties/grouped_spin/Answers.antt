use Rattle.std.proofs.Common.{◌<◌, ◌≤◌, refl, sym, ◌∙◌, arith, length, get_or}
use Rattle.matchmaker.specs.Cycle.{share}
use Rattle.negotiate.specs.Parties.{bidder_of}
use Rattle.matchmaker.proofs.Spins.{positive_at, part_at, same_account, spin_step, spin_end, spin_begin, spin_is, first_turn_is}
use Rattle.negotiate.proofs.PartyTurns.{turn_grows, all_tables, all_costs}
use Rattle.negotiate.proofs.parties.grouped_spin.Goals as goal

pub loop-party-init : goal.loop-party-init
loop-party-init g c = record { rest = spin_begin _; same = refl; tables = c.requires.tables; cost = omega arith }

pub share-requires-clause-positive : goal.share-requires-clause-positive
share-requires-clause-positive g c =
    let h : c.loop-party.party-index < length c.loop-party.parties = omega arith in
    positive_at bidder_of c.loop-party.parties c.args.parties.now c.loop-party.invariant.same c.requires.positive c.loop-party.party-index c.party-item.result h

pub share-requires-clause-part : goal.share-requires-clause-part
share-requires-clause-part g c =
    let h : c.loop-party.party-index < length c.loop-party.parties = omega arith in
    rw c.weights-weights.ensures.sum
    (part_at bidder_of c.loop-party.parties c.args.parties.now c.loop-party.invariant.same c.loop-party.party-index c.party-item.result h)

pub returns-in_err-grouped_turn-clause-same : goal.returns-in_err-grouped_turn-clause-same
returns-in_err-grouped_turn-clause-same g c =
    let h : c.loop-party.party-index < length c.loop-party.parties = omega arith in
    same_account bidder_of c.loop-party.parties c.loop-party.party-index _ c.party-item.result h refl ∙ c.loop-party.invariant.same

pub loop-party-preserved : goal.loop-party-preserved
loop-party-preserved g c =
    let h : c.loop-party.party-index < length c.loop-party.parties = omega arith in
    record {
      rest = spin_step bidder_of c.args.snapshot.now (share c.unmatched-total.result c.weights-weights.result) c.loop-party.least c.loop-party.parties c.loop-party.party-index _ c.party-item.result c.loop-party.made.items c.grouped_turn.new.made.items
          h refl (first_turn_is c.args.snapshot.now (share c.unmatched-total.result c.weights-weights.result) c.loop-party.least (bidder_of (get_or c.loop-party.parties c.loop-party.party-index c.party-item.result)) c.loop-party.made.items _ _ _ _ _
          c.share.ensures c.greater-share.ensures c.deref-in-loop-party.ensures.value c.under_ceiling-most.ensures c.in_ok-grouped_turn.ensures.turned) ∙ c.loop-party.invariant.rest;
      same = same_account bidder_of c.loop-party.parties c.loop-party.party-index _ c.party-item.result h refl ∙ c.loop-party.invariant.same;
      tables = all_tables c.args.snapshot.now c.loop-party.parties c.loop-party.party-index _ c.loop-party.made.items c.grouped_turn.new.made.items
          (turn_grows c.args.snapshot.now _ _ _ _ c.loop-party.made.items c.grouped_turn.new.made.items c.in_ok-grouped_turn.ensures.turned)
          c.loop-party.invariant.tables c.in_ok-grouped_turn.ensures.tables;
      cost = all_costs (length c.args.snapshot.now.slots) c.args.parties.now c.loop-party.parties c.loop-party.party-index _ c.party-item.result c.args.steps.now c.loop-party.steps c.grouped_turn.new.steps h
          c.loop-party.invariant.cost c.in_ok-grouped_turn.ensures.cost;
    }

pub returns-clause-spun : goal.returns-clause-spun
returns-clause-spun g c =
    let h : length c.loop-party.parties ≤ c.loop-party.party-index = omega arith in
    let count = c.unmatched-total.ensures.count in
    sym (spin_end bidder_of c.args.snapshot.now (share c.unmatched-total.result c.weights-weights.result) c.loop-party.least c.loop-party.parties c.loop-party.party-index c.loop-party.made.items h)
    ∙ (c.loop-party.invariant.rest
    ∙ spin_is bidder_of c.args.snapshot.now c.args.parties.now c.args.made.now.items c.unmatched-total.result c.weights-weights.result (cc) c.weights-weights.ensures.sum)

pub weights-weights-requires-clause-positive : goal.weights-weights-requires-clause-positive
weights-weights-requires-clause-positive g c = c.requires.positive
