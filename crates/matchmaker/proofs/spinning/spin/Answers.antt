use Rattle.std.proofs.Common.{◌<◌, ◌≤◌, refl, sym, ◌∙◌, arith, length, get_or}
use Rattle.matchmaker.specs.Cycle.{share}
use Rattle.matchmaker.specs.Loops.{bidder_of}
use Rattle.matchmaker.proofs.Spins.{positive_at, part_at, same_account, spin_step, spin_end, spin_begin, spin_is, first_turn_is}
use Rattle.matchmaker.proofs.spinning.spin.Goals as goal

pub loop-bidder-init : goal.loop-bidder-init
loop-bidder-init g c = record { rest = spin_begin _; same = refl }

pub share-requires-clause-positive : goal.share-requires-clause-positive
share-requires-clause-positive g c =
    let h : c.loop-bidder.bidder-index < length c.loop-bidder.bidders = omega arith in
    positive_at bidder_of c.loop-bidder.bidders c.args.bidders.now c.loop-bidder.invariant.same c.requires.positive c.loop-bidder.bidder-index c.bidder-item.result h

pub share-requires-clause-part : goal.share-requires-clause-part
share-requires-clause-part g c =
    let h : c.loop-bidder.bidder-index < length c.loop-bidder.bidders = omega arith in
    rw c.weights-weights.ensures.sum
    (part_at bidder_of c.loop-bidder.bidders c.args.bidders.now c.loop-bidder.invariant.same c.loop-bidder.bidder-index c.bidder-item.result h)

pub share-requires-clause-some : goal.share-requires-clause-some
share-requires-clause-some g c = let e = c.loop-bidder.auto in omega (arith, c.weights-weights.ensures.some)

pub returns-in_err-turn-clause-same : goal.returns-in_err-turn-clause-same
returns-in_err-turn-clause-same g c =
    let h : c.loop-bidder.bidder-index < length c.loop-bidder.bidders = omega arith in
    same_account bidder_of c.loop-bidder.bidders c.loop-bidder.bidder-index _ c.bidder-item.result h refl ∙ c.loop-bidder.invariant.same

pub loop-bidder-preserved : goal.loop-bidder-preserved
loop-bidder-preserved g c =
    let h : c.loop-bidder.bidder-index < length c.loop-bidder.bidders = omega arith in
    record {
      rest = spin_step bidder_of c.args.snapshot.now (share c.unmatched-total.result c.weights-weights.result) c.loop-bidder.least c.loop-bidder.bidders c.loop-bidder.bidder-index _ c.bidder-item.result c.loop-bidder.made.items c.turn.new.made.items
          h refl (first_turn_is c.args.snapshot.now (share c.unmatched-total.result c.weights-weights.result) c.loop-bidder.least (bidder_of (get_or c.loop-bidder.bidders c.loop-bidder.bidder-index c.bidder-item.result)) c.loop-bidder.made.items _ _ _ _ _ c.share.ensures c.greater-share.ensures c.deref-in-loop-bidder.ensures.value c.under_ceiling-most.ensures c.in_ok-turn.ensures) ∙ c.loop-bidder.invariant.rest;
      same = same_account bidder_of c.loop-bidder.bidders c.loop-bidder.bidder-index _ c.bidder-item.result h refl ∙ c.loop-bidder.invariant.same;
    }

pub returns-clause-spun : goal.returns-clause-spun
returns-clause-spun g c =
    let h : length c.loop-bidder.bidders ≤ c.loop-bidder.bidder-index = omega arith in
    let count = c.unmatched-total.ensures.count in
    sym (spin_end bidder_of c.args.snapshot.now (share c.unmatched-total.result c.weights-weights.result) c.loop-bidder.least c.loop-bidder.bidders c.loop-bidder.bidder-index c.loop-bidder.made.items h)
    ∙ (c.loop-bidder.invariant.rest
    ∙ spin_is bidder_of c.args.snapshot.now c.args.bidders.now c.args.made.now.items c.unmatched-total.result c.weights-weights.result (cc) c.weights-weights.ensures.sum)
