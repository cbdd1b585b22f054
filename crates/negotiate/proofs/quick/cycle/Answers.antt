use Rattle.std.proofs.Common.{◌≡◌, ◌∙◌, length, map, ap, arith}
use Rattle.negotiate.specs.Parties.{slot_ads}
use Rattle.negotiate.proofs.Numbering.{tables_of, positive_parties, as_many_parties, judges_within}
use Rattle.negotiate.proofs.QuickCycles.{parties_over, cycle_is_plain}
use Rattle.matchmaker.specs.declared.course.Made.{Made}
use Rattle.negotiate.proofs.quick.cycle.Goals as goal

pub grouped_matches-requires-clause-positive : goal.grouped_matches-requires-clause-positive
grouped_matches-requires-clause-positive g c =
    let z = parties_over c.args.snapshot.now c.as_slice-slots.result.now c.in_ok-ads.ads c.in_ok-clusters.clusters c.in_ok-bidders.bidders.items c.in_ok-parties.parties.items
    c.as_slice-slots.ensures c.in_ok-ads.ensures c.in_ok-clusters.ensures c.in_ok-parties.ensures in
    positive_parties (slot_ads c.args.snapshot.now) c.in_ok-bidders.bidders.items c.in_ok-parties.parties.items z (c.in_ok-bidders.ensures.positive c.requires.priorities)

pub grouped_matches-requires-clause-few : goal.grouped_matches-requires-clause-few
grouped_matches-requires-clause-few g c =
    let z = parties_over c.args.snapshot.now c.as_slice-slots.result.now c.in_ok-ads.ads c.in_ok-clusters.clusters c.in_ok-bidders.bidders.items c.in_ok-parties.parties.items
    c.as_slice-slots.ensures c.in_ok-ads.ensures c.in_ok-clusters.ensures c.in_ok-parties.ensures in
    let as_many : length c.in_ok-parties.parties.items ≡ length c.in_ok-bidders.bidders.items = as_many_parties (slot_ads c.args.snapshot.now) c.in_ok-bidders.bidders.items c.in_ok-parties.parties.items z in
    let bidders = c.in_ok-bidders.ensures.as_many in
    let few = c.requires.submitters in omega arith

pub grouped_matches-requires-clause-tables : goal.grouped_matches-requires-clause-tables
grouped_matches-requires-clause-tables g c =
    let z = parties_over c.args.snapshot.now c.as_slice-slots.result.now c.in_ok-ads.ads c.in_ok-clusters.clusters c.in_ok-bidders.bidders.items c.in_ok-parties.parties.items
    c.as_slice-slots.ensures c.in_ok-ads.ensures c.in_ok-clusters.ensures c.in_ok-parties.ensures in
    tables_of c.agreeing_jobs_match_alike.ensures c.args.snapshot.now c.in_ok-bidders.bidders.items c.in_ok-parties.parties.items z

pub returns-clause-matches : goal.returns-clause-matches
returns-clause-matches g c =
    let z = parties_over c.args.snapshot.now c.as_slice-slots.result.now c.in_ok-ads.ads c.in_ok-clusters.clusters c.in_ok-bidders.bidders.items c.in_ok-parties.parties.items
    c.as_slice-slots.ensures c.in_ok-ads.ensures c.in_ok-clusters.ensures c.in_ok-parties.ensures in
    cycle_is_plain c.args.snapshot.now c.in_ok-bidders.bidders.items c.in_ok-parties.parties.items c.in_ok-made.made.items c.from_vec.result z c.in_ok-bidders.ensures.opening
    c.in_ok-made.ensures.matches (c.from_vec.ensures ∙ c.in_ok-matches.ensures ∙ ap (map (λ (m : Made). m.matched)) c.deref.ensures.value)

pub returns-clause-judged : goal.returns-clause-judged
returns-clause-judged g c =
    let z = parties_over c.args.snapshot.now c.as_slice-slots.result.now c.in_ok-ads.ads c.in_ok-clusters.clusters c.in_ok-bidders.bidders.items c.in_ok-parties.parties.items
    c.as_slice-slots.ensures c.in_ok-ads.ensures c.in_ok-clusters.ensures c.in_ok-parties.ensures in
    judges_within c.args.snapshot.now c.in_ok-bidders.bidders.items c.in_ok-parties.parties.items c.args.steps.now c.grouped_matches.new.steps z c.in_ok-bidders.ensures.opening c.in_ok-made.ensures.cost
