use Rattle.std.proofs.Common.{Bool, IsSomeAnd, List, Option, slice_get, sym}
use Rattle.ad_eval.specs.Judgement.{Judgement}
use Rattle.pool_mail.specs.declared.matching.Match.{Match}
use Rattle.pool_parts.specs.declared.answer.Stepped.{Stepped}
use Rattle.pool_parts.specs.declared.event.Event.{Event}
use Rattle.pool_rules.specs.Deeds.{at_rest}
use Rattle.pool_rules.specs.Happens.{ArePassed, Happens, IsReopened, Receives}
use Rattle.pool_state.specs.declared.state.PoolState.{PoolState}
use Rattle.pool_core.proofs.Variants.{large_as, made_as}
use Rattle.pool_core.proofs.happening.happen.Goals as goal

pub returns-in-Submit : goal.returns-in-Submit
unfolding Happens
returns-in-Submit c =
    let s = at_rest c.args.state.now in
    let Makes = λ (event : Event). Happens event s in
    let done = c.submit.ensures in
    record {
      happens = made_as Makes (at_rest c.submit.new.state) c.submit.result c.in-Submit.is done.submitted;
      within = done.within;
      large = large_as Makes c.submit.result c.in-Submit.is done.large;
      refused = done.refused;
      kept = done.kept;
    }

pub returns-in-Order : goal.returns-in-Order
unfolding Happens
returns-in-Order c =
    let s = at_rest c.args.state.now in
    let Makes = λ (event : Event). Happens event s in
    let done = c.give_order.ensures in
    record {
      happens = made_as Makes (at_rest c.give_order.new.state) c.give_order.result c.in-Order.is done.given;
      within = done.within;
      large = large_as Makes c.give_order.result c.in-Order.is done.large;
      refused = done.refused;
      kept = done.kept;
    }

pub returns-in-Tick : goal.returns-in-Tick
unfolding Happens
returns-in-Tick c =
    let s = at_rest c.args.state.now in
    let Makes = λ (event : Event). Happens event s in
    let done = c.tick.ensures in
    record {
      happens = made_as Makes (at_rest c.tick.new.state) c.tick.result c.in-Tick.is done.ticked;
      within = done.within;
      large = large_as Makes c.tick.result c.in-Tick.is done.large;
      refused = done.refused;
      kept = done.kept;
    }

pub returns-in-Check : goal.returns-in-Check
unfolding Happens
returns-in-Check c =
    let s = at_rest c.args.state.now in
    let Makes = λ (event : Event). Happens event s in
    let done = c.check.ensures in
    record {
      happens = made_as Makes (at_rest c.check.new.state) c.check.result c.in-Check.is done.looked;
      within = done.within;
      large = large_as Makes c.check.result c.in-Check.is done.large;
      refused = done.refused;
      kept = done.kept;
    }

pub returns-in-Logged : goal.returns-in-Logged
unfolding Happens
returns-in-Logged c =
    let s = at_rest c.args.state.now in
    let Makes = λ (event : Event). Happens event s in
    let done = c.take_logged.ensures in
    record {
      happens = made_as Makes (at_rest c.take_logged.new.state) c.take_logged.result c.in-Logged.is done.logged;
      within = done.within;
      large = large_as Makes c.take_logged.result c.in-Logged.is done.large;
      refused = done.refused;
      kept = done.kept;
    }

pub returns-in-Crash : goal.returns-in-Crash
unfolding Happens
returns-in-Crash c =
    let s = at_rest c.args.state.now in
    let Makes = λ (event : Event). Happens event s in
    let done = c.crash.ensures in
    record {
      happens = made_as Makes (at_rest c.crash.new.state) c.crash.result c.in-Crash.is done.crashed;
      within = done.within;
      large = large_as Makes c.crash.result c.in-Crash.is done.large;
      refused = done.refused;
      kept = done.kept;
    }

pub returns-in-Close : goal.returns-in-Close
unfolding Happens
returns-in-Close c =
    let s = at_rest c.args.state.now in
    let Makes = λ (event : Event). Happens event s in
    let done = c.close.ensures in
    record {
      happens = made_as Makes (at_rest c.close.new.state) c.close.result c.in-Close.is done.closed;
      within = done.within;
      large = large_as Makes c.close.result c.in-Close.is done.large;
      refused = done.refused;
      kept = done.kept;
    }

pub returns-in-Ended : goal.returns-in-Ended
unfolding Happens
returns-in-Ended c =
    let done = c.end_run.ensures in
    record {
      happens = rw (c.in-Ended.is, ← c.item.ensures) done.ended;
      within = done.within;
      large = rw (c.in-Ended.is, ← c.item.ensures) done.large;
      refused = done.refused;
      kept = done.kept;
    }

pub returns-in-Reopen : goal.returns-in-Reopen
unfolding Happens
returns-in-Reopen c =
    let s = at_rest c.args.state.now in
    let new = at_rest c.reopen.new.state in
    let r = c.reopen.result in
    let Makes = λ (event : Event). Happens event s in
    let Given = λ (kept : Bool). IsReopened c.in-Reopen.who kept c.in-Reopen.reading s in
    let given = sym c.is_some.ensures in
    let done = c.reopen.ensures in
    record {
      happens = made_as Makes new r c.in-Reopen.is (made_as Given new r given done.back);
      within = done.within;
      large = large_as Makes r c.in-Reopen.is (large_as Given r given done.large);
      refused = done.refused;
      kept = done.kept;
    }

pub returns-in-Matches : goal.returns-in-Matches
unfolding Happens
returns-in-Matches c =
    let s = at_rest c.args.state.now in
    let new = at_rest c.match_all.new.state in
    let r = c.match_all.result in
    let Makes = λ (event : Event). Happens event s in
    let Given = λ (p : List Match × List Judgement). ArePassed s p.0 p.1 c.in-Matches.reading in
    let given = sym (λ i. (c.as_slice.ensures i, c.as_slice-in-Matches.ensures i)) in
    let done = c.match_all.ensures in
    record {
      happens = made_as Makes new r c.in-Matches.is (made_as Given new r given done.passed);
      within = done.within;
      large = large_as Makes r c.in-Matches.is (large_as Given r given done.large);
      refused = done.refused;
      kept = done.kept;
    }

pub returns-in-Receive : goal.returns-in-Receive
unfolding Happens
returns-in-Receive c =
    let s = at_rest c.args.state.now in
    let new = at_rest c.receive.new.state in
    let r = c.receive.result in
    let Makes = λ (event : Event). Happens event s in
    let Given = λ (j : Option Judgement) (t : PoolState) (x : Stepped). IsSomeAnd (slice_get s.mails.sent c.in-Receive.index) (λ sent. Receives c.in-Receive.who c.in-Receive.index sent.mail c.in-Receive.reading j s t x) in
    let given = sym c.as_ref.ensures.value in
    let done = c.receive.ensures in
    record {
      happens = made_as Makes new r c.in-Receive.is (made_as Given new r given done.received);
      within = done.within;
      large = large_as Makes r c.in-Receive.is (large_as Given r given done.large);
      refused = done.refused;
      kept = done.kept;
    }
