use Rattle.std.proofs.Common.{Err, inr, refl, slice_get, sym, ◌∙◌}
use Rattle.std.specs.Option.{option_copied}
use Rattle.pool_rules.specs.Deeds.{at_rest}
use Rattle.pool_tables.specs.declared.refusal.StepError.TheVariants as error
use Rattle.pool_tables.specs.Repeats.{times_of}
use Rattle.schedd_steps.proofs.Refused.{no_bytes}
use Rattle.pool_core.proofs.Receiving.{known_large, known_received, received_by, there_large, there_received}
use Rattle.pool_core.proofs.Variants.{large_as, made_as}
use Rattle.pool_core.proofs.daemons.receive.Goals as goal

pub receive_by_schedd-requires : goal.receive_by_schedd-requires
receive_by_schedd-requires c = c.may_receive.ensures.below c.if-not-may_receive.false

pub receive_by_startd-requires : goal.receive_by_startd-requires
receive_by_startd-requires c = c.may_receive.ensures.below c.if-not-may_receive.false

pub receive_by_matchmaker-requires : goal.receive_by_matchmaker-requires
receive_by_matchmaker-requires c = c.may_receive.ensures.below c.if-not-may_receive.false

pub returns-then-not-may_receive : goal.returns-then-not-may_receive
returns-then-not-may_receive c = record { received = tt; within = tt; large = λ is. no_bytes _ (Err error.Memory) refl is; refused = inr refl; kept = refl }

pub returns-in-Schedd : goal.returns-in-Schedd
returns-in-Schedd c =
    let s = at_rest c.args.state.now in
    let sent = slice_get s.mails.sent c.args.index in
    let judged = option_copied c.args.judged in
    let Makes = received_by sent c.args.index c.args.reading judged s in
    let new = at_rest c.receive_by_schedd.new.state in
    let r = c.receive_by_schedd.result in
    let known = c.is_known_at-known.ensures in
    let done = c.receive_by_schedd.ensures in
    record {
      received = made_as Makes new r c.in-Schedd.is (known_received sent c.args.index c.is_known_at-known.result c.args.reading judged s new r known done.received);
      within = done.within;
      large = large_as Makes r c.in-Schedd.is (λ is. known_large sent c.args.index c.is_known_at-known.result c.args.reading judged s known (done.large is));
      refused = done.refused;
      kept = done.kept;
    }

pub returns-in-Startd : goal.returns-in-Startd
returns-in-Startd c =
    let s = at_rest c.args.state.now in
    let Makes = received_by (slice_get s.mails.sent c.args.index) c.args.index c.args.reading (option_copied c.args.judged) s in
    let done = c.receive_by_startd.ensures in
    record {
      received = made_as Makes (at_rest c.receive_by_startd.new.state) c.receive_by_startd.result c.in-Startd.is done.received;
      within = done.within;
      large = large_as Makes c.receive_by_startd.result c.in-Startd.is done.large;
      refused = done.refused;
      kept = done.kept;
    }

pub returns-in-Matchmaker : goal.returns-in-Matchmaker
returns-in-Matchmaker c =
    let s = at_rest c.args.state.now in
    let sent = slice_get s.mails.sent c.args.index in
    let Makes = received_by sent c.args.index c.args.reading (option_copied c.args.judged) s in
    let times = times_of c.args.index s.mails.repeats in
    let may = sym c.may_receive.ensures.may ∙ c.if-not-may_receive.false in
    let new = at_rest c.receive_by_matchmaker.new.state in
    let r = c.receive_by_matchmaker.result in
    let done = c.receive_by_matchmaker.ensures in
    record {
      received = made_as Makes new r c.in-Matchmaker.is (there_received sent c.args.index times s new r may done.received);
      within = done.within;
      large = large_as Makes r c.in-Matchmaker.is (λ is. there_large sent c.args.index times s may (done.large is));
      refused = done.refused;
      kept = done.kept;
    }
