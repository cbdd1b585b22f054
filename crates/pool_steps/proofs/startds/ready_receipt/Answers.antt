use Rattle.std.proofs.Common.{◌+◌, ◌<◌, [], Option, Result, IsSomeAnd, IfOk, ap, sym, subst, slice_get, ◌∙◌}
use Rattle.std.specs.Option.{option_copied}
use Rattle.ad_eval.specs.Judgement.{Judgement}
use Rattle.pool_parts.specs.Sizes.{mails_count}
use Rattle.pool_parts.specs.declared.size.TheConstants.{MAX_BYTES}
use Rattle.pool_tables.specs.declared.refusal.StepError.{StepError}
use Rattle.pool_tables.specs.declared.sent.Sent.{Sent}
use Rattle.startd_core.specs.Startds.{after_mail}
use Rattle.pool_steps.proofs.Readying.{IsPrepared, ready_by}
use Rattle.pool_steps.specs.Ready.{IsStartdDeed}
use Rattle.pool_steps.specs.declared.startds.StartdDeed.{StartdDeed}
use Rattle.pool_steps.proofs.startds.ready_receipt.Goals as goal

pub returns : goal.returns
returns c =
    let s = c.args.state.now in
    let v = c.in-Some-Some.startd.now in
    let mail = c.in-Some-Some.sent.now.mail in
    let judged = option_copied c.args.judged in
    let p = c.in_ok-prepared in
    let r : Result StartdDeed StepError = c.new.result in
    let e = c.new.ensures in
    let there = sym c.get.ensures ∙ ap option_copied c.in-Some-Some.is-0 in
    let sent = sym c.get-2.ensures ∙ ap option_copied c.in-Some-Some.is-1 in
    let is : IsPrepared (after_mail v mail judged c.args.reading) v p.prepared = record {
      startd = p.ensures.startd ∙ ap (λ (j : Option Judgement). (after_mail v mail j c.args.reading).startd) c.in_ok-judged.ensures;
      step = p.ensures.step ∙ ap (λ (j : Option Judgement). (after_mail v mail j c.args.reading).step) c.in_ok-judged.ensures;
      sound = p.ensures.sound;
    } in
    let it = ready_by c.args.machine s.counts.bytes s.machines (λ v. after_mail v mail judged c.args.reading) (λ v. []) v p.prepared r there is e.prepared e.kept e.reports e.bytes e.large in
    record {
      ready = subst (λ (o : Option Sent). IfOk r (λ d. IsSomeAnd o (λ sent. IsSomeAnd (slice_get s.machines c.args.machine) (λ v. IsStartdDeed (after_mail v sent.mail judged c.args.reading) [] d v)))) (sym sent) it.ready;
      within = it.within;
      sound = it.sound;
      kept = it.kept;
      places = e.places;
      bytes = it.bytes;
      limit = e.limit;
      large = λ is_large.
          subst (λ (o : Option Sent). IsSomeAnd o (λ sent. IsSomeAnd (slice_get s.machines c.args.machine) (λ v. MAX_BYTES < s.counts.bytes + mails_count (after_mail v sent.mail judged c.args.reading).step.mails))) (sym sent)
          (it.large is_large);
      refused = e.refused;
    }
