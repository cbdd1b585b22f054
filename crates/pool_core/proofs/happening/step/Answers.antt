use Rattle.std.proofs.Common.{refl, subst}
use Rattle.pool_rules.specs.Refusals.{IsRefusal, Refusal}
use Rattle.pool_core.proofs.Refusing.{accepted_at, refused_at, refused_by}
use Rattle.pool_core.proofs.happening.step.Goals as goal

pub returns-in-Some : goal.returns-in-Some
returns-in-Some c =
    let s = c.args.state.now in
    let event = c.args.event.now in
    record {
      accepted = tt;
      reacts = tt;
      within = tt;
      short = tt;
      refused = λ no. refused_by event s c.in-Some.error (subst (λ (r : Refusal). IsRefusal event s r) c.in-Some.is c.in_ok-error.ensures);
      same = refl;
    }

pub returns : goal.returns
returns c =
    let s = c.args.state.now in
    let event = c.args.event.now in
    let none = subst (λ (r : Refusal). IsRefusal event s r) c.in_default.is c.in_ok-error.ensures in
    let done = c.react.ensures in
    record {
      accepted = accepted_at event s c.react.result none;
      reacts = done.reacts;
      within = done.within;
      short = done.short;
      refused = refused_at event s c.react.result none done.large done.refused;
      same = done.same;
    }
