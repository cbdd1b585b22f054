use Rattle.std.proofs.Common.{None, refl, sym, ◌∙◌, ap, subst, [], List, ◌∷◌, ◌++◌}
use Rattle.desk.specs.Entries.{entry_of}
use Rattle.desk.specs.Given.{IsGivenBy, IsOwn}
use Rattle.desk.specs.Standing.{end_mark_of}
use Rattle.desk.specs.declared.entry.Entry.{Entry}
use Rattle.desk.specs.SolePasses.{SolePassValue, StandsHere}
use Rattle.desk.proofs.Accepting.{Accepted, accepted, given_here}
use Rattle.desk.proofs.Staying.{Stays, stays}
use Rattle.pool_core.specs.Refused.{IsRefused}
use Rattle.pool_rules.specs.Refusals.{IsRefusal}
use Rattle.pool_state.specs.declared.state.PoolState.{PoolState}
use Rattle.desk.proofs.pass.SolePass.act.Goals as goal

-- what the accepted event makes of the pass, as it was
old : (c : goal.After-drop-event-in-Ok) → Accepted (record { holder = c.self.inside.holder; mine = c.self.inside.entries.items; closed = c.self.inside.closed; pool = c.self.inside.pool }) c.push_reserved.new.self.items c.step.new.self c.args.event c.in-Ok.field-0
old c =
    let p : SolePassValue = record { holder = c.self.inside.holder; mine = c.self.inside.entries.items; closed = c.self.inside.closed; pool = c.self.inside.pool } in
    accepted p c.push_reserved.new.self.items c.step.new.self c.args.event c.in-Ok.field-0 c.self.invariant
    (subst (λ (p : SolePassValue). IsOwn p.holder c.args.event) (sym c.self.view_is) c.requires.own) c.in-Ok.ensures.accepted c.in-Ok.ensures.reacts c.in-Ok.ensures.appends
    (c.push_reserved.ensures.items ∙ (ap (λ (xs : List Entry). xs ++ c.new.result ∷ []) c.reserve.ensures.items ∙ ap (λ (x : Entry). c.self.inside.entries.items ++ x ∷ []) (c.new.ensures ∙ ap (λ n. entry_of n c.args.event c.in-Ok.field-0.kept) c.events-place.ensures)))

now : (c : goal.After-drop-event-in-Ok) → Accepted c.args.self.now c.push_reserved.new.self.items c.step.new.self c.args.event c.in-Ok.field-0
now c = subst (λ (p : SolePassValue). Accepted p c.push_reserved.new.self.items c.step.new.self c.args.event c.in-Ok.field-0) c.self.view_is (old c)

pub step-requires : goal.step-requires
step-requires c =
    let p : SolePassValue = record { holder = c.self.inside.holder; mine = c.self.inside.entries.items; closed = c.self.inside.closed; pool = c.self.inside.pool } in
    let own = subst (λ (p : SolePassValue). IsOwn p.holder c.args.event) (sym c.self.view_is) c.requires.own in
    let given = subst (λ (p : SolePassValue). IsGivenBy p.pool.log_mark (end_mark_of p.holder p.pool) c.args.event) (sym c.self.view_is) c.requires.given in
    record { given = given_here p c.args.event c.self.invariant own given }

pub invariant_of-self-in-Ok : goal.invariant_of-self-in-Ok
invariant_of-self-in-Ok c = (old c).here

pub returns-in-Ok-clause-first : goal.returns-in-Ok-clause-first
returns-in-Ok-clause-first c = (now c).first

pub returns-in-Ok-clause-log_mark : goal.returns-in-Ok-clause-log_mark
returns-in-Ok-clause-log_mark c = (now c).log_mark

pub returns-in-Ok-clause-end_mark : goal.returns-in-Ok-clause-end_mark
returns-in-Ok-clause-end_mark c = ap (λ (p : SolePassValue). end_mark_of p.holder c.step.new.self) c.self.view_is ∙ (now c).end_mark

pub returns-in-Ok-clause-kind : goal.returns-in-Ok-clause-kind
returns-in-Ok-clause-kind c = (old c).kind

pub returns-in-Ok-clause-fits : goal.returns-in-Ok-clause-fits
returns-in-Ok-clause-fits c = (now c).fits

pub returns-in-Ok-clause-appends : goal.returns-in-Ok-clause-appends
returns-in-Ok-clause-appends c = (now c).appends

pub returns-in-Ok-clause-queue : goal.returns-in-Ok-clause-queue
returns-in-Ok-clause-queue c = (now c).queue

pub returns-in-Ok-clause-gained : goal.returns-in-Ok-clause-gained
returns-in-Ok-clause-gained c = (now c).gained

pub returns-in-Ok-clause-reacts : goal.returns-in-Ok-clause-reacts
returns-in-Ok-clause-reacts c = (now c).reacts

pub returns-in-Ok-clause-holder : goal.returns-in-Ok-clause-holder
returns-in-Ok-clause-holder c = ap (λ (p : SolePassValue). p.holder) c.self.view_is

pub returns-in-Ok-clause-accepted : goal.returns-in-Ok-clause-accepted
returns-in-Ok-clause-accepted c = subst (λ (p : SolePassValue). IsRefusal c.args.event p.pool None) c.self.view_is c.in-Ok.ensures.accepted

pub returns-in-Ok-clause-closed : goal.returns-in-Ok-clause-closed
returns-in-Ok-clause-closed c = ap (λ (p : SolePassValue). p.closed) c.self.view_is

-- where nothing was tried
pub invariant_of-self : goal.invariant_of-self
invariant_of-self c = subst (λ (xs : List Entry). StandsHere c.self.inside.holder xs c.self.inside.pool) (sym c.reserve.ensures.items) c.self.invariant

pub returns-then-is_err : goal.returns-then-is_err
returns-then-is_err c =
    let pool = c.self.inside.pool in
    let its = stays c.self.inside.holder c.reserve.new.self.items c.self.inside.entries.items c.self.inside.closed pool pool c.args.self.now c.reserve.ensures.items refl (sym c.self.view_is) in
    record {
      holder = its.holder;
      first = its.first;
      log_mark = its.log_mark;
      end_mark = its.end_mark;
      accepted = tt;
      cause = λ other. absurd (other refl);
      reacts = tt;
      same = its.same;
      kind = tt;
      fits = tt;
      appends = tt;
      gained = tt;
      queue = its.queue;
      refused = its.refused;
      closed = ap (λ (p : SolePassValue). p.closed) c.self.view_is;
    }

-- where the event was refused
pub invariant_of-self-in-Err : goal.invariant_of-self-in-Err
invariant_of-self-in-Err c =
    let mine = subst (λ (xs : List Entry). StandsHere c.self.inside.holder xs c.self.inside.pool) (sym c.reserve.ensures.items) c.self.invariant in
    subst (λ (s : PoolState). StandsHere c.self.inside.holder c.reserve.new.self.items s) (sym c.in-Err.ensures.same) mine

its : (c : goal.After-drop-event-2) → Stays c.self.inside.holder c.reserve.new.self.items c.step.new.self c.args.self.now
its c = stays c.self.inside.holder c.reserve.new.self.items c.self.inside.entries.items c.self.inside.closed c.step.new.self c.self.inside.pool c.args.self.now c.reserve.ensures.items c.in-Err.ensures.same (sym c.self.view_is)

pub returns-clause-holder : goal.returns-clause-holder
returns-clause-holder c = (its c).holder

pub returns-clause-first : goal.returns-clause-first
returns-clause-first c = (its c).first

pub returns-clause-log_mark : goal.returns-clause-log_mark
returns-clause-log_mark c = (its c).log_mark

pub returns-clause-end_mark : goal.returns-clause-end_mark
returns-clause-end_mark c = (its c).end_mark

pub returns-clause-same : goal.returns-clause-same
returns-clause-same c = (its c).same

pub returns-clause-queue : goal.returns-clause-queue
returns-clause-queue c = (its c).queue

pub returns-clause-refused : goal.returns-clause-refused
returns-clause-refused c = (its c).refused

pub returns-clause-cause : goal.returns-clause-cause
returns-clause-cause c = λ other. subst (λ (p : SolePassValue). IsRefused c.args.event p.pool c.in-Err.error) c.self.view_is (c.in-Err.ensures.refused other)
