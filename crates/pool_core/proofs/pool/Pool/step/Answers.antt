use Rattle.std.proofs.Common.{◌≡◌, ◌≢◌, None, OnErr, OnOk, IfErr, IfOk, sym, subst}
use Rattle.pool_parts.specs.Appends.{CanAppend}
use Rattle.pool_rules.specs.Deeds.{at_rest}
use Rattle.pool_rules.specs.Given.{IsGiven}
use Rattle.pool_rules.specs.Histories.{MovesView}
use Rattle.pool_state.specs.declared.state.PoolState.{PoolState}
use Rattle.pool_rules.specs.Counted.{CountsBytes}
use Rattle.pool_rules.specs.Happens.{Reacts}
use Rattle.pool_rules.specs.Refusals.{IsRefusal}
use Rattle.pool_tables.specs.declared.refusal.StepError.TheVariants as error
use Rattle.pool_core.specs.Refused.{IsRefused}
use Rattle.pool_core.proofs.CountedSteps.{step_counts}
use Rattle.pool_core.proofs.Keeping.{step_appends, step_kept, step_launches, step_moves}
use Rattle.pool_core.proofs.pool.Pool.step.Goals as goal

pub invariant_of-self : goal.invariant_of-self
invariant_of-self c =
    let event = c.args.event.now in
    let given = subst (λ (s : PoolState). IsGiven event s) (sym c.self.view_is) c.requires.given in
    step_kept event (at_rest c.self.inside.state) (at_rest c.step.new.state) c.step.result c.self.invariant given c.step.ensures.accepted c.step.ensures.reacts c.step.ensures.within c.step.ensures.short c.step.ensures.same

pub returns-clause-moves : goal.returns-clause-moves
returns-clause-moves c =
    let event = c.args.event.now in
    let given = subst (λ (s : PoolState). IsGiven event s) (sym c.self.view_is) c.requires.given in
    subst (λ (s : PoolState). OnOk c.step.result (MovesView event s (at_rest c.step.new.state))) c.self.view_is
    (step_moves event (at_rest c.self.inside.state) (at_rest c.step.new.state) c.step.result c.self.invariant given c.step.ensures.accepted c.step.ensures.reacts)

pub returns-clause-launches : goal.returns-clause-launches
returns-clause-launches c =
    let event = c.args.event.now in
    let given = subst (λ (s : PoolState). IsGiven event s) (sym c.self.view_is) c.requires.given in
    step_launches event (at_rest c.self.inside.state) (at_rest c.step.new.state) c.step.result c.self.invariant given c.step.ensures.accepted c.step.ensures.reacts

pub returns-clause-appends : goal.returns-clause-appends
returns-clause-appends c =
    let event = c.args.event.now in
    let given = subst (λ (s : PoolState). IsGiven event s) (sym c.self.view_is) c.requires.given in
    let s = at_rest c.self.inside.state in
    let new = at_rest c.step.new.state in
    let kept = step_kept event s new c.step.result c.self.invariant given c.step.ensures.accepted c.step.ensures.reacts c.step.ensures.within c.step.ensures.short c.step.ensures.same in
    subst (λ (x : PoolState). IfOk c.step.result (λ r. CanAppend x.queue r.answer)) c.self.view_is
    (step_appends event s new c.step.result kept c.step.ensures.reacts)

pub returns-clause-counted : goal.returns-clause-counted
returns-clause-counted c =
    let event = c.args.event.now in
    subst (λ (s : PoolState). OnOk c.step.result (CountsBytes event s (at_rest c.step.new.state))) c.self.view_is
    (step_counts event (at_rest c.self.inside.state) (at_rest c.step.new.state) c.step.result c.self.invariant c.step.ensures.reacts)

pub returns-clause-accepted : goal.returns-clause-accepted
returns-clause-accepted c = subst (λ (s : PoolState). OnOk c.step.result (IsRefusal c.args.event.now s None)) c.self.view_is c.step.ensures.accepted

pub returns-clause-reacts : goal.returns-clause-reacts
returns-clause-reacts c = subst (λ (s : PoolState). IfOk c.step.result (λ r. Reacts s c.args.event.now r (at_rest c.step.new.state))) c.self.view_is c.step.ensures.reacts

pub returns-clause-refused : goal.returns-clause-refused
returns-clause-refused c = subst (λ (s : PoolState). IfErr c.step.result (λ e. e ≢ error.Memory → IsRefused c.args.event.now s e)) c.self.view_is c.step.ensures.refused

pub returns-clause-same : goal.returns-clause-same
returns-clause-same c = subst (λ (s : PoolState). OnErr c.step.result (at_rest c.step.new.state ≡ s)) c.self.view_is c.step.ensures.same
