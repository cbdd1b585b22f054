use Rattle.std.proofs.Common.{◌≡◌, List, [], sym, ap, ◌∙◌, arith, subst}
use Rattle.std.proofs.lemmas.List.{nil_from_length}
use Rattle.std.specs.Prelude.{Vec}
use Rattle.std.specs.Global.{Global}
use Rattle.matchmaker.specs.Cycle.{turn}
use Rattle.negotiate.specs.Grouped.{all_ranked, Serves, Tables}
use Rattle.negotiate.specs.Parties.{requests_of}
use Rattle.matchmaker.proofs.Turning.{turn_end, turn_stop}
use Rattle.negotiate.proofs.Members.{one_fewer}
use Rattle.negotiate.proofs.ListTables.{contains_first, TurnLeft-none, TurnLeft-some}
use Rattle.negotiate.specs.declared.grouping.Clustered.{Clustered}
use Rattle.matchmaker.specs.declared.course.Made.{Made}
use Rattle.negotiate.proofs.grouping.grouped_turn.Goals as goal
use Rattle.negotiate.proofs.grouping.grouped_turn.Goals.{in-Some-chosen+in_ok-one+in_ok-push, in_default-chosen}

pub returns-in_default-clause-turned : goal.returns-in_default-clause-turned
returns-in_default-clause-turned g c =
    let empty : c.pop_front.new.self.items ≡ [] = nil_from_length c.pop_front.new.self.items (sym c.pop_front.new.self.ok.0 ∙ c.in_default.ensures.cases.1) in
    let before : c.loop-most.left.items ≡ [] = c.in_default.ensures.items ∙ empty in
    ap (λ (l : List Clustered). (requests_of l, c.loop-most.made.items)) empty
    ∙ (sym (turn_end c.args.snapshot.now c.args.account.now c.loop-most.most c.loop-most.made.items)
    ∙ (ap (λ (l : List Clustered). turn c.args.snapshot.now c.args.account.now c.loop-most.most (requests_of l) c.loop-most.made.items) (sym before)
    ∙ c.loop-most.invariant.rest))

pub place-requires-clause-within : goal.place-requires-clause-within
place-requires-clause-within g c =
    let t = subst (λ (l : List Clustered). Tables c.args.snapshot.now c.loop-most.made.items c.loop-most.lists.items l) c.in-Some.ensures.items c.loop-most.invariant.tables in
    t.within c.in-Some.request (contains_first c.in-Some.request c.pop_front.new.self.items)

pub loop-most-preserved : goal.loop-most-preserved
loop-most-preserved g c = elim c.match-chosen.branch [
  | in-Some-chosen+in_ok-one+in_ok-push w ↦
      TurnLeft-some c.args.snapshot.now c.args.account.now _ c.args.lists.now.items c.args.steps.now c.loop-most.most c.match-chosen.most c.loop-most.left.items
      c.loop-most.made.items c.deref.result.now c.match-chosen.made.items c.loop-most.lists.items c.place.new.lists.items c.loop-most.steps c.place.new.steps
      c.in-Some.request c.pop_front.new.self.items c.in_ok-chosen.chosen w.in_ok-one.one w.in-Some-chosen.slot
      c.loop-most.invariant c.loop-most-test.true c.in-Some.ensures.items c.deref.ensures.value c.in_ok-chosen.ensures.choice c.in_ok-chosen.ensures.seen c.in_ok-chosen.ensures.cost
      w.in-Some-chosen.is w.in_ok-one.ensures (ap (λ (v : Vec Made Global). v.items) w.made-is ∙ w.in_ok-push.ensures.items) w.most-is
  | in_default-chosen w ↦
      TurnLeft-none c.args.snapshot.now c.args.account.now _ c.args.lists.now.items c.args.steps.now c.loop-most.most c.match-chosen.most c.loop-most.left.items
      c.loop-most.made.items c.deref.result.now c.match-chosen.made.items c.loop-most.lists.items c.place.new.lists.items c.loop-most.steps c.place.new.steps
      c.in-Some.request c.pop_front.new.self.items c.in_ok-chosen.chosen
      c.loop-most.invariant c.loop-most-test.true c.in-Some.ensures.items c.deref.ensures.value c.in_ok-chosen.ensures.choice c.in_ok-chosen.ensures.seen c.in_ok-chosen.ensures.cost
      w.in_default-chosen.is (ap (λ (v : Vec Made Global). v.items) w.made-is) w.most-is
]

pub returns-clause-turned : goal.returns-clause-turned
returns-clause-turned g c =
    let zero : c.loop-most.most ≡ 0 = omega arith in
    sym (turn_stop c.args.snapshot.now c.args.account.now (requests_of c.loop-most.left.items) c.loop-most.made.items)
    ∙ (ap (λ n. turn c.args.snapshot.now c.args.account.now n (requests_of c.loop-most.left.items) c.loop-most.made.items) (sym zero)
    ∙ c.loop-most.invariant.rest)

pub returns-in_default-clause-tables : goal.returns-in_default-clause-tables
returns-in_default-clause-tables g c = subst (λ (l : List Clustered). Tables c.args.snapshot.now c.loop-most.made.items c.loop-most.lists.items l) c.in_default.ensures.items c.loop-most.invariant.tables

pub place-requires-clause-serves : goal.place-requires-clause-serves
place-requires-clause-serves g c = λ v there.
    let t = subst (λ (l : List Clustered). Tables c.args.snapshot.now c.loop-most.made.items c.loop-most.lists.items l) c.in-Some.ensures.items c.loop-most.invariant.tables in
    subst (λ (ms : List Made). Serves c.args.snapshot.now.now c.args.snapshot.now.slots ms c.in-Some.request.request (all_ranked v.items)) (sym c.deref.ensures.value)
    (t.serves c.in-Some.request (contains_first c.in-Some.request c.pop_front.new.self.items) v there)

pub loop-most-smaller : goal.loop-most-smaller
loop-most-smaller g c = one_fewer c.loop-most.left.items c.pop_front.new.self.items c.in-Some.request c.in-Some.ensures.items
