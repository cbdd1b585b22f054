use Rattle.std.proofs.Common.{◌≡◌, ◌∙◌, ◌+◌, ◌≤◌, ◌<◌, ℕ, ◌++◌, ◌∷◌, [], Result, Ok, Err, OnOk, is_err, false, true≢false, sym, ap, arith}
use Rattle.thin_pool.specs.Answers.{kept_of}
use Rattle.thin_pool.specs.CourseValue.{CourseValue}
use Rattle.thin_pool.specs.Histories.{Reacts}
use Rattle.thin_pool.specs.Reactions.{answer_to, pool_after}
use Rattle.thin_pool.proofs.Growing.{leads_on}
use Rattle.thin_pool.proofs.course.Course.act.Goals as goal

-- what was reserved is there
room : {T E : Type 0} (r : Result T E) (m n : ℕ) → false ≡ is_err r → OnOk r (m + 1 ≤ n) → m < n
room (Ok x) m n right h = omega (arith, h)
room (Err e) m n right h = absurd (true≢false (sym right))

pub invariant_of-self-2 : goal.invariant_of-self-2
invariant_of-self-2 c =
    let step = c.in_ok-answer.ensures in
    let kept = c.in_ok-answer.field-0.kept in
    let reacts : Reacts c.self.inside.pool c.args.ev kept c.step.new.self = record { accepted = step.accepted; answer = step.kept ∙ ap kept_of step.answer; next = step.next } in
    let grown = leads_on c.self.inside.opening c.self.inside.steps.items c.self.inside.pool (record { event = c.args.ev; kept = kept }) c.step.new.self c.self.invariant.1 reacts in
    (c.self.invariant.0, rw (c.push.ensures.items, c.unwrap.ensures, c.reserve.ensures.items) grown)

pub returns-clause-pool : goal.returns-clause-pool
returns-clause-pool c = c.in_ok-answer.ensures.next ∙ ap (λ (v : CourseValue). pool_after v.pool c.args.ev) c.self.view_is

pub returns-clause-list : goal.returns-clause-list
returns-clause-list c =
    let step = c.in_ok-answer.ensures in
    let kept : c.in_ok-answer.field-0.kept ≡ kept_of (answer_to c.self.inside.pool c.args.ev) = step.kept ∙ ap kept_of step.answer in
    (rw c.unwrap.ensures at c.push.ensures.items)
    ∙ (λ i. (c.reserve.ensures.items i) ++ record { event = c.args.ev; kept = kept i } ∷ [])
    ∙ ap (λ (v : CourseValue). v.list ++ record { event = c.args.ev; kept = kept_of (answer_to v.pool c.args.ev) } ∷ []) c.self.view_is

pub returns-clause-opening : goal.returns-clause-opening
returns-clause-opening c = ap (λ (v : CourseValue). v.opening) c.self.view_is

pub invariant_of-self-in_err-answer : goal.invariant_of-self-in_err-answer
invariant_of-self-in_err-answer c = (c.self.invariant.0, rw (c.reserve.ensures.items, c.in_err-answer.ensures.same) c.self.invariant.1)

pub unwrap-requires : goal.unwrap-requires
unwrap-requires c = c.push.ensures.succeeds (room c.reserve.result _ _ c.if-is_err.ensures.value c.reserve.ensures.ok)
