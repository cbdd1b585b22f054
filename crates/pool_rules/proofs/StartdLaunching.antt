-- What a startd launches is a run that a match started, in each abstract pool that the pool shows.
use Rattle.std.proofs.Common.{◌≡◌, ℕ, max, List, [], ◌∷◌, Option, Some, None, IfSome, IsSomeAnd, refl, sym, ◌∙◌, ap, subst}
use Rattle.ad_eval.specs.Judgement.{Judgement, Mismatch}
use Rattle.pool_parts.specs.declared.answer.Answer.{Answer}
use Rattle.pool_parts.specs.declared.answer.Answer.TheVariants as answer
use Rattle.pool_parts.specs.declared.answer.Stepped.{Stepped}
use Rattle.pool_parts.specs.declared.event.Event.TheVariants as event
use Rattle.pool_outer.specs.declared.gate.Daemon.TheVariants.{Startd}
use Rattle.pool_view.specs.Protocol.{Protocol}
use Rattle.pool_view.specs.ProtocolMove.{ProtocolMove, PassTime, protocol_after_all}
use Rattle.pool_rules.specs.Refusals.{IsEventRefusal}
use Rattle.pool_state.specs.declared.state.PoolState.{PoolState}
use Rattle.pool_view.specs.AbstractPool.{AbstractPool, SameView}
use Rattle.pool_view.specs.Ads.{core_of}
use Rattle.pool_view.specs.Safe.{IsMatched}
use Rattle.pool_view.specs.declared.run.Run.{Run}
use Rattle.startd_core.specs.declared.answer.Permit.{Permit}
use Rattle.startd_core.specs.declared.answer.StartdAnswer.{StartdAnswer}
use Rattle.startd_core.specs.declared.answer.StartdAnswer.TheVariants as startd
use Rattle.startd_core.specs.Permits.{permit_in}
use Rattle.startd_core.specs.Startds.{After, after_mail}
use Rattle.pool_rules.specs.Launched.{IsPermitOf}
use Rattle.pool_rules.specs.Shown.{ShowsPool}
use Rattle.pool_rules.specs.StartdEvents.{moves_of_startd_mail}
use Rattle.pool_rules.proofs.Launching.{permits_matched}
use Rattle.pool_rules.proofs.Viewing.{linked_shows, one_view}
use Rattle.pool_rules.specs.Answers.{answer_of_startd}
use Rattle.pool_rules.specs.Happens.{Happens}
use Rattle.pool_rules.specs.Parts.{parts_of}
use Rattle.pool_rules.specs.Kept.{IsKept, at_reading}
use Rattle.pool_rules.proofs.StartdGoing.{got, got_goes, protocol_at}
use Rattle.pool_rules.proofs.StartdKept.{parts_acted}

-- ---- the same view
matched_on : (v w : AbstractPool) (r : Run) → SameView v w → IsMatched v r → IsMatched w r
matched_on v w r same matched = record {
  match = matched.match;
  slot_ad = same.slots r.slot ∙ matched.slot_ad;
  job_ad = subst (λ o. IsSomeAnd o (λ e. e.core ≡ core_of r.judged.job)) (sym (same.jobs r.job)) matched.job_ad;
}

permit_on : (v w : AbstractPool) (permit : Permit) → SameView v w → IsPermitOf v permit → IsPermitOf w permit
permit_on v w permit same (r, there, run, job, what, matched) = (r, (same.runs r).0 there, run, job, what, matched_on v w r same matched)

-- ---- what is answered
abbrev permit_launched : Answer → Option Permit
permit_launched answer.Done = None
permit_launched (answer.Append number tx) = None
permit_launched (answer.Launch permit) = Some permit
permit_launched (answer.Kill runs) = None

permit_answered : (a : StartdAnswer) → permit_launched (answer_of_startd a) ≡ permit_in a
permit_answered startd.Done = refl
permit_answered (startd.Launch permit) = refl
permit_answered (startd.Kill runs) = refl

-- ---- the event
pub launched_is_matched : (p : Protocol) (s new : PoolState) (r : Stepped) (machine boot index reading : ℕ) (judged : Option Judgement) (mismatch : Option Mismatch) (w : AbstractPool) (permit : Permit) → IsKept p s
    → IsEventRefusal (event.Receive (Startd machine) boot index reading judged mismatch) s None → Happens (event.Receive (Startd machine) boot index reading judged mismatch) s new r
    → ShowsPool (parts_of (at_reading reading new)) w → r.answer ≡ answer.Launch permit → IsPermitOf w permit
launched_is_matched p s new r machine boot index reading judged mismatch w permit kept free happens shows launched =
    let g = got p s new r machine boot index reading judged mismatch kept free happens in
    let a : After = after_mail g.startd g.sent.mail judged reading in
    let ms : List ProtocolMove = moves_of_startd_mail g.startd g.sent.mail judged reading in
    let q : Protocol = protocol_after_all p (PassTime (max s.latest reading) ∷ ms) in
    let goes = got_goes p s new r machine index reading judged kept g in
    let answered : r.answer ≡ answer_of_startd a.step.answer = ap (λ (x : Stepped). x.answer) g.step.answer in
    let given : permit_in a.step.answer ≡ Some permit = sym (permit_answered a.step.answer) ∙ (ap permit_launched (sym answered) ∙ ap permit_launched launched) in
    let its : IfSome (permit_in a.step.answer) (IsPermitOf q.pool) = permits_matched (protocol_at reading s p) (parts_acted machine reading a [] s) g.startd g.sent.mail judged reading g.stays g.fits in
    permit_on q.pool w permit (one_view (parts_of (at_reading reading new)) q.pool w (linked_shows q (parts_of (at_reading reading new)) goes.kept.linked) shows)
    (subst (λ o. IfSome o (IsPermitOf q.pool)) given its)
