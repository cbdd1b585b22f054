use Rattle.std.proofs.Common.{◌≡◌, sym, ◌∙◌, ap, eq-eqb}
use Rattle.std.proofs.lemmas.Bool.{eqb-true}
use Rattle.ad_eval.specs.JudgementCode.{same_judgement}
use Rattle.pool_view.proofs.same.is_same_match.Goals as goal

pub returns : goal.returns
returns c =
    let job : c.args.own.now.job ≡ c.args.other.now.job = sym c.job.ensures ∙ (c.same.ensures.0 c.if-not-same.false ∙ c.job-2.ensures) in
    let slot : c.args.own.now.slot ≡ c.args.other.now.slot = sym c.slot.ensures ∙ (c.same-2.ensures.0 c.if-not-same-2.false ∙ c.slot-2.ensures) in (
      λ is.
          (let at : c.args.own.now.at ≡ c.args.other.now.at = sym c.at.ensures ∙ (eqb-true c.at.result c.at-2.result is ∙ c.at-2.ensures) in
          same_judgement c.args.own.now c.args.other.now (λ i. (job i, (slot i, at i)))),
      λ same. eq-eqb c.at.result c.at-2.result (c.at.ensures ∙ (ap (λ j. j.at) same ∙ sym c.at-2.ensures)),
    )
