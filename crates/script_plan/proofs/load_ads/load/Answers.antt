use Rattle.std.proofs.Common.{◌≡◌, ◌+◌, [], ◌∷◌, ◌++◌, sym, ap, ◌∙◌, arith}
use Rattle.script_plan.specs.Loads.{load_ads, load_ad, number_after, next_number, memory_of}
use Rattle.script_plan.proofs.LoadLemmas.{loaded_submitted, load_none, load_more, number_none, number_more}
use Rattle.script_plan.proofs.load_ads.load.Goals as goal

pub loop-proc-init : goal.loop-proc-init
loop-proc-init c = record {
  ads = c.new-ads.ensures ∙ load_none c.args.number c.args.cluster c.args.owner.now c.args.now;
  number = c.from-number.ensures ∙ number_none c.args.number;
  within = omega arith;
}

pub loop-proc-preserved : goal.loop-proc-preserved
loop-proc-preserved c =
    let i = c.loop-proc.invariant in
    let first = c.args.number in
    let proc = c.loop-proc.proc in
    let number : c.next_number-number.result ≡ number_after first (proc + 1) = c.next_number-number.ensures.next ∙ ap next_number i.number ∙ sym (number_more first proc) in
    let ad = c.in_ok-ad.ensures ∙ ap (load_ad (record { cluster = c.args.cluster; proc = proc }) c.args.owner.now c.args.now) (c.memory_of.ensures.memory ∙ ap memory_of number) in
    record {
      ads = c.in_ok-push.ensures.ok ∙ (λ k. i.ads k ++ ad k ∷ []) ∙ sym (load_more first c.args.cluster c.args.owner.now c.args.now proc);
      number = number;
      within = c.next_number-number.ensures.within;
    }

pub returns-clause-submitted : goal.returns-clause-submitted
returns-clause-submitted c = λ owned.
    let end = c.loop-proc-test.false in
    let most = c.loop-proc.auto.proc-end in
    let all : c.loop-proc.proc ≡ c.args.jobs = omega (arith, end, most) in
    loaded_submitted c.args.number c.args.cluster c.args.now c.args.jobs c.args.owner.now c.loop-proc.ads
    (c.loop-proc.invariant.ads ∙ ap (load_ads c.args.number c.args.cluster c.args.owner.now c.args.now) all)
    (omega (arith, c.ranges.cluster.fits)) (omega (arith, c.ranges.jobs.fits)) c.requires owned
