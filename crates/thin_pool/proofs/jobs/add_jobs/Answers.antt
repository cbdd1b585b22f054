use Rattle.std.proofs.Common.{◌≡◌, ◌++◌, suc, ap, arith, sym, ◌∙◌, inl, length}
use Rattle.thin_pool.specs.Reactions.{numbered_jobs}
use Rattle.thin_pool.proofs.Adding.{adds_next, adds_all, nothing_left}
use Rattle.thin_pool.proofs.jobs.add_jobs.Goals as goal

pub loop-ad-init : goal.loop-ad-init
loop-ad-init c =
    let given = sym c.into_iter-ad-iterator.ensures.into_iter_gives.0 in (
      tt,
      tt,
      record {
        all = ap (λ l. c.args.jobs.now.entries ++ numbered_jobs c.args.cluster 0 l) (sym given);
        before = λ id there. inl (c.requires.new id there);
        enough = omega (arith, c.requires.room, ap length given);
        few = omega (arith, c.requires.few, ap length given);
      },
    )

pub unwrap-requires : goal.unwrap-requires
unwrap-requires c =
    let long : length c.loop-ad.ad-iterator.rest.items ≡ suc (length c.next.new.self.rest.items) = ap length c.in-Some.ensures.steps.0 in
    c.insert.ensures.succeeds (omega (arith, c.loop-ad.invariant.2.enough, long))

pub overflow_add-proc : goal.overflow_add-proc
overflow_add-proc c = omega (arith, c.loop-ad.invariant.2.few)

pub loop-ad-preserved : goal.loop-ad-preserved
loop-ad-preserved c =
    (tt, tt, adds_next _ _ c.args.cluster c.loop-ad.proc _ c.in-Some.ad _ _ _ _ c.loop-ad.invariant.2 c.in-Some.ensures.steps.0 (rw c.unwrap.ensures at c.insert.ensures.entries) c.insert.ensures.spare)

pub returns : goal.returns
returns c =
    adds_all _ _ c.args.cluster c.loop-ad.proc c.loop-ad.ad-iterator.rest.items _ c.loop-ad.invariant.2 (nothing_left c.loop-ad.ad-iterator.rest.items (sym c.loop-ad.ad-iterator.rest.ok.0 ∙ c.in-None.ensures.steps.0))
