use Rattle.std.proofs.Common.{refl}
use Rattle.std.proofs.lemmas.Result.{IfOk-weaker}
use Rattle.pool_parts.specs.declared.answer.Stepped.{Stepped}
use Rattle.pool_rules.specs.Deeds.{at_rest}
use Rattle.pool_rules.specs.Happens.{ArePassed}
use Rattle.pool_rules.specs.Masters.{passes}
use Rattle.pool_state.specs.declared.state.PoolState.{PoolState}
use Rattle.pool_core.specs.Made.{IsMade}
use Rattle.pool_core.proofs.LiveOnes.{all_passed}
use Rattle.pool_core.proofs.TooLarge.{large_after}
use Rattle.pool_core.proofs.events.match_all.Goals as goal

pub returns : goal.returns
returns c =
    let s = c.args.state.now in
    let new = at_rest c.pass_matches.new.state in
    let Made = IsMade (passes c.as_slice.result.now (at_rest s)) in
    let Passed = ArePassed (at_rest s) c.args.list.now c.args.judged.now c.args.reading in
    let told : (pool : PoolState) (r : Stepped) → Made pool r → Passed pool r =
    λ pool r made. all_passed s c.args.list.now c.args.judged.now c.args.reading c.in_ok-live.live c.as_slice.result.now pool r c.in_ok-live.ensures c.as_slice.ensures made in
    let done = c.pass_matches.ensures in
    record {
      passed = IfOk-weaker c.pass_matches.result (Made new) (Passed new) (told new) done.passed;
      within = done.within;
      large = λ is. large_after Made Passed (λ pool. pool) (λ pool. refl) told (done.large is);
      refused = done.refused;
      kept = done.kept;
    }
