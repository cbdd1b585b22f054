use Rattle.std.proofs.Common.{ℕ, Some, slice_get, subst, sym}
use Rattle.std.specs.Prelude.{◌≢◌}
use Rattle.std.specs.List.{All}
use Rattle.std.proofs.lemmas.Bool.{true≢false}
use Rattle.std.proofs.lemmas.List.{take_all}
use Rattle.std.proofs.lemmas.List.Elements.{All-more}
use Rattle.auto_cluster.proofs.finding.place_among.Goals as goal

pub loop-place-preserved : goal.loop-place-preserved
loop-place-preserved c =
    All-more (λ (i : ℕ). slice_get c.args.parts.now i ≢ Some c.args.part.now) c.args.places.now c.loop-place.place-index _ c.loop-place-test.true c.loop-place.invariant (λ at. true≢false (sym (c.if-stands_at.ensures.1 at)))

pub returns : goal.returns
returns c = subst (All (λ (i : ℕ). slice_get c.args.parts.now i ≢ Some c.args.part.now)) (take_all c.loop-place.place-index c.args.places.now c.loop-place-test.false) c.loop-place.invariant
