use Rattle.std.proofs.Common.{◌∙◌, refl, arith}
use Rattle.pool_master.proofs.Results.{none_ok, placed_still}
use Rattle.pool_master.proofs.play.run_each.Goals as goal

pub places-init : goal.places-init
places-init g c = record {
  resting = c.requires.resting;
  between = c.requires.between;
  follows = λ machine first old. old;
  untouched = λ first old. old;
  read = λ old. old;
  submits = refl;
  no_more = omega arith;
  slots = refl;
  opening = refl;
}

pub run_at-requires : goal.run_at-requires
run_at-requires g c =
    let so_far = c.places.invariant in
    record {
      resting = so_far.resting;
      placed = placed_still c.args.course.now.pool.slots c.places.course.pool.slots _ _ so_far.slots c.places.auto.spawners c.requires.placed;
      between = so_far.between;
    }

pub places-preserved : goal.places-preserved
places-preserved g c =
    let now = c.in_ok-run_at.ensures in
    let so_far = c.places.invariant in
    record {
      resting = now.resting;
      between = now.between;
      follows = λ machine first old. now.follows machine first (so_far.follows machine first old);
      untouched = λ first old. now.untouched first (so_far.untouched first old);
      read = λ old. now.read (so_far.read old);
      submits = now.submits ∙ so_far.submits;
      no_more = let less = now.no_more in let before = so_far.no_more in omega arith;
      slots = now.slots ∙ so_far.slots;
      opening = now.opening ∙ so_far.opening;
    }

pub returns-in_err-run_at : goal.returns-in_err-run_at
returns-in_err-run_at g c =
    let now = c.in_err-run_at.ensures in
    let so_far = c.places.invariant in
    let r = c.from_residual.result in
    let err = c.from_residual.ensures.0 in
    record {
      follows = λ machine first old. now.follows machine first (so_far.follows machine first old);
      untouched = λ first old. now.untouched first (so_far.untouched first old);
      between = none_ok _ r err;
      read = λ old. now.read (so_far.read old);
      submits = now.submits ∙ so_far.submits;
      resting = none_ok _ r err;
      no_more = none_ok _ r err;
      «open» = now.open;
      slots = now.slots ∙ so_far.slots;
      opening = now.opening ∙ so_far.opening;
    }

pub returns : goal.returns
returns g c =
    let so_far = c.places.invariant in
    record {
      follows = so_far.follows;
      untouched = so_far.untouched;
      between = so_far.between;
      read = so_far.read;
      submits = so_far.submits;
      resting = so_far.resting;
      no_more = so_far.no_more;
      «open» = so_far.resting.is_open;
      slots = so_far.slots;
      opening = so_far.opening;
    }
