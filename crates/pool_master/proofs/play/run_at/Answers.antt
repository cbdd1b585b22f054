use Rattle.std.proofs.Common.{refl, sym, subst, arith}
use Rattle.thin_pool.specs.PoolValue.{PoolValue}
use Rattle.thin_pool.specs.Resting.{IsResting}
use Rattle.pool_master.proofs.Results.{none_ok, less_ok, pair_accepted}
use Rattle.pool_master.proofs.play.run_at.Goals as goal

pub pair_at-requires : goal.pair_at-requires
pair_at-requires g c = subst (λ (p : PoolValue). IsResting p) (sym c.pool.ensures) c.requires.resting

pub run_job-requires : goal.run_job-requires
run_job-requires g c = record {
  resting = c.requires.resting;
  accepted = pair_accepted c.pool.result.now c.args.course.now.pool c.read-reading.result c.in_ok-pair.field-0 c.in-Some.pair c.pool.ensures c.in-Some.is c.in_ok-pair.ensures.accepted;
  placed = c.requires.placed;
  allowed = c.read-reading.ensures.allowed;
  in_range = c.read-reading.ensures.in_range;
  between = c.requires.between;
}

pub returns-in_err-pair : goal.returns-in_err-pair
returns-in_err-pair g c =
    let r = c.from_residual.result in
    let err = c.from_residual.ensures.0 in
    record {
      follows = λ machine first old. old;
      untouched = λ first old. old;
      between = none_ok _ r err;
      read = λ old. old;
      submits = refl;
      resting = none_ok _ r err;
      no_more = none_ok _ r err;
      «open» = c.requires.resting.is_open;
      slots = refl;
      opening = refl;
    }

pub returns-in-None : goal.returns-in-None
returns-in-None g c = record {
  follows = λ machine first old. old;
  untouched = λ first old. old;
  between = c.requires.between;
  read = λ old. old;
  submits = refl;
  resting = c.requires.resting;
  no_more = omega arith;
  «open» = c.requires.resting.is_open;
  slots = refl;
  opening = refl;
}

pub returns-in-Some : goal.returns-in-Some
returns-in-Some g c =
    let e = c.run_job.ensures in
    record {
      follows = e.follows;
      untouched = e.untouched;
      between = e.between;
      read = e.read;
      submits = e.submits;
      resting = e.resting;
      no_more = less_ok c.run_job.result _ _ e.fewer;
      «open» = e.open;
      slots = e.slots;
      opening = e.opening;
    }
