use Rattle.std.proofs.Common.{◌≡◌, ◌∙◌, List, ℕ, subst, arith, ap, sym, refl}
use Rattle.thin_pool.specs.declared.history.Step.{Step}
use Rattle.thin_pool.specs.CourseValue.{CourseValue}
use Rattle.thin_pool.specs.Histories.{submissions_in}
use Rattle.thin_pool.specs.Resting.{IsResting}
use Rattle.pool_input.specs.Words.{file_names}
use Rattle.pool_input.specs.Readings.{AreRead}
use Rattle.pool_input.specs.Submissions.{submit_steps}
use Rattle.pool_input.proofs.FileByFile.{SoFar, so_far_first, so_far_at, so_far_all, stops_at, no_names, disk_of, rests_next, slots_next, steps_next, read_next, read_none}
use Rattle.pool_input.proofs.submitting.submit_files.Goals as goal

pub names-init : goal.names-init
names-init g c = record {
  so_far = λ told. so_far_first (g.C.Clock.allows c.args.clock.now) (g.D.Store.file c.args.store.now) c.args.owner.now (file_names c.args.names.now) c.args.course.now c.requires.empty;
  rests = c.requires.rests;
  slots = refl;
  opening = refl;
  steps = c.requires.empty ∙ sym (ap (λ (l : List Step). submit_steps (submissions_in l)) c.requires.empty);
  read = read_none _ _ c.requires.empty;
  same = λ told n. (refl, refl);
  told = refl;
  later = omega arith;
}

pub names-preserved : goal.names-preserved
names-preserved g c =
    let inv = c.names.invariant in
    let now = c.in-Ok.ensures in
    record {
      so_far = λ told. so_far_at (g.C.Clock.allows c.args.clock.now) (g.D.Store.tells c.names.store) (inv.told ∙ told) (g.D.Store.file c.args.store.now) (g.D.Store.file c.names.store) c.args.owner.now c.args.names.now c.names.name-index _ c.args.course.now.pool c.names.course c.submit_file.new.course
          (omega arith) (λ n. (inv.same told n).0) now.taken (inv.so_far told);
      rests = rests_next _ _ _ _ _ _ now.taken inv.rests;
      slots = slots_next _ _ _ _ _ _ now.taken ∙ inv.slots;
      opening = now.taken.opening ∙ inv.opening;
      steps = steps_next _ _ _ _ _ _ now.taken inv.steps;
      read = read_next _ _ _ _ _ _ now.taken inv.read;
      same = λ told n. let after = now.same (inv.told ∙ told) n in let before = inv.same told n in (after.0 ∙ before.0, after.1 ∙ before.1);
      told = now.told ∙ inv.told;
      later = let a = now.later in let b = inv.later in omega arith;
    }

pub returns-in-Err-clause-refused : goal.returns-in-Err-clause-refused
returns-in-Err-clause-refused g c = λ told.
    let inv = c.names.invariant in
    stops_at (g.C.Clock.allows c.args.clock.now) (g.D.Store.file c.args.store.now) (g.D.Store.file c.names.store) c.args.owner.now c.args.names.now c.names.name-index _ c.args.course.now.pool c.names.course c.in-Err.fault c.fault_status.result
    (omega arith) (λ n. (inv.same told n).0) (inv.so_far told) (c.in-Err.ensures.refused (inv.told ∙ told)) c.fault_status.ensures.status

pub returns-in-Err-clause-disk_fault : goal.returns-in-Err-clause-disk_fault
returns-in-Err-clause-disk_fault g c = λ disk. let rose = c.in-Err.ensures.disk_fault (disk_of _ c.in-Err.fault c.fault_status.result c.fault_status.ensures.status disk) in let before = c.names.invariant.later in omega arith

pub returns-clause-ok : goal.returns-clause-ok
returns-clause-ok g c = λ told.
    let none = no_names c.args.names.now c.names.name-index (omega arith) in
    so_far_all (g.C.Clock.allows c.args.clock.now) (g.D.Store.file c.args.store.now) c.args.owner.now (file_names c.args.names.now) c.args.course.now.pool c.names.course (subst (λ (l : List (List ℕ)). SoFar (g.C.Clock.allows c.args.clock.now) (g.D.Store.file c.args.store.now) c.args.owner.now (file_names c.args.names.now) c.args.course.now.pool l c.names.course) none (c.names.invariant.so_far told))

pub returns-in-Err-clause-rests : goal.returns-in-Err-clause-rests
returns-in-Err-clause-rests g c = subst (λ (v : CourseValue). IsResting v.pool) (sym c.in-Err.ensures.unchanged) c.names.invariant.rests

pub returns-in-Err-clause-slots : goal.returns-in-Err-clause-slots
returns-in-Err-clause-slots g c = ap (λ (v : CourseValue). v.pool.slots) c.in-Err.ensures.unchanged ∙ c.names.invariant.slots

pub returns-in-Err-clause-opening : goal.returns-in-Err-clause-opening
returns-in-Err-clause-opening g c = ap (λ (v : CourseValue). v.opening) c.in-Err.ensures.unchanged ∙ c.names.invariant.opening

pub returns-in-Err-clause-steps : goal.returns-in-Err-clause-steps
returns-in-Err-clause-steps g c = subst (λ (v : CourseValue). v.list ≡ submit_steps (submissions_in v.list)) (sym c.in-Err.ensures.unchanged) c.names.invariant.steps

pub returns-in-Err-clause-read : goal.returns-in-Err-clause-read
returns-in-Err-clause-read g c = subst (λ (v : CourseValue). AreRead (g.C.Clock.allows c.args.clock.now) v.list) (sym c.in-Err.ensures.unchanged) c.names.invariant.read
