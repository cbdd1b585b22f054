-- What was submitted so far, and whatever the other files submit, is what all of them submit.
use Rattle.std.proofs.Common.{◌≡◌, ◌≤◌, true, drop}
use Rattle.pool_outer.specs.Files.{SameFiles}
use Rattle.thin_pool.specs.Histories.{submissions_in}
use Rattle.thin_pool.specs.Resting.{IsResting}
use Rattle.pool_input.specs.Readings.{AreRead}
use Rattle.pool_input.specs.Submissions.{submit_steps}
use Rattle.pool_input.specs.Words.{file_names}
use Rattle.pool_input.proofs.FileByFile.{SoFar}
use Rattle.pool_input.proofs.submitting.submit_files.Given as goal

abbrev pub invariant-names : goal.invariant-names
invariant-names g l = record {
  so_far : g.D.Store.tells l.fn.store ≡ true → SoFar (g.C.Clock.allows l.clock) (g.D.Store.file l.fn.store) l.owner (file_names l.names) l.fn.course.pool (file_names (drop l.name-index l.names)) l.course;
  rests : IsResting l.course.pool;
  slots : l.course.pool.slots ≡ l.fn.course.pool.slots;
  opening : l.course.opening ≡ l.fn.course.opening;
  steps : l.course.list ≡ submit_steps (submissions_in l.course.list);
  read : AreRead (g.C.Clock.allows l.clock) l.course.list;
  same : g.D.Store.tells l.fn.store ≡ true → SameFiles (g.D.Store.file l.fn.store) (g.D.Store.file l.store) (g.D.Store.solid l.fn.store) (g.D.Store.solid l.store);
  told : g.D.Store.tells l.store ≡ g.D.Store.tells l.fn.store;
  later : g.D.Store.faults l.fn.store ≤ g.D.Store.faults l.store;
}
