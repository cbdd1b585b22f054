use Rattle.std.proofs.Common.{◌∙◌, None, sym}
use Rattle.pool_config.specs.Configuration.{configuration_of}
use Rattle.thin_pool.specs.Histories.{submissions_in}
use Rattle.thin_pool.specs.Reactions.{opening_pool}
use Rattle.pool_input.specs.Input.{pool_slots}
use Rattle.pool_input.specs.Words.{file_names}
use Rattle.pool_input.proofs.Loading.{submits_with, stops_with, submitted_of, opening_rests, no_disk_memory}
use Rattle.pool_input.proofs.input.load_submits.Goals as goal

pub submit_files-requires : goal.submit_files-requires
submit_files-requires g c = record {
  rests = opening_rests _ _ _ c.in-Ok.ensures.pool c.in-Ok.ensures.opening;
  empty = c.in-Ok.ensures.list;
}

pub returns-in-Ok-submit_files-clause-ok : goal.returns-in-Ok-submit_files-clause-ok
returns-in-Ok-submit_files-clause-ok g c = λ told.
    let now = c.in-Ok-submit_files.ensures in
    submits_with (g.C.Clock.allows c.args.clock.now) (g.D.Store.file c.args.store.now) c.as_str.result.now c.args.config.now.owner (file_names c.args.names.now) c.in-Ok.course.pool c.submit_files.new.course.opening (submissions_in c.submit_files.new.course.list) None c.as_str.ensures (c.in-Ok.ensures.pool ∙ sym now.opening) (now.ok told)

pub returns-in-Ok-submit_files-clause-submitted : goal.returns-in-Ok-submit_files-clause-submitted
returns-in-Ok-submit_files-clause-submitted g c =
    let now = c.in-Ok-submit_files.ensures in
    submitted_of _ (pool_slots (configuration_of c.args.config.now)) c.in-Ok.course c.submit_files.new.course c.in-Ok.ensures.opening c.in-Ok.ensures.pool c.in-Ok.ensures.placed now.opening now.slots now.steps now.read now.rests

pub returns-in-Err-submit_files-clause-refused : goal.returns-in-Err-submit_files-clause-refused
returns-in-Err-submit_files-clause-refused g c = λ told.
    stops_with (g.C.Clock.allows c.args.clock.now) (g.D.Store.file c.args.store.now) c.as_str.result.now c.args.config.now.owner (file_names c.args.names.now) c.in-Ok.course.pool (opening_pool (pool_slots (configuration_of c.args.config.now))) c.in-Err-submit_files.status c.as_str.ensures (c.in-Ok.ensures.pool ∙ c.in-Ok.ensures.opening) (c.in-Err-submit_files.ensures.refused told)

pub returns-in-Ok-submit_files-clause-opening : goal.returns-in-Ok-submit_files-clause-opening
returns-in-Ok-submit_files-clause-opening g c = c.in-Ok-submit_files.ensures.opening ∙ c.in-Ok.ensures.opening

pub returns-in-Err-submit_files-clause-disk_fault : goal.returns-in-Err-submit_files-clause-disk_fault
returns-in-Err-submit_files-clause-disk_fault g c = c.in-Err-submit_files.ensures.disk_fault

pub returns-in-Err-clause-disk_fault : goal.returns-in-Err-clause-disk_fault
returns-in-Err-clause-disk_fault g c = λ disk. absurd (no_disk_memory disk)
