use Rattle.std.proofs.Common.{◌≡◌, ◌∙◌, ℕ, Err, ap, sym, subst}
use Rattle.submit_file.specs.Errors.{UnlessMemory as UnlessNoMemory}
use Rattle.submit_file.specs.SubmittedJobs.{SubmittedJobs}
use Rattle.thin_pool.specs.Reactions.{next_cluster}
use Rattle.pool_input.proofs.FileFaults.{of_submit, submit_refused, no_text_submit, no_disk_submit}
use Rattle.pool_input.proofs.OneFile.{asks_with, takes_of, refused_of, of_pool, no_disk}
use Rattle.pool_input.proofs.submitting.submit_file.Goals as goal

pub returns-in-Ok-jobs-clause-taken : goal.returns-in-Ok-jobs-clause-taken
returns-in-Ok-jobs-clause-taken g c =
    takes_of (g.C.Clock.allows c.args.clock.now) (g.D.Store.tells c.args.store.now) (g.D.Store.file c.args.store.now c.args.name.now) c.args.owner.now c.args.course.now c.submit.new.course c.in-Ok-jobs.jobs c.read-reading.result c.submit.result c.read-reading.ensures.allowed c.read-reading.ensures.in_range
    (λ told. asks_with _ c.in-Ok.text c.as_str.result.now c.args.owner.now c.next_cluster-cluster.result (next_cluster c.args.course.now.pool) c.read-reading.result _ c.as_str.ensures (c.next_cluster-cluster.ensures ∙ ap next_cluster c.pool.ensures) (c.in-Ok.ensures.ok told) c.in-Ok-jobs.ensures)
    c.submit.ensures.accepted c.submit.ensures.list c.submit.ensures.pool c.submit.ensures.opening

pub returns-in-Ok-jobs-clause-refused : goal.returns-in-Ok-jobs-clause-refused
returns-in-Ok-jobs-clause-refused g c = λ told.
    refused_of (g.C.Clock.allows c.args.clock.now) (g.D.Store.file c.args.store.now c.args.name.now) c.args.owner.now c.args.course.now.pool c.in-Ok-jobs.jobs c.read-reading.result c.submit.result c.read-reading.ensures.allowed
    (asks_with _ c.in-Ok.text c.as_str.result.now c.args.owner.now c.next_cluster-cluster.result (next_cluster c.args.course.now.pool) c.read-reading.result _ c.as_str.ensures (c.next_cluster-cluster.ensures ∙ ap next_cluster c.pool.ensures) (c.in-Ok.ensures.ok told) c.in-Ok-jobs.ensures)
    c.submit.ensures.refused

pub returns-in-Ok-jobs-clause-of_files : goal.returns-in-Ok-jobs-clause-of_files
returns-in-Ok-jobs-clause-of_files g c = of_pool c.args.course.now.pool c.in-Ok-jobs.jobs c.read-reading.result c.submit.result c.submit.ensures.refused

pub returns-in-Ok-jobs-clause-disk_fault : goal.returns-in-Ok-jobs-clause-disk_fault
returns-in-Ok-jobs-clause-disk_fault g c = no_disk c.args.course.now.pool c.in-Ok-jobs.jobs c.read-reading.result _ _ c.submit.result c.submit.ensures.refused

pub returns-clause-refused : goal.returns-clause-refused
returns-clause-refused g c = λ told.
    let number : c.next_cluster-cluster.result ≡ next_cluster c.args.course.now.pool = c.next_cluster-cluster.ensures ∙ ap next_cluster c.pool.ensures in
    rw c.submit_fault.ensures (submit_refused (g.C.Clock.allows c.args.clock.now) (g.D.Store.file c.args.store.now c.args.name.now) c.as_str.result.now c.args.owner.now c.args.course.now.pool c.read-reading.result c.in-Err-jobs.error c.read-reading.ensures.allowed (rw c.as_str.ensures (c.in-Ok.ensures.ok told)) (subst (λ (n : ℕ). UnlessNoMemory (SubmittedJobs c.as_str.result.now (record { cluster = n; owner = c.args.owner.now; now = c.read-reading.result })) (Err c.in-Err-jobs.error)) number c.in-Err-jobs.ensures))

pub returns-clause-of_files : goal.returns-clause-of_files
returns-clause-of_files g c = rw c.submit_fault.ensures (of_submit c.in-Err-jobs.error)

pub returns-clause-disk_fault : goal.returns-clause-disk_fault
returns-clause-disk_fault g c = λ disk. absurd (no_disk_submit c.in-Err-jobs.error (sym c.submit_fault.ensures ∙ disk))

pub returns-in-Err-clause-refused : goal.returns-in-Err-clause-refused
returns-in-Err-clause-refused g c = λ told. no_text_submit (g.C.Clock.allows c.args.clock.now) (g.D.Store.file c.args.store.now c.args.name.now) c.args.owner.now c.args.course.now.pool c.in-Err.fault (c.in-Err.ensures.refused told)
