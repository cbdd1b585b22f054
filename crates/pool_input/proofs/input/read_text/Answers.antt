use Rattle.std.proofs.Common.{◌∙◌, Err, ap, sym}
use Rattle.pool_input.proofs.FileFaults.{of_read, unread, no_utf8, text_read, disk_read, no_disk_line}
use Rattle.pool_input.proofs.input.read_text.Goals as goal

pub returns-in-Err-clause-refused : goal.returns-in-Err-clause-refused
returns-in-Err-clause-refused g c = λ told.
    rw c.from.ensures (unread (g.D.Store.file c.args.store.now c.args.name.now) c.in-Err.error (λ is. c.in-Err.ensures.missing told (ap Err is)) (λ is. c.in-Err.ensures.too_long told (ap Err is)))

pub returns-in-Err-clause-of_files : goal.returns-in-Err-clause-of_files
returns-in-Err-clause-of_files g c = rw c.from.ensures (of_read c.in-Err.error)

pub returns-in-None-clause-refused : goal.returns-in-None-clause-refused
returns-in-None-clause-refused g c = λ told. no_utf8 (g.D.Store.file c.args.store.now c.args.name.now) c.in-Ok.bytes.items (c.in-Ok.ensures.bytes told) c.in-Ok.ensures.short c.in-None.ensures

pub returns-in-Some-clause-ok : goal.returns-in-Some-clause-ok
returns-in-Some-clause-ok g c = λ told. text_read (g.D.Store.file c.args.store.now c.args.name.now) c.in-Ok.bytes.items c.in-Some.text (c.in-Ok.ensures.bytes told) c.in-Ok.ensures.short c.in-Some.ensures

pub returns-in-Err-clause-disk_fault : goal.returns-in-Err-clause-disk_fault
returns-in-Err-clause-disk_fault g c = λ disk. c.in-Err.ensures.cause.rose (ap Err (disk_read c.in-Err.error (sym c.from.ensures ∙ disk)))

pub returns-in-None-clause-disk_fault : goal.returns-in-None-clause-disk_fault
returns-in-None-clause-disk_fault g c = λ disk. absurd (no_disk_line _ _ disk)
