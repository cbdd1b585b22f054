use Rattle.std.proofs.Common.{◌∙◌, sym}
use Rattle.pool_input.proofs.FileFaults.{of_config, config_refused, no_text_config, no_disk_config}
use Rattle.pool_input.proofs.input.load_config.Goals as goal

pub returns-in-Ok-clause-refused : goal.returns-in-Ok-clause-refused
returns-in-Ok-clause-refused g c = λ told.
    rw c.config_fault.ensures (config_refused (g.D.Store.file c.args.store.now c.args.name.now) c.as_str.result.now c.in-Err-read.error (rw c.as_str.ensures (c.in-Ok.ensures.ok told)) c.in-Err-read.ensures.is)

pub returns-in-Ok-clause-of_files : goal.returns-in-Ok-clause-of_files
returns-in-Ok-clause-of_files g c = rw c.config_fault.ensures (of_config c.in-Err-read.error)

pub returns-in-Ok-clause-disk_fault : goal.returns-in-Ok-clause-disk_fault
returns-in-Ok-clause-disk_fault g c = λ disk. absurd (no_disk_config c.in-Err-read.error (sym c.config_fault.ensures ∙ disk))

pub returns-clause-refused : goal.returns-clause-refused
returns-clause-refused g c = λ told. no_text_config (g.D.Store.file c.args.store.now c.args.name.now) c.in-Err.fault (c.in-Err.ensures.refused told)

pub returns-in-Ok-read-clause-ok : goal.returns-in-Ok-read-clause-ok
returns-in-Ok-read-clause-ok g c = λ told. record {
  text = c.as_str.result.now;
  text_is = rw c.as_str.ensures (c.in-Ok.ensures.ok told);
  is = c.in-Ok-read.ensures.is;
}

pub returns-clause-disk_fault : goal.returns-clause-disk_fault
returns-clause-disk_fault g c = c.in-Err.ensures.disk_fault

pub returns-in-Ok-read-clause-within : goal.returns-in-Ok-read-clause-within
returns-in-Ok-read-clause-within g c = c.in-Ok-read.ensures.within
