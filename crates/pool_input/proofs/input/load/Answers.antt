use Rattle.std.proofs.Common.{◌∙◌, Err}
use Rattle.pool_config.specs.Configuration.{configuration_of}
use Rattle.pool_input.specs.Readings.{IsAnyReading}
use Rattle.pool_input.specs.Words.{file_names}
use Rattle.pool_input.proofs.Loading.{config_stops, submit_stops, input_of, disk_since}
use Rattle.pool_input.proofs.OneStatus.{refusal_comes}
use Rattle.pool_input.proofs.FileByFile.{disk_of}
use Rattle.pool_input.proofs.Stores.{same_twice}
use Rattle.pool_input.proofs.input.load.Goals as goal

pub returns-in-Ok-clause-ok : goal.returns-in-Ok-clause-ok
returns-in-Ok-clause-ok g c = λ told. rw (← c.as_slice.ensures.value) (input_of (g.C.Clock.allows c.args.clock.now) (g.D.Store.file c.args.store.now) (g.D.Store.file c.load_config.new.store) c.args.named.now.config.now (file_names c.as_slice.result.now) (configuration_of c.in-Ok.config) c.load_submits.result (λ n. (c.in-Ok.ensures.same told n).0) (c.in-Ok.ensures.ok told) c.load_submits.ensures.opening (c.load_submits.ensures.ok (c.in-Ok.ensures.told ∙ told)))

pub returns-in-Ok-clause-refused : goal.returns-in-Ok-clause-refused
returns-in-Ok-clause-refused g c = λ told. rw (← c.as_slice.ensures.value) (submit_stops (g.C.Clock.allows c.args.clock.now) (g.D.Store.file c.args.store.now) (g.D.Store.file c.load_config.new.store) c.args.named.now.config.now (file_names c.as_slice.result.now) (configuration_of c.in-Ok.config) c.load_submits.result (λ n. (c.in-Ok.ensures.same told n).0) (c.in-Ok.ensures.ok told) (c.load_submits.ensures.refused (c.in-Ok.ensures.told ∙ told)))

pub returns-in-Err-clause-refused : goal.returns-in-Err-clause-refused
returns-in-Err-clause-refused g c = λ told. config_stops (g.C.Clock.allows c.args.clock.now) (g.D.Store.file c.args.store.now) c.args.named.now.config.now (file_names c.args.named.now.submits.items) c.in-Err.fault c.fault_status.result (c.in-Err.ensures.refused told) c.fault_status.ensures.status

pub returns-in-Ok-clause-refused_comes : goal.returns-in-Ok-clause-refused_comes
returns-in-Ok-clause-refused_comes g c = λ told. rw (← c.as_slice.ensures.value) (refusal_comes (g.C.Clock.allows c.args.clock.now) IsAnyReading (g.D.Store.file c.args.store.now) c.args.named.now.config.now (file_names c.as_slice.result.now) c.load_submits.result
    (input_of (g.C.Clock.allows c.args.clock.now) (g.D.Store.file c.args.store.now) (g.D.Store.file c.load_config.new.store) c.args.named.now.config.now (file_names c.as_slice.result.now) (configuration_of c.in-Ok.config) c.load_submits.result (λ n. (c.in-Ok.ensures.same told n).0) (c.in-Ok.ensures.ok told) c.load_submits.ensures.opening (c.load_submits.ensures.ok (c.in-Ok.ensures.told ∙ told)))
    (submit_stops (g.C.Clock.allows c.args.clock.now) (g.D.Store.file c.args.store.now) (g.D.Store.file c.load_config.new.store) c.args.named.now.config.now (file_names c.as_slice.result.now) (configuration_of c.in-Ok.config) c.load_submits.result (λ n. (c.in-Ok.ensures.same told n).0) (c.in-Ok.ensures.ok told) (c.load_submits.ensures.refused (c.in-Ok.ensures.told ∙ told))))

pub returns-in-Err-clause-refused_comes : goal.returns-in-Err-clause-refused_comes
returns-in-Err-clause-refused_comes g c = λ told. refusal_comes (g.C.Clock.allows c.args.clock.now) IsAnyReading (g.D.Store.file c.args.store.now) c.args.named.now.config.now (file_names c.args.named.now.submits.items) (Err c.fault_status.result) tt
    (config_stops (g.C.Clock.allows c.args.clock.now) (g.D.Store.file c.args.store.now) c.args.named.now.config.now (file_names c.args.named.now.submits.items) c.in-Err.fault c.fault_status.result (c.in-Err.ensures.refused told) c.fault_status.ensures.status)

pub returns-in-Err-clause-disk_fault : goal.returns-in-Err-clause-disk_fault
returns-in-Err-clause-disk_fault g c = λ disk. c.in-Err.ensures.disk_fault (disk_of c.args.named.now.config.now c.in-Err.fault c.fault_status.result c.fault_status.ensures.status disk)

pub returns-in-Ok-clause-disk_fault : goal.returns-in-Ok-clause-disk_fault
returns-in-Ok-clause-disk_fault g c = disk_since c.load_submits.result _ _ _ c.in-Ok.ensures.later c.load_submits.ensures.disk_fault

pub load_submits-requires-clause-within : goal.load_submits-requires-clause-within
load_submits-requires-clause-within g c = c.in-Ok.ensures.within

pub returns-in-Ok-clause-same : goal.returns-in-Ok-clause-same
returns-in-Ok-clause-same g c = λ told. same_twice g.D.Store.file g.D.Store.solid c.args.store.now c.load_config.new.store _ (c.in-Ok.ensures.same told) (c.load_submits.ensures.same (c.in-Ok.ensures.told ∙ told))
