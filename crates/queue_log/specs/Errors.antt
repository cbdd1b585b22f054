-- What becomes of the refusals of the parts that a log stands on.
use Rattle.pool_outer.specs.declared.limit.Which.TheVariants as which
use Rattle.pool_outer.specs.declared.store.StoreError.{StoreError}
use Rattle.pool_outer.specs.declared.store.StoreError.TheVariants as store
use Rattle.queue_record.specs.declared.error.PrintError.{PrintError}
use Rattle.queue_record.specs.declared.error.PrintError.TheVariants as print
use Rattle.queue_record.specs.declared.error.RecordError.{RecordError}
use Rattle.queue_record.specs.declared.error.RecordError.TheVariants as line
use Rattle.receipt_roll.specs.declared.error.RollError.{RollError}
use Rattle.receipt_roll.specs.declared.error.RollError.TheVariants as roll
use Rattle.queue_log.specs.declared.error.LogError.{LogError}
use Rattle.queue_log.specs.declared.error.LogError.TheVariants.{BadRecord, Limit, Disk, Memory}

-- a line that is too long is as bad as one that is no record
abbrev pub of_record : RecordError → LogError
of_record (line.BadRecord n) = BadRecord n
of_record (line.TooLong n) = BadRecord n
of_record line.Memory = Memory

abbrev pub of_print : PrintError → LogError
of_print (print.TooLong op) = Limit which.LogLine
of_print print.Memory = Memory

abbrev pub of_roll : RollError → LogError
of_roll roll.Full = Limit which.Roll
of_roll roll.Memory = Memory

-- a file that isn't there, where it is known to be, is a fault of the disk
abbrev pub of_store : StoreError → LogError
of_store store.Missing = Disk
of_store store.Failed = Disk
of_store store.Memory = Memory
