-- Reading a whole file.
use Rattle.pool_outer.specs.declared.store.StoreError.{StoreError}
use Rattle.pool_outer.specs.declared.store.StoreError.TheVariants.{Missing, Failed, Memory}
use Rattle.pool_input.specs.declared.files.ReadError.{ReadError}
use Rattle.pool_input.specs.declared.files.ReadError.TheVariants as read

abbrev pub read_error : StoreError → ReadError
read_error Missing = read.Missing
read_error Failed = read.Failed
read_error Memory = read.Memory
