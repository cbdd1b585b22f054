-- What becomes of the refusals of the parts of an opening.
use Rattle.pool_outer.specs.declared.store.StoreError.{StoreError}
use Rattle.pool_outer.specs.declared.store.StoreError.TheVariants as store
use Rattle.pool_store.specs.declared.error.BootError.{BootError}
use Rattle.pool_store.specs.declared.error.BootError.TheVariants as bytes
use Rattle.pool_store.specs.declared.error.OpenBootsError.{OpenBootsError}
use Rattle.pool_store.specs.declared.error.OpenBootsError.TheVariants.{BadNumber, Failed, Memory}

abbrev pub of_bytes : BootError → OpenBootsError
of_bytes (bytes.BadNumber line) = BadNumber line

-- a file that isn't there, where it is known to be, is a fault of the disk
abbrev pub of_store : StoreError → OpenBootsError
of_store store.Missing = Failed
of_store store.Failed = Failed
of_store store.Memory = Memory
