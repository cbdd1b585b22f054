-- Why a file can't be had, and with which status a run ends then.
use Rattle.std.specs.Prelude.{◌≡◌, ◌⊎◌, ℕ, List}
use Rattle.pool_outer.specs.declared.limit.Which.TheVariants as which
use Rattle.pool_config.specs.declared.error.ConfigError.{ConfigError}
use Rattle.pool_config.specs.declared.error.ConfigError.TheVariants as config
use Rattle.submit_file.specs.declared.error.SubmitError.{SubmitError}
use Rattle.submit_file.specs.declared.error.SubmitError.TheVariants as submit
use Rattle.pool_input.specs.declared.fault.Fault.{Fault}
use Rattle.pool_input.specs.declared.fault.Fault.TheVariants.{Refused, Limit, Disk, Memory}
use Rattle.pool_input.specs.declared.files.ReadError.{ReadError}
use Rattle.pool_input.specs.declared.files.ReadError.TheVariants as read
use Rattle.pool_input.specs.declared.status.Kind.TheVariants as kind
use Rattle.pool_input.specs.declared.status.Status.{Status}
use Rattle.pool_input.specs.declared.status.Status.TheVariants as status

-- of a file that can't be read
abbrev pub read_fault : ReadError → Fault
read_fault read.Missing = Refused 0 kind.Missing
read_fault read.TooLong = Limit which.Input
read_fault read.Failed = Disk
read_fault read.Memory = Memory

-- of a configuration that its reader refuses
abbrev pub config_fault : ConfigError → Fault
config_fault (config.BadLine line) = Refused line kind.BadLine
config_fault (config.Unknown line) = Refused line kind.Unknown
config_fault (config.BadValue line) = Refused line kind.BadValue
config_fault (config.Macro line error) = Refused line kind.Macro
config_fault (config.Machines line) = Limit which.Machines
config_fault (config.Slots line) = Limit which.Slots
config_fault (config.Full line) = Limit which.Attributes
config_fault config.NoMachine = Refused 0 kind.NoMachine
config_fault config.Memory = Memory

-- of a submit file that its reader refuses
abbrev pub submit_fault : SubmitError → Fault
submit_fault (submit.BadLine line) = Refused line kind.BadLine
submit_fault (submit.Unsupported line) = Refused line kind.Unsupported
submit_fault (submit.Universe line) = Refused line kind.Universe
submit_fault (submit.NoExecutable line) = Refused line kind.NoExecutable
submit_fault (submit.BadExpr line) = Refused line kind.BadExpr
submit_fault (submit.Count line) = Limit which.Jobs
submit_fault (submit.Full line) = Limit which.Attributes
submit_fault (submit.Macro line error) = Refused line kind.Macro
submit_fault submit.NoQueue = Refused 0 kind.NoQueue
submit_fault submit.Memory = Memory

-- the status of a run, of the file with that name
abbrev pub fault_status : List ℕ → Fault → Status
fault_status name (Refused line kind) = status.Input name line kind
fault_status name (Limit which) = status.Limit which
fault_status name Disk = status.DiskFault
fault_status name Memory = status.Memory

-- it is one of the file's own: neither the disk failed nor memory ran out
abbrev pub UnlessOut : (Fault → Type 0) → Fault → Type 0
UnlessOut P (Refused line kind) = P (Refused line kind)
UnlessOut P (Limit which) = P (Limit which)
UnlessOut P Disk = Unit {0}
UnlessOut P Memory = Unit {0}

-- the same of a status
abbrev pub UnlessFault : (Status → Type 0) → Status → Type 0
UnlessFault P status.Done = P status.Done
UnlessFault P status.Usage = P status.Usage
UnlessFault P (status.Input name line kind) = P (status.Input name line kind)
UnlessFault P status.Stuck = P status.Stuck
UnlessFault P status.DiskFault = Unit {0}
UnlessFault P status.OutFault = P status.OutFault
UnlessFault P status.Memory = Unit {0}
UnlessFault P (status.BadLog line) = P (status.BadLog line)
UnlessFault P (status.Limit which) = P (status.Limit which)

-- it is the status, or memory ran out while it was made
abbrev pub IsStatus : Status → Status → Type 0
IsStatus wanted s = (s ≡ wanted) ⊎ (s ≡ status.Memory)

-- it is the status, unless the disk failed or memory ran out
abbrev pub IsStatusUnlessFault : Status → Status → Type 0
IsStatusUnlessFault wanted s = (s ≡ wanted) ⊎ ((s ≡ status.Memory) ⊎ (s ≡ status.DiskFault))

-- of the limits, it is one of those of files
abbrev pub IsFileFault : Fault → Type 0
IsFileFault (Refused line kind) = Unit {0}
IsFileFault (Limit which.Machines) = Unit {0}
IsFileFault (Limit which.Slots) = Unit {0}
IsFileFault (Limit which.Jobs) = Unit {0}
IsFileFault (Limit which.Attributes) = Unit {0}
IsFileFault (Limit which.Input) = Unit {0}
IsFileFault (Limit _) = ⊥
IsFileFault Disk = Unit {0}
IsFileFault Memory = Unit {0}
