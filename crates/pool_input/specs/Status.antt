-- When a status comes, what it prints, and its number.
use Rattle.std.specs.Prelude.{ℕ, List, [], ◌++◌, codes, decimal}
use Rattle.pool_outer.specs.declared.limit.Which.{Which}
use Rattle.pool_outer.specs.declared.limit.Which.TheVariants as which
use Rattle.pool_input.specs.declared.status.Kind.{Kind}
use Rattle.pool_input.specs.declared.status.Kind.TheVariants as kind
use Rattle.pool_input.specs.declared.status.Status.{Status}
use Rattle.pool_input.specs.declared.status.Status.TheVariants as status

abbrev pub kind_name : Kind → List ℕ
kind_name kind.Missing = codes "Missing"
kind_name kind.NotText = codes "NotText"
kind_name kind.BadLine = codes "BadLine"
kind_name kind.Unknown = codes "Unknown"
kind_name kind.BadValue = codes "BadValue"
kind_name kind.Macro = codes "Macro"
kind_name kind.NoMachine = codes "NoMachine"
kind_name kind.Unsupported = codes "Unsupported"
kind_name kind.Universe = codes "Universe"
kind_name kind.NoExecutable = codes "NoExecutable"
kind_name kind.BadExpr = codes "BadExpr"
kind_name kind.NoQueue = codes "NoQueue"

abbrev pub limit_name : Which → List ℕ
limit_name which.Machines = codes "Machines"
limit_name which.Slots = codes "Slots"
limit_name which.Jobs = codes "Jobs"
limit_name which.Attributes = codes "Attributes"
limit_name which.LogLine = codes "LogLine"
limit_name which.Input = codes "Input"
limit_name which.Bytes = codes "Bytes"
limit_name which.Roll = codes "Roll"
limit_name which.Events = codes "Events"
limit_name which.Users = codes "Users"
limit_name which.Boots = codes "Boots"

-- the line for a person
abbrev pub line_of : Status → List ℕ
line_of status.Done = []
line_of status.Stuck = []
line_of status.Usage = codes "usage: condor_pool run CONFIG [SUBMIT ...]"
line_of (status.Input file line kind) = codes "input: "
    ++ (file ++ (codes ":" ++ (decimal line ++ (codes ": " ++ kind_name kind))))
line_of status.DiskFault = codes "disk fault"
line_of status.OutFault = codes "output fault"
line_of status.Memory = codes "out of memory"
line_of (status.BadLog line) = codes "log: line " ++ decimal line
line_of (status.Limit which) = codes "limit: " ++ limit_name which

-- the exit status
abbrev pub status_number : Status → ℕ
status_number status.Done = 0
status_number status.Usage = 1
status_number (status.Input file line kind) = 2
status_number status.Stuck = 3
status_number status.DiskFault = 4
status_number status.OutFault = 5
status_number status.Memory = 6
status_number (status.BadLog line) = 7
status_number (status.Limit which) = 8

-- when a run ends with a status
pub data Stage : Type 0 where
  AtWords : Stage
  AtFiles : Stage
  AtAnyTime : Stage
  AfterClose : Stage
  -- no run of today's pool, which has no queue log and counts neither bytes nor events
  Later : Stage

abbrev pub limit_stage : Which → Stage
limit_stage which.Machines = AtFiles
limit_stage which.Slots = AtFiles
limit_stage which.Jobs = AtFiles
limit_stage which.Attributes = AtFiles
limit_stage which.Input = AtFiles
limit_stage which.LogLine = Later
limit_stage which.Bytes = Later
limit_stage which.Roll = Later
limit_stage which.Events = Later
limit_stage which.Users = Later
limit_stage which.Boots = Later

abbrev pub stage_of : Status → Stage
stage_of status.Done = AfterClose
stage_of status.Usage = AtWords
stage_of (status.Input file line kind) = AtFiles
stage_of status.Stuck = AfterClose
stage_of status.DiskFault = AtFiles
stage_of status.OutFault = AfterClose
stage_of status.Memory = AtAnyTime
stage_of (status.BadLog line) = Later
stage_of (status.Limit which) = limit_stage which

-- before a pool is opened, and only then
abbrev pub IsBeforePool : Stage → Type 0
IsBeforePool AtWords = Unit {0}
IsBeforePool AtFiles = Unit {0}
IsBeforePool _ = ⊥

-- while the files are read
abbrev pub IsAtFiles : Stage → Type 0
IsAtFiles AtFiles = Unit {0}
IsAtFiles AtAnyTime = Unit {0}
IsAtFiles _ = ⊥

-- once the files were read
abbrev pub IsAfterFiles : Stage → Type 0
IsAfterFiles AfterClose = Unit {0}
IsAfterFiles AtAnyTime = Unit {0}
IsAfterFiles _ = ⊥

abbrev pub IsToday : Stage → Type 0
IsToday Later = ⊥
IsToday _ = Unit {0}

-- a file is refused
abbrev pub IsRefusal : Status → Type 0
IsRefusal (status.Input file line kind) = Unit {0}
IsRefusal (status.Limit which) = Unit {0}
IsRefusal _ = ⊥
