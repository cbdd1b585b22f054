-- Commands of a submit file and the attributes that they make (HTCondor manual, "condor_submit",
-- "Job ClassAd Attributes").
use Rattle.ad_value.specs.Bytes.{code}
use Rattle.std.specs.Prelude.{ℕ, ◌==◌, List, [], codes, slice_index, if◌then◌else◌}
use Rattle.ad_value.specs.declared.names.job.TheConstants.{ARGS, ARGUMENTS, CMD, ERR, IN, IWD, JOB_LEASE_DURATION, JOB_PRIO, ON_EXIT_HOLD, ON_EXIT_REMOVE, OUT, PERIODIC_HOLD, PERIODIC_RELEASE, PERIODIC_REMOVE, REQUEST_CPUS, REQUEST_DISK, REQUEST_MEMORY, USER_LOG}
use Rattle.ad_value.specs.declared.names.matching.TheConstants.{REQUIREMENTS, RANK}
use Rattle.submit_lines.specs.declared.command.Command.{Command}
use Rattle.submit_lines.specs.declared.command.Command.TheVariants.{Executable, Arguments, Universe, InitialDir, Input, Output, Error, Log, Priority, Requirements, Rank, RequestCpus, RequestMemory, RequestDisk, JobLeaseDuration, OnExitHold, OnExitRemove, PeriodicHold, PeriodicRemove, PeriodicRelease}

abbrev pub command_name : Command → List ℕ
command_name Executable = codes "executable"
command_name Arguments = codes "arguments"
command_name Universe = codes "universe"
command_name InitialDir = codes "initialdir"
command_name Input = codes "input"
command_name Output = codes "output"
command_name Error = codes "error"
command_name Log = codes "log"
command_name Priority = codes "priority"
command_name Requirements = codes "requirements"
command_name Rank = codes "rank"
command_name RequestCpus = codes "request_cpus"
command_name RequestMemory = codes "request_memory"
command_name RequestDisk = codes "request_disk"
command_name JobLeaseDuration = codes "job_lease_duration"
command_name OnExitHold = codes "on_exit_hold"
command_name OnExitRemove = codes "on_exit_remove"
command_name PeriodicHold = codes "periodic_hold"
command_name PeriodicRemove = codes "periodic_remove"
command_name PeriodicRelease = codes "periodic_release"

-- arguments in double quotes are another attribute; the universe sets none
abbrev pub attribute_name : Command → List ℕ → List ℕ
attribute_name Executable text = CMD.now
attribute_name Arguments text =
    if slice_index text 0 == code "\"" then ARGUMENTS.now else ARGS.now
attribute_name Universe text = []
attribute_name InitialDir text = IWD.now
attribute_name Input text = IN.now
attribute_name Output text = OUT.now
attribute_name Error text = ERR.now
attribute_name Log text = USER_LOG.now
attribute_name Priority text = JOB_PRIO.now
attribute_name Requirements text = REQUIREMENTS.now
attribute_name Rank text = RANK.now
attribute_name RequestCpus text = REQUEST_CPUS.now
attribute_name RequestMemory text = REQUEST_MEMORY.now
attribute_name RequestDisk text = REQUEST_DISK.now
attribute_name JobLeaseDuration text = JOB_LEASE_DURATION.now
attribute_name OnExitHold text = ON_EXIT_HOLD.now
attribute_name OnExitRemove text = ON_EXIT_REMOVE.now
attribute_name PeriodicHold text = PERIODIC_HOLD.now
attribute_name PeriodicRemove text = PERIODIC_REMOVE.now
attribute_name PeriodicRelease text = PERIODIC_RELEASE.now
