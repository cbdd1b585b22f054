-- Why files can't be had: each cause is one of files, and one of the refusals that are defined.
use Rattle.std.proofs.Common.{◌≡◌, inl, inr, ℕ, ◌<◌, ◌≤◌, List, length, Option, Some, None, Err, refl, sym, subst}
use Rattle.std.specs.Option.{option_map}
use Rattle.std.specs.Str.{IsUtf8}
use Rattle.pool_outer.specs.declared.limit.Which.{Which}
use Rattle.pool_outer.specs.declared.limit.Which.TheVariants as which
use Rattle.pool_config.specs.declared.error.ConfigError.{ConfigError}
use Rattle.pool_config.specs.declared.error.ConfigError.TheVariants as config
use Rattle.pool_config.specs.Errors.{UnlessMemory}
use Rattle.pool_config.specs.Lines.{IsConfiguration}
use Rattle.submit_file.specs.declared.error.SubmitError.{SubmitError}
use Rattle.submit_file.specs.declared.error.SubmitError.TheVariants as submit
use Rattle.submit_file.specs.Errors.{UnlessMemory as UnlessNoMemory}
use Rattle.submit_file.specs.SubmittedJobs.{SubmittedJobs}
use Rattle.thin_pool.specs.PoolValue.{PoolValue}
use Rattle.thin_pool.specs.Reactions.{next_cluster}
use Rattle.pool_input.specs.declared.fault.Fault.{Fault}
use Rattle.pool_input.specs.declared.fault.Fault.TheVariants as fault
use Rattle.pool_input.specs.declared.files.ReadError.{ReadError}
use Rattle.pool_input.specs.declared.files.ReadError.TheVariants as read
use Rattle.pool_input.specs.declared.files.TheConstants.{MOST_BYTES}
use Rattle.pool_input.specs.declared.status.Kind.{Kind}
use Rattle.pool_input.specs.declared.status.Kind.TheVariants as kind
use Rattle.pool_input.specs.declared.status.Status.TheVariants as status
use Rattle.pool_input.specs.Faults.{read_fault, config_fault, submit_fault, UnlessOut, IsFileFault}
use Rattle.pool_input.specs.Input.{IsConfigRefused, refused, no_text}
use Rattle.pool_input.specs.Status.{stage_of, IsAtFiles}
use Rattle.pool_input.specs.Submissions as files
use Rattle.pool_input.specs.Submissions.{IsTextOf, HasNoText, AsksFor, IsSubmitRefused}

-- ---- the limits that files reach

pub file_limit : (w : Which) → IsFileFault (fault.Limit w) → IsAtFiles (stage_of (status.Limit w))
file_limit which.Machines is = tt
file_limit which.Slots is = tt
file_limit which.Jobs is = tt
file_limit which.Attributes is = tt
file_limit which.LogLine is = absurd is
file_limit which.Input is = tt
file_limit which.Bytes is = absurd is
file_limit which.Roll is = absurd is
file_limit which.Events is = absurd is
file_limit which.Users is = absurd is
file_limit which.Boots is = absurd is

pub of_config : (e : ConfigError) → IsFileFault (config_fault e)
of_config (config.BadLine n) = tt
of_config (config.Unknown n) = tt
of_config (config.BadValue n) = tt
of_config (config.Macro n f) = tt
of_config (config.Machines n) = tt
of_config (config.Slots n) = tt
of_config (config.Full n) = tt
of_config config.NoMachine = tt
of_config config.Memory = tt

pub of_submit : (e : SubmitError) → IsFileFault (submit_fault e)
of_submit (submit.BadLine n) = tt
of_submit (submit.Unsupported n) = tt
of_submit (submit.Universe n) = tt
of_submit (submit.NoExecutable n) = tt
of_submit (submit.BadExpr n) = tt
of_submit (submit.Count n) = tt
of_submit (submit.Full n) = tt
of_submit (submit.Macro n f) = tt
of_submit submit.NoQueue = tt
of_submit submit.Memory = tt

pub of_read : (e : ReadError) → IsFileFault (read_fault e)
of_read read.Missing = tt
of_read read.TooLong = tt
of_read read.Failed = tt
of_read read.Memory = tt

-- ---- refusals

pub config_refused : (file : Option (List ℕ)) (text : List ℕ) (e : ConfigError) → IsTextOf file text → UnlessMemory (IsConfiguration text) (Err e) → UnlessOut (IsConfigRefused file) (config_fault e)
config_refused file text (config.BadLine n) is means = refused is means
config_refused file text (config.Unknown n) is means = refused is means
config_refused file text (config.BadValue n) is means = refused is means
config_refused file text (config.Macro n f) is means = refused is means
config_refused file text (config.Machines n) is means = refused is means
config_refused file text (config.Slots n) is means = refused is means
config_refused file text (config.Full n) is means = refused is means
config_refused file text config.NoMachine is means = refused is means
config_refused file text config.Memory is means = tt

asks_for : (file : Option (List ℕ)) (text owner : List ℕ) (cluster t : ℕ) (e : SubmitError) → IsTextOf file text → SubmittedJobs text (record { cluster = cluster; owner = owner; now = t }) (Err e) → AsksFor file owner cluster t (Err e)
asks_for file text owner cluster t e is means = record { text = text; text_is = is; jobs = means }

pub submit_refused : (allows : ℕ → Type 0) (file : Option (List ℕ)) (text owner : List ℕ) (p : PoolValue) (t : ℕ) (e : SubmitError) → allows t → IsTextOf file text → UnlessNoMemory (SubmittedJobs text (record { cluster = next_cluster p; owner = owner; now = t })) (Err e) → UnlessOut (IsSubmitRefused allows file owner p) (submit_fault e)
submit_refused allows file text owner p t (submit.BadLine n) may is means = files.refused may (asks_for file text owner (next_cluster p) t (submit.BadLine n) is means)
submit_refused allows file text owner p t (submit.Unsupported n) may is means = files.refused may (asks_for file text owner (next_cluster p) t (submit.Unsupported n) is means)
submit_refused allows file text owner p t (submit.Universe n) may is means = files.refused may (asks_for file text owner (next_cluster p) t (submit.Universe n) is means)
submit_refused allows file text owner p t (submit.NoExecutable n) may is means = files.refused may (asks_for file text owner (next_cluster p) t (submit.NoExecutable n) is means)
submit_refused allows file text owner p t (submit.BadExpr n) may is means = files.refused may (asks_for file text owner (next_cluster p) t (submit.BadExpr n) is means)
submit_refused allows file text owner p t (submit.Count n) may is means = files.refused may (asks_for file text owner (next_cluster p) t (submit.Count n) is means)
submit_refused allows file text owner p t (submit.Full n) may is means = files.refused may (asks_for file text owner (next_cluster p) t (submit.Full n) is means)
submit_refused allows file text owner p t (submit.Macro n f) may is means = files.refused may (asks_for file text owner (next_cluster p) t (submit.Macro n f) is means)
submit_refused allows file text owner p t submit.NoQueue may is means = files.refused may (asks_for file text owner (next_cluster p) t submit.NoQueue is means)
submit_refused allows file text owner p t submit.Memory may is means = tt

-- a file without a text is refused as that
pub no_text_config : (file : Option (List ℕ)) (f : Fault) → UnlessOut (HasNoText file) f → UnlessOut (IsConfigRefused file) f
no_text_config file (fault.Refused n k) is = no_text is
no_text_config file (fault.Limit w) is = no_text is
no_text_config file fault.Disk is = tt
no_text_config file fault.Memory is = tt

pub no_text_submit : (allows : ℕ → Type 0) (file : Option (List ℕ)) (owner : List ℕ) (p : PoolValue) (f : Fault) → UnlessOut (HasNoText file) f → UnlessOut (IsSubmitRefused allows file owner p) f
no_text_submit allows file owner p (fault.Refused n k) is = files.no_text is
no_text_submit allows file owner p (fault.Limit w) is = files.no_text is
no_text_submit allows file owner p fault.Disk is = tt
no_text_submit allows file owner p fault.Memory is = tt

too_large : (file : Option (List ℕ)) (n : ℕ) → option_map length file ≡ Some n → MOST_BYTES < n → HasNoText file (fault.Limit which.Input)
too_large None n is above = cc
too_large (Some bytes) n is above = let same : length bytes ≡ n = cc in inl (subst (λ (k : ℕ). MOST_BYTES < k) (sym same) above, refl)

pub unread : (file : Option (List ℕ)) (e : ReadError) → (e ≡ read.Missing → file ≡ None) → (e ≡ read.TooLong → (n : ℕ) × (option_map length file ≡ Some n) × (MOST_BYTES < n)) → UnlessOut (HasNoText file) (read_fault e)
unread file read.Missing missing large = rw (missing refl) refl
unread file read.TooLong missing large = let l = large refl in too_large file l.0 l.1 l.2
unread file read.Failed missing large = tt
unread file read.Memory missing large = tt

-- a file's text is its bytes
pub text_read : (file : Option (List ℕ)) (bytes text : List ℕ) → file ≡ Some bytes → length bytes ≤ MOST_BYTES → (text ≡ bytes) × IsUtf8 bytes → IsTextOf file text
text_read file bytes text there short is = rw is.0 (record { there = there; short = short; utf8 = is.1 })

pub no_utf8 : (file : Option (List ℕ)) (bytes : List ℕ) → file ≡ Some bytes → length bytes ≤ MOST_BYTES → ¬ IsUtf8 bytes → HasNoText file (fault.Refused 0 kind.NotText)
no_utf8 file bytes there short bad = rw there (inr (short, bad, refl))

pub disk_read : (e : ReadError) → read_fault e ≡ fault.Disk → e ≡ read.Failed
disk_read read.Missing is = cc
disk_read read.TooLong is = cc
disk_read read.Failed is = refl
disk_read read.Memory is = cc

pub no_disk_line : (n : ℕ) (k : Kind) → fault.Refused n k ≡ fault.Disk → ⊥
no_disk_line n k is = cc

pub no_disk_config : (e : ConfigError) → config_fault e ≡ fault.Disk → ⊥
no_disk_config (config.BadLine n) is = cc
no_disk_config (config.Unknown n) is = cc
no_disk_config (config.BadValue n) is = cc
no_disk_config (config.Macro n f) is = cc
no_disk_config (config.Machines n) is = cc
no_disk_config (config.Slots n) is = cc
no_disk_config (config.Full n) is = cc
no_disk_config config.NoMachine is = cc
no_disk_config config.Memory is = cc

pub no_disk_submit : (e : SubmitError) → submit_fault e ≡ fault.Disk → ⊥
no_disk_submit (submit.BadLine n) is = cc
no_disk_submit (submit.Unsupported n) is = cc
no_disk_submit (submit.Universe n) is = cc
no_disk_submit (submit.NoExecutable n) is = cc
no_disk_submit (submit.BadExpr n) is = cc
no_disk_submit (submit.Count n) is = cc
no_disk_submit (submit.Full n) is = cc
no_disk_submit (submit.Macro n f) is = cc
no_disk_submit submit.NoQueue is = cc
no_disk_submit submit.Memory is = cc
