-- Names in submit files (HTCondor manual, "Submitting a job").
use Rattle.ad_value.specs.Bytes.{code}
use Rattle.std.specs.Prelude.{ℕ, ◌==◌, ◌&&◌, ◌||◌, not, nat_eq, nat_lt, Bool, List, length, take, drop, codes, Option, Some, None, if◌then◌else◌}
use Rattle.std.specs.List.{list_any, prefix_len, position_or_len, before_first, after_first}
use Rattle.ad_value.specs.Names.{same_name}
use Rattle.ad_value.specs.declared.names.job.TheConstants.{CLUSTER_ID, PROC_ID, OWNER, Q_DATE, JOB_STATUS}
use Rattle.ad_value.specs.Groups.{run_names}
use Rattle.ad_token.specs.Names.{is_name_byte, name_length}
use Rattle.ad_token.specs.Blanks.{past_blanks}

-- a byte of a macro's name
abbrev pub is_macro_byte : ℕ → Bool
is_macro_byte b = is_name_byte b || (b == code ".")

-- the macro's name that a text begins with, perhaps empty
abbrev pub macro_name : List ℕ → List ℕ
macro_name bs = take (prefix_len is_macro_byte bs) bs

-- the text after it and the blanks that follow
abbrev pub after_name : List ℕ → List ℕ
after_name bs = past_blanks (drop (prefix_len is_macro_byte bs) bs)

-- a letter or `_`, then letters, digits and `_`
abbrev pub is_plain_name : List ℕ → Bool
is_plain_name name =
    not (nat_eq (length name) 0) && nat_eq (name_length name) (length name)

-- the macros that each job has for itself
unfoldable pub is_built_in : List ℕ → Bool
is_built_in name =
    same_name name (codes "Cluster") || (same_name name (codes "ClusterId")
    || (same_name name (codes "Process") || same_name name (codes "ProcId")))

-- attributes that no line may set
unfoldable pub is_reserved : List ℕ → Bool
is_reserved name =
    same_name name CLUSTER_ID.now || (same_name name PROC_ID.now
    || (same_name name OWNER.now || (same_name name Q_DATE.now
    || (same_name name JOB_STATUS.now || list_any (same_name name) run_names))))

-- commands that this pool has no use for
unfoldable pub is_unsupported : List ℕ → Bool
is_unsupported name =
    same_name name (codes "environment") || (same_name name (codes "env")
    || (same_name name (codes "hold") || (same_name name (codes "docker_image")
    || same_name name (codes "container_image"))))

abbrev pub is_in : List ℕ → Bool
is_in word = same_name word (codes "in")

-- what a queue statement may call its items
abbrev pub is_variable : List ℕ → Bool
is_variable name = is_plain_name name && (not (is_in name) && not (is_built_in name))

-- what follows `MY.`, without case
abbrev pub is_dot : ℕ → Bool
is_dot b = b == code "."

abbrev pub past_my : List ℕ → Option (List ℕ)
past_my name =
    if nat_lt (position_or_len is_dot name) (length name)
    && same_name (before_first is_dot name) (codes "MY")
    then Some (after_first is_dot name)
    else None
