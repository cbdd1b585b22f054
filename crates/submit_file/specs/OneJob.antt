-- The ad of a job that a submit file asks for (HTCondor manual, "Submitting a job").
use Rattle.std.specs.Prelude.{◌≡◌, ℕ, pos, List, [], ◌∷◌, ◌++◌, map, Some, None, Result, Ok, Err}
use Rattle.ad_value.specs.Content.{integer}
use Rattle.ad_value.specs.declared.names.job.TheConstants.{CLUSTER_ID, PROC_ID, Q_DATE, JOB_UNIVERSE, JOB_STATUS}
use Rattle.ad_tree.specs.Tree.{Tree, literal}
use Rattle.ad_tree.specs.Ad.{Attributes}
use Rattle.line_text.specs.Macros.{Macros}
use Rattle.submit_lines.specs.declared.command.Command.{Command}
use Rattle.submit_lines.specs.declared.command.Command.TheVariants as submit
use Rattle.submit_file.specs.declared.draft.Place.{Place}
use Rattle.submit_file.specs.declared.error.SubmitError.{SubmitError}
use Rattle.submit_file.specs.declared.setting.LinesSoFar.{LinesSoFar}
use Rattle.submit_file.specs.declared.setting.Setting.{Setting}
use Rattle.submit_file.specs.declared.statement.Heading.{Heading}
use Rattle.submit_file.specs.Errors.{Replaced}
use Rattle.submit_file.specs.Drafts.{JobDraft, Effect, named_value, macro_refusal, with_given, with_effect, ad_of}
use Rattle.submit_file.specs.Origins.{Origin, owner_command, other_command, own_line, setting_for, name_for, value_for, preset_for}

-- what the ads of a file have in common
pub record Common : Type 0 where
  pub cluster : ℕ
  pub owner : List ℕ
  pub now : ℕ

abbrev pub common : Heading → Common
common h = record { cluster = h.cluster; owner = h.owner.now; now = h.now }

abbrev pub whole : ℕ → Tree
whole n = literal (integer (pos n))

abbrev pub place_of : Setting → ℕ → Place
place_of s n = record { line = s.line; statement = n }

-- what is set for an attribute, once its macros are replaced
abbrev pub effect_at : Origin → Place → Result (List ℕ) SubmitError → Effect
effect_at o p (Ok x) = named_value (name_for o x) p (value_for o x)
effect_at o p (Err f) = macro_refusal f

-- an attribute over a job's macros, at a queue statement in line n
pub data Gives (h : Common) (f : LinesSoFar) (t : Macros) (n : ℕ) (o : Origin)
    : Effect → Type 0 where
  nothing_set : setting_for f o ≡ None
      → Gives h f t n o
      (named_value (name_for o []) (record { line = n; statement = n }) (preset_for h.owner o))
  is_set : {s : Setting} {r : Result (List ℕ) SubmitError} → setting_for f o ≡ Some s
      → Replaced t s.value s.line r → Gives h f t n o (effect_at o (place_of s n) r)

pub data Takes (h : Common) (f : LinesSoFar) (t : Macros) (n : ℕ) (o : Origin) (d : JobDraft)
    : JobDraft → Type 0 where
  takes : {e : Effect} → Gives h f t n o e → Takes h f t n o d (with_effect e d)

-- attributes in order of place
pub data TakesAll (h : Common) (f : LinesSoFar) (t : Macros) (n : ℕ)
    : List Origin → JobDraft → JobDraft → Type 0 where
  all_taken : {d : JobDraft} → TakesAll h f t n [] d d
  and_takes : {o : Origin} {os : List Origin} {d e g : JobDraft}
      → Takes h f t n o d e → TakesAll h f t n os e g → TakesAll h f t n (o ∷ os) d g

-- in the order of their attributes
abbrev pub commands : List Command
commands =
    submit.Executable ∷ submit.Arguments ∷ submit.Universe
    ∷ submit.InitialDir ∷ submit.Input ∷ submit.Output ∷ submit.Error ∷ submit.Log
    ∷ submit.Priority ∷ submit.Requirements ∷ submit.Rank
    ∷ submit.RequestCpus ∷ submit.RequestMemory ∷ submit.RequestDisk
    ∷ submit.JobLeaseDuration
    ∷ submit.OnExitHold ∷ submit.OnExitRemove
    ∷ submit.PeriodicHold ∷ submit.PeriodicRemove ∷ submit.PeriodicRelease ∷ []

-- the commands, and the lines of attributes
abbrev pub origins : LinesSoFar → List Origin
origins f = map (λ c. other_command c) commands ++ map (λ s. own_line s) f.attributes

abbrev pub numbered : Common → ℕ → JobDraft → JobDraft
numbered h proc d =
    with_given PROC_ID.now (whole proc) (with_given CLUSTER_ID.now (whole h.cluster) d)

abbrev pub queued : Common → JobDraft → JobDraft
queued h d =
    with_given JOB_STATUS.now (whole 1)
    (with_given JOB_UNIVERSE.now (whole 5) (with_given Q_DATE.now (whole h.now) d))

-- the attributes of a job, in their order
pub data Fills (h : Common) (f : LinesSoFar) (t : Macros) (proc n : ℕ) (d : JobDraft)
    : JobDraft → Type 0 where
  fills : {e g : JobDraft} → Takes h f t n owner_command (numbered h proc d) e
      → TakesAll h f t n (origins f) (queued h e) g → Fills h f t proc n d g

abbrev pub nothing : JobDraft
nothing = record { ad = Some []; refusal = None }

-- The ad of a job, of a queue statement in line n; or else the refusal with the least line of its
-- values, or that there is no room.
pub data IsJob (h : Common) (f : LinesSoFar) (t : Macros) (proc n : ℕ)
    : Result Attributes SubmitError → Type 0 where
  is_job : {d : JobDraft} → Fills h f t proc n nothing d → IsJob h f t proc n (ad_of n d)
