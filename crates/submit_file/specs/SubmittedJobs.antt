-- The ads of the jobs that a submit file asks for (HTCondor manual, "Submitting a job").
use Rattle.std.specs.Prelude.{◌≡◌, ◌<◌, ◌≤◌, ℕ, ◌+◌, ◌*◌, Bool, true, false, List, [], ◌∷◌, ◌++◌, length, codes, replicate, flat_map, decimal, Option, Some, None, Result, Ok, Err}
use Rattle.ad_tree.specs.Ad.{Attributes}
use Rattle.line_text.specs.declared.logical.Line.{Line}
use Rattle.line_text.specs.Lines.{logical_lines}
use Rattle.submit_lines.specs.declared.line.LineFault.{LineFault}
use Rattle.submit_lines.specs.declared.line.LineFault.TheVariants as line
use Rattle.submit_lines.specs.declared.queue.Queue.{Queue}
use Rattle.submit_lines.specs.declared.queue.Over.{Over}
use Rattle.submit_lines.specs.Lines as meaning
use Rattle.submit_lines.specs.Lines.{line_of}
use Rattle.submit_lines.specs.Names.{is_built_in}
use Rattle.submit_lines.specs.Queue.{queue_of}
use Rattle.submit_file.specs.declared.error.SubmitError.{SubmitError}
use Rattle.submit_file.specs.declared.error.SubmitError.TheVariants as error
use Rattle.submit_file.specs.declared.error.TheConstants.{MAX_JOBS}
use Rattle.submit_file.specs.declared.setting.LinesSoFar.{LinesSoFar}
use Rattle.submit_file.specs.declared.setting.Setting.{Setting}
use Rattle.submit_file.specs.Errors.{Replaced}
use Rattle.submit_file.specs.OneJob.{Common, IsJob}
use Rattle.submit_file.specs.Settings.{with_setting, setting_of}
use Rattle.submit_file.specs.declared.file.FileSoFar.{FileSoFar}
use Rattle.submit_file.specs.JobMacros.{with_own, job_macros}

-- ---- the jobs of a queue statement

-- the item of each, where there are items: each item gives the copies
abbrev pub over_items : ℕ → List ℕ → List (List ℕ) → List (Option (List ℕ × List ℕ))
over_items n v is = flat_map (λ i. replicate n (Some (v, i))) is

abbrev pub items_of : ℕ → Option Over → List (Option (List ℕ × List ℕ))
items_of n None = replicate n None
items_of n (Some o) = over_items n o.variable o.items

abbrev pub AdsResult : Type 0
AdsResult = Result (List Attributes) SubmitError

-- the ads so far with those of the jobs, or the refusal of the first job that is refused
pub data MakesJobs (h : Common) (f : LinesSoFar) (n : ℕ)
    : List (Option (List ℕ × List ℕ)) → List Attributes → AdsResult → Type 0 where
  jobs_end : {ads : List Attributes} → MakesJobs h f n [] ads (Ok ads)
  stops : {i : Option (List ℕ × List ℕ)} {is : List (Option (List ℕ × List ℕ))}
      {ads : List Attributes} {g : SubmitError}
      → IsJob h f (job_macros (decimal (length ads)) i f.table) (length ads) n (Err g)
      → MakesJobs h f n (i ∷ is) ads (Err g)
  and_job : {i : Option (List ℕ × List ℕ)} {is : List (Option (List ℕ × List ℕ))}
      {ads : List Attributes} {ad : Attributes} {r : AdsResult}
      → IsJob h f (job_macros (decimal (length ads)) i f.table) (length ads) n (Ok ad)
      → MakesJobs h f n is (ads ++ ad ∷ []) r → MakesJobs h f n (i ∷ is) ads r

-- A part of the jobs is made: what is made of the rest is made of all, and its refusal is one of
-- all.
abbrev pub AddsJobs : Common → LinesSoFar → ℕ → List (Option (List ℕ × List ℕ))
    → List Attributes → List Attributes → Result (Unit {0}) SubmitError → Type 0
AddsJobs h f n is old new (Ok x) = (rest : List (Option (List ℕ × List ℕ))) (r : AdsResult)
    → MakesJobs h f n rest new r → MakesJobs h f n (is ++ rest) old r
AddsJobs h f n is old new (Err e) = (rest : List (Option (List ℕ × List ℕ)))
    → MakesJobs h f n (is ++ rest) old (Err e)

-- how many jobs a statement asks for
abbrev pub jobs_in : ℕ → Option Over → ℕ
jobs_in n None = n
jobs_in n (Some o) = n * length o.items

abbrev pub FitsIn : FileSoFar → Queue → Type 0
FitsIn f q = (q.copies ≤ MAX_JOBS) × (length f.ads + jobs_in q.copies q.over ≤ MAX_JOBS)

-- the file says which program
pub record HasProgram (f : LinesSoFar) : Type 0 where
  pub setting : Setting
  pub is : setting_of (codes "executable") f.commands ≡ Some setting
  pub some : 0 < length setting.value

-- what the statement in line n asks for
pub data Asks (h : Common) (f : FileSoFar) (n : ℕ) (q : Queue) : AdsResult → Type 0 where
  too_many : (FitsIn f q → ⊥) → Asks h f n q (Err (error.Count n))
  no_program : FitsIn f q → jobs_in q.copies q.over ≡ 0 → (HasProgram f.lines → ⊥)
      → Asks h f n q (Err (error.NoExecutable n))
  no_jobs : FitsIn f q → jobs_in q.copies q.over ≡ 0 → HasProgram f.lines
      → Asks h f n q (Ok f.ads)
  jobs : {r : AdsResult} → FitsIn f q → 0 < jobs_in q.copies q.over
      → MakesJobs h f.lines n (items_of q.copies q.over) f.ads r → Asks h f n q r

-- a queue statement in line n
pub data Queues (h : Common) (f : FileSoFar) (n : ℕ) (statement : List ℕ) : AdsResult → Type 0 where
  unreadable : {g : SubmitError} → Replaced f.lines.table statement n (Err g)
      → Queues h f n statement (Err g)
  no_form : {x : List ℕ} → Replaced f.lines.table statement n (Ok x) → queue_of x ≡ None
      → Queues h f n statement (Err (error.BadLine n))
  asks : {x : List ℕ} {q : Queue} {r : AdsResult} → Replaced f.lines.table statement n (Ok x)
      → queue_of x ≡ Some q → Asks h f n q r → Queues h f n statement r

-- ---- the lines of a file

-- a name of a job's own macros sets nothing
abbrev pub with_lines : FileSoFar → LinesSoFar → FileSoFar
with_lines f l = record { lines = l; has_queue = f.has_queue; ads = f.ads }

abbrev pub name_set : Bool → List ℕ → List ℕ → ℕ → LinesSoFar → LinesSoFar
name_set true x v n l = l
name_set false x v n l = record {
  table = with_own x v l.table;
  commands = with_setting x v n l.commands;
  attributes = l.attributes;
}

abbrev pub with_name : List ℕ → List ℕ → ℕ → FileSoFar → FileSoFar
with_name x v n f = with_lines f (name_set (is_built_in x) x v n f.lines)

abbrev pub with_attribute_line : List ℕ → List ℕ → ℕ → FileSoFar → FileSoFar
with_attribute_line x v n f = with_lines f (record {
  table = f.lines.table;
  commands = f.lines.commands;
  attributes = with_setting x v n f.lines.attributes;
})

abbrev pub with_ads : List Attributes → FileSoFar → FileSoFar
with_ads ads f = record { lines = f.lines; has_queue = true; ads = ads }

-- a statement is taken: its ads are those of the file, or it is refused
abbrev pub TakesQueue : (AdsResult → Type 0) → FileSoFar → FileSoFar
    → Result (Unit {0}) SubmitError → Type 0
TakesQueue P old new (Ok x) = P (Ok new.ads) × (new ≡ with_ads new.ads old)
TakesQueue P old new (Err e) = P (Err e)

abbrev pub line_error : ℕ → LineFault → SubmitError
line_error n line.Bad = error.BadLine n
line_error n line.Unsupported = error.Unsupported n

-- from a line on: the file is refused at the first line that is refused
pub data Reads (h : Common) : List Line → FileSoFar → AdsResult → Type 0 where
  ended : {f : FileSoFar} → f.has_queue ≡ true → Reads h [] f (Ok f.ads)
  no_queue : {f : FileSoFar} → f.has_queue ≡ false → Reads h [] f (Err error.NoQueue)
  refuses : {f : FileSoFar} {l : Line} {ls : List Line} {g : LineFault}
      → line_of l.text ≡ Err g → Reads h (l ∷ ls) f (Err (line_error l.number g))
  sets : {f : FileSoFar} {l : Line} {ls : List Line} {x v : List ℕ} {r : AdsResult}
      → line_of l.text ≡ Ok (meaning.setting x v) → Reads h ls (with_name x v l.number f) r
      → Reads h (l ∷ ls) f r
  sets_attribute : {f : FileSoFar} {l : Line} {ls : List Line} {x v : List ℕ} {r : AdsResult}
      → line_of l.text ≡ Ok (meaning.attribute x v)
      → Reads h ls (with_attribute_line x v l.number f) r → Reads h (l ∷ ls) f r
  refuses_queue : {f : FileSoFar} {l : Line} {ls : List Line} {q : List ℕ} {g : SubmitError}
      → line_of l.text ≡ Ok (meaning.queue q) → Queues h f l.number q (Err g)
      → Reads h (l ∷ ls) f (Err g)
  queues : {f : FileSoFar} {l : Line} {ls : List Line} {q : List ℕ} {ads : List Attributes}
      {r : AdsResult}
      → line_of l.text ≡ Ok (meaning.queue q) → Queues h f l.number q (Ok ads)
      → Reads h ls (with_ads ads f) r → Reads h (l ∷ ls) f r

-- A part of the lines is taken: what comes of the rest comes of all, and its refusal is that of
-- all.
abbrev pub TakesLines : Common → List Line → FileSoFar → FileSoFar
    → Result (Unit {0}) SubmitError → Type 0
TakesLines h ls old new (Ok x) = (rest : List Line) (r : AdsResult)
    → Reads h rest new r → Reads h (ls ++ rest) old r
TakesLines h ls old new (Err e) = (rest : List Line) → Reads h (ls ++ rest) old (Err e)

-- nothing is set but the number of the cluster
abbrev pub begun : ℕ → FileSoFar
begun cluster = record {
  lines = record {
    table = with_own (codes "ClusterId") (decimal cluster)
        (with_own (codes "Cluster") (decimal cluster) []);
    commands = [];
    attributes = [];
  };
  has_queue = false;
  ads = [];
}

abbrev pub SubmittedJobs : List ℕ → Common → AdsResult → Type 0
SubmittedJobs bs h r = Reads h (logical_lines bs) (begun h.cluster) r
