-- The macros of the jobs of a queue statement.
use Rattle.std.specs.Prelude.{◌≡◌, ℕ, List, codes, Option, Some, None}
use Rattle.std.specs.Borrow.{Bor}
use Rattle.std.specs.Option.{option_map}
use Rattle.ad_value.specs.Names.{lowercase}
use Rattle.line_text.specs.Macros.{Macros, with_macro}
use Rattle.submit_lines.specs.declared.queue.Over.{Over}
use Rattle.submit_file.specs.declared.plan.Plan.{Plan}
use Rattle.submit_file.specs.Plans.{IsPlanFor}

-- a macro of the job's own
abbrev pub with_own : List ℕ → List ℕ → Macros → Macros
with_own x v t = with_macro (lowercase x) v t

-- the variable of the queue statement and its item, where it has items
abbrev pub with_item : Option (List ℕ × List ℕ) → Macros → Macros
with_item None t = t
with_item (Some i) t = with_own i.0 i.1 t

-- the macros of a job: the variable, and both of its numbers
abbrev pub job_macros : List ℕ → Option (List ℕ × List ℕ) → Macros → Macros
job_macros number i t =
    with_own (codes "ProcId") number (with_own (codes "Process") number (with_item i t))

-- what the program hands on of an item
abbrev pub item_of : Option (Bor (List ℕ) × Bor (List ℕ)) → Option (List ℕ × List ℕ)
item_of None = None
item_of (Some i) = Some (i.0.now, i.1.now)

abbrev pub variable_in : Option Over → Option (List ℕ)
variable_in o = option_map (λ o. o.variable) o

abbrev pub variable_of : Option (List ℕ × List ℕ) → Option (List ℕ)
variable_of i = option_map (λ i. i.0) i

-- those of one of the jobs
pub record AreJobMacros (variable : Option (List ℕ)) (file t : Macros) : Type 0 where
  pub number : List ℕ
  pub item : List ℕ
  pub are : t ≡ job_macros number (option_map (λ v. (v, item)) variable) file

-- those in which no macro of a job's own has an expansion
abbrev pub blocked : Option (List ℕ) → Macros → Macros
blocked variable file =
    job_macros (codes "$(") (option_map (λ v. (v, codes "$(")) variable) file

-- a plan for all jobs of a statement with this variable
abbrev pub IsPlan : Option (List ℕ) → Plan → Type 0
IsPlan variable p =
    (t : Macros) → AreJobMacros variable p.statement.file.now.table t → IsPlanFor t p
