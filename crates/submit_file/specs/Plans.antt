-- How the jobs of a queue statement are made, by what is the same for all of them.
use Rattle.std.specs.Prelude.{◌≡◌, ◌⊎◌, ℕ, Bool, true, false, List, [], ◌∷◌, map, codes, Option, Some, None, Result, Err}
use Rattle.std.specs.Option.{option_map}
use Rattle.line_text.specs.Macros.{Macros, find_macro}
use Rattle.submit_lines.specs.declared.error.ValueError.{ValueError}
use Rattle.submit_lines.specs.declared.error.ValueError.TheVariants as fault
use Rattle.submit_file.specs.declared.plan.Part.{Part}
use Rattle.submit_file.specs.declared.plan.Plan.{Plan}
use Rattle.submit_file.specs.declared.statement.Contribution.{Contribution}
use Rattle.submit_file.specs.declared.statement.Contribution.TheVariants as contribution
use Rattle.submit_file.specs.declared.statement.NamedValue.{NamedValue}
use Rattle.submit_file.specs.declared.statement.Statement.{Statement}
use Rattle.submit_file.specs.Drafts.{value_of, Effect, named_value, macro_refusal}
use Rattle.submit_file.specs.Origins.{Origin, owner_command, origin_of}
use Rattle.submit_file.specs.OneJob.{common, Gives, origins}

-- ---- what the program keeps

abbrev pub is_memory_value : {X : Type 0} → Result X ValueError → Bool
is_memory_value (Err fault.Memory) = true
is_memory_value _ = false

abbrev pub effect_of_value : NamedValue → Effect
effect_of_value v = named_value v.name.now v.place (value_of v.value)

abbrev pub effect_of : Contribution → Effect
effect_of (contribution.Value v) = effect_of_value v
effect_of (contribution.Refusal f) = macro_refusal f

abbrev pub value_in : Contribution → Option NamedValue
value_in (contribution.Value v) = Some v
value_in (contribution.Refusal f) = None

abbrev pub origins_of : List Part → List Origin
origins_of ps = map (λ p. origin_of p.source) ps

-- ---- macros of which some have no expansion

abbrev pub macro_value : List ℕ → Macros → Option (List ℕ)
macro_value x t = option_map (λ m. m.1) (find_macro x t)

-- other macros have the same values, but those that have no expansion here
abbrev pub Spares : Macros → Macros → Type 0
Spares t u = (x : List ℕ)
    → (macro_value x t ≡ Some (codes "$(")) ⊎ (macro_value x t ≡ macro_value x u)

-- ---- what is fixed is so for a job of these macros

abbrev pub GivesFor : Statement → Macros → Origin → Effect → Type 0
GivesFor s t o e = Gives (common s.heading) s.file.now t s.line o e

abbrev pub IsFixedFor : Statement → Macros → Origin → Option NamedValue → Type 0
IsFixedFor s t o None = Unit {0}
IsFixedFor s t o (Some v) = GivesFor s t o (effect_of_value v)

abbrev pub IsPartFor : Statement → Macros → Part → Type 0
IsPartFor s t p = IsFixedFor s t (origin_of p.source) p.fixed

abbrev pub ArePartsFor : Statement → Macros → List Part → Type 0
ArePartsFor s t [] = Unit {0}
ArePartsFor s t (p ∷ ps) = IsPartFor s t p × ArePartsFor s t ps

pub record IsPlanFor (t : Macros) (p : Plan) : Type 0 where
  pub owner_is : origin_of p.owner.source ≡ owner_command
  pub owner : IsPartFor p.statement t p.owner
  pub parts_are : origins_of p.parts.items ≡ origins p.statement.file.now
  pub parts : ArePartsFor p.statement t p.parts.items
