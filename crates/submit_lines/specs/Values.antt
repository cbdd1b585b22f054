-- What the value of a command gives, once its macros are replaced (HTCondor manual,
-- "condor_submit").
use Rattle.ad_value.specs.Bytes.{code}
use Rattle.std.specs.Prelude.{◌≡◌, ℕ, ◌==◌, ◌&&◌, ◌||◌, ◌%◌, ℤ, pos, int_le, Bool, nat_eq, List, [], length, codes, count_by, slice_index, Option, Some, None, Result, Ok, Err, if◌then◌else◌}
use Rattle.std.specs.Str.{bytes_eq}
use Rattle.ad_value.specs.Content.{integer, text}
use Rattle.ad_value.specs.Names.{same_name}
use Rattle.ad_rows.specs.Requests.{enough, with_enough}
use Rattle.ad_tree.specs.Tree.{Tree, literal}
use Rattle.ad_tree.specs.ValueTree.{integer_tree}
use Rattle.ad_parse.specs.declared.error.ParseError.{ParseError}
use Rattle.ad_parse.specs.declared.error.ParseError.TheVariants as parse
use Rattle.ad_parse.specs.Canon.{canon}
use Rattle.ad_parse.specs.ExprText.{expression_at}
use Rattle.submit_lines.specs.declared.amount.Amount.{Amount}
use Rattle.submit_lines.specs.declared.amount.Amount.TheVariants as amount
use Rattle.submit_lines.specs.declared.amount.AmountUnit.TheVariants.{Kib, Mib}
use Rattle.submit_lines.specs.Amounts.{amount_of}
use Rattle.submit_lines.specs.Arguments.{plain_arguments, quoted_arguments}
use Rattle.submit_lines.specs.Numbers as numbers
use Rattle.submit_lines.specs.declared.command.Command.{Command}
use Rattle.submit_lines.specs.declared.command.Command.TheVariants as command
use Rattle.submit_lines.specs.declared.error.ValueError.{ValueError}
use Rattle.submit_lines.specs.declared.error.ValueError.TheVariants as fault

abbrev pub TreeResult : Type 0
TreeResult = Result Tree ValueError

-- what a text says, else it is no expression
abbrev pub of_parse : ParseError → ValueError
of_parse parse.Memory = fault.Memory
of_parse (parse.TooLong n) = fault.BadExpr
of_parse (parse.Real n) = fault.BadExpr
of_parse (parse.Range n) = fault.BadExpr
of_parse (parse.TooDeep n) = fault.BadExpr
of_parse (parse.Syntax n) = fault.BadExpr

abbrev pub of_reading : Result Tree ParseError → TreeResult
of_reading (Ok e) = Ok e
of_reading (Err f) = Err (of_parse f)

abbrev pub tree_of_text : List ℕ → TreeResult
tree_of_text bs = of_reading (expression_at bs)

-- An attribute is what its canonical text says. That is above 8,192 bytes, or has a token that
-- stands too deep, where it says nothing.
abbrev pub tree_of_canon : Tree → TreeResult
tree_of_canon e = tree_of_text (canon e)

abbrev pub string_at : List ℕ → TreeResult
string_at s = tree_of_canon (literal (text s))

-- the program
abbrev pub program_at : List ℕ → TreeResult
program_at bs = if nat_eq (length bs) 0 then Err fault.NoExecutable else string_at bs

-- each single quote is closed where there is an even number of them
abbrev pub is_closed : List ℕ → Bool
is_closed bs = nat_eq (count_by (λ b. b == code "'") bs % 2) 0

abbrev pub quoted_at : Option (List ℕ) → TreeResult
quoted_at None = Err fault.Quotes
quoted_at (Some inner) = if is_closed inner then string_at inner else Err fault.Quotes

abbrev pub arguments_at : List ℕ → TreeResult
arguments_at bs =
    if slice_index bs 0 == code "\"" then quoted_at (quoted_arguments bs)
    else string_at (plain_arguments bs)

abbrev pub whole_at : Option ℤ → TreeResult
whole_at (Some n) = Ok (integer_tree n)
whole_at None = Err fault.BadExpr

-- from a second to 1,000,000 of them
abbrev pub lease_of : Option ℤ → Option ℤ
lease_of (Some n) = if int_le (pos 1) n && int_le n (pos 1000000) then Some n else None
lease_of None = None

-- an amount, else an expression
abbrev pub amount_at : Amount → List ℕ → TreeResult
amount_at (amount.Units n) bs = Ok (literal (integer n))
amount_at amount.Large bs = Err fault.BadExpr
amount_at amount.Absent bs = tree_of_text bs

-- the user's expression, and what the job asks for
abbrev pub requirements_of : TreeResult → TreeResult
requirements_of (Ok e) = tree_of_canon (with_enough e)
requirements_of (Err f) = Err f

abbrev pub requirements_at : List ℕ → TreeResult
requirements_at bs = requirements_of (tree_of_text bs)

-- ---- the commands

abbrev pub expr_at : Command → List ℕ → TreeResult
expr_at command.Executable bs = program_at bs
expr_at command.Arguments bs = arguments_at bs
expr_at command.InitialDir bs = string_at bs
expr_at command.Input bs = string_at bs
expr_at command.Output bs = string_at bs
expr_at command.Error bs = string_at bs
expr_at command.Log bs = string_at bs
expr_at command.Priority bs = whole_at (numbers.integer bs)
expr_at command.JobLeaseDuration bs = whole_at (lease_of (numbers.integer bs))
expr_at command.Requirements bs = requirements_at bs
expr_at command.RequestMemory bs = amount_at (amount_of bs Mib) bs
expr_at command.RequestDisk bs = amount_at (amount_of bs Kib) bs
expr_at _ bs = tree_of_text bs

abbrev pub OptionResult : Type 0
OptionResult = Result (Option Tree) ValueError

abbrev pub universe_at : List ℕ → OptionResult
universe_at bs =
    if same_name bs (codes "vanilla") || bytes_eq bs (codes "5") then Ok None
    else Err fault.Universe

abbrev pub some_of : TreeResult → OptionResult
some_of (Ok e) = Ok (Some e)
some_of (Err f) = Err f

-- the universe is looked at, and sets no attribute
abbrev pub value_at : Command → List ℕ → OptionResult
value_at command.Universe bs = universe_at bs
value_at c bs = some_of (expr_at c bs)

-- what an attribute is without its command
abbrev pub empty_string : OptionResult
empty_string = Ok (Some (literal (text [])))

abbrev pub whole : ℕ → OptionResult
whole n = Ok (Some (literal (integer (pos n))))

abbrev pub preset_at : Command → OptionResult
preset_at command.Executable = Err fault.NoExecutable
preset_at command.Arguments = empty_string
preset_at command.InitialDir = empty_string
preset_at command.Input = empty_string
preset_at command.Output = empty_string
preset_at command.Error = empty_string
preset_at command.Priority = whole 0
preset_at command.Requirements = Ok (Some enough)
preset_at command.Rank = whole 0
preset_at command.RequestCpus = whole 1
preset_at command.RequestMemory = whole 128
preset_at command.RequestDisk = whole 1024
preset_at _ = Ok None

-- ---- a function of the program gives what the definition does, unless memory runs out

abbrev pub FailsValue : {Y : Type 0} → ValueError → Result Y ValueError → Type 0
FailsValue fault.Memory given = Unit {0}
FailsValue fault.NoExecutable given = given ≡ Err fault.NoExecutable
FailsValue fault.Universe given = given ≡ Err fault.Universe
FailsValue fault.Quotes given = given ≡ Err fault.Quotes
FailsValue fault.BadExpr given = given ≡ Err fault.BadExpr

abbrev pub GivesValue : {X Y : Type 0}
    → (X → Y) → Result X ValueError → Result Y ValueError → Type 0
GivesValue view (Ok x) given = given ≡ Ok (view x)
GivesValue view (Err f) given = FailsValue f given
