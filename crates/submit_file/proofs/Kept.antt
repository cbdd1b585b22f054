-- What values give is read again from its canonical text.
use Rattle.std.proofs.Common.{◌≡◌, ℕ, zero, suc, ◌<◌, ◌≤◌, ◌^◌, ◌&&◌, ◌||◌, Bool, true, false, cond, List, [], Option, Some, None, Result, Ok, Err, refl, arith}
use Rattle.std.specs.Prelude.{ℤ, pos, negsuc, neg_ℤ, nat_lt, nat_le, slice_index, ◌==◌, codes, length, nat_eq, drop, take, int_le}
use Rattle.std.specs.Str.{bytes_eq}
use Rattle.std.specs.Str.Parse.{digits_value}
use Rattle.std.proofs.lemmas.Bool.{ltb-true, leb-true}
use Rattle.ad_token.specs.Canonical.{is_line}
use Rattle.ad_value.specs.Bytes.{code}
use Rattle.ad_value.specs.Content.{text}
use Rattle.ad_value.specs.Names.{same_name}
use Rattle.ad_tree.specs.Tree.{Tree, literal}
use Rattle.ad_parse.specs.declared.error.ParseError.{ParseError}
use Rattle.ad_parse.specs.Canon.{canon}
use Rattle.ad_parse.specs.ExprText.{expression_at}
use Rattle.ad_parse.specs.ValueText.{IsShortInteger}
use Rattle.ad_parse.proofs.Reread.{again}
use Rattle.ad_parse.proofs.Texts.{IsReading, is_reading}
use Rattle.ad_rows.specs.Requests.{with_enough}
use Rattle.ad_rows.specs.Submitted.{IsReadable}
use Rattle.ad_rows.proofs.Readable.{readable_value, readable_integer, readable_request}
use Rattle.submit_lines.specs.declared.amount.Amount.{Amount}
use Rattle.submit_lines.specs.declared.amount.Amount.TheVariants as amount
use Rattle.submit_lines.specs.declared.amount.AmountUnit.{AmountUnit}
use Rattle.submit_lines.specs.declared.amount.AmountUnit.TheVariants.{Kib, Mib}
use Rattle.submit_lines.specs.Amounts.{digits_length, suffix_of, in_units, units, amount_with, amount_of}
use Rattle.submit_lines.specs.Arguments.{plain_arguments, quoted_arguments}
use Rattle.submit_lines.specs.Numbers.{is_decimal, positive, negative}
use Rattle.submit_lines.specs.Numbers as numbers
use Rattle.submit_lines.specs.declared.command.Command.{Command}
use Rattle.submit_lines.specs.declared.command.Command.TheVariants as command
use Rattle.submit_lines.specs.declared.error.ValueError.TheVariants as fault
use Rattle.submit_lines.specs.Values.{TreeResult, OptionResult, of_reading, tree_of_text, tree_of_canon, string_at, program_at, is_closed, quoted_at, arguments_at, whole_at, lease_of, amount_at, requirements_of, expr_at, some_of, value_at, preset_at}

abbrev pub Keeps : TreeResult → Type 0
Keeps (Ok e) = IsReadable e
Keeps (Err f) = Unit {0}

abbrev pub KeepsSome : OptionResult → Type 0
KeepsSome (Ok (Some e)) = IsReadable e
KeepsSome (Ok None) = Unit {0}
KeepsSome (Err f) = Unit {0}

pub some_keeps : (r : TreeResult) → Keeps r → KeepsSome (some_of r)
some_keeps (Ok e) h = h
some_keeps (Err f) h = tt

keeps_either : (b : Bool) (r s : TreeResult) → Keeps r → Keeps s → Keeps (cond b r s)
keeps_either true r s h k = h
keeps_either false r s h k = k

-- ---- texts

pub text_keeps : (bs : List ℕ) → Keeps (tree_of_text bs)
text_keeps bs = by (expression_at bs) (is_reading bs)
  where
    by : (r : Result Tree ParseError) → IsReading bs r → Keeps (of_reading r)
    by (Ok e) is = again bs e is
    by (Err f) is = tt

canon_keeps : (e : Tree) → Keeps (tree_of_canon e)
canon_keeps e = text_keeps (canon e)

pub string_keeps : (s : List ℕ) → Keeps (string_at s)
string_keeps s = canon_keeps (literal (text s))

program_keeps : (bs : List ℕ) → Keeps (program_at bs)
program_keeps bs = keeps_either (nat_eq (length bs) 0) (Err fault.NoExecutable) (string_at bs) tt (string_keeps bs)

quoted_keeps : (o : Option (List ℕ)) → Keeps (quoted_at o)
quoted_keeps None = tt
quoted_keeps (Some bs) = keeps_either (is_closed bs) (string_at bs) (Err fault.Quotes) (string_keeps bs) tt

arguments_keep : (bs : List ℕ) → Keeps (arguments_at bs)
arguments_keep bs = keeps_either (slice_index bs 0 == code "\"") (quoted_at (quoted_arguments bs)) (string_at (plain_arguments bs)) (quoted_keeps (quoted_arguments bs)) (string_keeps (plain_arguments bs))

requirements_keep : (r : TreeResult) → Keeps (requirements_of r)
requirements_keep (Ok e) = canon_keeps (with_enough e)
requirements_keep (Err f) = tt

-- ---- numbers

abbrev IsShort : Option ℤ → Type 0
IsShort (Some n) = IsShortInteger n
IsShort None = Unit {0}

short_either : (b : Bool) (o q : Option ℤ) → IsShort o → IsShort q → IsShort (cond b o q)
short_either true o q h k = h
short_either false o q h k = k

negative_short : (n : ℕ) → n ≤ 2 ^ 63 → IsShortInteger (neg_ℤ (pos n))
negative_short zero le = omega arith
negative_short (suc n) le = omega (arith, le)

integer_short : (bs : List ℕ) → IsShort (numbers.integer bs)
integer_short bs = short_either (slice_index bs 0 == code "-") (negative (drop 1 bs)) (positive bs) (below (drop 1 bs)) (above bs)
  where
    above : (ds : List ℕ) → IsShort (positive ds)
    above ds = by (is_decimal ds) (nat_lt (digits_value 10 ds) (2 ^ 63)) refl
      where
        by : (a b : Bool) → nat_lt (digits_value 10 ds) (2 ^ 63) ≡ b → IsShort (cond (a && b) (Some (pos (digits_value 10 ds))) None)
        by true true e = ltb-true (digits_value 10 ds) (2 ^ 63) e
        by true false e = tt
        by false b e = tt

    below : (ds : List ℕ) → IsShort (negative ds)
    below ds = by (is_decimal ds) (nat_le (digits_value 10 ds) (2 ^ 63)) refl
      where
        by : (a b : Bool) → nat_le (digits_value 10 ds) (2 ^ 63) ≡ b → IsShort (cond (a && b) (Some (neg_ℤ (pos (digits_value 10 ds)))) None)
        by true true e = negative_short (digits_value 10 ds) (leb-true (digits_value 10 ds) (2 ^ 63) e)
        by true false e = tt
        by false b e = tt

lease_short : (o : Option ℤ) → IsShort o → IsShort (lease_of o)
lease_short (Some n) h = short_either (int_le (pos 1) n && int_le n (pos 1000000)) (Some n) None h tt
lease_short None h = tt

whole_keeps : (o : Option ℤ) → IsShort o → Keeps (whole_at o)
whole_keeps (Some n) h = readable_integer n h
whole_keeps None h = tt

abbrev IsSmall : Amount → Type 0
IsSmall (amount.Units (pos n)) = n < 2 ^ 63
IsSmall (amount.Units (negsuc n)) = ⊥
IsSmall amount.Large = Unit {0}
IsSmall amount.Absent = Unit {0}

units_small : (n : ℕ) → IsSmall (units n)
units_small n = at (nat_lt n (2 ^ 63)) refl
  where
    at : (b : Bool) → nat_lt n (2 ^ 63) ≡ b → IsSmall (cond b (amount.Units (pos n)) amount.Large)
    at true e = ltb-true n (2 ^ 63) e
    at false e = tt

small_either : (b : Bool) (n : ℕ) → IsSmall (cond b (units n) amount.Absent)
small_either true n = units_small n
small_either false n = tt

amount_small : (bs : List ℕ) (u : AmountUnit) → IsSmall (amount_of bs u)
amount_small bs u =
    elim (suffix_of (drop (digits_length bs) bs)) as (λ o. IsSmall (amount_with (take (digits_length bs) bs) o u)) [
      | None ↦ tt
      | Some s ↦ small_either (is_decimal (take (digits_length bs) bs)) (in_units (digits_value 10 (take (digits_length bs) bs)) s u)
    ]

amount_keeps : (a : Amount) (bs : List ℕ) → IsSmall a → Keeps (amount_at a bs)
amount_keeps (amount.Units (pos n)) bs h = readable_integer (pos n) h
amount_keeps (amount.Units (negsuc n)) bs h = absurd h
amount_keeps amount.Large bs h = tt
amount_keeps amount.Absent bs h = text_keeps bs

-- ---- commands

expr_keeps : (c : Command) (bs : List ℕ) → Keeps (expr_at c bs)
expr_keeps command.Executable bs = program_keeps bs
expr_keeps command.Arguments bs = arguments_keep bs
expr_keeps command.Universe bs = text_keeps bs
expr_keeps command.InitialDir bs = string_keeps bs
expr_keeps command.Input bs = string_keeps bs
expr_keeps command.Output bs = string_keeps bs
expr_keeps command.Error bs = string_keeps bs
expr_keeps command.Log bs = string_keeps bs
expr_keeps command.Priority bs = whole_keeps (numbers.integer bs) (integer_short bs)
expr_keeps command.Requirements bs = requirements_keep (tree_of_text bs)
expr_keeps command.Rank bs = text_keeps bs
expr_keeps command.RequestCpus bs = text_keeps bs
expr_keeps command.RequestMemory bs = amount_keeps (amount_of bs Mib) bs (amount_small bs Mib)
expr_keeps command.RequestDisk bs = amount_keeps (amount_of bs Kib) bs (amount_small bs Kib)
expr_keeps command.JobLeaseDuration bs = whole_keeps (lease_of (numbers.integer bs)) (lease_short (numbers.integer bs) (integer_short bs))
expr_keeps command.OnExitHold bs = text_keeps bs
expr_keeps command.OnExitRemove bs = text_keeps bs
expr_keeps command.PeriodicHold bs = text_keeps bs
expr_keeps command.PeriodicRemove bs = text_keeps bs
expr_keeps command.PeriodicRelease bs = text_keeps bs

universe_keeps : (b : Bool) → KeepsSome (cond b (Ok None) (Err fault.Universe))
universe_keeps true = tt
universe_keeps false = tt

pub value_keeps : (c : Command) (bs : List ℕ) → KeepsSome (value_at c bs)
value_keeps command.Executable bs = some_keeps (expr_at command.Executable bs) (expr_keeps command.Executable bs)
value_keeps command.Arguments bs = some_keeps (expr_at command.Arguments bs) (expr_keeps command.Arguments bs)
value_keeps command.Universe bs = universe_keeps (same_name bs (codes "vanilla") || bytes_eq bs (codes "5"))
value_keeps command.InitialDir bs = some_keeps (expr_at command.InitialDir bs) (expr_keeps command.InitialDir bs)
value_keeps command.Input bs = some_keeps (expr_at command.Input bs) (expr_keeps command.Input bs)
value_keeps command.Output bs = some_keeps (expr_at command.Output bs) (expr_keeps command.Output bs)
value_keeps command.Error bs = some_keeps (expr_at command.Error bs) (expr_keeps command.Error bs)
value_keeps command.Log bs = some_keeps (expr_at command.Log bs) (expr_keeps command.Log bs)
value_keeps command.Priority bs = some_keeps (expr_at command.Priority bs) (expr_keeps command.Priority bs)
value_keeps command.Requirements bs = some_keeps (expr_at command.Requirements bs) (expr_keeps command.Requirements bs)
value_keeps command.Rank bs = some_keeps (expr_at command.Rank bs) (expr_keeps command.Rank bs)
value_keeps command.RequestCpus bs = some_keeps (expr_at command.RequestCpus bs) (expr_keeps command.RequestCpus bs)
value_keeps command.RequestMemory bs = some_keeps (expr_at command.RequestMemory bs) (expr_keeps command.RequestMemory bs)
value_keeps command.RequestDisk bs = some_keeps (expr_at command.RequestDisk bs) (expr_keeps command.RequestDisk bs)
value_keeps command.JobLeaseDuration bs = some_keeps (expr_at command.JobLeaseDuration bs) (expr_keeps command.JobLeaseDuration bs)
value_keeps command.OnExitHold bs = some_keeps (expr_at command.OnExitHold bs) (expr_keeps command.OnExitHold bs)
value_keeps command.OnExitRemove bs = some_keeps (expr_at command.OnExitRemove bs) (expr_keeps command.OnExitRemove bs)
value_keeps command.PeriodicHold bs = some_keeps (expr_at command.PeriodicHold bs) (expr_keeps command.PeriodicHold bs)
value_keeps command.PeriodicRemove bs = some_keeps (expr_at command.PeriodicRemove bs) (expr_keeps command.PeriodicRemove bs)
value_keeps command.PeriodicRelease bs = some_keeps (expr_at command.PeriodicRelease bs) (expr_keeps command.PeriodicRelease bs)

empty_keeps : IsReadable (literal (text []))
unfolding is_line
empty_keeps = readable_value (text []) (record { plain = refl; shallow = omega arith; short = omega arith })

pub preset_keeps : (c : Command) → KeepsSome (preset_at c)
preset_keeps command.Executable = tt
preset_keeps command.Arguments = empty_keeps
preset_keeps command.Universe = tt
preset_keeps command.InitialDir = empty_keeps
preset_keeps command.Input = empty_keeps
preset_keeps command.Output = empty_keeps
preset_keeps command.Error = empty_keeps
preset_keeps command.Log = tt
preset_keeps command.Priority = readable_integer (pos 0) (omega arith)
preset_keeps command.Requirements = readable_request
preset_keeps command.Rank = readable_integer (pos 0) (omega arith)
preset_keeps command.RequestCpus = readable_integer (pos 1) (omega arith)
preset_keeps command.RequestMemory = readable_integer (pos 128) (omega arith)
preset_keeps command.RequestDisk = readable_integer (pos 1024) (omega arith)
preset_keeps command.JobLeaseDuration = tt
preset_keeps command.OnExitHold = tt
preset_keeps command.OnExitRemove = tt
preset_keeps command.PeriodicHold = tt
preset_keeps command.PeriodicRemove = tt
preset_keeps command.PeriodicRelease = tt
