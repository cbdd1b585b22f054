-- What a queue statement asks for (HTCondor manual, "condor_submit", `queue`).
use Rattle.ad_value.specs.Bytes.{code}
use Rattle.std.specs.Prelude.{ℕ, ◌==◌, ◌&&◌, ◌||◌, not, nat_eq, Bool, List, ◌∷◌, length, codes, filter, Option, Some, None, if◌then◌else◌}
use Rattle.std.specs.List.{list_any, slice_split}
use Rattle.ad_token.specs.Lexing.{is_blank}
use Rattle.ad_token.specs.Blanks.{trimmed_text}
use Rattle.submit_lines.specs.declared.queue.Queue.{Queue}
use Rattle.submit_lines.specs.Names.{macro_name, after_name, is_in, is_variable}
use Rattle.submit_lines.specs.Numbers.{decimal}
use Rattle.submit_lines.specs.Arguments.{between}

abbrev pub is_separator : ℕ → Bool
is_separator b = is_blank b || (b == code ",")

-- the items of a list, divided by blanks and commas
abbrev pub items_of : List ℕ → List (List ℕ)
items_of bs = filter (λ i. not (nat_eq (length i) 0)) (slice_split is_separator bs)

-- an item before others, if it is not empty
abbrev pub with_item : List ℕ → List (List ℕ) → List (List ℕ)
with_item i is = if nat_eq (length i) 0 then is else i ∷ is

abbrev pub has_bracket : List ℕ → Bool
has_bracket bs = list_any (λ b. (b == code "(") || (b == code ")")) bs

abbrev pub items_in : Option (List ℕ) → Option (List (List ℕ))
items_in None = None
items_in (Some inner) = if has_bracket inner then None else Some (items_of inner)

-- items in brackets, with no other bracket
abbrev pub bracketed_items : List ℕ → Option (List (List ℕ))
bracketed_items bs = items_in (between (code "(") (code ")") bs)

-- so many jobs
abbrev pub copies_alone : ℕ → Option Queue
copies_alone n = Some (record { copies = n; over = None })

-- so many jobs for each item
abbrev pub copies_over : ℕ → List ℕ → Option (List (List ℕ)) → Option Queue
copies_over n variable None = None
copies_over n variable (Some is) =
    Some (record { copies = n; over = Some (record { variable = variable; items = is }) })

-- `V in (items)`
abbrev pub over_named : ℕ → List ℕ → Option Queue
over_named n bs =
    if is_variable (macro_name bs) && is_in (macro_name (after_name bs))
    then copies_over n (macro_name bs) (bracketed_items (after_name (after_name bs)))
    else None

-- what follows a number
abbrev pub counted : ℕ → List ℕ → Option Queue
counted n rest = if nat_eq (length rest) 0 then copies_alone n else over_named n rest

-- a first word that is a number or none, and the text after it
abbrev pub perhaps_counted : Option ℕ → List ℕ → List ℕ → Option Queue
perhaps_counted None text rest = over_named 1 text
perhaps_counted (Some n) text rest = counted n rest

abbrev pub asked : List ℕ → Option Queue
asked bs =
    if nat_eq (length bs) 0 then copies_alone 1
    else (if is_in (macro_name bs)
    then copies_over 1 (codes "Item") (bracketed_items (after_name bs))
    else perhaps_counted (decimal (macro_name bs)) bs (after_name bs))

-- what stands after the word `queue`
abbrev pub queue_of : List ℕ → Option Queue
queue_of statement = asked (after_name (trimmed_text statement))
