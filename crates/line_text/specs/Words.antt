-- The words of a job's arguments (HTCondor manual, "condor_submit", `arguments`).
use Rattle.ad_value.specs.Bytes.{code}
use Rattle.std.specs.Prelude.{ℕ, ◌==◌, ◌&&◌, Bool, true, false, List, [], ◌∷◌, ◌++◌, encode_utf8, chars, Option, Some, None, option_map, if◌then◌else◌}
use Rattle.ad_token.specs.Lexing.{is_blank}
use Rattle.line_text.specs.declared.words.Place.{Place}
use Rattle.line_text.specs.declared.words.Place.TheVariants.{Between, Inside, Quoted, Closing}

-- where a reader stands after a character that it meets outside quotes
abbrev pub place_outside : Bool → ℕ → Place
place_outside quoted c =
    if quoted && (c == code "'") then Quoted
    else (if is_blank c then Between
    else Inside)

-- where a reader stands after a character
abbrev pub next_place : Place → Bool → ℕ → Place
next_place Quoted quoted c = if c == code "'" then Closing else Quoted
next_place Closing quoted c = place_outside quoted c
next_place Inside quoted c = place_outside quoted c
next_place Between quoted c = place_outside quoted c

-- the character that leads from one place to another is part of the word
abbrev pub is_part : Place → Place → Bool
is_part Quoted Quoted = true
is_part Closing Quoted = true
is_part place Inside = true
is_part place next = false

abbrev pub is_between : Place → Bool
is_between Between = true
is_between place = false

-- the word so far, where there is one
abbrev pub word_at : Place → List ℕ → List (List ℕ)
word_at Between word = []
word_at place word = word ∷ []

-- with a character, where it is part of the word
abbrev pub with_part : Place → Place → List ℕ → ℕ → List ℕ
with_part place next word c = if is_part place next then word ++ encode_utf8 c else word

-- The words of the characters that are left, the first of them begun; none where a single quote is
-- not closed.
unfoldable pub words_from : Bool → Place → List ℕ → List ℕ → Option (List (List ℕ))
words_from quoted Quoted word [] = None
words_from quoted place word [] = Some (word_at place word)
words_from quoted place word (c ∷ cs) =
    if is_between (next_place place quoted c)
    then option_map (λ ws. word_at place word ++ ws) (words_from quoted Between [] cs)
    else words_from quoted (next_place place quoted c)
    (with_part place (next_place place quoted c) word c) cs

-- the words of Args, or of Arguments where they are quoted
abbrev pub words_of : Bool → List ℕ → Option (List (List ℕ))
words_of quoted text = words_from quoted Between [] (chars text)
