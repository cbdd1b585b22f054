-- Words as they may be written, so that they are read again.
use Rattle.ad_value.specs.Bytes.{code}
use Rattle.std.specs.Prelude.{ℕ, ◌==◌, List, [], ◌∷◌, ◌++◌, encode_utf8, if◌then◌else◌}
use Rattle.std.specs.List.{flat_map}

-- each single quote twice
abbrev pub doubled : List ℕ → List ℕ
doubled [] = []
doubled (c ∷ cs) = if c == code "'" then c ∷ c ∷ doubled cs else c ∷ doubled cs

-- each word in single quotes, with a blank after it
abbrev pub quoted_words : List (List ℕ) → List ℕ
quoted_words [] = []
quoted_words (w ∷ ws) =
    code "'" ∷ (doubled w ++ (code "'" ∷ code " " ∷ quoted_words ws))

-- the bytes of a word's characters
abbrev pub word_bytes : List ℕ → List ℕ
word_bytes w = flat_map encode_utf8 w
