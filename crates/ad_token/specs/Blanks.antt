-- A text without its blanks at the ends.
use Rattle.std.specs.Prelude.{ℕ, ◌-◌, List, length, take, drop}
use Rattle.std.specs.List.{prefix_len, suffix_len}
use Rattle.ad_token.specs.Lexing.{is_blank}

-- the text after the blanks that it begins with
abbrev pub past_blanks : List ℕ → List ℕ
past_blanks bs = drop (prefix_len is_blank bs) bs

-- the text without the blanks at its end, and at both ends
abbrev pub trimmed_end : List ℕ → List ℕ
trimmed_end bs = take (length bs - suffix_len is_blank bs) bs

abbrev pub trimmed_text : List ℕ → List ℕ
trimmed_text bs = trimmed_end (past_blanks bs)
