-- The opening quote and what the characters so far are written as.
use Rattle.std.proofs.Common.{◌≡◌, [], ◌∷◌, ◌++◌, string_bytes, encode_utf8_all}
use Rattle.std.specs.List.{flat_map}
use Rattle.ad_value.specs.Literal.{escape_text}
use Rattle.ad_value.proofs.literal.write_quoted.Given as goal

abbrev pub invariant-loop-c : goal.invariant-loop-c
invariant-loop-c l =
    string_bytes l.text ≡ (string_bytes l.fn.text ++ 34 ∷ []) ++ flat_map escape_text (encode_utf8_all l.yielded)
