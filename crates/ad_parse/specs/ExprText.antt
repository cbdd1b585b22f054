-- What a text says, and why it is refused.
use Rattle.std.specs.Prelude.{ℕ, ◌<◌, ◌≤◌, nat_lt, List, length, Result, Ok, Err, if◌then◌else◌}
use Rattle.ad_tree.specs.Tree.{Tree}
use Rattle.ad_token.specs.Lexing.{tokens_of}
use Rattle.ad_parse.specs.declared.error.ParseError.{ParseError}
use Rattle.ad_parse.specs.declared.error.ParseError.TheVariants as fault
use Rattle.ad_value.specs.declared.limits.TheConstants.{MAX_EXPRESSION}
use Rattle.ad_parse.specs.Canon.{canon}
use Rattle.ad_parse.specs.Grammar.{IsText}
use Rattle.ad_parse.specs.Misfit.{FirstMisfit}
use Rattle.ad_parse.specs.Reader.{◌>>=◌, text_at}

-- the text's tokens spell the expression, and neither text is too long
pub record IsExprText (text : List ℕ) (e : Tree) : Type 0 where
  pub short : length text ≤ MAX_EXPRESSION
  pub spelled : IsText (tokens_of text) e
  pub prints_short : length (canon e) ≤ MAX_EXPRESSION

-- The text is too long, or has a first token, or an end, where it leaves the grammar, or its
-- canonical text is too long.
pub data IsRefused (text : List ℕ) : ParseError → Type 0 where
  long : MAX_EXPRESSION < length text → IsRefused text (fault.TooLong (length text))
  misfit : {f : ParseError}
      → length text ≤ MAX_EXPRESSION → FirstMisfit (length text) (tokens_of text) f
      → IsRefused text f
  prints_long : {e : Tree}
      → length text ≤ MAX_EXPRESSION → IsText (tokens_of text) e → MAX_EXPRESSION < length (canon e)
      → IsRefused text (fault.TooLong (length (canon e)))

-- ---- the same as a function: what reading gives

abbrev pub when_short : Tree → Result Tree ParseError
when_short e =
    if nat_lt MAX_EXPRESSION (length (canon e)) then Err (fault.TooLong (length (canon e)))
    else Ok e

abbrev pub expression_at : List ℕ → Result Tree ParseError
expression_at text =
    if nat_lt MAX_EXPRESSION (length text) then Err (fault.TooLong (length text))
    else text_at (length text) (tokens_of text) >>= when_short
