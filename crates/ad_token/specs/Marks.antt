-- Operators, brackets and other marks; the longest one is taken (HTCondor manual,
-- "ClassAd syntax").
use Rattle.ad_value.specs.Bytes.{code}
use Rattle.std.specs.Prelude.{ℕ, ◌==◌, Bool, List, codes, nat_eq, slice_index, Option, Some, None, if◌then◌else◌}
use Rattle.std.specs.List.{starts_with}
use Rattle.ad_tree.specs.declared.operator.BinOp.TheVariants as bin
use Rattle.ad_token.specs.declared.token.Bracket.TheVariants.{Round, Curly}
use Rattle.ad_token.specs.declared.token.Token.{Token}
use Rattle.ad_token.specs.declared.token.Token.TheVariants as token

abbrev pub begins_with : List ℕ → List ℕ → Bool
begins_with bs mark = starts_with nat_eq bs mark

-- the marks of three bytes
unfoldable pub mark_of_three : List ℕ → Option Token
mark_of_three bs =
    if begins_with bs (codes "=?=") then Some (token.Op bin.Same)
    else (if begins_with bs (codes "=!=") then Some (token.Op bin.NotSame)
    else None)

-- the marks of two bytes
unfoldable pub mark_of_two : List ℕ → Option Token
mark_of_two bs =
    if begins_with bs (codes "==") then Some (token.Op bin.Equal)
    else (if begins_with bs (codes "!=") then Some (token.Op bin.NotEqual)
    else (if begins_with bs (codes "<=") then Some (token.Op bin.LessEqual)
    else (if begins_with bs (codes ">=") then Some (token.Op bin.GreaterEqual)
    else (if begins_with bs (codes "&&") then Some (token.Op bin.And)
    else (if begins_with bs (codes "||") then Some (token.Op bin.Or)
    else (if begins_with bs (codes "?:") then Some token.OrElse
    else None))))))

-- the marks of one byte
unfoldable pub mark_of_one : ℕ → Token
mark_of_one b =
    if b == code "<" then token.Op bin.Less
    else (if b == code ">" then token.Op bin.Greater
    else (if b == code "+" then token.Op bin.Add
    else (if b == code "-" then token.Op bin.Subtract
    else (if b == code "*" then token.Op bin.Multiply
    else (if b == code "/" then token.Op bin.Divide
    else (if b == code "%" then token.Op bin.Modulo
    else (if b == code "!" then token.Not
    else (if b == code "?" then token.Question
    else (if b == code ":" then token.Colon
    else (if b == code "," then token.Comma
    else (if b == code "(" then token.Open Round
    else (if b == code ")" then token.Close Round
    else (if b == code "{" then token.Open Curly
    else (if b == code "}" then token.Close Curly
    else token.Bad))))))))))))))

abbrev pub longest : Option Token → Option Token → Token → Token × ℕ
longest (Some t) two one = (t, 3)
longest None (Some t) one = (t, 2)
longest None None one = (one, 1)

-- the mark that a text begins with, and its length
unfoldable pub mark_token : List ℕ → Token × ℕ
mark_token bs = longest (mark_of_three bs) (mark_of_two bs) (mark_of_one (slice_index bs 0))
