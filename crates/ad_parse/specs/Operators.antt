-- Operators and literals among tokens, and how tightly operators hold their operands (HTCondor
-- manual, "ClassAd syntax").
use Rattle.std.specs.Prelude.{ℕ, Option, Some, None, true, false}
use Rattle.ad_value.specs.Content.{Content, undefined, error, truth, integer, text}
use Rattle.ad_tree.specs.declared.operator.UnOp.{UnOp}
use Rattle.ad_tree.specs.declared.operator.UnOp.TheVariants as un
use Rattle.ad_tree.specs.declared.operator.BinOp.{BinOp}
use Rattle.ad_tree.specs.declared.operator.BinOp.TheVariants as bin
use Rattle.ad_token.specs.declared.token.Token.{Token}
use Rattle.ad_token.specs.declared.token.Token.TheVariants as token

-- 1 is the tightest level
abbrev pub level_of : BinOp → ℕ
level_of bin.Multiply = 1
level_of bin.Divide = 1
level_of bin.Modulo = 1
level_of bin.Add = 2
level_of bin.Subtract = 2
level_of bin.Less = 3
level_of bin.LessEqual = 3
level_of bin.GreaterEqual = 3
level_of bin.Greater = 3
level_of bin.Equal = 4
level_of bin.NotEqual = 4
level_of bin.Same = 4
level_of bin.NotSame = 4
level_of bin.And = 5
level_of bin.Or = 6

-- the operator of a token that stands before an operand
abbrev pub prefix_of : Token → Option UnOp
prefix_of token.Not = Some un.Not
prefix_of (token.Op bin.Add) = Some un.Plus
prefix_of (token.Op bin.Subtract) = Some un.Minus
prefix_of _ = None

-- the value of a literal
abbrev pub literal_of : Token → Option Content
literal_of token.Undefined = Some undefined
literal_of token.Error = Some error
literal_of token.True = Some (truth true)
literal_of token.False = Some (truth false)
literal_of (token.Int n) = Some (integer n)
literal_of (token.Str s) = Some (text s)
literal_of _ = None
