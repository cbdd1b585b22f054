-- The tokens of a tree's canonical text.
use Rattle.std.specs.Prelude.{ℕ, ◌-◌, nat_le, List, [], ◌∷◌, ◌++◌, true, false, if◌then◌else◌}
use Rattle.ad_value.specs.Content.{Content, undefined, error, truth, integer, text}
use Rattle.ad_value.specs.Content as value
use Rattle.ad_tree.specs.declared.operator.Scope.TheVariants.{Bare}
use Rattle.ad_tree.specs.declared.operator.UnOp.{UnOp}
use Rattle.ad_tree.specs.declared.operator.UnOp.TheVariants as un
use Rattle.ad_tree.specs.declared.operator.BinOp.TheVariants as bin
use Rattle.ad_tree.specs.Tree.{Tree, literal, reference, unary, chain, choice, or_else, call, items, Rests, no_rests, and_rest, Trees, no_trees, and_tree}
use Rattle.ad_token.specs.declared.token.Bracket.{Bracket}
use Rattle.ad_token.specs.declared.token.Bracket.TheVariants.{Round, Curly}
use Rattle.ad_token.specs.declared.token.Token.{Token}
use Rattle.ad_token.specs.declared.token.Token.TheVariants as token
use Rattle.ad_parse.specs.declared.levels.TheConstants.{LOOSEST}
use Rattle.ad_parse.specs.Operators.{level_of}
use Rattle.ad_parse.specs.Canon.{looseness, rests_level}

-- no token is a list
abbrev pub literal_token : Content → Token
literal_token undefined = token.Undefined
literal_token error = token.Error
literal_token (truth true) = token.True
literal_token (truth false) = token.False
literal_token (integer n) = token.Int n
literal_token (text s) = token.Str s
literal_token (value.items cs) = token.Bad

abbrev pub prefix_token : UnOp → Token
prefix_token un.Minus = token.Op bin.Subtract
prefix_token un.Plus = token.Op bin.Add
prefix_token un.Not = token.Not

-- an operand of looseness k where l is the loosest that needs no brackets
abbrev pub spell_within : ℕ → ℕ → List Token → List Token
spell_within l k ts = if nat_le k l then ts else token.Open Round ∷ (ts ++ token.Close Round ∷ [])

abbrev mutual
  pub spell : Tree → List Token
  spell (literal c) = literal_token c ∷ []
  spell (reference s x) = token.Name s x ∷ []
  spell (unary op e) = prefix_token op ∷ spell_within 0 (looseness e) (spell e)
  spell (chain e rs) = spell_within (rests_level rs - 1) (looseness e) (spell e) ++ spell_rests rs
  spell (choice t y n) =
      spell_within LOOSEST (looseness t) (spell t)
      ++ (token.Question ∷ (spell y ++ (token.Colon ∷ spell n)))
  spell (or_else e f) =
      spell_within LOOSEST (looseness e) (spell e) ++ (token.OrElse ∷ spell f)
  spell (call x es) = token.Name Bare x ∷ token.Open Round ∷ spell_items Round es
  spell (items es) = token.Open Curly ∷ spell_items Curly es

  -- the operators of a chain and their operands
  pub spell_rests : Rests → List Token
  spell_rests no_rests = []
  spell_rests (and_rest op e rs) =
      token.Op op ∷ (spell_within (level_of op - 1) (looseness e) (spell e) ++ spell_rests rs)

  -- items and the closing bracket
  pub spell_items : Bracket → Trees → List Token
  spell_items b no_trees = token.Close b ∷ []
  spell_items b (and_tree e es) = spell e ++ spell_more b es

  pub spell_more : Bracket → Trees → List Token
  spell_more b no_trees = token.Close b ∷ []
  spell_more b (and_tree e es) = token.Comma ∷ (spell e ++ spell_more b es)
