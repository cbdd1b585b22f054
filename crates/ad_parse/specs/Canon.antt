-- The canonical text of an expression, with brackets exactly round an operand that is too loose for
-- its place.
use Rattle.std.specs.Prelude.{ℕ, ◌-◌, ◌+◌, nat_le, List, [], ◌++◌, codes, if◌then◌else◌}
use Rattle.ad_value.specs.Literal.{literal_text}
use Rattle.ad_tree.specs.declared.operator.UnOp.{UnOp}
use Rattle.ad_tree.specs.declared.operator.UnOp.TheVariants as un
use Rattle.ad_tree.specs.declared.operator.BinOp.{BinOp}
use Rattle.ad_tree.specs.Tree.{Tree, literal, reference, unary, chain, choice, or_else, call, items, Rests, no_rests, and_rest, Trees, no_trees, and_tree}
use Rattle.ad_token.specs.Canonical.{scope_text, operator_text}
use Rattle.ad_parse.specs.declared.levels.TheConstants.{LOOSEST}
use Rattle.ad_parse.specs.Operators.{level_of}

abbrev pub prefix_text : UnOp → List ℕ
prefix_text un.Minus = codes "-"
prefix_text un.Plus = codes "+"
prefix_text un.Not = codes "!"

abbrev pub infix_text : BinOp → List ℕ
infix_text op = codes " " ++ operator_text op ++ codes " "

-- the level of a chain is that of its first operator
abbrev pub rests_level : Rests → ℕ
rests_level no_rests = 0
rests_level (and_rest op e rs) = level_of op

-- how loosely an expression holds together: 0 needs no brackets anywhere, and a choice is looser
-- than each chain
abbrev pub looseness : Tree → ℕ
looseness (chain e rs) = rests_level rs
looseness (choice t y n) = LOOSEST + 1
looseness (or_else e f) = LOOSEST + 1
looseness _ = 0

-- an operand of looseness k where l is the loosest that needs no brackets
abbrev pub canon_within : ℕ → ℕ → List ℕ → List ℕ
canon_within l k text = if nat_le k l then text else codes "(" ++ text ++ codes ")"

abbrev mutual
  pub canon : Tree → List ℕ
  canon (literal c) = literal_text c
  canon (reference s x) = scope_text s ++ x
  canon (unary op e) = prefix_text op ++ canon_within 0 (looseness e) (canon e)
  canon (chain e rs) = canon_within (rests_level rs - 1) (looseness e) (canon e) ++ canon_rests rs
  canon (choice t y n) =
      canon_within LOOSEST (looseness t) (canon t)
      ++ codes " ? " ++ canon y ++ codes " : " ++ canon n
  canon (or_else e f) = canon_within LOOSEST (looseness e) (canon e) ++ codes " ?: " ++ canon f
  canon (call x es) = x ++ codes "(" ++ canon_items es ++ codes ")"
  canon (items es) = codes "{" ++ canon_items es ++ codes "}"

  -- the operators of a chain and their operands
  pub canon_rests : Rests → List ℕ
  canon_rests no_rests = []
  canon_rests (and_rest op e rs) =
      infix_text op ++ canon_within (level_of op - 1) (looseness e) (canon e) ++ canon_rests rs

  pub canon_items : Trees → List ℕ
  canon_items no_trees = []
  canon_items (and_tree e es) = canon e ++ canon_more es

  pub canon_more : Trees → List ℕ
  canon_more no_trees = []
  canon_more (and_tree e es) = codes ", " ++ canon e ++ canon_more es
