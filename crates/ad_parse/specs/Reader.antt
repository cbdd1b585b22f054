-- Reading forward: the tree and the tokens after it, or the first fault.
use Rattle.std.specs.Prelude.{ℕ, zero, suc, ◌+◌, List, [], ◌∷◌, length, Bool, true, false, Option, Some, None, Result, Ok, Err, nat_eq, if◌then◌else◌}
use Rattle.ad_value.specs.Content.{Content}
use Rattle.ad_tree.specs.declared.operator.Scope.{Scope}
use Rattle.ad_tree.specs.declared.operator.Scope.TheVariants.{Bare, My, Target}
use Rattle.ad_tree.specs.declared.operator.UnOp.{UnOp}
use Rattle.ad_tree.specs.declared.operator.BinOp.{BinOp}
use Rattle.ad_tree.specs.Tree.{Tree, literal, reference, unary, chain, choice, or_else, call, items, Rests, no_rests, and_rest, Trees, no_trees, and_tree}
use Rattle.ad_token.specs.declared.token.Bracket.{Bracket}
use Rattle.ad_token.specs.declared.token.Bracket.TheVariants.{Round, Curly}
use Rattle.ad_token.specs.declared.token.Token.{Token}
use Rattle.ad_token.specs.declared.token.Token.TheVariants as token
use Rattle.ad_token.specs.declared.token.Placed.{Placed}
use Rattle.ad_parse.specs.declared.error.ParseError.{ParseError}
use Rattle.ad_parse.specs.declared.error.ParseError.TheVariants as fault
use Rattle.ad_parse.specs.declared.levels.TheConstants.{LOOSEST}
use Rattle.ad_parse.specs.declared.parse.TheConstants.{MOST_NESTED}
use Rattle.ad_parse.specs.Operators.{level_of, prefix_of, literal_of}

-- what reading gives: a thing and the tokens after it, or a fault
abbrev pub ReadResult : Type 0 → Type 0
ReadResult A = Result (A × List Placed) ParseError

abbrev pub Read : Type 0 → Type 0
Read A = List Placed → ReadResult A

infixl 10 ◌>>=◌
abbrev pub ◌>>=◌ : {A B : Type 0}
    → Result A ParseError → (A → Result B ParseError) → Result B ParseError
(Ok x) >>= f = f x
(Err e) >>= f = Err e

-- the fault at a token that can't stand there
abbrev pub misplaced_token : Token → ℕ → ParseError
misplaced_token token.Real at = fault.Real at
misplaced_token token.Range at = fault.Range at
misplaced_token _ at = fault.Syntax at

-- the fault of a token that can't stand there, or of the end
abbrev pub refusal_of : ℕ → List Placed → ParseError
refusal_of end [] = fault.Syntax end
refusal_of end (p ∷ ts) = misplaced_token p.token p.at

-- the fault where operands are nested too deep
abbrev pub depth_refusal_at : Token → ℕ → ParseError
depth_refusal_at token.Real at = fault.Real at
depth_refusal_at token.Range at = fault.Range at
depth_refusal_at token.Bad at = fault.Syntax at
depth_refusal_at _ at = fault.TooDeep at

abbrev pub depth_refusal : ℕ → List Placed → ParseError
depth_refusal end [] = fault.Syntax end
depth_refusal end (p ∷ ts) = depth_refusal_at p.token p.at

-- whether a token is this mark
abbrev pub is_colon : Token → Bool
is_colon token.Colon = true
is_colon _ = false

abbrev pub is_same_bracket : Bracket → Bracket → Bool
is_same_bracket Round Round = true
is_same_bracket Curly Curly = true
is_same_bracket _ _ = false

abbrev pub is_closing_mark : Bracket → Token → Bool
is_closing_mark b (token.Close c) = is_same_bracket b c
is_closing_mark b _ = false

-- the tokens after a mark
abbrev pub pass_mark : (Token → Bool) → ℕ → List Placed → Result (List Placed) ParseError
pass_mark mark end [] = Err (fault.Syntax end)
pass_mark mark end (p ∷ ts) = if mark p.token then Ok ts else Err (misplaced_token p.token p.at)

-- an operator of the level, and the tokens after it
abbrev pub infix_of : ℕ → Token → List Placed → Option (BinOp × List Placed)
infix_of l (token.Op op) ts = if nat_eq (level_of op) l then Some (op, ts) else None
infix_of l _ ts = None

abbrev pub infix_at : ℕ → List Placed → Option (BinOp × List Placed)
infix_at l [] = None
infix_at l (p ∷ ts) = infix_of l p.token ts

-- an operator and its operand, and more of them
abbrev pub rests_by : Read Tree → Read Rests → List Placed → Option (BinOp × List Placed)
    → ReadResult Rests
rests_by operand more ts None = Ok (no_rests, ts)
rests_by operand more ts (Some o) =
    operand o.1 >>= (λ x. more x.1 >>= (λ y. Ok (and_rest o.0 x.0 y.0, y.1)))

-- operators of level l, each with an operand; the second number is at least that of the tokens
unfoldable pub rests_at : Read Tree → ℕ → ℕ → Read Rests
rests_at operand l zero ts = Ok (no_rests, ts)
rests_at operand l (suc m) ts = rests_by operand (rests_at operand l m) ts (infix_at l ts)

abbrev pub chain_of : Tree → Rests → Tree
chain_of e no_rests = e
chain_of e (and_rest op f rs) = chain e (and_rest op f rs)

-- an operand, and those after operators of level l
abbrev pub chain_from : Read Tree → ℕ → Tree → Read Tree
chain_from operand l e ts = rests_at operand l (length ts) ts >>= (λ y. Ok (chain_of e y.0, y.1))

unfoldable pub level_at : Read Tree → ℕ → Read Tree
level_at operand zero ts = operand ts
level_at operand (suc l) ts =
    level_at operand l ts >>= (λ x. chain_from (level_at operand l) (suc l) x.0 x.1)

-- the two branches after a question mark
abbrev pub branches_at : ℕ → Read Tree → Tree → Read Tree
branches_at end inner t ts =
    inner ts
    >>= (λ y. pass_mark is_colon end y.1
    >>= (λ us. inner us >>= (λ n. Ok (choice t y.0 n.0, n.1))))

-- what stands after ?:
abbrev pub or_else_at : Read Tree → Tree → Read Tree
or_else_at inner e ts = inner ts >>= (λ f. Ok (or_else e f.0, f.1))

-- what may follow the test
abbrev pub choice_by : ℕ → Read Tree → Tree → Placed → Token → Read Tree
choice_by end inner t p token.Question ts = branches_at end inner t ts
choice_by end inner t p token.OrElse ts = or_else_at inner t ts
choice_by end inner t p _ ts = Ok (t, p ∷ ts)

abbrev pub choice_at : ℕ → Read Tree → Tree → Read Tree
choice_at end inner t [] = Ok (t, [])
choice_at end inner t (p ∷ ts) = choice_by end inner t p p.token ts

abbrev pub comma_of : Token → List Placed → Option (List Placed)
comma_of token.Comma ts = Some ts
comma_of _ ts = None

abbrev pub comma_at : List Placed → Option (List Placed)
comma_at [] = None
comma_at (p ∷ ts) = comma_of p.token ts

abbrev pub no_more_items_at : Bracket → ℕ → Read Trees
no_more_items_at b end ts = pass_mark (is_closing_mark b) end ts >>= (λ us. Ok (no_trees, us))

abbrev pub more_items_by : Bracket → ℕ → Read Tree → Read Trees → List Placed
    → Option (List Placed) → ReadResult Trees
more_items_by b end inner more ts None = no_more_items_at b end ts
more_items_by b end inner more ts (Some us) =
    inner us >>= (λ x. more x.1 >>= (λ y. Ok (and_tree x.0 y.0, y.1)))

unfoldable pub more_items_at : Bracket → ℕ → Read Tree → ℕ → Read Trees
more_items_at b end inner zero ts = no_more_items_at b end ts
more_items_at b end inner (suc m) ts =
    more_items_by b end inner (more_items_at b end inner m) ts (comma_at ts)

-- an item, and those after commas
abbrev pub items_from : Bracket → ℕ → Read Tree → Tree → Read Trees
items_from b end inner e ts =
    more_items_at b end inner (length ts) ts >>= (λ y. Ok (and_tree e y.0, y.1))

abbrev pub items_at : Bracket → ℕ → Read Tree → Read Trees
items_at b end inner [] = Err (fault.Syntax end)
items_at b end inner (p ∷ ts) =
    if is_closing_mark b p.token then Ok (no_trees, ts)
    else inner (p ∷ ts) >>= (λ x. items_from b end inner x.0 x.1)

abbrev pub brackets_at : ℕ → Read Tree → Read Tree
brackets_at end inner ts =
    inner ts >>= (λ x. pass_mark (is_closing_mark Round) end x.1 >>= (λ us. Ok (x.0, us)))

abbrev pub list_at : ℕ → Read Tree → Read Tree
list_at end inner ts = items_at Curly end inner ts >>= (λ x. Ok (items x.0, x.1))

-- the tokens after an opening round bracket
abbrev pub open_of : Token → List Placed → Option (List Placed)
open_of (token.Open Round) ts = Some ts
open_of _ ts = None

abbrev pub open_at : List Placed → Option (List Placed)
open_at [] = None
open_at (p ∷ ts) = open_of p.token ts

-- a name, and the arguments after it
abbrev pub call_by : ℕ → Read Tree → List ℕ → List Placed → Option (List Placed) → ReadResult Tree
call_by end inner x ts None = Ok (reference Bare x, ts)
call_by end inner x ts (Some us) = items_at Round end inner us >>= (λ y. Ok (call x y.0, y.1))

abbrev pub name_at : ℕ → Read Tree → Scope → List ℕ → Read Tree
name_at end inner Bare x ts = call_by end inner x ts (open_at ts)
name_at end inner My x ts = Ok (reference My x, ts)
name_at end inner Target x ts = Ok (reference Target x, ts)

-- an operand that begins with no operator and no literal
abbrev pub primary_by : ℕ → Read Tree → Token → ℕ → Read Tree
primary_by end inner (token.Name s x) at ts = name_at end inner s x ts
primary_by end inner (token.Open Round) at ts = brackets_at end inner ts
primary_by end inner (token.Open Curly) at ts = list_at end inner ts
primary_by end inner k at ts = Err (misplaced_token k at)

abbrev pub literal_or : ℕ → Read Tree → Placed → List Placed → Option Content → ReadResult Tree
literal_or end inner p ts (Some c) = Ok (literal c, ts)
literal_or end inner p ts None = primary_by end inner p.token p.at ts

abbrev pub primary_at : ℕ → Read Tree → Placed → Read Tree
primary_at end inner p ts = literal_or end inner p ts (literal_of p.token)

-- the operand of an operator
abbrev pub prefix_at : Read Tree → UnOp → Read Tree
prefix_at operand op ts = operand ts >>= (λ x. Ok (unary op x.0, x.1))

abbrev pub operand_by : ℕ → Read Tree → Read Tree → Placed → List Placed → Option UnOp
    → ReadResult Tree
operand_by end operand inner p ts (Some op) = prefix_at operand op ts
operand_by end operand inner p ts None = primary_at end inner p ts

abbrev pub operand_with : ℕ → Read Tree → Read Tree → Read Tree
operand_with end operand inner [] = Err (fault.Syntax end)
operand_with end operand inner (p ∷ ts) = operand_by end operand inner p ts (prefix_of p.token)

-- where n - 1 more brackets and operators may hold an operand
unfoldable mutual
  pub operand_at : ℕ → ℕ → Read Tree
  operand_at end zero ts = Err (depth_refusal end ts)
  operand_at end (suc n) ts = operand_with end (operand_at end n) (cond_at end n) ts

  pub cond_at : ℕ → ℕ → Read Tree
  cond_at end zero ts = Err (depth_refusal end ts)
  cond_at end (suc n) ts =
      level_at (operand_with end (operand_at end n) (cond_at end n)) LOOSEST ts
      >>= (λ x. choice_at end (cond_at end n) x.0 x.1)

abbrev pub whole_at : ℕ → Tree → List Placed → Result Tree ParseError
whole_at end e [] = Ok e
whole_at end e (p ∷ ts) = Err (misplaced_token p.token p.at)

-- the tree of all the tokens, or the first fault
abbrev pub text_at : ℕ → List Placed → Result Tree ParseError
text_at end ts = cond_at end (MOST_NESTED + 1) ts >>= (λ x. whole_at end x.0 x.1)
