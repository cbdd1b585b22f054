-- A function of the program gives what reading gives, unless memory runs out.
use Rattle.std.specs.Prelude.{◌≡◌, ◌≤◌, List, length, Result, Ok, Err, IfOk}
use Rattle.std.specs.Borrow.{Bor}
use Rattle.std.specs.Global.{Box}
use Rattle.ad_tree.specs.declared.tree.Expr.{Expr}
use Rattle.ad_tree.specs.declared.tree.ExprList.{ExprList}
use Rattle.ad_tree.specs.declared.tree.RestList.{RestList}
use Rattle.ad_tree.specs.Tree.{Tree, Trees, Rests, tree, trees, trees_of, rests, rests_of}
use Rattle.ad_token.specs.declared.token.Placed.{Placed}
use Rattle.ad_parse.specs.declared.error.ParseError.{ParseError}
use Rattle.ad_parse.specs.declared.error.ParseError.TheVariants.{TooLong, Real, Range, TooDeep, Syntax, Memory}
use Rattle.ad_parse.specs.Reader.{ReadResult}

abbrev pub Fails : {Y : Type 0} → ParseError → Result Y ParseError → Type 0
Fails Memory read = Unit {0}
Fails (TooLong length) read = read ≡ Err (TooLong length)
Fails (Real at) read = read ≡ Err (Real at)
Fails (Range at) read = read ≡ Err (Range at)
Fails (TooDeep at) read = read ≡ Err (TooDeep at)
Fails (Syntax at) read = read ≡ Err (Syntax at)

abbrev pub Gives : {X Y : Type 0} → (X → Y) → Result X ParseError → Result Y ParseError → Type 0
Gives view (Ok x) read = read ≡ Ok (view x)
Gives view (Err e) read = Fails e read

-- what a function of the parser gives: a thing and the tokens after it, or an error
abbrev pub ParseResult : Type 0 → Type 0
ParseResult X = Result (X × Bor (List Placed)) ParseError

abbrev pub GivesTree : ParseResult Expr → ReadResult Tree → Type 0
GivesTree read given = Gives (λ x. (tree x.0, x.1.now)) read given

abbrev pub GivesBox : ParseResult (Box Expr) → ReadResult Tree → Type 0
GivesBox read given = Gives (λ x. (tree x.0.value, x.1.now)) read given

abbrev pub GivesTrees : ParseResult ExprList → ReadResult Trees → Type 0
GivesTrees read given = Gives (λ x. (trees_of (trees x.0), x.1.now)) read given

abbrev pub GivesRests : ParseResult RestList → ReadResult Rests → Type 0
GivesRests read given = Gives (λ x. (rests_of (rests x.0), x.1.now)) read given

-- no more tokens are left than there were
abbrev pub LeavesWithin : {X : Type 0} → List Placed → ParseResult X → Type 0
LeavesWithin ts read = IfOk read (λ x. length x.1.now ≤ length ts)

-- the tokens after a mark
abbrev pub Passes : Result (Bor (List Placed)) ParseError → Result (List Placed) ParseError → Type 0
Passes (Ok x) read = read ≡ Ok x.now
Passes (Err e) read = read ≡ Err e

-- a fact of what was given
abbrev pub Holds : {X : Type 0} → (X → Type 0) → Result X ParseError → Type 0
Holds P (Ok x) = P x
Holds P (Err e) = e ≡ Memory
