-- What `parse_expr` gives, in the words of values.
use Rattle.std.proofs.Common.{◌≡◌, ◌≢◌, ℕ, List, Ok, Err, ap, sym, subst}
use Rattle.ad_tree.specs.declared.tree.Expr.{Expr}
use Rattle.ad_tree.specs.Tree.{Tree, tree}
use Rattle.ad_parse.specs.declared.error.ParseError.{ParseError}
use Rattle.ad_parse.specs.declared.error.ParseError.TheVariants as parse
use Rattle.ad_parse.specs.ExprText.{IsExprText, IsRefused}
use Rattle.ad_parse.proofs.Texts.{said_is_read, cause_is_read}
use Rattle.submit_lines.specs.declared.error.ValueError.{ValueError}
use Rattle.submit_lines.specs.Values.{of_reading, of_parse, tree_of_text, GivesValue}

pub read_is : (text : List ℕ) (e : Tree) → IsExprText text e → tree_of_text text ≡ Ok e
read_is text e is = ap of_reading (said_is_read text e is)

refused_by : (text : List ℕ) (f : ParseError) → IsRefused text f → tree_of_text text ≡ of_reading (Err f)
refused_by text f is = ap of_reading (cause_is_read text f is)

pub refused_is : (text : List ℕ) (f : ParseError) (g : ValueError) → g ≡ of_parse f → (f ≢ parse.Memory → IsRefused text f) → GivesValue {X = Expr} tree (Err g) (tree_of_text text)
refused_is text f g e h = subst (λ g. GivesValue {X = Expr} tree (Err g) (tree_of_text text)) (sym e) (by f h)
  where
    by : (f : ParseError) → (f ≢ parse.Memory → IsRefused text f) → GivesValue {X = Expr} tree (Err (of_parse f)) (tree_of_text text)
    by parse.Memory h = tt
    by (parse.TooLong n) h = refused_by text _ (h (λ e. cc))
    by (parse.Real n) h = refused_by text _ (h (λ e. cc))
    by (parse.Range n) h = refused_by text _ (h (λ e. cc))
    by (parse.TooDeep n) h = refused_by text _ (h (λ e. cc))
    by (parse.Syntax n) h = refused_by text _ (h (λ e. cc))
