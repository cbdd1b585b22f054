-- Expressions that are what their canonical texts say.
use Rattle.std.proofs.Common.{◌≡◌, suc, ◌≤◌, Bool, true, false, cond, ◌∷◌, length, Ok, refl, sym, subst, arith}
use Rattle.std.specs.Prelude.{ℤ, pos, negsuc, decimal}
use Rattle.std.specs.Ordering.{int_eq}
use Rattle.std.proofs.lemmas.Fmt.{length-decimal-le}
use Rattle.ad_value.specs.Content.{Content, integer}
use Rattle.ad_value.specs.Literal.{integer_text, least_integer}
use Rattle.ad_tree.specs.ValueTree.{value_tree, integer_tree}
use Rattle.ad_token.specs.Lexing.{token_at, lex_from}
use Rattle.ad_token.specs.Marks.{mark_of_three, mark_of_two, mark_of_one, mark_token}
use Rattle.ad_token.specs.Names.{word_of, is_name, scope_of_prefix, name_after_dot, scope_prefix_token, name_token}
use Rattle.ad_parse.specs.Canon.{canon}
use Rattle.ad_parse.specs.ExprText.{IsExprText, expression_at}
use Rattle.ad_parse.specs.ValueText.{IsShortInteger, HasReadableLiteral, nesting}
use Rattle.ad_parse.specs.Reader.{rests_at, level_at, operand_at, cond_at}
use Rattle.ad_parse.proofs.Literals.{value_canon, literal_says, says_within}
use Rattle.ad_parse.proofs.Texts.{IsReading, is_reading}
use Rattle.ad_rows.specs.Requests.{enough}
use Rattle.ad_rows.specs.Submitted.{IsReadable}

-- the expression of a value, exactly
pub readable_value : (c : Content) → HasReadableLiteral c → IsReadable (value_tree c)
readable_value c h = subst (λ t. IsExprText t (value_tree c)) (sym (value_canon c)) (literal_says c h)

pub value_within : (c : Content) → IsReadable (value_tree c) → HasReadableLiteral c
value_within c is = says_within c (subst (λ t. IsExprText t (value_tree c)) (value_canon c) is)

integer_is_short : (n : ℤ) → IsShortInteger n → length (integer_text n) ≤ 8192
integer_is_short (pos n) less =
    let short = length-decimal-le 19 n (omega arith) (omega (arith, less)) (omega (arith, less)) in omega (arith, short)
integer_is_short (negsuc n) less = by (int_eq (negsuc n) least_integer)
  where
    short : length (decimal (suc n)) ≤ 19
    short = length-decimal-le 19 (suc n) (omega arith) (omega (arith, less)) (omega (arith, less))

    by : (b : Bool) → length (cond b (integer_text least_integer) (45 ∷ decimal (suc n))) ≤ 8192
    by true = omega arith
    by false = omega (arith, short)

pub readable_integer : (n : ℤ) → IsShortInteger n → IsReadable (integer_tree n)
readable_integer n less = readable_value (integer n) (record { plain = less; shallow = shallow n; short = integer_is_short n less })
  where
    shallow : (n : ℤ) → nesting (integer n) ≤ 64
    shallow (pos n) = omega arith
    shallow (negsuc n) = omega arith

request_read : expression_at (canon enough) ≡ Ok enough
unfolding token_at lex_from mark_of_three mark_of_two mark_of_one mark_token word_of is_name scope_of_prefix name_after_dot scope_prefix_token name_token rests_at level_at operand_at cond_at
request_read = refl

pub readable_request : IsReadable enough
readable_request = subst (λ r. IsReading (canon enough) r) request_read (is_reading (canon enough))
