-- What `parse_expr` gives, in the words of values.
use Rattle.std.proofs.Common.{◌≡◌, ◌≢◌, false, true≢false, ℕ, List, Some, None, ap, sym}
use Rattle.ad_tree.specs.Tree.{Tree}
use Rattle.ad_parse.specs.declared.error.ParseError.{ParseError}
use Rattle.ad_parse.specs.declared.error.ParseError.TheVariants as parse
use Rattle.ad_parse.specs.ExprText.{IsExprText, IsRefused}
use Rattle.ad_parse.proofs.Texts.{said_is_read, cause_is_read}
use Rattle.pool_config.specs.Settings.{expression_in, if_said, is_memory}

pub said_some : (text : List ℕ) (e : Tree) → IsExprText text e → Some e ≡ expression_in text
said_some text e is = sym (ap if_said (said_is_read text e is))

refused_by : (text : List ℕ) (f : ParseError) → IsRefused text f → None ≡ expression_in text
refused_by text f is = sym (ap if_said (cause_is_read text f is))

pub unsaid : (text : List ℕ) (f : ParseError) → is_memory f ≡ false → (f ≢ parse.Memory → IsRefused text f) → None ≡ expression_in text
unsaid text parse.Memory other h = absurd (true≢false other)
unsaid text (parse.TooLong n) other h = refused_by text _ (h (λ e. cc))
unsaid text (parse.Real n) other h = refused_by text _ (h (λ e. cc))
unsaid text (parse.Range n) other h = refused_by text _ (h (λ e. cc))
unsaid text (parse.TooDeep n) other h = refused_by text _ (h (λ e. cc))
unsaid text (parse.Syntax n) other h = refused_by text _ (h (λ e. cc))
