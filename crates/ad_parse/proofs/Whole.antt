-- A text is read whole, or refused at the first token that is left.
use Rattle.std.proofs.Common.{◌≡◌, ◌<◌, ◌+◌, ℕ, List, [], ◌∷◌, length, Result, Ok, Err, sym, ap, ◌∙◌, arith}
use Rattle.ad_tree.specs.Tree.{Tree}
use Rattle.ad_token.specs.declared.token.Placed.{Placed}
use Rattle.ad_parse.specs.declared.error.ParseError.{ParseError}
use Rattle.ad_parse.specs.declared.parse.TheConstants.{MOST_NESTED}
use Rattle.ad_parse.specs.Gives.{Fails}
use Rattle.ad_parse.specs.Reader.{ReadResult, ◌>>=◌, refusal_of, whole_at, cond_at, text_at}
use Rattle.ad_parse.proofs.Steps.{fails_on, fails_with}

module _ (end : ℕ) (ts : List Placed) (n : ℕ) where
  abbrev read : ReadResult Tree
  read = cond_at end n ts

  abbrev whole : ReadResult Tree → Result Tree ParseError
  whole r = r >>= (λ x. whole_at end x.0 x.1)

  as_text : n ≡ MOST_NESTED + 1 → whole read ≡ text_at end ts
  as_text is = ap (λ n. whole (cond_at end n ts)) is

  pub all_read : (e : Tree) (rest : List Placed) → read ≡ Ok (e, rest) → length rest ≡ 0 → n ≡ MOST_NESTED + 1 → text_at end ts ≡ Ok e
  all_read e [] is none nested = sym (as_text nested) ∙ ap whole is
  all_read e (p ∷ rest) is none nested = absurd (omega arith)

  pub some_left : (e : Tree) (rest : List Placed) (f : ParseError) → read ≡ Ok (e, rest) → 0 < length rest → f ≡ refusal_of end rest → n ≡ MOST_NESTED + 1 → Fails f (text_at end ts)
  some_left e [] f is some fault nested = absurd (omega arith)
  some_left e (p ∷ rest) f is some fault nested =
      fails_with f (text_at end ts) (sym (as_text nested) ∙ ap whole is ∙ ap Err (sym fault))

  pub not_read : (f : ParseError) → Fails f read → n ≡ MOST_NESTED + 1 → Fails f (text_at end ts)
  not_read f failed nested =
      fails_on f read (text_at end ts) (λ e is. sym (as_text nested) ∙ ap whole is) failed
