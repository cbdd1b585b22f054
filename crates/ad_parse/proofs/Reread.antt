-- The canonical text of what a text says is read as the same.
use Rattle.std.proofs.Common.{◌≡◌, ℕ, List, [], Result, Ok, Err, IfOk, sym, ap, ◌∙◌, subst}
use Rattle.ad_tree.specs.Tree.{Tree}
use Rattle.ad_token.specs.Lexing.{tokens_of}
use Rattle.ad_token.specs.Canonical.{tokens_in, kinds_of}
use Rattle.ad_token.proofs.Joined.{joined_read}
use Rattle.ad_parse.specs.Canon.{canon}
use Rattle.ad_parse.specs.Spelling.{spell}
use Rattle.ad_parse.specs.ExprText.{IsExprText}
use Rattle.ad_parse.proofs.Again.{spelled_again}
use Rattle.ad_parse.proofs.Pieces.{Proper, pieces, joined_is_canon, joined_is_spelling}
use Rattle.ad_parse.proofs.Apart.{pieces_apart}
use Rattle.ad_parse.proofs.Proper.{what_is_read_is_proper}

pub canon_spells : (e : Tree) → Proper e → tokens_in (tokens_of (canon e)) ≡ spell e
canon_spells e h = ap kinds_of (sym (joined_is_canon e h)) ∙ joined_read (pieces e []) (pieces_apart e h) ∙ joined_is_spelling e

pub again : (text : List ℕ) (e : Tree) → IsExprText text e → IsExprText (canon e) e
again text e is = record {
  short = is.prints_short;
  spelled = spelled_again (tokens_of text) (tokens_of (canon e)) e is.spelled (canon_spells e (what_is_read_is_proper text e is.spelled));
  prints_short = is.prints_short;
}

-- so is what was printed
pub printed_again : {M : Type 0} (r : Result (List ℕ) M) (e : Tree) → IfOk r (λ t. t ≡ canon e) → (text : List ℕ) → IsExprText text e → IfOk r (λ t. IsExprText t e)
printed_again (Ok t) e h text is = subst (λ bs. IsExprText bs e) (sym h) (again text e is)
printed_again (Err f) e h text is = tt
