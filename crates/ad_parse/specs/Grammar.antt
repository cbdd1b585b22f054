-- The grammar: which tokens spell which tree (HTCondor manual, "ClassAd syntax"). Each relation
-- 'ts, e, us' says that ts are the tokens of e and then us. Its number n is the limit of nesting:
-- fewer than n brackets and operators before it hold each operand.
use Rattle.std.specs.Prelude.{◌≡◌, ℕ, suc, ◌+◌, List, [], ◌∷◌, Some}
use Rattle.ad_value.specs.Content.{Content}
use Rattle.ad_tree.specs.declared.operator.Scope.{Scope}
use Rattle.ad_tree.specs.declared.operator.Scope.TheVariants.{Bare}
use Rattle.ad_tree.specs.declared.operator.UnOp.{UnOp}
use Rattle.ad_tree.specs.declared.operator.BinOp.{BinOp}
use Rattle.ad_tree.specs.Tree.{Tree, literal, reference, unary, chain, choice, or_else, call, items, Rests, no_rests, and_rest, Trees, no_trees, and_tree}
use Rattle.ad_token.specs.declared.token.Bracket.{Bracket}
use Rattle.ad_token.specs.declared.token.Bracket.TheVariants.{Round, Curly}
use Rattle.ad_token.specs.declared.token.Token.TheVariants as token
use Rattle.ad_token.specs.declared.token.Placed.{Placed}
use Rattle.ad_parse.specs.declared.levels.TheConstants.{LOOSEST}
use Rattle.ad_parse.specs.declared.parse.TheConstants.{MOST_NESTED}
use Rattle.ad_parse.specs.Operators.{level_of, prefix_of, literal_of}

mutual
  -- or, or ? cond : cond, or ?: cond
  pub data IsCond : ℕ → List Placed → Tree → List Placed → Type 0 where
    alone : {n : ℕ} {ts us : List Placed} {e : Tree}
        → IsLevel LOOSEST (suc n) ts e us → IsCond (suc n) ts e us
    chosen : {n : ℕ} {ts us vs ws : List Placed} {p q : Placed} {t y e : Tree}
        → IsLevel LOOSEST (suc n) ts t (p ∷ us) → p.token ≡ token.Question
        → IsCond n us y (q ∷ vs) → q.token ≡ token.Colon → IsCond n vs e ws
        → IsCond (suc n) ts (choice t y e) ws
    otherwise : {n : ℕ} {ts us vs : List Placed} {p : Placed} {e f : Tree}
        → IsLevel LOOSEST (suc n) ts e (p ∷ us) → p.token ≡ token.OrElse → IsCond n us f vs
        → IsCond (suc n) ts (or_else e f) vs

  -- operands of the next tighter level, divided by operators of this level; level 0 is a unary
  pub data IsLevel : ℕ → ℕ → List Placed → Tree → List Placed → Type 0 where
    operand : {n : ℕ} {ts us : List Placed} {e : Tree}
        → IsOperand n ts e us → IsLevel 0 n ts e us
    single : {l n : ℕ} {ts us : List Placed} {e : Tree}
        → IsLevel l n ts e us → IsLevel (suc l) n ts e us
    chained : {l n : ℕ} {ts us vs : List Placed} {op : BinOp} {e f : Tree} {rs : Rests}
        → IsLevel l n ts e us → IsRests l n us (and_rest op f rs) vs
        → IsLevel (suc l) n ts (chain e (and_rest op f rs)) vs

  -- operators of the level above l, each with an operand of level l
  pub data IsRests : ℕ → ℕ → List Placed → Rests → List Placed → Type 0 where
    ended : {l n : ℕ} {ts : List Placed} → IsRests l n ts no_rests ts
    more : {l n : ℕ} {p : Placed} {ts us vs : List Placed} {op : BinOp} {e : Tree} {rs : Rests}
        → p.token ≡ token.Op op → level_of op ≡ suc l
        → IsLevel l n ts e us → IsRests l n us rs vs
        → IsRests l n (p ∷ ts) (and_rest op e rs) vs

  -- a unary operator and a unary; or a literal, a reference, name ( conds ), ( cond ), { conds }
  pub data IsOperand : ℕ → List Placed → Tree → List Placed → Type 0 where
    prefixed : {n : ℕ} {p : Placed} {ts us : List Placed} {op : UnOp} {e : Tree}
        → prefix_of p.token ≡ Some op → IsOperand n ts e us
        → IsOperand (suc n) (p ∷ ts) (unary op e) us
    literally : {n : ℕ} {p : Placed} {ts : List Placed} {c : Content}
        → literal_of p.token ≡ Some c → IsOperand (suc n) (p ∷ ts) (literal c) ts
    named : {n : ℕ} {p : Placed} {ts : List Placed} {s : Scope} {x : List ℕ}
        → p.token ≡ token.Name s x → IsOperand (suc n) (p ∷ ts) (reference s x) ts
    called : {n : ℕ} {p q : Placed} {ts us : List Placed} {x : List ℕ} {es : Trees}
        → p.token ≡ token.Name Bare x → q.token ≡ token.Open Round → IsItems Round n ts es us
        → IsOperand (suc n) (p ∷ q ∷ ts) (call x es) us
    bracketed : {n : ℕ} {p q : Placed} {ts us : List Placed} {e : Tree}
        → p.token ≡ token.Open Round → IsCond n ts e (q ∷ us) → q.token ≡ token.Close Round
        → IsOperand (suc n) (p ∷ ts) e us
    listed : {n : ℕ} {p : Placed} {ts us : List Placed} {es : Trees}
        → p.token ≡ token.Open Curly → IsItems Curly n ts es us
        → IsOperand (suc n) (p ∷ ts) (items es) us

  -- conds, none or several, divided by commas, and the closing bracket
  pub data IsItems : Bracket → ℕ → List Placed → Trees → List Placed → Type 0 where
    none : {b : Bracket} {n : ℕ} {p : Placed} {ts : List Placed}
        → p.token ≡ token.Close b → IsItems b n (p ∷ ts) no_trees ts
    some : {b : Bracket} {n : ℕ} {ts us vs : List Placed} {e : Tree} {es : Trees}
        → IsCond n ts e us → IsMore b n us es vs → IsItems b n ts (and_tree e es) vs

  pub data IsMore : Bracket → ℕ → List Placed → Trees → List Placed → Type 0 where
    last : {b : Bracket} {n : ℕ} {p : Placed} {ts : List Placed}
        → p.token ≡ token.Close b → IsMore b n (p ∷ ts) no_trees ts
    another : {b : Bracket} {n : ℕ} {p : Placed} {ts us vs : List Placed} {e : Tree} {es : Trees}
        → p.token ≡ token.Comma → IsCond n ts e us → IsMore b n us es vs
        → IsMore b n (p ∷ ts) (and_tree e es) vs

-- all the tokens spell the tree, and no operand stands deeper than it may
abbrev pub IsText : List Placed → Tree → Type 0
IsText ts e = IsCond (MOST_NESTED + 1) ts e []
