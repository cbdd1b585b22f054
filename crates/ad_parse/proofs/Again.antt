-- The spelling of a tree that was read is text of that tree.
use Rattle.std.proofs.Common.{◌≡◌, ℕ, zero, suc, ◌-◌, ◌≤◌, List, [], ◌∷◌, ◌++◌, Bool, true, false, cond, inl, inr, Some, refl, sym, ap, ◌∙◌, subst, arith}
use Rattle.std.specs.Prelude.{nat_le}
use Rattle.std.proofs.Math.Nat.{eq-or-lt_of_le}
use Rattle.std.proofs.lemmas.Bool.{leb-true, le-leb}
use Rattle.ad_value.specs.Content.{Content, Contents, undefined, error, truth, integer, text}
use Rattle.ad_value.specs.Content as value
use Rattle.ad_tree.specs.declared.operator.BinOp.{BinOp}
use Rattle.ad_tree.specs.declared.operator.BinOp.TheVariants as bin
use Rattle.ad_tree.specs.declared.operator.UnOp.{UnOp}
use Rattle.ad_tree.specs.declared.operator.UnOp.TheVariants as un
use Rattle.ad_tree.specs.Tree.{Tree, literal, reference, unary, chain, choice, or_else, call, items, Rests, and_rest, Trees, and_tree}
use Rattle.ad_token.specs.declared.token.Bracket.{Bracket}
use Rattle.ad_token.specs.declared.token.Bracket.TheVariants.{Round}
use Rattle.ad_token.specs.declared.token.Token.{Token}
use Rattle.ad_token.specs.declared.token.Token.TheVariants as token
use Rattle.ad_token.specs.declared.token.Placed.{Placed}
use Rattle.ad_token.specs.Canonical.{tokens_in}
use Rattle.ad_parse.specs.Operators.{level_of, prefix_of, literal_of}
use Rattle.ad_parse.specs.Grammar.{IsCond, alone, chosen, otherwise, IsLevel, operand, single, chained, IsRests, ended, more, IsOperand, prefixed, literally, named, called, bracketed, listed, IsItems, none, some, IsMore, last, another, IsText}
use Rattle.ad_parse.specs.Canon.{looseness}
use Rattle.ad_parse.specs.Spelling.{literal_token, prefix_token, spell_within, spell, spell_rests, spell_items, spell_more}
use Rattle.ad_parse.proofs.Moved.{moved_cond, no_tokens}

-- a token at the start of the text
abbrev pub mark : Token → Placed
mark t = record { at = 0; token = t }

-- tokens before others
abbrev pub place : List Token → List Placed → List Placed
place [] vs = vs
place (t ∷ ts) vs = mark t ∷ place ts vs

pub place-append : (a b : List Token) (vs : List Placed) → place (a ++ b) vs ≡ place a (place b vs)
place-append [] b vs = refl
place-append (t ∷ a) b vs = ap (λ x. mark t ∷ x) (place-append a b vs)

pub tokens_in-place : (a : List Token) → tokens_in (place a []) ≡ a
tokens_in-place [] = refl
tokens_in-place (t ∷ a) = ap (λ x. t ∷ x) (tokens_in-place a)

-- more nesting may be allowed
mutual
  pub deeper_cond : {n : ℕ} {ts us : List Placed} {e : Tree} → IsCond n ts e us → IsCond (suc n) ts e us
  deeper_cond (alone a) = alone (deeper_level a)
  deeper_cond (chosen a i b j c) = chosen (deeper_level a) i (deeper_cond b) j (deeper_cond c)
  deeper_cond (otherwise a i b) = otherwise (deeper_level a) i (deeper_cond b)

  pub deeper_level : {l n : ℕ} {ts us : List Placed} {e : Tree} → IsLevel l n ts e us → IsLevel l (suc n) ts e us
  deeper_level (operand a) = operand (deeper_operand a)
  deeper_level (single a) = single (deeper_level a)
  deeper_level (chained a b) = chained (deeper_level a) (deeper_rests b)

  pub deeper_rests : {l n : ℕ} {ts us : List Placed} {rs : Rests} → IsRests l n ts rs us → IsRests l (suc n) ts rs us
  deeper_rests ended = ended
  deeper_rests (more i k a b) = more i k (deeper_level a) (deeper_rests b)

  pub deeper_operand : {n : ℕ} {ts us : List Placed} {e : Tree} → IsOperand n ts e us → IsOperand (suc n) ts e us
  deeper_operand (prefixed i a) = prefixed i (deeper_operand a)
  deeper_operand (literally i) = literally i
  deeper_operand (named i) = named i
  deeper_operand (called i j a) = called i j (deeper_items a)
  deeper_operand (bracketed i a j) = bracketed i (deeper_cond a) j
  deeper_operand (listed i a) = listed i (deeper_items a)

  pub deeper_items : {b : Bracket} {n : ℕ} {ts us : List Placed} {es : Trees} → IsItems b n ts es us → IsItems b (suc n) ts es us
  deeper_items (none i) = none i
  deeper_items (some a c) = some (deeper_cond a) (deeper_more c)

  pub deeper_more : {b : Bracket} {n : ℕ} {ts us : List Placed} {es : Trees} → IsMore b n ts es us → IsMore b (suc n) ts es us
  deeper_more (last i) = last i
  deeper_more (another i a c) = another i (deeper_cond a) (deeper_more c)

no_level : {l : ℕ} {ts us : List Placed} {e : Tree} → IsLevel l 0 ts e us → ⊥
no_level (operand a) = elim a [ ]
no_level (single a) = no_level a
no_level (chained a b) = no_level a

pub alone_at : (n : ℕ) (ts us : List Placed) (e : Tree) → IsLevel 6 n ts e us → IsCond n ts e us
alone_at zero ts us e a = absurd (no_level a)
alone_at (suc n) ts us e a = alone a

-- a place takes what a tighter one does
pub lift : (l k n : ℕ) (ts us : List Placed) (e : Tree) → l ≤ k → IsLevel l n ts e us → IsLevel k n ts e us
lift l zero n ts us e h a = let z : l ≡ 0 = omega arith in subst (λ x. IsLevel x n ts e us) z a
lift l (suc k) n ts us e h a = elim (eq-or-lt_of_le h) [
  | inl z ↦ subst (λ x. IsLevel x n ts e us) z a
  | inr z ↦ single (lift l k n ts us e (omega arith) a)
]

pub rests_op : {l n : ℕ} {ts us : List Placed} {op : BinOp} {e : Tree} {rs : Rests} → IsRests l n ts (and_rest op e rs) us → level_of op ≡ suc l
rests_op (more i k a b) = k

tighter_by_one : {l n : ℕ} {ts us : List Placed} {e : Tree} → IsLevel (suc l) n ts e us → looseness e ≤ l → IsLevel l n ts e us
tighter_by_one (single a) h = a
tighter_by_one (chained a b) h = let k = rests_op b in absurd (omega arith)

-- and what is tight enough, a tighter place takes
tighten : (l k n : ℕ) (ts us : List Placed) (e : Tree) → l ≤ k → looseness e ≤ l → IsLevel k n ts e us → IsLevel l n ts e us
tighten l zero n ts us e h t a = let z : 0 ≡ l = omega arith in subst (λ x. IsLevel x n ts e us) z a
tighten l (suc k) n ts us e h t a = elim (eq-or-lt_of_le h) [
  | inl z ↦ subst (λ x. IsLevel x n ts e us) (sym z) a
  | inr z ↦ tighten l k n ts us e (omega arith) t (tighter_by_one a (omega arith))
]

cond_level : {n : ℕ} {ts us : List Placed} {e : Tree} → IsCond n ts e us → looseness e ≤ 6 → IsLevel 6 n ts e us
cond_level (alone a) h = a
cond_level (chosen a i b j c) h = absurd (omega arith)
cond_level (otherwise a i b) h = absurd (omega arith)

-- brackets, or none
abbrev bracket : Bool → List Token → List Token
bracket b ts = cond b ts (token.Open Round ∷ (ts ++ token.Close Round ∷ []))

bracket_true : (b : Bool) (ts : List Token) → b ≡ true → bracket b ts ≡ ts
bracket_true true ts h = refl
bracket_true false ts h = cc

within_loose : (l k : ℕ) (ts : List Token) → k ≤ l → spell_within l k ts ≡ ts
within_loose l k ts h = bracket_true (nat_le k l) ts (le-leb k l h)

-- how a tree can be spelled where level l or a looser one is read
record Here (l n : ℕ) (e : Tree) : Type 0 where
  level : (k : ℕ) → l ≤ k → k ≤ 6 → (vs : List Placed) → IsLevel k n (place (spell_within k (looseness e) (spell e)) vs) e vs
  cond : (vs : List Placed) → IsCond n (place (spell e) vs) e vs

here_from : (l n : ℕ) (e : Tree) → l ≤ 6 → looseness e ≤ l → ((vs : List Placed) → IsLevel l n (place (spell e) vs) e vs) → Here l n e
here_from l n e small tight f = record {
  level = λ k h top vs. subst (λ ts. IsLevel k n (place ts vs) e vs) (sym (within_loose k (looseness e) (spell e) (omega arith))) (lift l k n (place (spell e) vs) vs e h (f vs));
  cond = λ vs. alone_at n (place (spell e) vs) vs e (lift l 6 n (place (spell e) vs) vs e small (f vs));
}

bracketed_here : (n k : ℕ) (e : Tree) (b : Bool) → ((vs : List Placed) → IsCond n (place (spell e) vs) e vs) → (b ≡ true → looseness e ≤ k) → k ≤ 6 → (vs : List Placed) → IsLevel k (suc n) (place (bracket b (spell e)) vs) e vs
bracketed_here n k e true f t top vs = tighten k 6 (suc n) (place (spell e) vs) vs e top (t refl) (cond_level (deeper_cond (f vs)) (let h = t refl in omega arith))
bracketed_here n k e false f t top vs =
    let inner : IsCond n (place (spell e) (mark (token.Close Round) ∷ vs)) e (mark (token.Close Round) ∷ vs) = f (mark (token.Close Round) ∷ vs) in
    let whole : IsOperand (suc n) (mark (token.Open Round) ∷ place (spell e) (mark (token.Close Round) ∷ vs)) e vs = bracketed refl inner refl in
    subst (λ ts. IsLevel k (suc n) (mark (token.Open Round) ∷ ts) e vs) (sym (place-append (spell e) (token.Close Round ∷ []) vs)) (lift 0 k (suc n) _ vs e (omega arith) (operand whole))

looser : (l n : ℕ) (e : Tree) → Here l n e → Here (suc l) n e
looser l n e h = record { level = λ k g top vs. h.level k (omega arith) top vs; cond = h.cond }

pub level_small : (op : BinOp) → level_of op ≤ 6
level_small bin.Multiply = omega arith
level_small bin.Divide = omega arith
level_small bin.Modulo = omega arith
level_small bin.Add = omega arith
level_small bin.Subtract = omega arith
level_small bin.Less = omega arith
level_small bin.LessEqual = omega arith
level_small bin.GreaterEqual = omega arith
level_small bin.Greater = omega arith
level_small bin.Equal = omega arith
level_small bin.NotEqual = omega arith
level_small bin.Same = omega arith
level_small bin.NotSame = omega arith
level_small bin.And = omega arith
level_small bin.Or = omega arith

level_operand : {n : ℕ} {ts us : List Placed} {e : Tree} → IsLevel 0 n ts e us → IsOperand n ts e us
level_operand (operand a) = a

prefix_again : (op : UnOp) → prefix_of (prefix_token op) ≡ Some op
prefix_again un.Minus = refl
prefix_again un.Plus = refl
prefix_again un.Not = refl

no_list : (k : Token) (cs : Contents) → literal_of k ≡ Some (value.items cs) → ⊥
no_list token.Undefined cs h = cc
no_list token.Error cs h = cc
no_list token.True cs h = cc
no_list token.False cs h = cc
no_list (token.Int n) cs h = cc
no_list (token.Str s) cs h = cc
no_list _ cs h = cc

literal_again : (k : Token) (c : Content) → literal_of k ≡ Some c → literal_of (literal_token c) ≡ Some c
literal_again k undefined h = refl
literal_again k error h = refl
literal_again k (truth true) h = refl
literal_again k (truth false) h = refl
literal_again k (integer n) h = refl
literal_again k (text s) h = refl
literal_again k (value.items cs) h = absurd (no_list k cs h)

mutual
  again_cond : {n : ℕ} {ts us : List Placed} {e : Tree} → IsCond n ts e us → (vs : List Placed) → IsCond n (place (spell e) vs) e vs
  again_cond (alone a) vs = (again_level a).cond vs
  again_cond (chosen {n = n} {t = t} {y = y} {e = e} a i b j c) vs =
      let test = spell_within 6 (looseness t) (spell t) in
      let third = again_cond c vs in
      let second = again_cond b (mark token.Colon ∷ place (spell e) vs) in
      let first = (again_level a).level 6 (omega arith) (omega arith) (mark token.Question ∷ place (spell y) (mark token.Colon ∷ place (spell e) vs)) in
      subst (λ ts. IsCond (suc n) ts (choice t y e) vs)
      (sym (place-append test (token.Question ∷ (spell y ++ (token.Colon ∷ spell e))) vs ∙ ap (λ x. place test (mark token.Question ∷ x)) (place-append (spell y) (token.Colon ∷ spell e) vs)))
      (chosen first refl second refl third)
  again_cond (otherwise {n = n} {e = e} {f = f} a i b) vs =
      let test = spell_within 6 (looseness e) (spell e) in
      let second = again_cond b vs in
      let first = (again_level a).level 6 (omega arith) (omega arith) (mark token.OrElse ∷ place (spell f) vs) in
      subst (λ ts. IsCond (suc n) ts (or_else e f) vs) (sym (place-append test (token.OrElse ∷ spell f) vs)) (otherwise first refl second)

  again_level : {l n : ℕ} {ts us : List Placed} {e : Tree} → IsLevel l n ts e us → Here l n e
  again_level (operand a) = again_operand a
  again_level (single {l = l} {n = n} {e = e} a) = looser l n e (again_level a)
  again_level (chained {l = l} {n = n} {op = op} {e = e} {f = f} {rs = rs} a b) =
      let k = rests_op b in
      let small = level_small op in
      let less : level_of op - 1 ≡ l = omega arith in
      let others = again_rests b in
      let first = (again_level a).level l (omega arith) (omega arith) in
      here_from (suc l) n (chain e (and_rest op f rs)) (omega arith) (omega arith) (λ vs.
      subst (λ ts. IsLevel (suc l) n ts (chain e (and_rest op f rs)) vs)
      (ap (λ x. place (spell_within x (looseness e) (spell e)) (place (spell_rests (and_rest op f rs)) vs)) (sym less) ∙ sym (place-append (spell_within (level_of op - 1) (looseness e) (spell e)) (spell_rests (and_rest op f rs)) vs))
      (chained (first (place (spell_rests (and_rest op f rs)) vs)) (others vs)))

  again_rests : {l n : ℕ} {ts us : List Placed} {rs : Rests} → IsRests l n ts rs us → (vs : List Placed) → IsRests l n (place (spell_rests rs) vs) rs vs
  again_rests ended vs = ended
  again_rests (more {l = l} {n = n} {op = op} {e = e} {rs = rs} i k a b) vs =
      let small = level_small op in
      let less : level_of op - 1 ≡ l = omega arith in
      let first = (again_level a).level l (omega arith) (omega arith) (place (spell_rests rs) vs) in
      subst (λ ts. IsRests l n (mark (token.Op op) ∷ ts) (and_rest op e rs) vs)
      (ap (λ x. place (spell_within x (looseness e) (spell e)) (place (spell_rests rs) vs)) (sym less) ∙ sym (place-append (spell_within (level_of op - 1) (looseness e) (spell e)) (spell_rests rs) vs))
      (more refl k first (again_rests b vs))

  again_operand : {n : ℕ} {ts us : List Placed} {e : Tree} → IsOperand n ts e us → Here 0 n e
  again_operand (prefixed {n = n} {op = op} {e = e} i a) =
      let arg = again_operand a in
      here_from 0 (suc n) (unary op e) (omega arith) (omega arith) (λ vs. operand (prefixed (prefix_again op) (level_operand (arg.level 0 (omega arith) (omega arith) vs))))
  again_operand (literally {n = n} {p = p} {c = c} i) = here_from 0 (suc n) (literal c) (omega arith) (omega arith) (λ vs. operand (literally (literal_again p.token c i)))
  again_operand (named {n = n} {s = s} {x = x} i) = here_from 0 (suc n) (reference s x) (omega arith) (omega arith) (λ vs. operand (named refl))
  again_operand (called {n = n} {x = x} {es = es} i j a) = here_from 0 (suc n) (call x es) (omega arith) (omega arith) (λ vs. operand (called refl refl (again_items a vs)))
  again_operand (bracketed {n = n} {e = e} i a j) = record {
    level = λ k h top vs. bracketed_here n k e (nat_le (looseness e) k) (again_cond a) (leb-true (looseness e) k) top vs;
    cond = λ vs. deeper_cond (again_cond a vs);
  }
  again_operand (listed {n = n} {es = es} i a) = here_from 0 (suc n) (items es) (omega arith) (omega arith) (λ vs. operand (listed refl (again_items a vs)))

  again_items : {b : Bracket} {n : ℕ} {ts us : List Placed} {es : Trees} → IsItems b n ts es us → (vs : List Placed) → IsItems b n (place (spell_items b es) vs) es vs
  again_items (none i) vs = none refl
  again_items {b} (some {n = n} {e = e} {es = es} a c) vs =
      subst (λ ts. IsItems b n ts (and_tree e es) vs) (sym (place-append (spell e) (spell_more b es) vs)) (some (again_cond a (place (spell_more b es) vs)) (again_more c vs))

  again_more : {b : Bracket} {n : ℕ} {ts us : List Placed} {es : Trees} → IsMore b n ts es us → (vs : List Placed) → IsMore b n (place (spell_more b es) vs) es vs
  again_more (last i) vs = last refl
  again_more {b} (another {n = n} {e = e} {es = es} i a c) vs =
      subst (λ ts. IsMore b n (mark token.Comma ∷ ts) (and_tree e es) vs) (sym (place-append (spell e) (spell_more b es) vs)) (another refl (again_cond a (place (spell_more b es) vs)) (again_more c vs))

-- Tokens that spell a tree that was read are text of it, wherever they stand.
pub spelled_again : (us ts : List Placed) (e : Tree) → IsText us e → tokens_in ts ≡ spell e → IsText ts e
spelled_again us ts e h is =
    let w = moved_cond (again_cond h []) ts (tokens_in-place (spell e) ∙ sym is) in
    subst (λ ys. IsCond 65 ts e ys) (no_tokens w.0 w.1) w.2
