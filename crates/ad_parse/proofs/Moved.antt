-- What tokens spell doesn't depend on where they stand.
use Rattle.std.proofs.Common.{◌≡◌, ℕ, suc, List, [], ◌∷◌, refl, sym, ap, ◌∙◌, subst}
use Rattle.ad_tree.specs.Tree.{Tree, literal, reference, unary, call, items, Rests, and_rest, Trees, no_trees, and_tree}
use Rattle.ad_token.specs.declared.token.Bracket.{Bracket}
use Rattle.ad_token.specs.declared.token.Token.{Token}
use Rattle.ad_token.specs.declared.token.Placed.{Placed}
use Rattle.ad_token.specs.Canonical.{tokens_in}
use Rattle.ad_parse.specs.Operators.{prefix_of, literal_of}
use Rattle.ad_parse.specs.Grammar.{IsCond, alone, chosen, otherwise, IsLevel, operand, single, chained, IsRests, ended, more, IsOperand, prefixed, literally, named, called, bracketed, listed, IsItems, none, some, IsMore, last, another}

-- a first token, and those after it
record Front (p : Placed) (ts xs : List Placed) : Type 0 where
  first : Placed
  left : List Placed
  parts : xs ≡ first ∷ left
  same : first.token ≡ p.token
  others : tokens_in ts ≡ tokens_in left

abbrev head_of : Token → List Token → Token
head_of d [] = d
head_of d (t ∷ ts) = t

abbrev tail_of : List Token → List Token
tail_of [] = []
tail_of (t ∷ ts) = ts

front : (p : Placed) (ts xs : List Placed) → tokens_in (p ∷ ts) ≡ tokens_in xs → Front p ts xs
front p ts [] h = cc
front p ts (q ∷ xs) h = record { first = q; left = xs; parts = refl; same = ap (head_of p.token) (sym h); others = ap tail_of h }

pub no_tokens : (ts : List Placed) → [] ≡ tokens_in ts → ts ≡ []
no_tokens [] h = refl
no_tokens (p ∷ ts) h = cc

mutual
  pub moved_cond : {n : ℕ} {ts us : List Placed} {e : Tree} → IsCond n ts e us → (xs : List Placed) → tokens_in ts ≡ tokens_in xs → (ys : List Placed) × (tokens_in us ≡ tokens_in ys) × IsCond n xs e ys
  moved_cond (alone a) xs h = let w = moved_level a xs h in (w.0, w.1, alone w.2)
  moved_cond (chosen {n = n} {us = us} {vs = vs} {p = p} {q = q} {t = t} {y = y} a i b j c) xs h =
      let w = moved_level a xs h in
      let f = front p us w.0 w.1 in
      let x = moved_cond b f.left f.others in
      let g = front q vs x.0 x.1 in
      let z = moved_cond c g.left g.others in
      (z.0, z.1, chosen (subst (λ v. IsLevel 6 (suc n) xs t v) f.parts w.2) (f.same ∙ i) (subst (λ v. IsCond n f.left y v) g.parts x.2) (g.same ∙ j) z.2)
  moved_cond (otherwise {n = n} {us = us} {p = p} {e = e} a i b) xs h =
      let w = moved_level a xs h in
      let f = front p us w.0 w.1 in
      let x = moved_cond b f.left f.others in
      (x.0, x.1, otherwise (subst (λ v. IsLevel 6 (suc n) xs e v) f.parts w.2) (f.same ∙ i) x.2)

  moved_level : {l n : ℕ} {ts us : List Placed} {e : Tree} → IsLevel l n ts e us → (xs : List Placed) → tokens_in ts ≡ tokens_in xs → (ys : List Placed) × (tokens_in us ≡ tokens_in ys) × IsLevel l n xs e ys
  moved_level (operand a) xs h = let w = moved_operand a xs h in (w.0, w.1, operand w.2)
  moved_level (single a) xs h = let w = moved_level a xs h in (w.0, w.1, single w.2)
  moved_level (chained a b) xs h = let w = moved_level a xs h in let x = moved_rests b w.0 w.1 in (x.0, x.1, chained w.2 x.2)

  moved_rests : {l n : ℕ} {ts us : List Placed} {rs : Rests} → IsRests l n ts rs us → (xs : List Placed) → tokens_in ts ≡ tokens_in xs → (ys : List Placed) × (tokens_in us ≡ tokens_in ys) × IsRests l n xs rs ys
  moved_rests ended xs h = (xs, h, ended)
  moved_rests (more {l = l} {n = n} {p = p} {ts = ts} {op = op} {e = e} {rs = rs} i k a b) xs h =
      let f = front p ts xs h in
      let w = moved_level a f.left f.others in
      let x = moved_rests b w.0 w.1 in
      (x.0, x.1, subst (λ v. IsRests l n v (and_rest op e rs) x.0) (sym f.parts) (more (f.same ∙ i) k w.2 x.2))

  moved_operand : {n : ℕ} {ts us : List Placed} {e : Tree} → IsOperand n ts e us → (xs : List Placed) → tokens_in ts ≡ tokens_in xs → (ys : List Placed) × (tokens_in us ≡ tokens_in ys) × IsOperand n xs e ys
  moved_operand (prefixed {n = n} {p = p} {ts = ts} {op = op} {e = e} i a) xs h =
      let f = front p ts xs h in
      let w = moved_operand a f.left f.others in
      (w.0, w.1, subst (λ v. IsOperand (suc n) v (unary op e) w.0) (sym f.parts) (prefixed (ap prefix_of f.same ∙ i) w.2))
  moved_operand (literally {n = n} {p = p} {ts = ts} {c = c} i) xs h =
      let f = front p ts xs h in
      (f.left, f.others, subst (λ v. IsOperand (suc n) v (literal c) f.left) (sym f.parts) (literally (ap literal_of f.same ∙ i)))
  moved_operand (named {n = n} {p = p} {ts = ts} {s = s} {x = x} i) xs h =
      let f = front p ts xs h in
      (f.left, f.others, subst (λ v. IsOperand (suc n) v (reference s x) f.left) (sym f.parts) (named (f.same ∙ i)))
  moved_operand (called {n = n} {p = p} {q = q} {ts = ts} {x = x} {es = es} i j a) xs h =
      let f = front p (q ∷ ts) xs h in
      let g = front q ts f.left f.others in
      let w = moved_items a g.left g.others in
      (w.0, w.1, subst (λ v. IsOperand (suc n) v (call x es) w.0) (sym (f.parts ∙ ap (λ v. f.first ∷ v) g.parts)) (called (f.same ∙ i) (g.same ∙ j) w.2))
  moved_operand (bracketed {n = n} {p = p} {q = q} {ts = ts} {us = us} {e = e} i a j) xs h =
      let f = front p ts xs h in
      let w = moved_cond a f.left f.others in
      let g = front q us w.0 w.1 in
      (g.left, g.others, subst (λ v. IsOperand (suc n) v e g.left) (sym f.parts) (bracketed (f.same ∙ i) (subst (λ v. IsCond n f.left e v) g.parts w.2) (g.same ∙ j)))
  moved_operand (listed {n = n} {p = p} {ts = ts} {es = es} i a) xs h =
      let f = front p ts xs h in
      let w = moved_items a f.left f.others in
      (w.0, w.1, subst (λ v. IsOperand (suc n) v (items es) w.0) (sym f.parts) (listed (f.same ∙ i) w.2))

  moved_items : {b : Bracket} {n : ℕ} {ts us : List Placed} {es : Trees} → IsItems b n ts es us → (xs : List Placed) → tokens_in ts ≡ tokens_in xs → (ys : List Placed) × (tokens_in us ≡ tokens_in ys) × IsItems b n xs es ys
  moved_items (none {b = b} {n = n} {p = p} {ts = ts} i) xs h =
      let f = front p ts xs h in
      (f.left, f.others, subst (λ v. IsItems b n v no_trees f.left) (sym f.parts) (none (f.same ∙ i)))
  moved_items (some a c) xs h = let w = moved_cond a xs h in let x = moved_more c w.0 w.1 in (x.0, x.1, some w.2 x.2)

  moved_more : {b : Bracket} {n : ℕ} {ts us : List Placed} {es : Trees} → IsMore b n ts es us → (xs : List Placed) → tokens_in ts ≡ tokens_in xs → (ys : List Placed) × (tokens_in us ≡ tokens_in ys) × IsMore b n xs es ys
  moved_more (last {b = b} {n = n} {p = p} {ts = ts} i) xs h =
      let f = front p ts xs h in
      (f.left, f.others, subst (λ v. IsMore b n v no_trees f.left) (sym f.parts) (last (f.same ∙ i)))
  moved_more (another {b = b} {n = n} {p = p} {ts = ts} {e = e} {es = es} i a c) xs h =
      let f = front p ts xs h in
      let w = moved_cond a f.left f.others in
      let x = moved_more c w.0 w.1 in
      (x.0, x.1, subst (λ v. IsMore b n v (and_tree e es) x.0) (sym f.parts) (another (f.same ∙ i) w.2 x.2))
