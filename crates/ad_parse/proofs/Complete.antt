-- What is spelled so is read.
use Rattle.std.proofs.Common.{◌≡◌, ℕ, suc, ◌-◌, ◌<◌, ◌≤◌, List, [], ◌∷◌, length, Bool, true, false, cond, Some, None, Result, Ok, Err, nat_eq, refl, ap, ◌∙◌, subst, arith}
use Rattle.std.specs.Prelude.{IfOk}
use Rattle.std.proofs.lemmas.Bool.{eq-eqb, ne_eqb}
use Rattle.ad_value.specs.Content.{Content}
use Rattle.ad_tree.specs.declared.operator.Scope.{Scope}
use Rattle.ad_tree.specs.declared.operator.Scope.TheVariants.{Bare, My, Target}
use Rattle.ad_tree.specs.declared.operator.BinOp.{BinOp}
use Rattle.ad_tree.specs.declared.operator.UnOp.{UnOp}
use Rattle.ad_tree.specs.Tree.{Tree, literal, reference, choice, or_else, Rests, Trees}
use Rattle.ad_token.specs.declared.token.Bracket.{Bracket}
use Rattle.ad_token.specs.declared.token.Bracket.TheVariants.{Round, Curly}
use Rattle.ad_token.specs.declared.token.Token.{Token}
use Rattle.ad_token.specs.declared.token.Token.TheVariants as token
use Rattle.ad_token.specs.declared.token.Placed.{Placed}
use Rattle.ad_parse.specs.declared.error.ParseError.{ParseError}
use Rattle.ad_parse.specs.Gives.{Gives}
use Rattle.ad_parse.specs.Operators.{level_of, prefix_of, literal_of}
use Rattle.ad_parse.specs.Grammar.{IsCond, alone, chosen, otherwise, IsLevel, operand, single, chained, IsRests, ended, more, IsOperand, prefixed, literally, named, called, bracketed, listed, IsItems, none, some, IsMore, last, another, IsText}
use Rattle.ad_parse.specs.Reader.{Read, ◌>>=◌, is_colon, is_same_bracket, is_closing_mark, pass_mark, infix_of, infix_at, rests_at, chain_from, level_at, choice_by, choice_at, comma_of, more_items_at, items_from, items_at, open_of, open_at, call_by, name_at, primary_by, literal_or, operand_by, operand_with, operand_at, cond_at, whole_at, text_at}
use Rattle.ad_parse.proofs.Steps.{rests_none, rests_more, items_none, items_more}
use Rattle.ad_parse.proofs.Sound.{bind_ok, ok_is, read_is_spelled}

-- what is spelled is shorter by a token
mutual
  pub shorter_cond : {n : ℕ} {ts us : List Placed} {e : Tree} → IsCond n ts e us → length us < length ts
  shorter_cond (alone a) = shorter_level a
  shorter_cond (chosen a q b c d) = omega (arith, shorter_level a, shorter_cond b, shorter_cond d)
  shorter_cond (otherwise a q b) = omega (arith, shorter_level a, shorter_cond b)

  pub shorter_level : {l n : ℕ} {ts us : List Placed} {e : Tree} → IsLevel l n ts e us → length us < length ts
  shorter_level (operand a) = shorter_operand a
  shorter_level (single a) = shorter_level a
  shorter_level (chained a b) = omega (arith, shorter_level a, shorter_rests b)

  pub shorter_rests : {l n : ℕ} {ts us : List Placed} {rs : Rests} → IsRests l n ts rs us → length us ≤ length ts
  shorter_rests ended = omega arith
  shorter_rests (more i k a b) = omega (arith, shorter_level a, shorter_rests b)

  pub shorter_operand : {n : ℕ} {ts us : List Placed} {e : Tree} → IsOperand n ts e us → length us < length ts
  shorter_operand (prefixed i a) = omega (arith, shorter_operand a)
  shorter_operand (literally i) = omega arith
  shorter_operand (named i) = omega arith
  shorter_operand (called i j a) = omega (arith, shorter_items a)
  shorter_operand (bracketed i a c) = omega (arith, shorter_cond a)
  shorter_operand (listed i a) = omega (arith, shorter_items a)

  pub shorter_items : {b : Bracket} {n : ℕ} {ts us : List Placed} {es : Trees} → IsItems b n ts es us → length us < length ts
  shorter_items (none i) = omega arith
  shorter_items (some a b) = omega (arith, shorter_cond a, shorter_more b)

  pub shorter_more : {b : Bracket} {n : ℕ} {ts us : List Placed} {es : Trees} → IsMore b n ts es us → length us < length ts
  shorter_more (last i) = omega arith
  shorter_more (another i a b) = omega (arith, shorter_cond a, shorter_more b)

pub bind_at : {A B : Type 0} (r : Result A ParseError) (f : A → Result B ParseError) (x : A) (z : Result B ParseError) → r ≡ Ok x → f x ≡ z → (r >>= f) ≡ z
bind_at r f x z h g = ap (λ a. a >>= f) h ∙ g

pub if_true : {A : Type 0} (b : Bool) (x y z : A) → b ≡ true → x ≡ z → cond b x y ≡ z
if_true b x y z h g = ap (λ a. cond a x y) h ∙ g

pub if_false : {A : Type 0} (b : Bool) (x y z : A) → b ≡ false → y ≡ z → cond b x y ≡ z
if_false b x y z h g = ap (λ a. cond a x y) h ∙ g

pass_ok : (mark : Token → Bool) (end : ℕ) (p : Placed) (ts : List Placed) → mark p.token ≡ true → pass_mark mark end (p ∷ ts) ≡ Ok ts
pass_ok mark end p ts h = if_true (mark p.token) _ _ _ h refl

same_bracket : (b : Bracket) → is_same_bracket b b ≡ true
same_bracket Round = refl
same_bracket Curly = refl

closed : (b : Bracket) (p : Placed) → p.token ≡ token.Close b → is_closing_mark b p.token ≡ true
closed b p i = ap (is_closing_mark b) i ∙ same_bracket b

-- neither an operator of a level up to l nor the bracket of a call goes on
pub record Stops (l : ℕ) (ts : List Placed) : Type 0 where
  pub operators : (k : ℕ) → k ≤ l → infix_at k ts ≡ None
  pub uncalled : open_at ts ≡ None

-- whether a token makes a test of what stands before it
abbrev pub is_choice : Token → Bool
is_choice token.Question = true
is_choice token.OrElse = true
is_choice _ = false

abbrev pub choice_follows : List Placed → Bool
choice_follows [] = false
choice_follows (p ∷ ts) = is_choice p.token

-- nothing of a condition goes on
pub record Ends (ts : List Placed) : Type 0 where
  pub level : Stops 6 ts
  pub choice : choice_follows ts ≡ false

pub stops_at : (l : ℕ) (p : Placed) (t : Token) (ts : List Placed) → p.token ≡ t → ((k : ℕ) → k ≤ l → infix_of k t ts ≡ None) → open_of t ts ≡ None → Stops l (p ∷ ts)
stops_at l p t ts i f g = record { operators = λ k b. ap (λ x. infix_of k x ts) i ∙ f k b; uncalled = ap (λ x. open_of x ts) i ∙ g }

pub ends_at : (p : Placed) (t : Token) (ts : List Placed) → p.token ≡ t → ((k : ℕ) → infix_of k t ts ≡ None) → open_of t ts ≡ None → is_choice t ≡ false → Ends (p ∷ ts)
ends_at p t ts i f g h = record { level = stops_at 6 p t ts i (λ k b. f k) g; choice = ap is_choice i ∙ h }

pub ends_none : Ends []
ends_none = record { level = record { operators = λ k b. refl; uncalled = refl }; choice = refl }

stops_at_op : (l : ℕ) (op : BinOp) (p : Placed) (ts : List Placed) → p.token ≡ token.Op op → level_of op ≡ suc l → Stops l (p ∷ ts)
stops_at_op l op p ts i v = stops_at l p (token.Op op) ts i (λ k b. if_false (nat_eq (level_of op) k) _ _ _ (ne_eqb _ _ (λ e. omega arith)) refl) refl

ends_at_close : (b : Bracket) (p : Placed) (ts : List Placed) → p.token ≡ token.Close b → Ends (p ∷ ts)
ends_at_close b p ts i = ends_at p (token.Close b) ts i (λ k. refl) refl refl

choice_by_none : (end : ℕ) (inner : Read Tree) (t : Tree) (p : Placed) (k : Token) (ts : List Placed) → is_choice k ≡ false → choice_by end inner t p k ts ≡ Ok (t, p ∷ ts)
choice_by_none end inner t p token.Question ts h = cc
choice_by_none end inner t p token.OrElse ts h = cc
choice_by_none end inner t p _ ts h = refl

module _ (end : ℕ) where
  cond_suc : (n : ℕ) (ts : List Placed) → cond_at end (suc n) ts ≡ (level_at (operand_at end (suc n)) 6 ts >>= (λ x. choice_at end (cond_at end n) x.0 x.1))
  unfolding operand_at
  cond_suc n ts = refl

  operand_suc : (n : ℕ) (ts : List Placed) → operand_at end (suc n) ts ≡ operand_with end (operand_at end n) (cond_at end n) ts
  unfolding operand_at
  operand_suc n ts = refl

  choice_none : (inner : Read Tree) (t : Tree) (ts : List Placed) → choice_follows ts ≡ false → choice_at end inner t ts ≡ Ok (t, ts)
  choice_none inner t [] h = refl
  choice_none inner t (p ∷ ts) h = choice_by_none end inner t p p.token ts h

  choice_some : (inner : Read Tree) (t y e : Tree) (p q : Placed) (us vs ws : List Placed) → p.token ≡ token.Question → inner us ≡ Ok (y, q ∷ vs) → q.token ≡ token.Colon → inner vs ≡ Ok (e, ws) → choice_at end inner t (p ∷ us) ≡ Ok (choice t y e, ws)
  choice_some inner t y e p q us vs ws i a j b =
      ap (λ k. choice_by end inner t p k us) i ∙ bind_at _ _ _ _ a (bind_at _ _ _ _ (pass_ok is_colon end q vs (ap is_colon j)) (bind_at _ _ _ _ b refl))

  choice_other : (inner : Read Tree) (t e : Tree) (p : Placed) (us vs : List Placed) → p.token ≡ token.OrElse → inner us ≡ Ok (e, vs) → choice_at end inner t (p ∷ us) ≡ Ok (or_else t e, vs)
  choice_other inner t e p us vs i a = ap (λ k. choice_by end inner t p k us) i ∙ bind_at _ _ _ _ a refl

-- what is spelled begins with no closing bracket
abbrev pub begins_item : Bracket → List Placed → Bool
begins_item b [] = false
begins_item b (p ∷ ts) = cond (is_closing_mark b p.token) false true

unclosed : (b : Bracket) (p : Placed) (ts : List Placed) → is_closing_mark b p.token ≡ false → begins_item b (p ∷ ts) ≡ true
unclosed b p ts h = if_false (is_closing_mark b p.token) _ _ _ h refl

prefix_unclosed : (b : Bracket) (k : Token) (op : UnOp) → prefix_of k ≡ Some op → is_closing_mark b k ≡ false
prefix_unclosed b (token.Close c) op h = cc
prefix_unclosed b _ op h = refl

literal_unclosed : (b : Bracket) (k : Token) (c : Content) → literal_of k ≡ Some c → is_closing_mark b k ≡ false
literal_unclosed b (token.Close d) c h = cc
literal_unclosed b _ c h = refl

module _ (b : Bracket) where
  mutual
    pub begins_cond : {n : ℕ} {ts us : List Placed} {e : Tree} → IsCond n ts e us → begins_item b ts ≡ true
    begins_cond (alone a) = begins_level a
    begins_cond (chosen a q c d f) = begins_level a
    begins_cond (otherwise a q c) = begins_level a

    pub begins_level : {l n : ℕ} {ts us : List Placed} {e : Tree} → IsLevel l n ts e us → begins_item b ts ≡ true
    begins_level (operand a) = begins_operand a
    begins_level (single a) = begins_level a
    begins_level (chained a c) = begins_level a

    pub begins_operand : {n : ℕ} {ts us : List Placed} {e : Tree} → IsOperand n ts e us → begins_item b ts ≡ true
    begins_operand (prefixed {p = p} {ts = ts} {op = op} i a) = unclosed b p ts (prefix_unclosed b p.token op i)
    begins_operand (literally {p = p} {ts = ts} {c = c} i) = unclosed b p ts (literal_unclosed b p.token c i)
    begins_operand (named {p = p} {ts = ts} i) = unclosed b p ts (ap (is_closing_mark b) i)
    begins_operand (called {p = p} {q = q} {ts = ts} i j a) = unclosed b p (q ∷ ts) (ap (is_closing_mark b) i)
    begins_operand (bracketed {p = p} {ts = ts} i a c) = unclosed b p ts (ap (is_closing_mark b) i)
    begins_operand (listed {p = p} {ts = ts} i a) = unclosed b p ts (ap (is_closing_mark b) i)

stops_less : (l k : ℕ) (ts : List Placed) → k ≤ l → Stops l ts → Stops k ts
stops_less l k ts h f = record { operators = λ j b. f.operators j (omega arith); uncalled = f.uncalled }

rests_stop : {l n : ℕ} {ts us : List Placed} {rs : Rests} → IsRests l n ts rs us → Stops (suc l) us → Stops l ts
rests_stop {l} {n} {ts} ended f = stops_less (suc l) l ts (omega arith) f
rests_stop {l} (more {p = p} {ts = ts} {op = op} i k a b) f = stops_at_op l op p ts i k

more_ends : {b : Bracket} {n : ℕ} {ts us : List Placed} {es : Trees} → IsMore b n ts es us → Ends ts
more_ends {b} (last {p = p} {ts = ts} i) = ends_at_close b p ts i
more_ends (another {p = p} {ts = ts} i a c) = ends_at p token.Comma ts i (λ k. refl) refl refl

not_closed : (b : Bool) → cond b false true ≡ true → b ≡ false
not_closed true h = cc
not_closed false h = refl

level_zero : (p : Read Tree) (ts : List Placed) → level_at p 0 ts ≡ p ts
unfolding level_at
level_zero p ts = refl

level_suc : (p : Read Tree) (l : ℕ) (ts : List Placed) → level_at p (suc l) ts ≡ (level_at p l ts >>= (λ x. chain_from (level_at p l) (suc l) x.0 x.1))
unfolding level_at
level_suc p l ts = refl

module _ (end : ℕ) where
  literal_rule : (n : ℕ) (p : Placed) (k : Token) (ts : List Placed) (c : Content) → p.token ≡ k → literal_of k ≡ Some c → operand_at end (suc n) (p ∷ ts) ≡ Ok (literal c, ts)
  literal_rule n p k ts c i h = operand_suc end n (p ∷ ts) ∙ by k i h
    where
      plain : (k : Token) → literal_of k ≡ Some c → prefix_of k ≡ None
      plain token.Not h = cc
      plain (token.Op op) h = cc
      plain _ h = refl

      by : (k : Token) → p.token ≡ k → literal_of k ≡ Some c → operand_with end (operand_at end n) (cond_at end n) (p ∷ ts) ≡ Ok (literal c, ts)
      by k i h =
          ap (operand_by end (operand_at end n) (cond_at end n) p ts) (ap prefix_of i ∙ plain k h)
          ∙ ap (literal_or end (cond_at end n) p ts) (ap literal_of i ∙ h)

  operand_rule : (n : ℕ) (p : Placed) (k : Token) (ts : List Placed) (r : Result (Tree × List Placed) ParseError) → p.token ≡ k → prefix_of k ≡ None → literal_of k ≡ None → primary_by end (cond_at end n) k p.at ts ≡ r → operand_at end (suc n) (p ∷ ts) ≡ r
  operand_rule n p k ts r i plain unliteral h =
      operand_suc end n (p ∷ ts)
      ∙ ap (operand_by end (operand_at end n) (cond_at end n) p ts) (ap prefix_of i ∙ plain)
      ∙ ap (literal_or end (cond_at end n) p ts) (ap literal_of i ∙ unliteral)
      ∙ ap (λ k. primary_by end (cond_at end n) k p.at ts) i
      ∙ h

  named_rule : (inner : Read Tree) (s : Scope) (x : List ℕ) (ts : List Placed) → open_at ts ≡ None → name_at end inner s x ts ≡ Ok (reference s x, ts)
  named_rule inner Bare x ts h = ap (call_by end inner x ts) h
  named_rule inner My x ts h = refl
  named_rule inner Target x ts h = refl

  item_first : (b : Bracket) (inner : Read Tree) (ts us : List Placed) (e : Tree) → begins_item b ts ≡ true → inner ts ≡ Ok (e, us) → items_at b end inner ts ≡ items_from b end inner e us
  item_first b inner [] us e i h = cc
  item_first b inner (p ∷ ts) us e i h = if_false (is_closing_mark b p.token) _ _ _ (not_closed (is_closing_mark b p.token) i) (bind_at _ _ _ _ h refl)

  mutual
    pub complete_cond : {n : ℕ} {ts us : List Placed} {e : Tree} → IsCond n ts e us → Ends us → cond_at end n ts ≡ Ok (e, us)
    complete_cond (alone {n = n} {ts = ts} {us = us} {e = e} a) f =
        cond_suc end n ts ∙ bind_at _ _ _ _ (complete_level a f.level) (choice_none end (cond_at end n) e us f.choice)
    complete_cond (chosen {n = n} {ts = ts} {us = us} {vs = vs} {ws = ws} {p = p} {q = q} {t = t} {y = y} {e = e} a i b j c) f =
        cond_suc end n ts ∙ bind_at _ _ _ _ (complete_level a (stops_at 6 p token.Question us i (λ k bound. refl) refl))
        (choice_some end (cond_at end n) t y e p q us vs ws i (complete_cond b (ends_at q token.Colon vs j (λ k. refl) refl refl)) j (complete_cond c f))
    complete_cond (otherwise {n = n} {ts = ts} {us = us} {vs = vs} {p = p} {e = e} {f = g} a i b) f =
        cond_suc end n ts ∙ bind_at _ _ _ _ (complete_level a (stops_at 6 p token.OrElse us i (λ k bound. refl) refl))
        (choice_other end (cond_at end n) e g p us vs i (complete_cond b f))

    pub complete_level : {l n : ℕ} {ts us : List Placed} {e : Tree} → IsLevel l n ts e us → Stops l us → level_at (operand_at end n) l ts ≡ Ok (e, us)
    complete_level (operand {n = n} {ts = ts} a) f = level_zero (operand_at end n) ts ∙ complete_operand a f.uncalled
    complete_level (single {l = l} {n = n} {ts = ts} {us = us} a) f =
        level_suc (operand_at end n) l ts ∙ bind_at _ _ _ _ (complete_level a (stops_less (suc l) l us (omega arith) f)) (bind_at _ _ _ _ (rests_none (level_at (operand_at end n) l) (suc l) (length us) us (f.operators (suc l) (omega arith))) refl)
    complete_level (chained {l = l} {n = n} {ts = ts} {us = us} a b) f =
        level_suc (operand_at end n) l ts ∙ bind_at _ _ _ _ (complete_level a (rests_stop b f)) (bind_at _ _ _ _ (complete_rests b f (length us) (omega arith)) refl)

    pub complete_rests : {l n : ℕ} {ts us : List Placed} {rs : Rests} → IsRests l n ts rs us → Stops (suc l) us → (m : ℕ) → length ts ≤ m → rests_at (level_at (operand_at end n) l) (suc l) m ts ≡ Ok (rs, us)
    complete_rests (ended {l = l} {n = n} {ts = ts}) f m long = rests_none (level_at (operand_at end n) l) (suc l) m ts (f.operators (suc l) (omega arith))
    complete_rests (more {l = l} {n = n} {p = p} {ts = ts} {us = us} {op = op} i k a b) f m long =
        let less = shorter_level a in
        let here : infix_at (suc l) (p ∷ ts) ≡ Some (op, ts) = ap (λ t. infix_of (suc l) t ts) i ∙ if_true (nat_eq (level_of op) (suc l)) _ _ _ (eq-eqb _ _ k) refl in
        rests_more (level_at (operand_at end n) l) (suc l) m (p ∷ ts) ts op (omega arith) here
        ∙ bind_at _ _ _ _ (complete_level a (rests_stop b f)) (bind_at _ _ _ _ (complete_rests b f (m - 1) (omega arith)) refl)

    pub complete_operand : {n : ℕ} {ts us : List Placed} {e : Tree} → IsOperand n ts e us → open_at us ≡ None → operand_at end n ts ≡ Ok (e, us)
    complete_operand (prefixed {n = n} {p = p} {ts = ts} {op = op} i a) f =
        operand_suc end n (p ∷ ts) ∙ ap (operand_by end (operand_at end n) (cond_at end n) p ts) i ∙ bind_at _ _ _ _ (complete_operand a f) refl
    complete_operand (literally {n = n} {p = p} {ts = ts} {c = c} i) f = literal_rule n p p.token ts c refl i
    complete_operand (named {n = n} {p = p} {ts = ts} {s = s} {x = x} i) f = operand_rule n p _ ts _ i refl refl (named_rule (cond_at end n) s x ts f)
    complete_operand (called {n = n} {p = p} {q = q} {ts = ts} {x = x} i j a) f =
        operand_rule n p _ (q ∷ ts) _ i refl refl (ap (λ k. call_by end (cond_at end n) x (q ∷ ts) (open_of k ts)) j ∙ bind_at _ _ _ _ (complete_items a) refl)
    complete_operand (bracketed {n = n} {p = p} {q = q} {ts = ts} {us = us} i a j) f =
        operand_rule n p _ ts _ i refl refl (bind_at _ _ _ _ (complete_cond a (ends_at_close Round q us j)) (bind_at _ _ _ _ (pass_ok (is_closing_mark Round) end q us (closed Round q j)) refl))
    complete_operand (listed {n = n} {p = p} {ts = ts} i a) f = operand_rule n p _ ts _ i refl refl (bind_at _ _ _ _ (complete_items a) refl)

    pub complete_items : {b : Bracket} {n : ℕ} {ts us : List Placed} {es : Trees} → IsItems b n ts es us → items_at b end (cond_at end n) ts ≡ Ok (es, us)
    complete_items {b} (none {p = p} i) = if_true (is_closing_mark b p.token) _ _ _ (closed b p i) refl
    complete_items {b} (some {n = n} {ts = ts} {us = us} {e = e} a c) =
        item_first b (cond_at end n) ts us e (begins_cond b a) (complete_cond a (more_ends c)) ∙ bind_at _ _ _ _ (complete_more c (length us) (omega arith)) refl

    pub complete_more : {b : Bracket} {n : ℕ} {ts us : List Placed} {es : Trees} → IsMore b n ts es us → (m : ℕ) → length ts ≤ m → more_items_at b end (cond_at end n) m ts ≡ Ok (es, us)
    complete_more {b} (last {n = n} {p = p} {ts = ts} i) m long =
        items_none b end (cond_at end n) m (p ∷ ts) (ap (λ k. comma_of k ts) i) ∙ bind_at _ _ _ _ (pass_ok (is_closing_mark b) end p ts (closed b p i)) refl
    complete_more {b} (another {n = n} {p = p} {ts = ts} {us = us} i a c) m long =
        let less = shorter_cond a in
        items_more b end (cond_at end n) m (p ∷ ts) ts (omega arith) (ap (λ k. comma_of k ts) i)
        ∙ bind_at _ _ _ _ (complete_cond a (more_ends c)) (bind_at _ _ _ _ (complete_more c (m - 1) (omega arith)) refl)

whole_is : (end : ℕ) (ts us : List Placed) (d e : Tree) → cond_at end 65 ts ≡ Ok (d, us) → whole_at end d us ≡ Ok e → IsText ts e
whole_is end ts [] d e h w = subst (λ x. IsText ts x) (ok_is d e w) ((read_is_spelled end 65).conds ts [] d h)
whole_is end ts (p ∷ us) d e h w = cc

-- What is read is spelled so.
pub found : (end : ℕ) (ts : List Placed) (e : Tree) → text_at end ts ≡ Ok e → IsText ts e
found end ts e h = let a = bind_ok _ _ _ h in whole_is end ts a.0.1 a.0.0 e a.1 a.2

-- What is spelled so is read.
pub only : (end : ℕ) (ts : List Placed) (e : Tree) → IsText ts e → text_at end ts ≡ Ok e
only end ts e h = bind_at _ _ _ _ (complete_cond end h ends_none) refl

pub found_if_ok : {X : Type 0} (view : X → Tree) (end : ℕ) (ts : List Placed) (r : Result X ParseError) → Gives view r (text_at end ts) → IfOk r (λ x. IsText ts (view x))
found_if_ok view end ts (Ok x) h = found end ts (view x) h
found_if_ok view end ts (Err e) h = tt
